-- `text_day::put_complaint` meets its contract.
use Rattle.lent.specs.laws.Writing.{after}
use Rattle.text_day.specs.rules.Reason.{complaint_text}
use Rattle.text_day.proofs.put_complaint.Goals as goal

pub returns : goal.returns
unfolding complaint_text
returns c =
    after c.put-a.ensures (after c.put-b.ensures (after c.put-c.ensures (after c.put-d.ensures
    (after c.put_reason-e.ensures c.put_byte.ensures))))
