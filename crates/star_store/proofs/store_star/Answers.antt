-- `star_store::store_star` meets its contract.
use mathlib.Core.Path.{◌≡◌, ap, ◌∙◌}
use Rattle.list_tally.specs.declared.Raised.{Raised}
use Rattle.list_tally.specs.rules.Tally.{raise_rule}
use Rattle.quantity.specs.rules.Answer.{checked_by}
use Rattle.star_store.specs.laws.StarStored.{status_is}
use Rattle.star_store.proofs.store_star.Goals as goal

pub returns : goal.returns
returns g c =
    let begin = c.args in
    let placed = c.put_star.ensures in
    let status = status_is (checked_by g.E.Numbered.numbered begin.refusal) begin.a begin.d in
    let raised : c.raise-raised.result ≡ raise_rule begin.tally (checked_by g.E.Numbered.numbered begin.refusal) = rw c.status_of.ensures at c.raise-raised.ensures in
    record { raised = ap (λ (q : Raised). q.tally) (raised ∙ ap (raise_rule begin.tally) status); status_set = placed.status_set; asc_set = placed.asc_set; dec_set = placed.dec_set }
