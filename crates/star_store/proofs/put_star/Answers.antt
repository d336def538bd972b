-- `star_store::put_star` meets its contract.
use mathlib.Core.Path.{ap, ◌∙◌}
use lib.ListN.{set}
use Rattle.quantity.specs.rules.Answer.{checked_by}
use Rattle.star_store.specs.laws.StarStored.{status_is, first_star_stored, second_star_stored}
use Rattle.star_store.proofs.put_star.Goals as goal

pub returns : goal.returns
returns g c =
    let begin = c.args in
    let status = status_is (checked_by g.E.Numbered.numbered begin.refusal) begin.a begin.d in
    record {
      status_set = ap (set begin.status.now begin.i) (c.status_of.ensures ∙ status);
      asc_set = ap (set begin.asc.now begin.i) (c.stored_bits.ensures ∙ first_star_stored (checked_by g.E.Numbered.numbered begin.refusal) begin.a begin.d);
      dec_set = ap (set begin.dec.now begin.i) (c.stored_bits-2.ensures ∙ second_star_stored (checked_by g.E.Numbered.numbered begin.refusal) begin.a begin.d);
    }
