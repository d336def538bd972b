-- `star_store::store_star_in` meets its contract.
use mathlib.Core.Path.{ap, ◌∙◌}
use mathlib.Core.List.{List}
use Prim.Native.Nat.{ℕ}
use Rattle.list_tally.specs.declared.Tally.{Tally}
use Rattle.list_tally.specs.rules.Tally.{raise_rule}
use Rattle.quantity.specs.rules.Answer.{checked_by}
use Rattle.star_store.specs.laws.StarStored.{status_is}
use Rattle.star_store.proofs.store_star_in.Goals as goal

pub returns : goal.returns
returns g c =
    let begin = c.args in
    let placed = c.put_star.ensures in
    let status = status_is (checked_by g.E.Numbered.numbered begin.refusal) begin.a begin.d in
    let tally : Tally = record { counts = begin.counts.now } in
    record { raised = ap (λ (l : List ℕ). record { counts = l }) (rw c.status_of.ensures at c.raise_in.ensures) ∙ ap (λ (n : ℕ). (raise_rule tally n).tally) status; status_set = placed.status_set; asc_set = placed.asc_set; dec_set = placed.dec_set }
