-- `chain::chain` meets its contract.
use Rattle.std.proofs.Common.{rules, ◌≡◌}
use mathlib.Core.Path.{refl, ◌∙◌, sym}
use Rattle.quantity.specs.rules.Answer.{shown_two, unless}
use Rattle.quantity.specs.laws.Answer.{goes_on}
use Rattle.precess_angles.specs.rules.Days.{place_refusal}
use Rattle.chain.specs.rules.Night.{place_under, night_of}
use Rattle.chain.specs.laws.Night.{chain_under_a_night}
use Rattle.chain.proofs.chain.Goals as goal

pub returns-in_err-place_refusal : goal.returns-in_err-place_refusal
returns-in_err-place_refusal c =
    let a = c.args in
    let refused : shown_two c.from_residual.result
    ≡ unless (place_refusal a.asc a.dec a.day1 a.day2) (place_under a.asc a.dec (night_of a.edition a.day1 a.day2)) = search rules in
    refused ∙ sym (chain_under_a_night a.edition a.asc a.dec a.day1 a.day2)

pub returns : goal.returns
returns c =
    let a = c.args in
    goes_on c.in_ok-place_refusal.ensures refl (rw c.night_of.ensures at c.place_under.ensures)
    ∙ sym (chain_under_a_night a.edition a.asc a.dec a.day1 a.day2)
