-- A library that refuses everything and one that answers a constant are excluded (section 9): `found` and `other` are what any function
-- gives that meets its promise, at the two inputs where the rule answers a and b.
use Rattle.std.specs.Prelude.{◌≡◌, true, ◌≢◌}
use Rattle.std.proofs.Common.{sym, ap, ◌∙◌}
use Rattle.quantity.specs.rules.Answer.{Answer}
use Rattle.quantity.specs.notions.Varies.{is_answered, Varies}

pub does_not_refuse : {A : Type 0} {a b found : Answer A} → Varies a b → found ≡ a → is_answered found ≡ true
does_not_refuse v meets = ap is_answered meets ∙ v.here

pub is_not_constant : {A : Type 0} {a b found other : Answer A} → Varies a b → found ≡ a → other ≡ b → found ≢ other
is_not_constant v meets also same = v.apart (sym meets ∙ same ∙ also)
