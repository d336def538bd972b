-- What is stored of a star's answer are doubles, so that their bits read back as they are.
use Rattle.std.specs.Prelude.{Bool, true, false, cond, ℕ, T, eqb}
use Rattle.std.specs.Float.{binary64}
use Rattle.std.specs.Float.Ieee.{fits}
use Rattle.std.specs.Float.Ieee.Bits.{of_bits-fits}
use Rattle.quantity.specs.rules.Answer.{Answer, answered, refused, Pair, unless, then}
use Rattle.star_store.specs.rules.Star.{first_of, second_of}

abbrev pub Held : Answer Pair → Type 0
Held a = T (fits binary64 (first_of a)) × T (fits binary64 (second_of a))

pub held_refused : (n : ℕ) → Held (refused n)
held_refused n = (of_bits-fits binary64 0, of_bits-fits binary64 0)

pub held_then : {A : Type 0} (a : Answer A) (f : A → Answer Pair) → ((x : A) → Held (f x)) → Held (then a f)
unfolding then
held_then (answered x) f h = h x
held_then (refused n) f h = held_refused n

held_choice : (b : Bool) (p q : Answer Pair) → Held p → Held q → Held (cond b p q)
held_choice true p q h k = h
held_choice false p q h k = k

pub held_unless : (n : ℕ) (a : Answer Pair) → Held a → Held (unless n a)
held_unless n a h = held_choice (eqb n 0) a (refused n) h (held_refused n)
