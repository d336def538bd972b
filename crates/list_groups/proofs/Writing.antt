-- Writing group by group: the groups written, and those of what is left.
use mathlib.Core.Path.{◌≡◌, refl, sym, ap, ◌∙◌}
use mathlib.Core.List.{List, [], ◌∷◌, ◌++◌}
use Prim.Native.Nat.{ℕ, zero, suc, ◌+◌, ◌/◌, ◌%◌, ◌≤◌, ◌<◌, min}
use native.Mathlib.Omega.{arith}
use lib.ListN.{length}
use lib.Seq.{append_snoc}
use borrow.Author.Tests.{lt-ltb, le-ltb}
use Rattle.lent.specs.rules.Writing.{Wrote}
use Rattle.lent.specs.laws.Writing.{after, same, nothing}
use Rattle.list_groups.specs.rules.Groups.{groups_within, groups}
use Rattle.list_groups.specs.laws.Inverse.{limit}

pub record Putting (old : List ℕ) (at n : ℕ) (out : List ℕ) (offset rest : ℕ) : Type 0 where
  pub more : ℕ
  pub done : List ℕ
  pub whole : groups n ≡ done ++ groups_within more rest
  pub small : rest < limit more
  pub wrote : Wrote old at done out offset

pub begin : (old : List ℕ) (at n offset : ℕ) → n < 4294967296 → offset ≡ min at (length old) → Putting old at n old offset n
unfolding groups
begin old at n offset h e = record { more = 4; done = []; whole = refl; small = omega arith; wrote = nothing old at offset e }

module _ (old : List ℕ) (at n : ℕ) (out : List ℕ) (offset rest : ℕ) (m : Putting old at n out offset rest) (new : List ℕ) (next : ℕ) where
  pub step : 128 ≤ rest → Wrote out offset ((128 + rest % 128) ∷ []) new next → Putting old at n new next (rest / 128)
  step h w = go m.more m.whole m.small
    where
      go : (more : ℕ) → groups n ≡ m.done ++ groups_within more rest → rest < limit more → Putting old at n new next (rest / 128)
      go zero e s = absurd (omega arith)
      go (suc l) e s =
          record {
            more = l;
            done = m.done ++ ((128 + rest % 128) ∷ []);
            whole = e ∙ rw (le-ltb rest 128 h) (sym (append_snoc m.done (128 + rest % 128) (groups_within l (rest / 128))));
            small = omega arith;
            wrote = after m.wrote w;
          }

  pub finish : rest < 128 → Wrote out offset (rest ∷ []) new next → Wrote old at (groups n) new next
  finish h w = same (sym (m.whole ∙ ap (λ (l : List ℕ). m.done ++ l) (go m.more))) (after m.wrote w)
    where
      go : (more : ℕ) → groups_within more rest ≡ rest ∷ []
      go zero = refl
      go (suc l) = rw (lt-ltb rest 128 h)
