-- The pass that lays records down: the bytes done, and those of the stars that stand from p on.
use mathlib.Core.Path.{◌≡◌, sym, ap, ◌∙◌}
use mathlib.Core.Bool.{Bool}
use mathlib.Core.List.{List, [], ◌++◌, append_assoc, append-nil}
use Prim.Native.Nat.{ℕ, ◌+◌, ◌-◌, ◌≤◌, ◌<◌}
use native.Mathlib.Omega.{arith}
use lib.ListN.{drop}
use Rattle.quantity.specs.rules.Answer.{answered, refused}
use Rattle.lent.specs.rules.Writing.{Wrote}
use Rattle.lent.specs.laws.Writing.{after, same, nothing}
use Rattle.list.specs.declared.Star.{Star}
use Rattle.list.specs.rules.Record.{star_bytes}
use Rattle.list.specs.rules.Stars.{list_bytes}
use Rattle.list_radio.specs.rules.Star.{read_star}
use Rattle.list_moves.specs.rules.Moves.{stars_upto}
use Rattle.list_moves.specs.laws.Moves.{upto_none, upto_refused, upto_more}

-- the records of so many stars from an offset on
abbrev records : Bool → List ℕ → ℕ → ℕ → List ℕ
records moving s n at = list_bytes (stars_upto moving n (drop at s))

pub record Laying (old s : List ℕ) (moving : Bool) (n at : ℕ) (out : List ℕ) (p offset i : ℕ) : Type 0 where
  pub so_far : i ≤ n
  pub done : List ℕ
  pub all : records moving s n at ≡ done ++ records moving s (n - i) p
  pub wrote : Wrote old 0 done out offset

pub begin : (old s : List ℕ) (moving : Bool) (n at : ℕ) → Laying old s moving n at old at 0 0
begin old s moving n at =
    record {
      so_far = omega arith;
      done = [];
      all = ap (λ (k : ℕ). records moving s k at) (let q : n ≡ n - 0 = omega arith in q);
      wrote = nothing old 0 0 (omega arith);
    }

module _ (old s : List ℕ) (moving : Bool) (n at : ℕ) (out : List ℕ) (p offset i : ℕ) (m : Laying old s moving n at out p offset i) where
  -- none is left
  finished : records moving s (n - i) p ≡ [] → Wrote old 0 (records moving s n at) out offset
  finished e = same (sym (m.all ∙ ap (λ (l : List ℕ). m.done ++ l) e ∙ append-nil m.done)) m.wrote

  pub stops : (k : ℕ) → read_star moving (drop p s) ≡ refused k → Wrote old 0 (records moving s n at) out offset
  stops k e = finished (ap list_bytes (upto_refused moving (n - i) (drop p s) k e))

  pub ends : n ≤ i → Wrote old 0 (records moving s n at) out offset
  ends h = finished (ap list_bytes (upto_none moving (n - i) (drop p s) (omega arith)))

  pub on : (r : Star) (next : ℕ) (new : List ℕ) (after-it : ℕ) → i < n → read_star moving (drop p s) ≡ answered (record { value = r; rest = drop next s })
      → Wrote out offset (star_bytes r) new after-it → Laying old s moving n at new next after-it (i + 1)
  on r next new after-it h e w =
      record {
        so_far = omega arith;
        done = m.done ++ star_bytes r;
        all =
            m.all
            ∙ ap (λ (rs : List Star). m.done ++ list_bytes rs) (upto_more moving (n - i) (drop p s) (record { value = r; rest = drop next s }) (omega arith) e)
            ∙ ap (λ (k : ℕ). m.done ++ (star_bytes r ++ records moving s k next)) (let q : n - i - 1 ≡ n - (i + 1) = omega arith in q)
            ∙ sym (append_assoc m.done (star_bytes r) (records moving s (n - (i + 1)) next));
        wrote = after m.wrote w;
      }
