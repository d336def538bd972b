-- Reading group by group: what was read so far, below what the bytes from p on make.
use mathlib.Core.Path.{◌≡◌, refl, sym, ap, ◌∙◌}
use mathlib.Core.List.{List, ◌∷◌}
use Prim.Native.Nat.{ℕ, zero, suc, ◌+◌, ◌*◌, ◌-◌, ◌≤◌, ◌<◌}
use native.Mathlib.Nat.{mul-le-mul_left}
use native.Mathlib.Numerals.{add-one}
use native.Mathlib.Omega.{arith}
use lib.ListN.{length, drop, get_or, drop_of_length-le}
use lib.Seq.{drop-cons}
use borrow.Author.Tests.{lt-ltb, le-ltb}
use Rattle.quantity.specs.rules.Answer.{Answer, answered, refused, with}
use Rattle.list_groups.specs.rules.Reading.{Got, last_group, above, number_within, read_number, read_at}
use Rattle.list_groups.specs.laws.Tails.{shows, refuses}
use Rattle.list_groups.specs.laws.Inverse.{limit, some}

-- a number below what groups of this weight make
abbrev over : ℕ → ℕ → Got ℕ → Got ℕ
over low w g = record { value = low + w * g.value; rest = g.rest }

over_none : (x : Answer (Got ℕ)) → x ≡ with (over 0 1) x
over_none (answered g) = ap (λ (n : ℕ). answered (record { value = n; rest = g.rest })) (let q : g.value ≡ 0 + 1 * g.value = omega arith in q)
over_none (refused k) = refl

spread : (low w b v : ℕ) → low + w * (b + 128 * v) ≡ low + w * b + w * 128 * v
spread low w b v = omega arith

over_above : (low w b : ℕ) (x : Answer (Got ℕ)) → with (over low w) (with (above b) x) ≡ with (over (low + w * b) (w * 128)) x
over_above low w b (answered g) = ap (λ (n : ℕ). answered (record { value = n; rest = g.rest })) (spread low w b g.value)
over_above low w b (refused k) = refl

pub record Midway (s : List ℕ) (at more least low w p : ℕ) : Type 0 where
  pub below : low < w
  pub room : w * limit more ≡ 4294967296
  pub same : read_number (drop at s) ≡ with (over low w) (number_within more least (drop p s))

pub begin : (s : List ℕ) (at : ℕ) → Midway s at 4 0 0 1 at
unfolding read_number
begin s at = record { below = omega arith; room = refl; same = over_none (number_within 4 0 (drop at s)) }

-- how large a weight is
pub middle : (w more : ℕ) → 0 < more → w * limit more ≡ 4294967296 → w ≤ 2097152
middle w zero h r = absurd (omega arith)
middle w (suc l) h r = omega (arith, mul-le-mul_left (w * 128) (some l))

pub highest : (w more : ℕ) → more ≡ 0 → w * limit more ≡ 4294967296 → w ≡ 268435456
highest w zero h r = omega arith
highest w (suc l) h r = absurd (omega arith)

module _ (s : List ℕ) (at more least low w p : ℕ) (m : Midway s at more least low w p) where
  pub ends : length s ≤ p → refused 13 ≡ read_at read_number s at
  ends h = refuses read_number s at 13 (m.same ∙ ap (λ (l : List ℕ). with (over low w) (number_within more least l)) (drop_of_length-le s {i = p} h))

  module _ (b : ℕ) (i : p < length s) (e : b ≡ get_or s p 0) where
    here : read_number (drop at s) ≡ with (over low w) (number_within more least (b ∷ drop (p + 1) s))
    here =
        m.same
        ∙ ap (λ (l : List ℕ). with (over low w) (number_within more least l))
        (drop-cons s p 0 i ∙ ap (λ (k : ℕ). get_or s p 0 ∷ drop k s) (sym (add-one p)) ∙ ap (λ (x : ℕ). x ∷ drop (p + 1) s) (sym e))

    -- a last group stands where the byte allows it
    abbrev Ends : Type 0
    Ends = number_within more least (b ∷ drop (p + 1) s) ≡ last_group least b (drop (p + 1) s)

    pub small : 0 < more → b < 128 → Ends
    small = go more
      where
        go : (l : ℕ) → 0 < l → b < 128 → number_within l least (b ∷ drop (p + 1) s) ≡ last_group least b (drop (p + 1) s)
        go zero h k = absurd (omega arith)
        go (suc l) h k = rw (lt-ltb b 128 k)

    pub top : more ≡ 0 → b < 16 → Ends
    top = go more
      where
        go : (l : ℕ) → l ≡ 0 → b < 16 → number_within l least (b ∷ drop (p + 1) s) ≡ last_group least b (drop (p + 1) s)
        go zero h k = rw (lt-ltb b 16 k)
        go (suc l) h k = absurd (omega arith)

    pub padded : Ends → b < least → refused 12 ≡ read_at read_number s at
    padded q z = refuses read_number s at 12 (here ∙ ap (with (over low w)) q ∙ rw (lt-ltb b least z))

    pub stops : Ends → least ≤ b → answered (record { value = low + w * b; offset = p + 1 }) ≡ read_at read_number s at
    stops q z = shows read_number s at (low + w * b) (p + 1) (omega arith) (here ∙ ap (with (over low w)) q ∙ rw (le-ltb b least z))

    pub too_high_lem : more ≡ 0 → 16 ≤ b → refused 12 ≡ read_at read_number s at
    too_high_lem h k = refuses read_number s at 12 (here ∙ ap (with (over low w)) (go more h))
      where
        go : (l : ℕ) → l ≡ 0 → number_within l least (b ∷ drop (p + 1) s) ≡ refused 12
        go zero h = rw (le-ltb b 16 k)
        go (suc l) h = absurd (omega arith)

    pub on : 0 < more → 128 ≤ b → b < 256 → Midway s at (more - 1) 1 (low + w * (b - 128)) (w * 128) (p + 1)
    on h k z =
        record {
          below = omega (arith, m.below, mul-le-mul_left w (let q : b - 128 ≤ 127 = omega arith in q));
          room = wider more h m.room;
          same = here ∙ go more h ∙ over_above low w (b - 128) (number_within (more - 1) 1 (drop (p + 1) s));
        }
      where
        wider : (l : ℕ) → 0 < l → w * limit l ≡ 4294967296 → w * 128 * limit (l - 1) ≡ 4294967296
        wider zero h r = absurd (omega arith)
        wider (suc l) h r = ap (λ (n : ℕ). w * 128 * limit n) (let q : suc l - 1 ≡ l = omega arith in q) ∙ omega arith

        go : (l : ℕ) → 0 < l → with (over low w) (number_within l least (b ∷ drop (p + 1) s)) ≡ with (over low w) (with (above (b - 128)) (number_within (l - 1) 1 (drop (p + 1) s)))
        go zero h = absurd (omega arith)
        go (suc l) h =
            rw (le-ltb b 128 k)
            (ap (λ (n : ℕ). with (over low w) (with (above (b - 128)) (number_within n 1 (drop (p + 1) s)))) (let q : l ≡ suc l - 1 = omega arith in q))
