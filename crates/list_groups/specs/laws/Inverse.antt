-- Reading and spelling are each other's inverse, so that a number has exactly one accepted spelling.
use Rattle.std.specs.Prelude.{◌≡◌, refl, Bool, true, false, cond, List, [], ◌∷◌, ◌++◌, ℕ, zero, suc, ◌+◌, ◌*◌, ◌-◌, ◌/◌, ◌%◌, ◌≤◌, ◌<◌, ltb}
use Rattle.std.proofs.Common.{sym, ap, ◌∙◌, subst, append-nil, arith, lt-ltb, le-ltb, ltb-true, ltb-false}
use Rattle.quantity.specs.rules.Answer.{answered, refused, with}
use Rattle.list.specs.rules.Stars.{Bytes}
use Rattle.list_groups.specs.rules.Groups.{groups_within, groups}
use Rattle.list_groups.specs.rules.Reading.{Got, last_group, above, number_within, read_number}
use Rattle.list_groups.specs.notions.Spelt.{Small, OneSpelt}
use Rattle.quantity.specs.laws.Steps.{refused_not_answered, changed}

-- what groups can hold of which so many follow the first
abbrev pub limit : ℕ → ℕ
limit zero = 16
limit (suc more) = 128 * limit more

pub some : (more : ℕ) → 16 ≤ limit more
some zero = omega arith
some (suc more) = omega (arith, some more)

-- ---- what was spelt is read

abbrev Reads : ℕ → ℕ → ℕ → List ℕ → Type 0
Reads more least n rest = number_within more least (groups_within more n ++ rest) ≡ answered (record { value = n; rest = rest })

one_more : (more least n : ℕ) (rest : List ℕ) → least ≤ n → (128 ≤ n → Reads more 1 (n / 128) rest) → Reads (suc more) least n rest
one_more more least n rest h higher = go (ltb n 128) refl
  where
    go : (t : Bool) → ltb n 128 ≡ t
        → number_within (suc more) least (cond t (n ∷ []) ((128 + n % 128) ∷ groups_within more (n / 128)) ++ rest) ≡ answered (record { value = n; rest = rest })
    go true e = rw (e, le-ltb n least h)
    go false e =
        rw (le-ltb (128 + n % 128) 128 (omega arith), higher (ltb-false n 128 e))
        (ap (λ (m : ℕ). answered (record { value = m; rest = rest })) (let q : 128 + n % 128 - 128 + 128 * (n / 128) ≡ n = omega arith in q))

there : (more least n : ℕ) (rest : List ℕ) → least ≤ n → n < limit more → Reads more least n rest
there zero least n rest h k = rw (lt-ltb n 16 k, le-ltb n least h)
there (suc more) least n rest h k = one_more more least n rest h (λ b. there more 1 (n / 128) rest (omega arith) (omega arith))

pub spelt_is_read : (n : ℕ) (rest : List ℕ) → Small n → read_number (groups n ++ rest) ≡ answered (record { value = n; rest = rest })
unfolding read_number groups
spelt_is_read n rest h = there 4 0 n rest (omega arith) (omega arith)

-- ---- what is read was spelt

record Made (more least : ℕ) (bs : List ℕ) (g : Got ℕ) : Type 0 where
  pub bytes : bs ≡ groups_within more g.value ++ g.rest
  pub least_or_more : least ≤ g.value
  pub small : g.value < limit more

module _ (least b : ℕ) (bs : List ℕ) (g : Got ℕ) where
  last_is : last_group least b bs ≡ answered g → (least ≤ b) × (g ≡ record { value = b; rest = bs })
  last_is = go (ltb b least) refl
    where
      go : (t : Bool) → ltb b least ≡ t → cond t (refused 12) (answered (record { value = b; rest = bs })) ≡ answered g
          → (least ≤ b) × (g ≡ record { value = b; rest = bs })
      go true e h = absurd (refused_not_answered h)
      go false e h = (ltb-false b least e, cc)

  back_zero : number_within zero least (b ∷ bs) ≡ answered g → Made zero least (b ∷ bs) g
  back_zero = go (ltb b 16) refl
    where
      go : (t : Bool) → ltb b 16 ≡ t → cond t (last_group least b bs) (refused 12) ≡ answered g → Made zero least (b ∷ bs) g
      go true e h =
          let l = last_is h in
          subst (Made zero least (b ∷ bs)) (sym l.1) (record { bytes = refl; least_or_more = l.0; small = ltb-true b 16 e })
      go false e h = absurd (refused_not_answered h)

  module _ (more : ℕ) (byte : b < 256) where
    back_last : b < 128 → last_group least b bs ≡ answered g → Made (suc more) least (b ∷ bs) g
    back_last small h =
        let l = last_is h in
        subst (Made (suc more) least (b ∷ bs)) (sym l.1)
        (record { bytes = rw (lt-ltb b 128 small); least_or_more = l.0; small = omega (arith, some more) })

    back_more : 128 ≤ b → least ≤ 1 → (h : Got ℕ) → g ≡ above (b - 128) h → Made more 1 bs h → Made (suc more) least (b ∷ bs) g
    back_more big l h e m =
        let n = b - 128 + 128 * h.value in
        let positive = m.least_or_more in
        let fits = m.small in
        let lowest : 128 + n % 128 ≡ b = omega arith in
        let higher : n / 128 ≡ h.value = omega arith in
        subst (Made (suc more) least (b ∷ bs)) (sym e)
        (record {
          bytes = rw (le-ltb n 128 (omega arith), lowest, higher) (ap (λ (l : List ℕ). b ∷ l) m.bytes);
          least_or_more = omega arith;
          small = omega arith;
        })

    back_suc : least ≤ 1 → ((h : Got ℕ) → number_within more 1 bs ≡ answered h → Made more 1 bs h)
        → number_within (suc more) least (b ∷ bs) ≡ answered g → Made (suc more) least (b ∷ bs) g
    back_suc l ih = go (ltb b 128) refl
      where
        go : (t : Bool) → ltb b 128 ≡ t
            → cond t (last_group least b bs) (with (above (b - 128)) (number_within more 1 bs)) ≡ answered g
            → Made (suc more) least (b ∷ bs) g
        go true e h = back_last (ltb-true b 128 e) h
        go false e h =
            let c = changed (number_within more 1 bs) (above (b - 128)) g h in
            back_more (ltb-false b 128 e) l c.value c.is (ih c.value c.first)

back : (more least : ℕ) (bs : List ℕ) (g : Got ℕ) → Bytes bs → least ≤ 1 → number_within more least bs ≡ answered g → Made more least bs g
back more least [] g y l h = absurd (refused_not_answered h)
back zero least (b ∷ bs) g y l h = back_zero least b bs g h
back (suc more) least (b ∷ bs) g y l h =
    back_suc least b bs g more (y 0) l (λ g. back more 1 bs g (λ (i : ℕ). y (suc i)) (omega arith)) h

-- the bytes of an answered number are its groups, and what stands after it
pub read_was_spelt : (bs : List ℕ) (g : Got ℕ) → Bytes bs → read_number bs ≡ answered g → OneSpelt groups Small bs g
unfolding read_number groups
read_was_spelt bs g y h = let m = back 4 0 bs g y (omega arith) h in record { bytes = m.bytes; good = omega (arith, m.small) }

-- exactly one spelling: bytes that are read whole as n are its groups
pub one_spelling : (n : ℕ) (s : List ℕ) → Bytes s → read_number s ≡ answered (record { value = n; rest = [] }) → s ≡ groups n
one_spelling n s y h = (read_was_spelt s (record { value = n; rest = [] }) y h).bytes ∙ append-nil (groups n)
