-- A pass over the indexes of stars that checks each star says whether all are so.
use Rattle.std.specs.Prelude.{ℕ, ◌+◌, ◌≤◌, ◌<◌, ◌≡◌, Bool, true, false, List, length, get_or}
use Rattle.std.specs.Bool.{MatchBool}
use Rattle.std.specs.List.{range_with_len, AllWithin, HoldsAt}
use Rattle.std.proofs.Common.{sym, ◌∙◌, subst, inl, inr, zero-add, arith, eq-or-lt_of_le}
use Rattle.std.proofs.lemmas.List.FromFn.{length-range_with_len, get_or-range_with_len}
use Rattle.list.specs.rules.Stars.{nought, all_are}
use Rattle.list.specs.laws.Records.{all_are_lem, one_is_not}
use Rattle.list.specs.declared.Star.{Star}
use Rattle.list_widths.specs.notions.Checked.{Checked}

index : (n i : ℕ) → i < n → get_or (range_with_len 0 n) i 0 ≡ i
index n i h = get_or-range_with_len 0 n i 0 h ∙ zero-add i

module _ (is : Star → Bool) (rs : List Star) where
  -- star i is so, or it is not
  abbrev pub So : ℕ → Type 0
  So i = is (get_or rs i nought) ≡ true

  abbrev pub NotSo : ℕ → Type 0
  NotSo i = is (get_or rs i nought) ≡ false

  pub decided : (r : Bool) (n : ℕ) → n ≡ length rs
      → MatchBool r (AllWithin So (range_with_len 0 n) 0 (length (range_with_len 0 n)))
      ((k : ℕ) × (k < length (range_with_len 0 n)) × HoldsAt NotSo (range_with_len 0 n) k)
      → r ≡ all_are is rs
  decided true n e h =
      sym
      (all_are_lem is rs (λ (i : ℕ) k. subst So (index n i (omega arith)) (h i 0 (omega arith) (omega (arith, length-range_with_len 0 n)))))
  decided false n e h =
      let within : h.0 < n = omega (arith, h.1, length-range_with_len 0 n) in
      sym (one_is_not is rs h.0 (omega arith) (subst NotSo (index n h.0 within) (h.2 0)))

-- ---- a pass that goes on star by star

module _ {is : Star → Bool} {rs : List Star} {n : ℕ} where
  pub begun : n ≡ length rs → Checked is rs n 0
  begun e = record { many = e; passes = omega arith; are = λ (j : ℕ) h. absurd (omega arith) }

  module _ {i : ℕ} (c : Checked is rs n i) where
    pub on : i < n → is (get_or rs i nought) ≡ true → Checked is rs n (i + 1)
    on h e = record { many = c.many; passes = omega arith; are = λ (j : ℕ) k. up_to j k }
      where
        up_to : (j : ℕ) → j < i + 1 → is (get_or rs j nought) ≡ true
        up_to j k =
            elim (eq-or-lt_of_le (let q : j ≤ i = omega arith in q)) [
              | inl same ↦ subst (λ (m : ℕ). is (get_or rs m nought) ≡ true) (sym same) e
              | inr less ↦ c.are j less
            ]

    pub stops : i < n → is (get_or rs i nought) ≡ false → false ≡ all_are is rs
    stops h e = sym (one_is_not is rs i (omega (arith, c.many)) e)

    pub ends : n ≤ i → true ≡ all_are is rs
    ends h = sym (all_are_lem is rs (λ (j : ℕ) k. c.are j (omega (arith, c.many, c.passes))))
