-- A row as the crate writes it has the bits of its terms multiplied and added as the table has them, for every double.
use Rattle.std.specs.Prelude.{◌≡◌, refl, Bool, true, false, cond, T, eqb, pos, negsuc, Float}
use Rattle.std.proofs.Common.{one-mul, ap, ◌∙◌, eqb→eq}
use Rattle.std.specs.Float.{nan, inf, fin, binary64}
use Rattle.std.specs.Float.Ieee.{neg, mul, eq, of_bits, fits}
use Rattle.std.specs.Float.Ieee.Fits.{and_l, and_r}
use Rattle.double.specs.rules.Operations.{zero, one, ◌⊕◌, ◌⊖◌, ◌⊗◌}
use Rattle.double.specs.rules.Sign.{bears_minus, size}
use Rattle.double.specs.laws.Exact.{round_own}
use Rattle.double.specs.laws.Mirror.{mul_neg_l, add_neg_r}
use Rattle.aberr_args.specs.declared.Row.{Row}
use Rattle.aberr_args.specs.declared.Velocity.{Velocity}
use Rattle.aberr_args.specs.rules.Row.{is_one, times, plus, grouped, term, with_term, spread, share_of, added}

-- ---- a factor 1

one_times : (w : Float) → T (fits binary64 w) → one ⊗ w ≡ w
unfolding mul of_bits
one_times nan F = refl
one_times (inf true) F = refl
one_times (inf false) F = refl
one_times (fin true m e) F = simp (one-mul) (round_own binary64 true m e F)
one_times (fin false m e) F = simp (one-mul) (round_own binary64 false m e F)

is_one_lem : (k : Float) → T (is_one k) → k ≡ one
unfolding of_bits
is_one_lem nan h = absurd h
is_one_lem (inf s) h = absurd h
is_one_lem (fin true m e) h = absurd h
is_one_lem (fin false m (negsuc n)) h = absurd h
is_one_lem (fin false m (pos n)) h =
    λ i. fin false (eqb→eq m 1 (and_l (eqb m 1) (eqb n 0) h) i) (pos (eqb→eq n 0 (and_r (eqb m 1) (eqb n 0) h) i))

pub times_written : (k w : Float) → T (fits binary64 w) → k ⊗ w ≡ times k w
unfolding times
times_written k w F = go (is_one k) (is_one_lem k)
  where
    go : (b : Bool) → (T b → k ≡ one) → k ⊗ w ≡ cond b w (k ⊗ w)
    go true h = ap (λ (x : Float). x ⊗ w) (h tt) ∙ one_times w F
    go false h = refl

-- ---- a minus sign

minus_of : (k : Float) → T (bears_minus k) → k ≡ neg (size k)
unfolding bears_minus neg size
minus_of nan h = absurd h
minus_of (inf true) h = refl
minus_of (inf false) h = absurd h
minus_of (fin true m e) h = refl
minus_of (fin false m e) h = absurd h

pub plus_written : (p k w : Float) → T (fits binary64 w) → eq k zero ≡ false → p ⊕ k ⊗ w ≡ plus p k w
unfolding plus
plus_written p k w F e = rw (e) (go (bears_minus k) (minus_of k))
  where
    go : (b : Bool) → (T b → k ≡ neg (size k)) → p ⊕ k ⊗ w ≡ cond b (p ⊖ times (size k) w) (p ⊕ times k w)
    go true h =
        ap (λ (x : Float). p ⊕ x ⊗ w) (h tt)
        ∙ ap (λ (x : Float). p ⊕ x) (mul_neg_l binary64 (size k) w)
        ∙ add_neg_r binary64 p (size k ⊗ w)
        ∙ ap (λ (x : Float). p ⊖ x) (times_written (size k) w F)
    go false h = ap (λ (x : Float). p ⊕ x) (times_written k w F)

-- ---- a part in T

pub term_written : (k d t w : Float) → T (fits binary64 w) → plus k d t ⊗ w ≡ term k d t w
unfolding plus term
term_written k d t w F = go (eq d zero)
  where
    more : Float
    more = cond (bears_minus d) (k ⊖ times (size d) t) (k ⊕ times d t)

    go : (b : Bool) → cond b k more ⊗ w ≡ cond b (times k w) (cond b k more ⊗ w)
    go true = times_written k w F
    go false = refl

pub with_term_written : (p k d t w : Float) → T (fits binary64 w) → eq k zero ≡ false
    → p ⊕ plus k d t ⊗ w ≡ with_term p k d t w
unfolding plus with_term
with_term_written p k d t w F e = rw (e) (go (eq d zero))
  where
    more : Float
    more = cond (bears_minus d) (k ⊖ times (size d) t) (k ⊕ times d t)

    go : (b : Bool)
        → p ⊕ cond b k more ⊗ w ≡ cond b (cond (bears_minus k) (p ⊖ times (size k) w) (p ⊕ times k w)) (p ⊕ cond b k more ⊗ w)
    go true = rw (e) at (plus_written p k w F e)
    go false = refl

-- a row that has no parts in T reads none
pub still_written : (x q r : Row) (t sine cosine : Float) (v : Velocity) → eqb x.7 0 ≡ true
    → added x q t sine cosine v ≡ added x r t sine cosine v
unfolding added share_of spread grouped
still_written x q r t sine cosine v none = rw (none)
