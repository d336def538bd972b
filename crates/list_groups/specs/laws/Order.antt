-- A number is refused at the byte that shows it, whatever bytes stand after that.
use Rattle.std.specs.Prelude.{◌≡◌, refl, List, [], ◌∷◌, ◌++◌, ℕ, zero, suc, ◌-◌, ◌≤◌, length}
use Rattle.std.proofs.Common.{sym, ap, ◌∙◌, append-nil, arith, le-ltb}
use Rattle.quantity.specs.rules.Answer.{refused}
use Rattle.list_groups.specs.rules.Reading.{number_within, read_number}
use Rattle.list_groups.specs.notions.Streams.{AllGoOn}

goes_on : (more least b : ℕ) (bs : List ℕ) (k : ℕ) → 128 ≤ b → number_within more 1 bs ≡ refused k
    → number_within (suc more) least (b ∷ bs) ≡ refused k
goes_on more least b bs k h e = rw (le-ltb b 128 h, e)

after : (bs rest : List ℕ) (more k : ℕ) → AllGoOn bs → length bs ≤ more
    → number_within (more - length bs) 1 rest ≡ refused k → number_within more 1 (bs ++ rest) ≡ refused k
after [] rest more k on h e = ap (λ (m : ℕ). number_within m 1 rest) (let q : more ≡ more - 0 = omega arith in q) ∙ e
after (b ∷ bs) rest zero k on h e = absurd (omega arith)
after (b ∷ bs) rest (suc more) k on h e =
    goes_on more 1 b (bs ++ rest) k on.0
    (after bs rest more k on.1 (omega arith) (ap (λ (m : ℕ). number_within m 1 rest) (let q : more - length bs ≡ suc more - suc (length bs) = omega arith in q) ∙ e))

zero_last : (more : ℕ) (rest : List ℕ) → number_within more 1 (0 ∷ rest) ≡ refused 12
zero_last zero rest = refl
zero_last (suc more) rest = refl

-- 12 at a byte 00 in groups 2 to 5
pub twelve_at_a_zero : (b : ℕ) (bs rest : List ℕ) → AllGoOn (b ∷ bs) → length bs ≤ 3 → read_number (b ∷ (bs ++ (0 ∷ rest))) ≡ refused 12
unfolding read_number
twelve_at_a_zero b bs rest on h =
    goes_on 3 0 b (bs ++ (0 ∷ rest)) 12 on.0 (after bs (0 ∷ rest) 3 12 on.1 h (zero_last (3 - length bs) (rest)))

-- 12 at a fifth group above 0F: bit 32, or a sixth group
pub twelve_at_the_fifth : (b : ℕ) (bs : List ℕ) (fifth : ℕ) (rest : List ℕ) → AllGoOn (b ∷ bs) → length bs ≡ 3
    → 16 ≤ fifth → read_number (b ∷ (bs ++ (fifth ∷ rest))) ≡ refused 12
unfolding read_number
twelve_at_the_fifth b bs fifth rest on h k =
    goes_on 3 0 b (bs ++ (fifth ∷ rest)) 12 on.0
    (after bs (fifth ∷ rest) 3 12 on.1 (omega arith)
    (ap (λ (m : ℕ). number_within m 1 (fifth ∷ rest)) (let q : 3 - length bs ≡ 0 = omega arith in q) ∙ rw (le-ltb fifth 16 k)))

-- 13 where the bytes end before that
pub thirteen_at_the_end : (bs : List ℕ) → AllGoOn bs → length bs ≤ 4 → read_number bs ≡ refused 13
unfolding read_number
thirteen_at_the_end [] on h = refl
thirteen_at_the_end (b ∷ bs) on h =
    goes_on 3 0 b bs 13 on.0 (ap (number_within 3 1) (sym (append-nil bs)) ∙ after bs [] 3 13 on.1 (omega arith) refl)
