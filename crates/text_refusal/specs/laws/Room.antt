-- How long a refusal in words is, at most.
use Rattle.std.specs.Prelude.{ℕ, ◌+◌, ◌≤◌, Bool, true, false, cond, List, [], ◌∷◌, ◌++◌, eqb, length}
use Rattle.std.proofs.Common.{arith, length-append}
use Rattle.text_number.specs.rules.Bytes.{line_end}
use Rattle.text_number.specs.rules.Number.{decimal_text}
use Rattle.text_number.specs.rules.Refused.{refused_word}
use Rattle.text_number.specs.laws.Number.{any_decimal_short}
use Rattle.text_refusal.specs.rules.Refusal.{call_words, star_words, observer_words, number_words, refusal_text, plan_refusal_text}

-- a text where the test holds, or another
pub either_short : (k : ℕ) (b : Bool) (t u : List ℕ) → length t ≤ k → length u ≤ k → length (cond b t u) ≤ k
either_short k true t u h g = h
either_short k false t u h g = g

call_words_short : (n : ℕ) → length (call_words n) ≤ 50
unfolding call_words
call_words_short n =
    either_short 50 (eqb n 1) _ _ (omega arith)
    (either_short 50 (eqb n 2) _ _ (omega arith)
    (either_short 50 (eqb n 8) _ [] (omega arith) (omega arith)))

pub star_words_short : (n : ℕ) → length (star_words n) ≤ 44
unfolding star_words
star_words_short n =
    either_short 44 (eqb n 3) _ _ (omega arith)
    (either_short 44 (eqb n 4) _ _ (omega arith)
    (either_short 44 (eqb n 7) _ _ (omega arith)
    (either_short 44 (eqb n 9) _ _ (omega arith)
    (either_short 44 (eqb n 10) _ _ (omega arith)
    (either_short 44 (eqb n 14) _ [] (omega arith) (omega arith))))))

observer_words_short : (n : ℕ) → length (observer_words n) ≤ 76
unfolding observer_words
observer_words_short n =
    either_short 76 (eqb n 3) _ _ (omega arith)
    (either_short 76 (eqb n 4) _ [] (omega arith) (omega arith))

number_words_short : (n : ℕ) → length (number_words n) ≤ 78
unfolding number_words
number_words_short n =
    omega (
      arith,
      length-append refused_word (decimal_text n ++ call_words n),
      length-append (decimal_text n) (call_words n),
      any_decimal_short n,
      call_words_short n,
    )

-- with such words and the line's end
module _ (n : ℕ) (words : List ℕ) where
  pub with_words : (k : ℕ) → length words ≤ k → length (number_words n ++ (words ++ (line_end ∷ []))) ≤ 79 + k
  with_words k h =
      let end : List ℕ = line_end ∷ [] in
      omega (arith, length-append (number_words n) (words ++ end), length-append words end, number_words_short n)

pub refusal_short : (n : ℕ) → length (refusal_text n) ≤ 123
unfolding refusal_text
refusal_short n = with_words n (star_words n) 44 (star_words_short n)

pub plan_refusal_short : (n : ℕ) → length (plan_refusal_text n) ≤ 155
unfolding plan_refusal_text
plan_refusal_short n = with_words n (observer_words n) 76 (observer_words_short n)
