-- What is written is read: three words with a blank between each two, a comment behind them or none.
use Rattle.std.specs.Prelude.{ℕ, ◌≡◌, Bool}
use Rattle.std.proofs.Math.Path.{ap}
use Rattle.std.proofs.Common.{◌∙◌}
use Rattle.std.proofs.Math.Bool.{cond}
use mathlib.Core.List.{List, [], ◌∷◌, ◌++◌}
use Rattle.text_number.specs.rules.Bytes.{space}
use Rattle.text_whole.specs.rules.Unsigned.{unsigned_rule}
use Rattle.text_degrees.specs.rules.Degrees.{degrees_rule}
use Rattle.text_fields.specs.declared.Stop.TheVariants.{Hash}
use Rattle.text_fields.specs.rules.Fields.{is_stop, before, is_bare}
use Rattle.text_fields.specs.rules.Walk.{nothing, told_by, told_of}
use Rattle.text_fields.specs.notions.Plain.{IsWord}
use Rattle.text_fields.specs.laws.Written.{no_comment, not_bare, field_is, behind_is, last_field_is, nothing_behind, blank_passed, blank_passed_after}
use Rattle.text_measured.specs.rules.Sight.{sight_from, with_dec, with_asc, sight_rule, line_rule}

-- a right ascension, a declination, a star's number in front
module _ (number asc dec : List ℕ) (n : IsWord number) (a : IsWord asc) (d : IsWord dec) where
  abbrev pub joined : List ℕ → List ℕ
  joined end = number ++ (space ∷ (asc ++ (space ∷ (dec ++ end))))

  sight_read : told_by (sight_rule (joined [])) ≡ told_by (sight_from (unsigned_rule number) (degrees_rule asc) (degrees_rule dec))
  unfolding sight_rule with_asc with_dec is_bare
  sight_read =
      rw (
        field_is number (asc ++ (space ∷ (dec ++ []))) n,
        behind_is number (asc ++ (space ∷ (dec ++ []))) n,
        blank_passed (asc ++ (space ∷ (dec ++ []))),
        blank_passed_after (asc ++ (space ∷ (dec ++ []))),
        field_is asc (dec ++ []) a,
        behind_is asc (dec ++ []) a,
        blank_passed (dec ++ []),
        blank_passed_after (dec ++ []),
        last_field_is dec d,
        nothing_behind dec d,
      )

  -- behind them nothing, or a comment
  pub words_read : (end : List ℕ) → before Hash end ≡ []
      → line_rule (joined end) ≡ told_by (sight_from (unsigned_rule number) (degrees_rule asc) (degrees_rule dec))
  unfolding line_rule told_of before is_stop
  words_read end e =
      ap (λ (l : List ℕ). cond (is_bare l) nothing (told_by (sight_rule l)))
      (no_comment (space ∷ (asc ++ (space ∷ (dec ++ end)))) number n.plain
      ∙ ap (λ (l : List ℕ). number ++ (space ∷ l)) (no_comment (space ∷ (dec ++ end)) asc a.plain)
      ∙ ap (λ (l : List ℕ). number ++ (space ∷ (asc ++ (space ∷ l)))) (no_comment end dec d.plain ∙ ap (λ (l : List ℕ). dec ++ l) e))
      ∙ ap (λ (t : Bool). cond t nothing (told_by (sight_rule (joined [])))) (not_bare (space ∷ (asc ++ (space ∷ (dec ++ [])))) number n)
      ∙ sight_read
