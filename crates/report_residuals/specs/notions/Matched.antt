-- What a walk over sights leaves that stores what each one's star came to, and what is stored after some of them.
use Rattle.std.specs.Prelude.{ℕ, ◌≤◌, ◌≡◌, List, map, length}
use Rattle.lent.specs.notions.Rows.{Row}
use Rattle.text_fields.specs.rules.Stored.{over}
use Rattle.report_residuals.specs.declared.Came.{Came}

-- by what each number came to
pub record Matched (came : ℕ → Came) (star status asc dec status' asc' dec' : List ℕ) : Type 0 where
  pub statuses : status' ≡ over (map (λ (n : ℕ). (came n).status) star) status
  pub ascs : asc' ≡ over (map (λ (n : ℕ). (came n).asc) star) asc
  pub decs : dec' ≡ over (map (λ (n : ℕ). (came n).dec) star) dec

-- of the first i
pub record Upto (came : ℕ → Came) (star status₀ asc₀ dec₀ : List ℕ) (i : ℕ) (status asc dec : List ℕ) : Type 0 where
  pub passes : i ≤ length star
  pub statuses : Row (map (λ (n : ℕ). (came n).status) star) status₀ status (length star) i
  pub ascs : Row (map (λ (n : ℕ). (came n).asc) star) asc₀ asc (length star) i
  pub decs : Row (map (λ (n : ℕ). (came n).dec) star) dec₀ dec (length star) i
