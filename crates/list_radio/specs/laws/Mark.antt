-- What the first byte settles.
use Rattle.std.specs.Prelude.{◌≡◌, Bool, List, ◌∷◌, ◌++◌, ℕ, eqb}
use Rattle.std.proofs.Math.Path.{refl}
use Rattle.std.proofs.Common.{sym, ap, ◌∙◌, eqb-true}
use Rattle.std.proofs.Math.Bool.{true, false}
use Rattle.quantity.specs.rules.Answer.{Answer, refused, then}
use Rattle.list.specs.declared.Star.{Star}
use Rattle.list_groups.specs.rules.Reading.{Got}
use Rattle.list_radio.specs.notions.Mark.{Mark, is, other}
use Rattle.list_radio.specs.rules.Radio.{mark, mark_refusal, is_moving, read_count, stars_of, radio_stars}

pub which_mark : (b : ℕ) → Mark b
unfolding mark_refusal
which_mark b = go (eqb b (mark true)) refl (eqb b (mark false)) refl
  where
    go : (t : Bool) → eqb b (mark true) ≡ t → (u : Bool) → eqb b (mark false) ≡ u → Mark b
    go true e u f = is true (eqb-true b (mark true) e)
    go false e true f = is false (eqb-true b (mark false) f)
    go false e false f = other (λ (bs : List ℕ). rw (e, f))

module _ (moving : Bool) (bs : List ℕ) where
  pub mark_taken : mark_refusal (mark moving ∷ bs) ≡ 0
  unfolding mark_refusal
  mark_taken = go moving
    where
      go : (t : Bool) → mark_refusal (mark t ∷ bs) ≡ 0
      go true = refl
      go false = refl

  pub moving_is : is_moving (mark moving ∷ bs) ≡ moving
  unfolding is_moving
  moving_is = go moving
    where
      go : (t : Bool) → is_moving (mark t ∷ bs) ≡ t
      go true = refl
      go false = refl

-- the stars that stand after a count
abbrev pub stars_after : Bool → Got ℕ → Answer (List Star)
stars_after moving g = stars_of moving g.value g.rest

pub marked_stars : (moving : Bool) (bs : List ℕ) → radio_stars (mark moving ∷ bs) ≡ then (read_count bs) (stars_after moving)
unfolding radio_stars
marked_stars moving bs = rw (mark_taken moving bs, moving_is moving bs)

pub other_stars : (b : ℕ) (bs : List ℕ) → mark_refusal (b ∷ bs) ≡ 11 → radio_stars (b ∷ bs) ≡ refused 11
unfolding radio_stars
other_stars b bs e = rw e

-- what bytes more leave of a refusal under either first byte, they leave of the list's
pub under_mark : (more : List ℕ) (b : ℕ) (bs : List ℕ) (k : ℕ)
    → ((moving : Bool) → then (read_count bs) (stars_after moving) ≡ refused k → then (read_count (bs ++ more)) (stars_after moving) ≡ refused k)
    → radio_stars (b ∷ bs) ≡ refused k → radio_stars (b ∷ (bs ++ more)) ≡ refused k
under_mark more b bs k stays h = go (which_mark b)
  where
    go : Mark b → radio_stars (b ∷ (bs ++ more)) ≡ refused k
    go (is moving e) =
        ap (λ (x : ℕ). radio_stars (x ∷ (bs ++ more))) e
        ∙ marked_stars moving (bs ++ more)
        ∙ stays moving (sym (marked_stars moving bs) ∙ ap (λ (x : ℕ). radio_stars (x ∷ bs)) (sym e) ∙ h)
    go (other e) = other_stars b (bs ++ more) (e (bs ++ more)) ∙ sym (other_stars b bs (e bs)) ∙ h
