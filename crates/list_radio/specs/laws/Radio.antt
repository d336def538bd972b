-- A radio list and its stars say the same: either is had back from the other, under either first byte.
use Rattle.std.specs.Prelude.{◌≡◌, refl, Bool, true, false, cond, List, [], ◌∷◌, ◌++◌, ℕ, suc, ◌≤◌, eqb, leb, length}
use Rattle.std.proofs.Common.{sym, ap, ◌∙◌, subst, append-nil, arith, le-leb, leb-true, eqb-true}
use Rattle.quantity.specs.rules.Answer.{answered, refused, then}
use Rattle.list.specs.declared.Star.{Star}
use Rattle.list.specs.rules.Stars.{most_stars, Bytes}
use Rattle.list_groups.specs.rules.Groups.{groups}
use Rattle.list_groups.specs.rules.Reading.{Got, read_number}
use Rattle.list_groups.specs.rules.Several.{spell_all, read_all}
use Rattle.quantity.specs.laws.Steps.{refused_not_answered, stepped}
use Rattle.list_groups.specs.notions.Tail.{Tail, LeavesTail}
use Rattle.list_groups.specs.laws.Tails.{number_leaves_tail}
use Rattle.list_groups.specs.laws.Inverse.{spelt_is_read, read_was_spelt}
use Rattle.list_groups.specs.notions.Spelt.{AllGood}
use Rattle.list_groups.specs.laws.Several.{bytes_after_lem, all_spelt_are_read, all_read_were_spelt}
use Rattle.list.specs.notions.Still.{Still}
use Rattle.list_radio.specs.notions.Good.{Good, form_groups, form_bytes, Radio}
use Rattle.list_radio.specs.notions.Mark.{Mark, is, other}
use Rattle.list_radio.specs.rules.Star.{star_groups, read_star}
use Rattle.list_radio.specs.rules.Radio.{mark, head_bytes, radio_bytes, mark_refusal, is_moving, few, read_count}
use Rattle.list_radio.specs.rules.Radio.{nothing_over, stars_of, radio_stars}
use Rattle.list_radio.specs.laws.Star.{star_spelt_is_read, star_read_was_spelt}
use Rattle.list_radio.specs.laws.Mark.{which_mark, moving_is, stars_after, marked_stars, other_stars}

-- ---- the count

pub record Few (f g : Got ℕ) : Type 0 where
  pub is : g ≡ f
  pub most : f.value ≤ most_stars

pub few_back : (f g : Got ℕ) → few f ≡ answered g → Few f g
few_back f g = go (leb f.value most_stars) refl
  where
    go : (t : Bool) → leb f.value most_stars ≡ t → cond t (answered f) (refused 8) ≡ answered g → Few f g
    go true e h = record { is = cc; most = leb-true f.value most_stars e }
    go false e h = absurd (refused_not_answered h)

pub count_leaves_tail : LeavesTail read_count
unfolding read_count
count_leaves_tail bs g h =
    let s = stepped (read_number bs) few g h in
    subst (λ (x : Got ℕ). Tail x.rest bs) (sym (few_back s.value g s.next).is) (number_leaves_tail bs s.value s.first)

-- ---- stars that stand in all of the bytes

pub over_back : (g : Got (List Star)) (rs : List Star) → nothing_over g ≡ answered rs → (g.rest ≡ []) × (rs ≡ g.value)
over_back g rs = go (eqb (length g.rest) 0) refl
  where
    empty : (l : List ℕ) → length l ≡ 0 → l ≡ []
    empty [] h = refl
    empty (b ∷ l) h = absurd (omega arith)

    go : (t : Bool) → eqb (length g.rest) 0 ≡ t → cond t (answered g.value) (refused 13) ≡ answered rs
        → (g.rest ≡ []) × (rs ≡ g.value)
    go true e h = (empty g.rest (eqb-true (length g.rest) 0 e), cc)
    go false e h = absurd (refused_not_answered h)

record Listed (moving : Bool) (bs : List ℕ) (rs : List Star) (n : ℕ) : Type 0 where
  pub bytes : bs ≡ spell_all (form_groups moving) rs
  pub good : AllGood (Good moving) rs
  pub many : length rs ≡ n

stars_back : (moving : Bool) (n : ℕ) (bs : List ℕ) (rs : List Star) → Bytes bs → stars_of moving n bs ≡ answered rs → Listed moving bs rs n
unfolding stars_of
stars_back moving n bs rs y h =
    let s = stepped (read_all (read_star moving) n bs) nothing_over rs h in
    let g = s.value in
    let o = over_back g rs s.next in
    let a = all_read_were_spelt (form_groups moving) (read_star moving) (Good moving) (star_read_was_spelt moving) n bs g y s.first in
    let spelt = spell_all (form_groups moving) g.value in
    subst (λ (x : List Star). Listed moving bs x n) (sym o.1)
    (record {
      bytes = a.bytes ∙ ap (λ (l : List ℕ). spelt ++ l) o.0 ∙ append-nil spelt;
      good = a.good;
      many = a.many;
    })

-- ---- the whole list

-- what is written is the spelling with yearly changes
pub as_written : (rs : List Star) → radio_bytes rs ≡ form_bytes true rs
unfolding radio_bytes head_bytes star_groups form_bytes
as_written rs = ap (λ (l : List ℕ). mark true ∷ (groups (length rs) ++ l)) (same rs)
  where
    same : (l : List Star) → spell_all star_groups l ≡ spell_all (form_groups true) l
    same [] = refl
    same (r ∷ l) = ap (λ (bs : List ℕ). form_groups true r ++ bs) (same l)

-- stars that are spelt are read
pub radio_spelt_is_read : (moving : Bool) (rs : List Star) → AllGood (Good moving) rs → length rs ≤ most_stars
    → radio_stars (form_bytes moving rs) ≡ answered rs
unfolding read_count stars_of form_bytes
radio_spelt_is_read moving rs g h =
    let spelt = spell_all (form_groups moving) rs in
    let all = all_spelt_are_read (form_groups moving) (read_star moving) (Good moving) (star_spelt_is_read moving) rs [] g in
    let stars : read_all (read_star moving) (length rs) spelt ≡ answered (record { value = rs; rest = [] })
    = ap (read_all (read_star moving) (length rs)) (sym (append-nil spelt)) ∙ all in
    marked_stars moving (groups (length rs) ++ spelt)
    ∙ rw (spelt_is_read (length rs) spelt (omega arith), le-leb (length rs) most_stars h, stars)

pub written_is_read : (rs : List Star) → AllGood (Good true) rs → length rs ≤ most_stars → radio_stars (radio_bytes rs) ≡ answered rs
written_is_read rs g h = ap radio_stars (as_written rs) ∙ radio_spelt_is_read true rs g h

after_mark : (moving : Bool) (bs : List ℕ) (rs : List Star) → Bytes bs → then (read_count bs) (stars_after moving) ≡ answered rs
    → Radio moving (mark moving ∷ bs) rs
unfolding read_count form_bytes
after_mark moving bs rs y h =
    let s = stepped (read_count bs) (stars_after moving) rs h in
    let c = stepped (read_number bs) few s.value s.first in
    let f = few_back c.value s.value c.next in
    let n = read_was_spelt bs c.value y c.first in
    let rest = bytes_after_lem (groups c.value.value) c.value.rest (subst Bytes n.bytes y) in
    let l = stars_back moving c.value.value c.value.rest rs rest (ap (stars_after moving) (sym f.is) ∙ s.next) in
    let most = f.most in
    record {
      bytes = ap (λ (b : List ℕ). mark moving ∷ b) (n.bytes ∙ (λ i. groups (sym l.many i) ++ l.bytes i));
      good = l.good;
      most = omega (arith, l.many);
    }

-- a list that is answered is the spelling of its stars
pub radio_read_was_spelt : (s : List ℕ) (rs : List Star) → Bytes s → radio_stars s ≡ answered rs → Radio (is_moving s) s rs
unfolding radio_stars mark_refusal
radio_read_was_spelt [] rs y h = absurd (refused_not_answered h)
radio_read_was_spelt (b ∷ bs) rs y h = go (which_mark b)
  where
    go : Mark b → Radio (is_moving (b ∷ bs)) (b ∷ bs) rs
    go (is moving e) =
        let here = after_mark moving bs rs (λ (i : ℕ). y (suc i)) (sym (marked_stars moving bs) ∙ ap (λ (x : ℕ). radio_stars (x ∷ bs)) (sym e) ∙ h) in
        let known = subst (λ (t : Bool). Radio t (mark moving ∷ bs) rs) (sym (moving_is moving bs)) here in
        subst (λ (x : ℕ). Radio (is_moving (x ∷ bs)) (x ∷ bs) rs) (sym e) known
    go (other e) = absurd (refused_not_answered (sym (other_stars b bs (e bs)) ∙ h))

-- exactly one spelling of a list: two with the same first byte that have the same stars have the same bytes
pub one_spelling : (s t : List ℕ) (rs : List Star) → Bytes s → Bytes t → is_moving s ≡ is_moving t
    → radio_stars s ≡ answered rs → radio_stars t ≡ answered rs → s ≡ t
one_spelling s t rs y z e p q =
    (radio_read_was_spelt s rs y p).bytes ∙ ap (λ (moving : Bool). form_bytes moving rs) e ∙ sym (radio_read_was_spelt t rs z q).bytes

-- whatever list begins with byte 2, its stars stand still
pub byte_two_stands_still : (bs : List ℕ) (rs : List Star) → Bytes (mark false ∷ bs) → radio_stars (mark false ∷ bs) ≡ answered rs
    → AllGood Still rs
byte_two_stands_still bs rs y h =
    stand rs (subst (λ (t : Bool). AllGood (Good t) rs) (moving_is false bs) (radio_read_was_spelt (mark false ∷ bs) rs y h).good)
  where
    stand : (l : List Star) → AllGood (Good false) l → AllGood Still l
    stand [] g = tt
    stand (r ∷ l) g = (g.0.held, stand l g.1)
