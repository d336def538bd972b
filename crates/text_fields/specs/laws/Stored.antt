-- A walk that stores each sight at its place leaves what `EntriesStored` says; and what is read back of it.
use Rattle.std.specs.Prelude.{ℕ, zero, suc, ◌+◌, ◌≤◌, ◌<◌, min, ◌≡◌, Bool, true, false, List, [], ◌∷◌, map, ltb, length, take, drop, get_or, set, Result, Ok, Err}
use Rattle.std.proofs.Math.Path.{refl, sym, ap}
use Rattle.std.proofs.Common.{◌∙◌, arith, length-take, take_all, take_at, lt-ltb, le-ltb, ltb-false}
use Rattle.std.proofs.Math.Bool.{cond}
use Rattle.std.proofs.lemmas.List.{length-map}
use Rattle.lent.specs.laws.Rows.{start, store, finish}
use Rattle.text_whole.specs.rules.Unsigned.{Reading}
use Rattle.text_fields.specs.declared.Stopped.{Stopped}
use Rattle.text_fields.specs.declared.Stopped.TheVariants.{Unclear, Full}
use Rattle.text_fields.specs.rules.Lines.{lines}
use Rattle.text_fields.specs.rules.Next.{found, unclear_at, end, next_of}
use Rattle.text_fields.specs.rules.Walk.{entries_in, Ending, all_read, unclear_in, ending_in}
use Rattle.text_fields.specs.rules.Stored.{Columns, sights_with, stored_rule, over, places_of, EntriesStored}
use Rattle.text_fields.specs.notions.Walk.{Ended}
use Rattle.text_fields.specs.notions.Stored.{EntryStored, RowOf, Upto}
use Rattle.text_fields.specs.laws.Walk as walk

-- ---- elements by their places

module _ {E : Type 0} (f : E → ℕ) where
  taken_at : (l : List E) (k i : ℕ) (d : E) → i < k → i < length l → f (get_or l i d) ≡ get_or (map f (take k l)) i 0
  taken_at [] k i d h g = absurd (omega arith)
  taken_at (x ∷ l) zero i d h g = absurd (omega arith)
  taken_at (x ∷ l) (suc k) zero d h g = refl
  taken_at (x ∷ l) (suc k) (suc i) d h g = taken_at l k i d (omega arith) (omega arith)

  how_many_lem : (l : List E) (k : ℕ) → length (map f (take k l)) ≡ min k (length l)
  how_many_lem l zero = omega arith
  how_many_lem [] (suc k) = omega arith
  how_many_lem (x ∷ l) (suc k) = omega (arith, how_many_lem l k)

  -- values over a slice's front are its front
  pub front : (l : List E) (old cur : List ℕ) → cur ≡ over (map f l) old → take (length l) cur ≡ map f l
  front l old cur e = ap (take (length l)) e ∙ take_at (map f l) _ (length l) (length-map l f)

-- ---- from the first sight to the last

module _ {A E : Type 0} (rule : List ℕ → Reading A) (entry : A → ℕ → E) (columns : Columns E) (places : ℕ) (text line₀ star₀ first₀ second₀ : List ℕ) where
  begin_row : (f : E → ℕ) (old : List ℕ) → places ≤ length old → RowOf (entries_in rule entry text) f places old old 0
  begin_row f old h = start _ _ _ refl (omega (arith, how_many_lem f (entries_in rule entry text) places))

  pub none_stored : places ≡ places_of (length line₀) (length star₀) (length first₀) (length second₀)
      → Upto rule entry columns text places line₀ star₀ first₀ second₀ 0 0 0 line₀ star₀ first₀ second₀
  none_stored p =
      record {
        walked = walk.none_walked rule entry text;
        placed = omega arith;
        lines_so_far = begin_row columns.line line₀ (omega (arith, p));
        stars_so_far = begin_row columns.star star₀ (omega (arith, p));
        firsts_so_far = begin_row columns.first first₀ (omega (arith, p));
        seconds_so_far = begin_row columns.second second₀ (omega (arith, p));
      }

module _ {A E : Type 0} {rule : List ℕ → Reading A} {entry : A → ℕ → E} {columns : Columns E} {text : List ℕ} {places : ℕ}
    {line₀ star₀ first₀ second₀ : List ℕ} {at passed n : ℕ} {line star first second : List ℕ}
    (u : Upto rule entry columns text places line₀ star₀ first₀ second₀ at passed n line star first second) where
  abbrev es : List E
  es = entries_in rule entry text

  abbrev Leaves : Result ℕ Stopped → Type 0
  Leaves r = EntriesStored rule entry columns places text line₀ star₀ first₀ second₀ r line star first second

  -- every sight that finds a place is stored
  end_row : (f : E → ℕ) (old cur : List ℕ) → n ≡ min places (length es) → RowOf es f places old cur n → cur ≡ over (map f (take places es)) old
  end_row f old cur e r = finish _ _ _ refl cur n (e ∙ sym (how_many_lem f es places)) r

  ends : (r : Result ℕ Stopped) → r ≡ stored_rule rule entry places text → n ≡ min places (length es) → Leaves r
  ends r a e =
      record {
        answer = a;
        lines_are = end_row columns.line line₀ line e u.lines_so_far;
        stars_are = end_row columns.star star₀ star e u.stars_so_far;
        firsts_are = end_row columns.first first₀ first e u.firsts_so_far;
        seconds_are = end_row columns.second second₀ second e u.seconds_so_far;
      }

  -- no sight is left
  ended : (ending : Ending) → Ended rule entry text n ending → Leaves (sights_with n ending)
  unfolding stored_rule
  ended ending h =
      ends (sights_with n ending)
      (ap (sights_with n) h.ends ∙ ap (λ (k : ℕ). sights_with k (ending_in rule text)) h.all_met
      ∙ sym (ap (λ (t : Bool). cond t (Err Full) (sights_with (length es) (ending_in rule text))) (le-ltb places (length es) (omega (arith, h.all_met, u.placed)))))
      (omega (arith, h.all_met, u.placed))

  -- nothing any more, or a line that cannot be read
  pub at_no_more : end ≡ next_of rule 0 (lines (drop at text)) → Leaves (Ok n)
  at_no_more e = ended all_read (walk.no_more u.walked e)

  pub at_unclear : (k : ℕ) → unclear_at k ≡ next_of rule 0 (lines (drop at text)) → Leaves (Err (Unclear (passed + k)))
  at_unclear k e = ended (unclear_in (passed + k)) (walk.at_unclear u.walked k e)

  -- one sight more
  module _ (x : A) (k next : ℕ) (e : found x k (lines (drop next text)) ≡ next_of rule 0 (lines (drop at text))) where
    abbrev met_now : E
    met_now = entry x (passed + k)

    is_one : n < length es
    is_one = walk.is_one u.walked x k next e

    -- which finds no place
    pub at_full : places ≤ n → Leaves (Err Full)
    unfolding stored_rule
    at_full h =
        ends (Err Full)
        (sym (ap (λ (t : Bool). cond t (Err Full) (sights_with (length es) (ending_in rule text))) (lt-ltb places (length es) (omega (arith, is_one, u.placed)))))
        (omega (arith, is_one, u.placed))

    next_row : n < places → (f : E → ℕ) (old cur : List ℕ) → RowOf es f places old cur n → RowOf es f places old (set cur n (f met_now)) (n + 1)
    next_row h f old cur r =
        store _ _ _ refl cur n (f met_now) 0 (omega (arith, how_many_lem f es places, is_one)) r
        (ap f (walk.is_met u.walked x k next e met_now) ∙ taken_at f es places n met_now h is_one)

    -- or is stored at its place
    pub one_stored : n < places → {line' star' first' second' : List ℕ}
        → EntryStored columns (entry x (passed + k)) n line star first second line' star' first' second'
        → Upto rule entry columns text places line₀ star₀ first₀ second₀ next (passed + k) (n + 1) line' star' first' second'
    one_stored h s =
        record {
          walked = walk.walked_on u.walked x k next e;
          placed = omega (arith, h);
          lines_so_far = rw s.line_set (next_row h columns.line line₀ line u.lines_so_far);
          stars_so_far = rw s.star_set (next_row h columns.star star₀ star u.stars_so_far);
          firsts_so_far = rw s.first_set (next_row h columns.first first₀ first u.firsts_so_far);
          seconds_so_far = rw s.second_set (next_row h columns.second second₀ second u.seconds_so_far);
        }

-- ---- sights that are all read

module _ {A E : Type 0} (rule : List ℕ → Reading A) (entry : A → ℕ → E) (places : ℕ) (text : List ℕ) (n : ℕ)
    (e : Ok n ≡ stored_rule rule entry places text) where
  abbrev all : List E
  all = entries_in rule entry text

  -- one more than how many there are, 0 where there is no such number
  abbrev many : Result ℕ Stopped → ℕ
  many (Ok k) = suc k
  many (Err (Unclear line)) = 0
  many (Err Full) = 0

  counted : (t : Bool) (b : Ending) → ltb places (length all) ≡ t → Ok n ≡ cond t (Err Full) (sights_with (length all) b)
      → (n ≡ length all) × (length all ≤ places)
  counted true b h q = absurd (omega (arith, ap many q))
  counted false all_read h q = (omega (arith, ap many q), ltb-false places (length all) h)
  counted false (unclear_in line) h q = absurd (omega (arith, ap many q))

  known : (n ≡ length all) × (length all ≤ places)
  unfolding stored_rule
  known = counted (ltb places (length all)) (ending_in rule text) refl e

  pub few_sights : n ≤ places
  few_sights = omega (arith, known.0, known.1)

  -- a slice's front is the sights' values
  read_front : (f : E → ℕ) (old cur : List ℕ) → cur ≡ over (map f (take places all)) old → take n cur ≡ map f all
  read_front f old cur h =
      ap (λ (k : ℕ). take k cur) known.0
      ∙ front f all old cur (h ∙ ap (λ (l : List E). over (map f l) old) (take_all places all known.1))

  read_long : (f : E → ℕ) (old cur : List ℕ) → cur ≡ over (map f (take places all)) old → (n ≤ length cur) × (n ≡ length (take n cur))
  read_long f old cur h =
      let long : n ≡ length (take n cur) = omega (arith, ap length (read_front f old cur h), length-map all f, known.0) in
      (omega (arith, long, length-take n cur), long)

  module _ {columns : Columns E} {line star first second : List ℕ} {r : Result ℕ Stopped} {line' star' first' second' : List ℕ}
      (s : EntriesStored rule entry columns places text line star first second r line' star' first' second') where
    pub lines_front : take n line' ≡ map columns.line all
    lines_front = read_front columns.line line line' s.lines_are

    pub stars_front : take n star' ≡ map columns.star all
    stars_front = read_front columns.star star star' s.stars_are

    pub firsts_front : take n first' ≡ map columns.first all
    firsts_front = read_front columns.first first first' s.firsts_are

    pub seconds_front : take n second' ≡ map columns.second all
    seconds_front = read_front columns.second second second' s.seconds_are

    -- which have a value of each sight
    pub lines_long : (n ≤ length line') × (n ≡ length (take n line'))
    lines_long = read_long columns.line line line' s.lines_are

    pub stars_long : (n ≤ length star') × (n ≡ length (take n star'))
    stars_long = read_long columns.star star star' s.stars_are

    pub firsts_long : (n ≤ length first') × (n ≡ length (take n first'))
    firsts_long = read_long columns.first first first' s.firsts_are

    pub seconds_long : (n ≤ length second') × (n ≡ length (take n second'))
    seconds_long = read_long columns.second second second' s.seconds_are
