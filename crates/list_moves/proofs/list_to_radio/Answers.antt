-- `list_moves::list_to_radio` meets its contract: nothing is written before the whole list is known to be good, and to have room.
use mathlib.Core.Path.{◌≡◌, sym, ap, ◌∙◌}
use mathlib.Core.Bool.{true}
use mathlib.Core.List.{List, ◌++◌}
use Prim.Native.Nat.{ℕ, ◌+◌, ◌≤◌}
use native.Mathlib.Omega.{arith}
use lib.ListN.{length}
use Rattle.lent.specs.rules.Writing.{Wrote}
use Rattle.lent.specs.laws.Writing.{after, same}
use Rattle.list.specs.rules.Stars.{is_list, count_of, stars}
use Rattle.list.specs.laws.Stars.{few, length_stars}
use Rattle.list_groups.specs.rules.Several.{spell_all}
use Rattle.list_groups.specs.rules.Groups.{groups}
use Rattle.list_groups.specs.laws.Length.{at_most_five}
use Rattle.list_radio.specs.rules.Star.{star_groups}
use Rattle.list_radio.specs.rules.Radio.{head_bytes, radio_bytes}
use Rattle.list_radio.specs.laws.Room.{twenty_five_a_star}
use Rattle.std.proofs.lemmas.Result.{err_from_is_err_and}
use Rattle.lent.specs.laws.Put.{put_refused, no_room, puts}
use Rattle.list_moves.specs.laws.Moves.{no_list, no_size, Sized, sized, length_radio}
use Rattle.list_moves.proofs.list_to_radio.Goals as goal

-- head and stars, one after the other
all_written : (s old mid new : List ℕ) (n a b : ℕ) → n ≡ count_of s → Wrote old 0 (head_bytes n) mid a → Wrote mid a (spell_all star_groups (stars s)) new b → Wrote old 0 (radio_bytes (stars s)) new b
unfolding radio_bytes
all_written s old mid new n a b e p q = same (ap (λ (k : ℕ). head_bytes k ++ spell_all star_groups (stars s)) (e ∙ sym (length_stars s))) (after p q)

long : (s : List ℕ) → is_list s ≡ true → (n k size : ℕ) → n ≡ count_of s → k ≡ length (groups n) → size ≡ length (spell_all star_groups (stars s)) → 1 + k + size ≡ length (radio_bytes (stars s))
long s l n k size e f g = omega (arith, length_radio s l, f ∙ ap (λ (m : ℕ). length (groups m)) e, g)

pub returns-then-not-is_list : goal.returns-then-not-is_list
returns-then-not-is_list c = put_refused _ _ _ _ (no_list _ (sym c.is_list.ensures ∙ c.if-not-is_list.true))

pub stars_size-requires : goal.stars_size-requires
stars_size-requires c =
    let is_one_lem : is_list c.args.bytes.now ≡ true = sym c.is_list.ensures ∙ c.if-not-is_list.false in
    is_one_lem

pub overflow_cast-n : goal.overflow_cast-n
overflow_cast-n c =
    let is_one_lem : is_list c.args.bytes.now ≡ true = sym c.is_list.ensures ∙ c.if-not-is_list.false in
    omega (arith, c.count-n.ensures, few c.args.bytes.now is_one_lem)

pub overflow_add-count : goal.overflow_add-count
overflow_add-count c = omega (arith, c.count.ensures, at_most_five c.count-n.result)

pub overflow_add-count-2 : goal.overflow_add-count-2
overflow_add-count-2 c =
    let is_one_lem : is_list c.args.bytes.now ≡ true = sym c.is_list.ensures ∙ c.if-not-is_list.false in
    let good : Sized c.args.bytes.now is_one_lem c.in_ok-size.size = sized _ is_one_lem _ c.in_ok-size.ensures in
    let small : c.in_ok-size.size ≤ 75000 = let s = c.args.bytes.now in
    omega (arith, good.is, twenty_five_a_star (stars s), length_stars s, few s is_one_lem) in
    omega (arith, c.count.ensures, at_most_five c.count-n.result, small)

pub returns-then-out-count : goal.returns-then-out-count
returns-then-out-count c =
    let is_one_lem : is_list c.args.bytes.now ≡ true = sym c.is_list.ensures ∙ c.if-not-is_list.false in
    let good : Sized c.args.bytes.now is_one_lem c.in_ok-size.size = sized _ is_one_lem _ c.in_ok-size.ensures in
    no_room _ _ _ _ good.moved
    (omega (arith, long _ is_one_lem _ _ _ c.count-n.ensures c.count.ensures good.is, c.if-out-count.true))

pub returns-in_err-size : goal.returns-in_err-size
returns-in_err-size c =
    let is_one_lem : is_list c.args.bytes.now ≡ true = sym c.is_list.ensures ∙ c.if-not-is_list.false in
    let p = err_from_is_err_and c.from_residual.result c.from_residual.ensures.1 in
    rw (p.1, p.2) (put_refused _ _ _ _ (no_size _ is_one_lem _ c.in_err-size.ensures))

pub returns : goal.returns
returns c =
    let is_one_lem : is_list c.args.bytes.now ≡ true = sym c.is_list.ensures ∙ c.if-not-is_list.false in
    let good : Sized c.args.bytes.now is_one_lem c.in_ok-size.size = sized _ is_one_lem _ c.in_ok-size.ensures in
    puts _ _ _ _ good.moved _ _
    (omega (arith, long _ is_one_lem _ _ _ c.count-n.ensures c.count.ensures good.is, c.if-out-count.false))
    (all_written _ _ _ _ _ _ _ c.count-n.ensures c.write_head-offset.ensures c.write_stars.ensures)
