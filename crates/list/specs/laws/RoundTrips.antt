-- A stored list and its stars say the same: either is had back from the other.
use Rattle.std.specs.Prelude.{◌≡◌, List, true, ℕ, ◌*◌, ◌/◌, ◌%◌, ◌≤◌, length}
use Rattle.std.proofs.Common.{ap, ◌∙◌, arith, le-leb, eq-eqb}
use Rattle.list.specs.rules.Record.{width, star_at, star_bytes, Fitting}
use Rattle.list.specs.rules.Stars.{most_stars, is_list, count_of, stars, records_at, list_bytes, AllFitting, Bytes}
use Rattle.list.specs.notions.Whole.{Whole}
use Rattle.list.specs.laws.Record.{length_star, star_back, star_fits, record_here, star_drop}
use Rattle.list.specs.laws.Records.{length_records, records_back, records_here}
use Rattle.list.specs.declared.Star.{Star}

pub length_list : (rs : List Star) → length (list_bytes rs) ≡ width * length rs
length_list rs = length_records width star_at star_drop star_bytes length_star rs ∙ omega arith

pub is_list_lem : (rs : List Star) → length rs ≤ most_stars → is_list (list_bytes rs) ≡ true
unfolding is_list
is_list_lem rs h =
    let s = list_bytes rs in
    let l = length_list rs in
    rw (le-leb (length s) (width * most_stars) (omega arith), eq-eqb (length s % width) 0 (omega arith))

-- stars written are read back
pub stars_back : (rs : List Star) → AllFitting rs → stars (list_bytes rs) ≡ rs
unfolding stars count_of
stars_back rs f =
    ap (λ (n : ℕ). records_at width star_at n (list_bytes rs)) (let e : length (list_bytes rs) / width ≡ length rs = omega (arith, length_list rs) in e)
    ∙ records_back width star_at star_drop star_bytes length_star Fitting star_back rs f

-- bytes read, whole records of them, are written back
pub bytes_back : (s : List ℕ) → length s % width ≡ 0 → Bytes s → Whole s
unfolding stars count_of
bytes_back s h y =
    records_here width star_at star_drop star_bytes length_star Fitting
    (λ (t : List ℕ) z long. (record_here t z long, star_fits t z 0))
    (length s / width)
    s
    (omega arith)
    y
