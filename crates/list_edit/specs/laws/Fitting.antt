-- Stars whose fields have words keep them through every edit, so that the bytes of an edited list are read back.
use Rattle.std.specs.Prelude.{◌≡◌, Bool, true, false, cond, ◌&&◌, List, [], ◌∷◌, ℕ, zero, suc, ◌*◌, ◌-◌, ◌%◌, eqb, leb, length, set, replicate}
use Rattle.std.proofs.Common.{ap, arith}
use Rattle.list.specs.rules.Record.{width, word_at, star_at, Fitting}
use Rattle.list.specs.rules.Stars.{most_stars, is_list, stars, is_kept, kept, nought, AllFitting, Bytes}
use Rattle.list.specs.laws.Record.{star_fits}
use Rattle.list.specs.laws.Stars.{whole}
use Rattle.list.specs.laws.RoundTrips.{bytes_back}
use Rattle.list.specs.laws.Writer.{fitting_join}
use Rattle.list.specs.declared.Star.{Star}
use Rattle.list_edit.specs.rules.Edit.{gathered}

pub list_fits : (s : List ℕ) → Bytes s → is_list s ≡ true → AllFitting (stars s)
list_fits s y t = (bytes_back s (whole s t).1 y).fitting

pub nought_fits : Fitting nought
unfolding star_at word_at
nought_fits = star_fits [] (λ (i : ℕ). omega arith) 0

pub set_fits : (rs : List Star) (i : ℕ) (r : Star) → AllFitting rs → Fitting r → AllFitting (set rs i r)
set_fits [] i r f g = tt
set_fits (q ∷ rs) zero r f g = (g, f.1)
set_fits (q ∷ rs) (suc i) r f g = (f.0, set_fits rs i r f.1 g)

pub empty_fits : (n : ℕ) → AllFitting (replicate n nought)
empty_fits zero = tt
empty_fits (suc n) = (nought_fits, empty_fits n)

kept_fits : (rs : List Star) → AllFitting rs → AllFitting (kept rs)
kept_fits [] f = tt
kept_fits (r ∷ rs) f = go (is_kept r) (kept_fits rs f.1)
  where
    go : (t : Bool) → AllFitting (kept rs) → AllFitting (cond t (r ∷ kept rs) (kept rs))
    go true g = (f.0, g)
    go false g = g

pub gathered_fits : (rs : List Star) → AllFitting rs → AllFitting (gathered rs)
unfolding gathered
gathered_fits rs f =
    let m = length rs - length (kept rs) in
    fitting_join (kept rs) (replicate m nought) (kept_fits rs f) (empty_fits m)

-- bytes of the same length are a list or none
pub list_by_length : (s t : List ℕ) → length s ≡ length t → is_list s ≡ is_list t
unfolding is_list
list_by_length s t e = ap (λ (n : ℕ). leb n (width * most_stars) && eqb (n % width) 0) e
