-- The walk over the table gives the crate's rows, bit for bit: for every argument and every sum so far. Each row of the table names a row
-- of it.
use Rattle.std.specs.Prelude.{ℕ, zero, suc, ◌*◌, ◌<◌, ◌≡◌, refl, List, [], ◌∷◌, T, ltb, length, get_or}
use Rattle.std.proofs.Common.{le_of_suc-le-suc, not-suc-le-zero, arith, ltb→lt, Fits}
use Rattle.std.specs.Int.{w64}
use Rattle.std.specs.Float.Ieee.{neg, of_bits, of_int, round, eq, lt}
use Rattle.std.specs.Float.Ieee.Fits.{and_l, and_r}
use Rattle.double.specs.rules.Sign.{bears_minus, size}
use Rattle.aberr_args.specs.declared.Arguments.{Arguments}
use Rattle.aberr_args.specs.declared.Row.{Row}
use Rattle.aberr_args.specs.declared.Velocity.{Velocity}
use Rattle.aberr_table.specs.rules.Velocity.{rows, summed}
use Rattle.aberr_table.specs.rules.Table.{table, named, walk}
use Rattle.aberr_table.specs.notions.Computed.{written}

pub table_is_rows : (g : Arguments) (v : Velocity) → walk table g v ≡ summed rows g v
unfolding written bears_minus size neg of_bits of_int round eq lt
table_is_rows g v = refl

pub table_names_its_rows : T (named 39 table)
table_names_its_rows = tt

pub named_at : (n : ℕ) (xs : List Row) (i : ℕ) (d : Row) → T (named n xs) → i < length xs → (get_or xs i d).7 < n
named_at n [] i d t h = absurd (not-suc-le-zero h)
named_at n (x ∷ xs) zero d t h = ltb→lt x.7 n (and_l (ltb x.7 n) (named n xs) t)
named_at n (x ∷ xs) (suc i) d t h = named_at n xs i d (and_r (ltb x.7 n) (named n xs) t) (le_of_suc-le-suc h)

-- the place of the row that is named, for rows of 32 bytes
pub named_fits : (xs : List Row) (i : ℕ) (d : Row) → T (named 39 xs) → i < length xs → Fits w64 ((get_or xs i d).7 * 32)
named_fits xs i d t h =
    let n = named_at 39 xs i d t h in
    record { fits = omega (arith, n) }
