-- `text_date::clock_in` meets its contract.
use Rattle.std.proofs.Common.{refl, rules}
use Rattle.text_date.specs.declared.Reason.TheVariants.{NoHour, NoMinute, NoSecond, NoFraction}
use Rattle.text_date.specs.rules.Digits.{pair_at}
use Rattle.text_date.specs.rules.Time.{fraction_of}
use Rattle.text_date.specs.laws.Steps.{holds, fails, no_hour, no_minute, no_second, no_fraction, timed_by}
use Rattle.text_date.proofs.clock_in.Goals as goal

pub returns-in_err-h : goal.returns-in_err-h
returns-in_err-h c =
    let t = c.args.text.now in
    let e = fails 24 _ NoHour c.in_err-h.ensures in
    rw (← no_hour t c.args.n _ (pair_at t 14) (pair_at t 17) (fraction_of t) c.pair.ensures.says refl refl refl e.1, ← e.0) (search rules)

pub returns-in_err-m : goal.returns-in_err-m
returns-in_err-m c =
    let t = c.args.text.now in
    let h = holds 24 _ NoHour c.in_ok-h.ensures in
    let e = fails 60 _ NoMinute c.in_err-m.ensures in
    rw (
      ← no_minute t c.args.n _ _ (pair_at t 17) (fraction_of t) c.pair.ensures.says c.pair-2.ensures.says refl refl h.1 e.1,
      ← e.0,
    ) (search rules)

pub returns-in_err-s : goal.returns-in_err-s
returns-in_err-s c =
    let t = c.args.text.now in
    let h = holds 24 _ NoHour c.in_ok-h.ensures in
    let m = holds 60 _ NoMinute c.in_ok-m.ensures in
    let e = fails 60 _ NoSecond c.in_err-s.ensures in
    rw (
      ← no_second t c.args.n _ _ _ (fraction_of t) c.pair.ensures.says c.pair-2.ensures.says c.pair-3.ensures.says refl h.1 m.1 e.1,
      ← e.0,
    ) (search rules)

pub returns-in_err-f : goal.returns-in_err-f
returns-in_err-f c =
    let t = c.args.text.now in
    let h = holds 24 _ NoHour c.in_ok-h.ensures in
    let m = holds 60 _ NoMinute c.in_ok-m.ensures in
    let s = holds 60 _ NoSecond c.in_ok-s.ensures in
    let e = fails 1000 _ NoFraction c.in_err-f.ensures in
    rw (
      ← no_fraction t c.args.n _ _ _ _ c.pair.ensures.says c.pair-2.ensures.says c.pair-3.ensures.says c.fraction.ensures.says
          h.1 m.1 s.1 e.1,
      ← e.0,
    ) (search rules)

pub returns : goal.returns
returns c =
    let h = holds 24 _ NoHour c.in_ok-h.ensures in
    let m = holds 60 _ NoMinute c.in_ok-m.ensures in
    let s = holds 60 _ NoSecond c.in_ok-s.ensures in
    let f = holds 1000 _ NoFraction c.in_ok-f.ensures in
    rw (h.0, m.0, s.0, f.0)
    (timed_by c.args.text.now c.args.n _ _ _ _ c.pair.ensures.says c.pair-2.ensures.says c.pair-3.ensures.says c.fraction.ensures.says
    h.1 m.1 s.1 f.1)
