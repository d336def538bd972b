-- `aberr_args::argument` meets its contract.
use mathlib.Core.Path.{sym, ap, ◌∙◌}
use Rattle.aberr_args.specs.declared.Multipliers.{Multipliers}
use Rattle.aberr_args.specs.rules.Row.{argument_of}
use Rattle.aberr_args.proofs.argument.Goals as goal

pub returns-then-m : goal.returns-then-m
unfolding argument_of
returns-then-m c =
    let bracketed = ap (λ (y : Multipliers). y.bracketed) (sym c.multipliers_of-m.ensures) ∙ c.if-m.true in
    rw (bracketed, c.multipliers_of-m.ensures, c.angle_of-a.ensures, c.angle_of.ensures)

pub returns : goal.returns
unfolding argument_of
returns c =
    let spread = ap (λ (y : Multipliers). y.bracketed) (sym c.multipliers_of-m.ensures) ∙ c.if-m.false in
    rw (
      spread,
      c.with_angle.ensures,
      c.with_angle-two.ensures,
      c.times-one.ensures,
      c.multipliers_of-m.ensures,
      c.angle_of-a.ensures,
    )
