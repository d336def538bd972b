-- `text_fields::is_stop` meets its contract.
use mathlib.Core.Path.{sym, ap, ◌∙◌}
use mathlib.Core.Bool.{not}
use Rattle.text_fields.specs.declared.Stop.{Stop}
use Rattle.text_fields.specs.rules.Fields.{is_stop}
use Rattle.text_fields.proofs.is_stop.Goals as goal

pub returns-in-LineEnd : goal.returns-in-LineEnd
unfolding is_stop
returns-in-LineEnd c = ap (λ (s : Stop). is_stop s c.args.b) (sym c.in-LineEnd.is)

pub returns-in-Hash : goal.returns-in-Hash
unfolding is_stop
returns-in-Hash c = ap (λ (s : Stop). is_stop s c.args.b) (sym c.in-Hash.is)

pub returns-in-Blank : goal.returns-in-Blank
unfolding is_stop
returns-in-Blank c = c.is_blank.ensures ∙ ap (λ (s : Stop). is_stop s c.args.b) (sym c.in-Blank.is)

pub returns-in-Field : goal.returns-in-Field
unfolding is_stop
returns-in-Field c =
    ap not c.is_blank-in-Field.ensures ∙ ap (λ (s : Stop). is_stop s c.args.b) (sym c.in-Field.is)
