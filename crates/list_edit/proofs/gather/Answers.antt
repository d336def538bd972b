-- `list_edit::gather` meets its contract.
use mathlib.Core.Path.{refl, sym, ◌∙◌}
use Rattle.list_edit.specs.laws.Edit.{no_list, edits}
use Rattle.list_edit.specs.laws.Passes.{both_passes}
use Rattle.list_edit.proofs.gather.Goals as goal

pub returns-then-not-is_list : goal.returns-then-not-is_list
returns-then-not-is_list c = no_list _ _ (sym c.is_list.ensures ∙ c.if-not-is_list.true)

pub returns : goal.returns
returns c =
    let t = sym c.is_list.ensures ∙ c.if-not-is_list.false in
    edits _ _ _ _ t refl (both_passes _ t _ _ _ _ c.bring_forward-at.ensures c.put_zeros.ensures)
