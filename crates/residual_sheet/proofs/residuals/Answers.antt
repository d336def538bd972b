-- `residual_sheet::residuals` meets its contract.
use Rattle.std.proofs.Common.{rules}
use mathlib.Core.Path.{sym}
use Rattle.residual_sheet.specs.rules.Residuals.{residuals_rule}
use Rattle.residual_sheet.specs.notions.Accepted.{Accepted}
use Rattle.residual_sheet.specs.laws.Residuals.{slices_accepted}
use Rattle.residual_sheet.proofs.residuals.Goals as goal

pub returns-in_err-residuals_refusal : goal.returns-in_err-residuals_refusal
unfolding residuals_rule
returns-in_err-residuals_refusal c = search rules

pub coordinate_sheet-a-requires : goal.coordinate_sheet-a-requires
coordinate_sheet-a-requires c =
    let g = c.args in
    let a : Accepted g.status.now g.asc.now g.dec.now g.measured_asc.now g.measured_dec.now =
    slices_accepted g.status.now g.asc.now g.dec.now g.measured_asc.now g.measured_dec.now
    (sym c.in_ok-residuals_refusal.ensures) in
    record {
      status_len_bound = a.equal.few;
      computed_len = a.equal.first;
      measured_len = a.equal.third;
      computed_value = a.ascs;
      measured_value = a.measured_ascs;
    }

pub coordinate_sheet-d-requires : goal.coordinate_sheet-d-requires
coordinate_sheet-d-requires c =
    let g = c.args in
    let a : Accepted g.status.now g.asc.now g.dec.now g.measured_asc.now g.measured_dec.now =
    slices_accepted g.status.now g.asc.now g.dec.now g.measured_asc.now g.measured_dec.now
    (sym c.in_ok-residuals_refusal.ensures) in
    record {
      status_len_bound = a.equal.few;
      computed_len = a.equal.second;
      measured_len = a.equal.fourth;
      computed_value = a.decs;
      measured_value = a.measured_decs;
    }

pub returns : goal.returns
unfolding residuals_rule
returns c = search rules
