-- `aberr::stell_aberr_in_eq_coords` meets its contract.
use Rattle.std.proofs.Common.{rules}
use Rattle.aberr.specs.rules.Star.{stell_aberr_in_eq_coords_rule}
use Rattle.aberr.proofs.stell_aberr_in_eq_coords.Goals as goal

pub returns-in_err-stell_aberr_refusal : goal.returns-in_err-stell_aberr_refusal
unfolding stell_aberr_in_eq_coords_rule
returns-in_err-stell_aberr_refusal c = search rules

pub returns : goal.returns
unfolding stell_aberr_in_eq_coords_rule
returns c = search rules
