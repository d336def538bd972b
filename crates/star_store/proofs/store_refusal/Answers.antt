-- `star_store::store_refusal` meets its contract.
use Rattle.std.proofs.Common.{rules}
use Rattle.star_store.specs.rules.Stored.{store_refusal}
use Rattle.star_store.proofs.store_refusal.Goals as goal

pub returns-in_err-days_refusal : goal.returns-in_err-days_refusal
unfolding store_refusal
returns-in_err-days_refusal c = search rules

pub returns-then-not-is_list : goal.returns-then-not-is_list
unfolding store_refusal
returns-then-not-is_list c = search rules

pub returns-then-n-dec : goal.returns-then-n-dec
unfolding store_refusal
returns-then-n-dec c = search rules

pub returns-else-n-status : goal.returns-else-n-status
unfolding store_refusal
returns-else-n-status c = search rules
