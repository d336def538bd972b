-- `list::word_at` meets its contract.
use borrow.Author.Rules.{rules}
use Rattle.list.specs.rules.Record.{word_at}
use Rattle.list.proofs.word_at.Goals as goal

pub returns : goal.returns
unfolding word_at
returns c = search rules
