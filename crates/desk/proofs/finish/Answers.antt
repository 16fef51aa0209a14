-- `finish` meets its contract, by the laws of Running.
use borrow.Author.Rules.{rules}
use Rattle.desk.proofs.Running.{written_carried, lends_finish}
use Rattle.desk.proofs.finish.Goals as goal

pub run_on-requires-clause-lends_most : goal.run_on-requires-clause-lends_most
run_on-requires-clause-lends_most c = search (lends_finish, rules)

pub run_on-requires-clause-written_out : goal.run_on-requires-clause-written_out
run_on-requires-clause-written_out c = search written_carried
