-- `write_transcript` meets its contract, by the laws of Running.
use borrow.Author.Rules.{rules}
use Rattle.desk.proofs.Running.{paused_ends, left_over, all_left}
use Rattle.desk.proofs.write_transcript.Goals as goal

pub finish-requires : goal.finish-requires
finish-requires c = search (all_left, rules)

pub finish-requires-then-standing : goal.finish-requires-then-standing
finish-requires-then-standing c = left_over _ _ _ _ (search rules) (search rules) (search rules) (search rules)

pub returns : goal.returns
returns c = search paused_ends
