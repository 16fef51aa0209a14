-- `lengths::second_digits` meets its contract, by the laws of Counting: a part more in each turn.
use Rattle.std.proofs.Common.{rules, ◌∙◌}
use Rattle.std.specs.Slice.Iter.{chunks_rest}
use Rattle.tablewriter.proofs.Counting.{parts_more, parts_all}
use Rattle.tablewriter.proofs.lengths.second_digits.Goals as goal

pub loop-part-preserved : goal.loop-part-preserved
loop-part-preserved c =
    let p = c.loop-part.invariant in
    let steps = c.in-Some.ensures.steps in
    let more = parts_more _ _ _ _ (chunks_rest c.next.new.self) p.3 steps.1.0 _ c.second_digits_of_few.ensures in
    (search rules, tt, steps.0 ∙ p.2, rw c.from-count.ensures more)

pub returns : goal.returns
returns c = parts_all _ _ _ c.loop-part.invariant.3 c.in-None.ensures.steps.1.0
