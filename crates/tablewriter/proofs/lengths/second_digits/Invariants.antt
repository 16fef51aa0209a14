-- `lengths::second_digits` meets its contract, by the laws of Counting: a part more in each turn.
use Rattle.std.specs.Prelude.{◌≡◌}
use Rattle.std.specs.Slice.Iter.{chunks_rest, chunks_size}
use Rattle.tablewriter.proofs.Counting.{CountedBefore}
use Rattle.tablewriter.proofs.lengths.second_digits.Given as goal

abbrev pub invariant-loop-part : goal.invariant-loop-part
invariant-loop-part l =
    goal.iterator-loop-part.can_next l.part-iterator
    × goal.iterator-loop-part.is_finite l.part-iterator
    × (chunks_size l.part-iterator ≡ 128)
    × CountedBefore l.m l.count (chunks_rest l.part-iterator)
