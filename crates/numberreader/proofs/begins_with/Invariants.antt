-- `numberreader::begins_with` meets its contract, by the laws of Words.
use Rattle.numberreader.proofs.Words.{Matched}
use Rattle.numberreader.proofs.begins_with.Given as goal

abbrev pub invariant-loop-i : goal.invariant-loop-i
invariant-loop-i l = Matched l.text l.at l.word l.i
