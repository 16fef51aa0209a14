-- `run::take_lines` meets its contract, by the laws of Gathering. The measure is how far the run is from its end.
use Rattle.bracket.specs.InnerRemaining.{distance}
use Rattle.bracket.proofs.Gathering.{LinesGathered}
use Rattle.bracket.specs.Standings.{position_of}
use Rattle.bracket.proofs.run.take_lines.Given as goal

abbrev pub invariant-loop-standing : goal.invariant-loop-standing
invariant-loop-standing l = LinesGathered l.text l.initial.standing l.initial.arities l.initial.room l.initial.out l.standing l.arities l.room l.out l.put

abbrev pub decreases-loop-standing : goal.decreases-loop-standing
decreases-loop-standing l = distance l.text (position_of l.standing l.arities l.room)
