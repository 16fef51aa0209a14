-- `run_on` meets its contract, by the laws of Running. The measure is how far the run is from its end.
use mathlib.Core.Path.{◌≡◌}
use lib.ListN.{length}
use Rattle.bracket.specs.Standings.{position_of}
use Rattle.bracket.specs.InnerRemaining.{distance}
use Rattle.desk.specs.InnerRuns.{LendsMost, WrittenOut}
use Rattle.desk.proofs.Running.{paused_at}
use Rattle.desk.proofs.run_on.Given as goal

abbrev pub invariant-loop-standing : goal.invariant-loop-standing
invariant-loop-standing l = WrittenOut l.text l.arities l.room (paused_at l.standing l.written) × (LendsMost l.text l.arities l.room l.out × ((length l.arities ≡ length l.initial.arities) × ((length l.room ≡ length l.initial.room) × (length l.out ≡ length l.initial.out))))

abbrev pub decreases-loop-standing : goal.decreases-loop-standing
decreases-loop-standing l = distance l.text (position_of l.standing l.arities l.room)
