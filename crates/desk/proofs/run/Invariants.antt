-- `run` meets its contract, by the laws of Running. The measure is how far the run is from its end.
use mathlib.Core.Path.{◌≡◌}
use lib.ListN.{length}
use Rattle.bracket.specs.Standings.{position_of}
use Rattle.bracket.specs.InnerRemaining.{distance}
use Rattle.desk.specs.InnerRuns.{Lends, WrittenOut}
use Rattle.desk.proofs.Running.{paused_at}
use Rattle.desk.proofs.run.Given as goal

abbrev pub invariant-loop-arities : goal.invariant-loop-arities
invariant-loop-arities l = WrittenOut l.text l.arities l.room (paused_at l.standing l.written) × (Lends l.text l.arities l.room l.out × ((length l.arities ≡ length l.initial.arities) × ((length l.room ≡ length l.initial.room) × (length l.out ≡ length l.initial.out))))

abbrev pub decreases-loop-arities : goal.decreases-loop-arities
decreases-loop-arities l = distance l.text (position_of l.standing l.arities l.room)
