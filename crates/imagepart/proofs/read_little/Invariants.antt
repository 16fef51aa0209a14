-- `imagepart::read_little` meets its contract.
use Rattle.imagepart.proofs.Littles.{Reading}
use Rattle.imagepart.proofs.read_little.Given as goal

abbrev pub invariant-loop-i : goal.invariant-loop-i
invariant-loop-i l = Reading l.bytes l.from l.k l.i l.x
