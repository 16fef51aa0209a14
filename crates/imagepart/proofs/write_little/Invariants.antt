-- `imagepart::write_little` meets its contract.
use Rattle.imagepart.proofs.Littles.{Writing}
use Rattle.imagepart.proofs.write_little.Given as goal

abbrev pub invariant-loop-i : goal.invariant-loop-i
invariant-loop-i l = Writing l.initial.bytes l.to l.k l.x l.i l.rest l.bytes
