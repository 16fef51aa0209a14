-- `write_maps` meets its contract, by the laws of Spacing.
use Rattle.writer.proofs.Spacing.{MapsWritten}
use Rattle.linewriter.proofs.write_maps.Given as goal

abbrev pub invariant-loop-i : goal.invariant-loop-i
invariant-loop-i l = MapsWritten l.initial.out l.put l.n l.maps l.out l.at l.i
