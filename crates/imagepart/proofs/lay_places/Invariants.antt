-- `imagepart::lay_places` meets its contract.
use Rattle.imagepart.specs.Parts.{point_bytes}
use Rattle.imagepart.proofs.Steps.{Laying}
use Rattle.imagepart.proofs.lay_places.Given as goal

abbrev pub invariant-loop-i : goal.invariant-loop-i
invariant-loop-i l = Laying point_bytes l.fn.places 72 l.to l.initial.bytes l.i l.bytes
