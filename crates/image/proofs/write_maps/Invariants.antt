-- `image::write_maps` meets its contract.
use Rattle.imagepart.proofs.Steps.{Laying}
use Rattle.image.proofs.write_maps.Given as goal

abbrev pub invariant-loop-s : goal.invariant-loop-s
invariant-loop-s l = Laying (λ m. m) l.fn.maps 64 0 l.initial.bytes l.s l.bytes
