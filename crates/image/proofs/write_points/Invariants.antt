-- `image::write_points` meets its contract.
use Rattle.imagepart.specs.Parts.{points_bytes}
use Rattle.imagepart.proofs.Steps.{Laying}
use Rattle.image.proofs.write_points.Given as goal

abbrev pub invariant-loop-s : goal.invariant-loop-s
invariant-loop-s l = Laying (λ t. points_bytes t.count t.points) l.fn.sheets 577 l.from l.initial.bytes l.s l.bytes
