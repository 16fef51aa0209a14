-- `image::write_tallies` meets its contract.
use Rattle.imagepart.specs.Parts.{little}
use Rattle.imagepart.proofs.Steps.{Laying}
use Rattle.image.proofs.write_tallies.Given as goal

abbrev pub invariant-loop-s : goal.invariant-loop-s
invariant-loop-s l = Laying (λ t. little 8 t.tally) l.fn.sheets 8 513 l.initial.bytes l.s l.bytes
