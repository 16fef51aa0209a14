-- `others`: the elements passed that are no names are collected.
use mathlib.Core.Path.{◌≡◌}
use mathlib.Core.Bool.{not}
use lib.ListN.{length}
use lib.Dec.{eqb}
use Rattle.closure.specs.InnerStarts.{Collected}
use Rattle.equivalence.specs.Equivalence.{byte}
use Rattle.closure.proofs.start.others.Given as goal

abbrev pub invariant-loop-x : goal.invariant-loop-x
invariant-loop-x l = (length l.out ≡ length l.initial.out) × Collected (λ z. not (eqb (byte l.m z) z)) l.x (byte l.out) l.len
