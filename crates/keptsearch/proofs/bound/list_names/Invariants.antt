-- `list_names`: the names below x are listed.
use lib.ListN.{length}
use Rattle.equivalence.specs.Equivalence.{byte}
use Rattle.keptsearch.proofs.Listing.{Listed}
use Rattle.keptsearch.proofs.bound.list_names.Given as goal

abbrev pub invariant-loop-x : goal.invariant-loop-x
invariant-loop-x l = Listed l.x (length l.initial.names) (byte l.m) l.names l.len
