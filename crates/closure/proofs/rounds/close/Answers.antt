-- `close`: the first k of the queue are dealt with (`Running`); at the end of the queue the map is compatible, and the elements in use are its names.
use Rattle.algebra.specs.Algebra.{algebra_of}
use Rattle.closure.proofs.Closings.{running_more, running_due, running_left, rounds_more, rounds_halted, rounds_all, halted_joined, use_contexts, front_swept, front_contexts}
use native.Mathlib.Omega.{arith}
use Rattle.closure.proofs.rounds.close.Goals as goal

pub returns-then-halted-clause-swept : goal.returns-then-halted-clause-swept
returns-then-halted-clause-swept c = let l = c.loop-k in
    let h = c.halted.ensures in
    rounds_halted (algebra_of c.args.n c.args.arities.now c.args.cells.now) c.requires.accepted l.invariant.3 h c.if-halted.true

pub returns-then-halted-clause-names_in_use : goal.returns-then-halted-clause-names_in_use
returns-then-halted-clause-names_in_use c = let l = c.loop-k in
    let h = c.halted.ensures in
    halted_joined l.invariant.3.sweeping h c.if-halted.true

pub retire-requires-clause-listed : goal.retire-requires-clause-listed
retire-requires-clause-listed c = let l = c.loop-k in
    running_due l.invariant.4 l.invariant.3.sweeping.ready.queued c.loop-k-test.true

pub operations-requires-clause-contexts : goal.operations-requires-clause-contexts
operations-requires-clause-contexts c = front_contexts c.loop-k.live.list (omega (arith, c.loop-k.invariant.2.live_room)) c.loop-k.invariant.2

pub loop-k-preserved : goal.loop-k-preserved
loop-k-preserved c = let a = algebra_of c.args.n c.args.arities.now c.args.cells.now in
    let l = c.loop-k in
    let k = c.loop-k-test.true in
    let d = front_swept l.live.list (omega (arith, l.invariant.2.live_room)) a c.operations.ensures in
    let out = c.retire.ensures in (
      omega (arith, d.grown.longer, k),
      out.in_use,
      use_contexts l.invariant.2 out.in_use,
      rounds_more a l.invariant.2 l.invariant.3 k d,
      running_more a c.requires.accepted l.invariant.4 k l.invariant.3.sweeping d out,
    )

pub returns-clause-swept : goal.returns-clause-swept
returns-clause-swept c = let l = c.loop-k in
    let e = c.loop-k-test.false in
    rounds_all (algebra_of c.args.n c.args.arities.now c.args.cells.now) c.requires.accepted l.invariant.3 l.invariant.4 e

pub returns-clause-names_in_use : goal.returns-clause-names_in_use
returns-clause-names_in_use c = let l = c.loop-k in
    let e = c.loop-k-test.false in
    λ apart. running_left l.invariant.4 l.invariant.3.sweeping.ready.queued l.invariant.0 e l.invariant.1
