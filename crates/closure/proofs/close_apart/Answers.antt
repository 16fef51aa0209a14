-- `close_apart`: the pair is joined, then all queued elements; and whether v and w are apart after it.
use mathlib.Core.Path.{refl, ◌∙◌}
use Rattle.equivalence.specs.Equivalence.{byte}
use Rattle.kernel.proofs.Kernels.{names_positive}
use Rattle.algebra.proofs.Accepted.{accepted_well_formed}
use Rattle.algebra.specs.Algebra.{algebra_of}
use Rattle.closure.proofs.Collections.{names_total}
use Rattle.closure.proofs.Starting.{accepted_contexts, canonical_ready, congruence_begun, sweeping_start, grown_tried, tried_joined, tried_apart}
use native.Mathlib.Omega.{arith}
use lib.ListN.{replicate}
use Rattle.closure.proofs.close_apart.Goals as goal

pub merge-requires-clause-ready : goal.merge-requires-clause-ready
merge-requires-clause-ready c = let p = c.requires in
    canonical_ready c.args.standing.now.map (replicate 64 0) (accepted_well_formed (algebra_of c.args.n c.args.arities.now c.args.cells.now) c.requires.accepted).most (omega arith) (omega arith) p.padded p.canonical

pub overflow_sub-stop : goal.overflow_sub-stop
overflow_sub-stop c = let w = accepted_well_formed (algebra_of c.args.n c.args.arities.now c.args.cells.now) c.requires.accepted in
    let f = byte c.args.standing.now.map in
    let held = c.requires.names_in_use.in_use in
    let h = c.requires.names_in_use.listed in
    let total = names_total f h in
    let some = names_positive c.args.n f w.some c.requires.canonical in
    let d = c.merge.ensures.grown in
    omega (arith, total, some)

pub close-requires-clause-sweeping : goal.close-requires-clause-sweeping
close-requires-clause-sweeping c = let w = accepted_well_formed (algebra_of c.args.n c.args.arities.now c.args.cells.now) c.requires.accepted in
    let f = byte c.args.standing.now.map in
    let held = c.requires.names_in_use.in_use in
    let h = c.requires.names_in_use.listed in
    let total = names_total f h in
    let some = names_positive c.args.n f w.some c.requires.canonical in
    let d = c.merge.ensures.grown in
    sweeping_start c.args.standing.now.names.count c.args.v c.args.w d.ready c.requires.v_lt_n c.requires.w_lt_n (omega (arith, total, some)) (d.blocks ∙ total)

pub close-requires-clause-contexts : goal.close-requires-clause-contexts
close-requires-clause-contexts c = let w = accepted_well_formed (algebra_of c.args.n c.args.arities.now c.args.cells.now) c.requires.accepted in
    let f = byte c.args.standing.now.map in
    let held = c.requires.names_in_use.in_use in
    let h = c.requires.names_in_use.listed in
    let total = names_total f h in
    let some = names_positive c.args.n f w.some c.requires.canonical in
    let d = c.merge.ensures.grown in
    accepted_contexts c.args.arities.now c.requires.accepted (omega (arith, held)) held.below

pub close-requires-clause-begun : goal.close-requires-clause-begun
close-requires-clause-begun c = let w = accepted_well_formed (algebra_of c.args.n c.args.arities.now c.args.cells.now) c.requires.accepted in
    let f = byte c.args.standing.now.map in
    let held = c.requires.names_in_use.in_use in
    let h = c.requires.names_in_use.listed in
    let total = names_total f h in
    let some = names_positive c.args.n f w.some c.requires.canonical in
    let d = c.merge.ensures.grown in
    congruence_begun (algebra_of c.args.n c.args.arities.now c.args.cells.now) c.requires.canonical c.requires.compatible refl h d

pub returns-then-merging-v : goal.returns-then-merging-v
returns-then-merging-v c = let d = c.merge.ensures in
    let e = c.close.ensures in
    (refl, tried_joined c.requires.v_lt_n c.requires.w_lt_n (grown_tried (algebra_of c.args.n c.args.arities.now c.args.cells.now) c.requires.x_lt_n c.requires.y_lt_n refl c.requires.refused_rightly_above d.grown d.a_after e.swept) c.if-merging-v.true)

pub returns : goal.returns
returns c = let d = c.merge.ensures in
    let e = c.close.ensures in
    let apart = c.if-merging-v.false in
    (e.swept.sweeping.ready.map_room, tried_apart _ (grown_tried (algebra_of c.args.n c.args.arities.now c.args.cells.now) c.requires.x_lt_n c.requires.y_lt_n refl c.requires.refused_rightly_above d.grown d.a_after e.swept) apart (e.names_in_use apart))
