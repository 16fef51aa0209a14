-- `close_with_in`: above the identity, with the elements that are no names queued and the pair joined, to the end of the queue.
use mathlib.Core.Logic.{inl, inr}
use mathlib.Core.Path.{refl, sym, ◌∙◌}
use Rattle.equivalence.specs.Equivalence.{byte}
use Rattle.sweep.proofs.Queues.{in_queue_kept}
use Rattle.algebra.proofs.Accepted.{accepted_well_formed}
use Rattle.algebra.specs.Algebra.{algebra_of}
use Rattle.closure.proofs.Collections.{others_total}
use Rattle.closure.proofs.Starting.{accepted_contexts, others_ready, others_lost, identity_use, identity_begun, sweeping_start, grown_closed}
use native.Mathlib.Omega.{arith}
use Rattle.closure.proofs.close_with_in.Goals as goal

pub others-old-requires-clause-n_in_bounds : goal.others-old-requires-clause-n_in_bounds
others-old-requires-clause-n_in_bounds c = omega (arith, (accepted_well_formed (algebra_of c.args.n c.args.arities.now c.args.cells.now) c.requires.accepted).most)

pub others-old-requires-clause-n_in_bounds_2 : goal.others-old-requires-clause-n_in_bounds_2
others-old-requires-clause-n_in_bounds_2 c = omega (arith, (accepted_well_formed (algebra_of c.args.n c.args.arities.now c.args.cells.now) c.requires.accepted).most)

pub others-old-requires-clause-n_bound : goal.others-old-requires-clause-n_bound
others-old-requires-clause-n_bound c = omega (arith, (accepted_well_formed (algebra_of c.args.n c.args.arities.now c.args.cells.now) c.requires.accepted).most)

pub overflow_cast-x : goal.overflow_cast-x
overflow_cast-x c = omega (arith, (accepted_well_formed (algebra_of c.args.n c.args.arities.now c.args.cells.now) c.requires.accepted).most)

pub overflow_cast-y : goal.overflow_cast-y
overflow_cast-y c = omega (arith, (accepted_well_formed (algebra_of c.args.n c.args.arities.now c.args.cells.now) c.requires.accepted).most)

pub merge-requires-clause-ready : goal.merge-requires-clause-ready
merge-requires-clause-ready c = let old = c.others-old in
    let p = c.requires in
    others_ready c.args.m.now old.new.out (accepted_well_formed (algebra_of c.args.n c.args.arities.now c.args.cells.now) c.requires.accepted).most (omega arith) (omega (arith, old.auto)) p.padded p.canonical old.ensures

pub close-requires-clause-sweeping : goal.close-requires-clause-sweeping
close-requires-clause-sweeping c = let n = c.args.n in
    let w = accepted_well_formed (algebra_of c.args.n c.args.arities.now c.args.cells.now) c.requires.accepted in
    let f = byte c.args.m.now in
    let h = c.others-old.ensures in
    let d = c.merge.ensures.grown in
    let held = identity_use {live = c.fresh.result} {places = c.fresh-2.result} w.most (omega arith) (omega arith) c.fresh.ensures c.fresh-2.ensures in
    let total = d.blocks ∙ others_total f h in
    sweeping_start n 0 0 d.ready w.some w.some w.some total

pub close-requires-clause-contexts : goal.close-requires-clause-contexts
close-requires-clause-contexts c = let n = c.args.n in
    let w = accepted_well_formed (algebra_of c.args.n c.args.arities.now c.args.cells.now) c.requires.accepted in
    let f = byte c.args.m.now in
    let h = c.others-old.ensures in
    let d = c.merge.ensures.grown in
    let held = identity_use {live = c.fresh.result} {places = c.fresh-2.result} w.most (omega arith) (omega arith) c.fresh.ensures c.fresh-2.ensures in
    let total = d.blocks ∙ others_total f h in
    accepted_contexts c.args.arities.now c.requires.accepted (omega (arith, held)) held.below

pub close-requires-clause-in_use : goal.close-requires-clause-in_use
close-requires-clause-in_use c = let n = c.args.n in
    let w = accepted_well_formed (algebra_of c.args.n c.args.arities.now c.args.cells.now) c.requires.accepted in
    let f = byte c.args.m.now in
    let h = c.others-old.ensures in
    let d = c.merge.ensures.grown in
    let held = identity_use {live = c.fresh.result} {places = c.fresh-2.result} w.most (omega arith) (omega arith) c.fresh.ensures c.fresh-2.ensures in
    let total = d.blocks ∙ others_total f h in
    held

pub close-requires-clause-begun : goal.close-requires-clause-begun
close-requires-clause-begun c = let n = c.args.n in
    let w = accepted_well_formed (algebra_of c.args.n c.args.arities.now c.args.cells.now) c.requires.accepted in
    let f = byte c.args.m.now in
    let h = c.others-old.ensures in
    let d = c.merge.ensures.grown in
    let held = identity_use {live = c.fresh.result} {places = c.fresh-2.result} w.most (omega arith) (omega arith) c.fresh.ensures c.fresh-2.ensures in
    let total = d.blocks ∙ others_total f h in
    identity_begun (algebra_of c.args.n c.args.arities.now c.args.cells.now) (λ x l. c.fresh.ensures x (omega (arith, w.most, l)))
    (λ x l. elim (others_lost f h x l) [ inl e ↦ d.pushed x l e | inr e ↦ inr (in_queue_kept d x e) ]) (sym total)

pub returns-clause-closed : goal.returns-clause-closed
returns-clause-closed c = let p = c.requires in
    let d = c.merge.ensures in
    let e = c.close.ensures.swept in
    grown_closed (algebra_of c.args.n c.args.arities.now c.args.cells.now) (λ g good. good) d.grown e refl
    (λ b h lb lh z. e.grown.within b h lb lh (d.grown.within b h lb lh z), e.grown.within c.args.x c.args.y p.x_lt_n p.y_lt_n d.a_after)
