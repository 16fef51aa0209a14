-- `merge`: nothing is done, or a merge with its push.
use Rattle.sweep.proofs.Queues.{ready_place, pushed_grown, pushed_joined}
use native.Mathlib.Omega.{arith}
use Rattle.sweep.proofs.queue.Merging.merge.Goals as goal

pub bounds-self-self : goal.bounds-self-self
bounds-self-self c = let p = c.requires in omega (arith, ready_place p.ready p.a_lt_n)

pub returns-clause-grown : goal.returns-clause-grown
returns-clause-grown c = let d = c.relabel_all in
    let larger = c.larger-old.ensures in
    let smaller = c.smaller-new.ensures in
    let apart = c.if-p-q.false in
    pushed_grown c.args.self.now.map d.new.m c.args.self.now.queue c.requires.ready c.requires.a_lt_n c.requires.b_lt_n apart larger smaller (omega arith) d.ensures

pub returns-clause-a_after : goal.returns-clause-a_after
returns-clause-a_after c = let d = c.relabel_all in
    let larger = c.larger-old.ensures in
    let smaller = c.smaller-new.ensures in
    let apart = c.if-p-q.false in
    pushed_joined c.args.self.now.map d.new.m c.args.self.now.queue c.requires.ready c.requires.a_lt_n c.requires.b_lt_n apart larger smaller (omega arith) d.ensures
