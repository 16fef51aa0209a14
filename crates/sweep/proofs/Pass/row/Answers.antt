-- `row`: the plane, then, of a deep table, the line.
use borrow.Author.Tests.{not-true, not-false}
use Rattle.sweep.proofs.TableLaws.{last_fits, middle_fits, across_start, first_fits, row_flat, row_deep}
use Rattle.sweep.proofs.Pass.row.Goals as goal

pub lines_of-last-requires-clause-scale_bound : goal.lines_of-last-requires-clause-scale_bound
lines_of-last-requires-clause-scale_bound c = let p = c.requires in
    (last_fits p.sweeping p.contexts p.row_inside c.shifted_by-plane.ensures).0

pub lines_of-last-requires-clause-scale_bound_2 : goal.lines_of-last-requires-clause-scale_bound_2
lines_of-last-requires-clause-scale_bound_2 c = let p = c.requires in
    (last_fits p.sweeping p.contexts p.row_inside c.shifted_by-plane.ensures).1

pub lines_of-middle-requires-clause-scale_bound : goal.lines_of-middle-requires-clause-scale_bound
lines_of-middle-requires-clause-scale_bound c = let p = c.requires in
    (middle_fits p.sweeping p.contexts p.row_inside c.shifted_by-plane.ensures).0

pub lines_of-middle-requires-clause-scale_bound_2 : goal.lines_of-middle-requires-clause-scale_bound_2
lines_of-middle-requires-clause-scale_bound_2 c = let p = c.requires in
    (middle_fits p.sweeping p.contexts p.row_inside c.shifted_by-plane.ensures).1

pub returns-then-not-deep : goal.returns-then-not-deep
returns-then-not-deep c = row_flat c.shifted_by-plane.ensures c.lines_of-last.ensures c.lines_of-middle.ensures c.cross.ensures (not-true _ c.if-not-deep.true-raw)

pub shifted_by-requires : goal.shifted_by-requires
shifted_by-requires c = let p = c.requires in across_start p.sweeping p.contexts p.row_inside (not-false _ c.if-not-deep.false-raw)

pub lines_of-first-requires-clause-scale_bound : goal.lines_of-first-requires-clause-scale_bound
lines_of-first-requires-clause-scale_bound c = let p = c.requires in
    (first_fits p.sweeping p.contexts p.row_inside (not-false _ c.if-not-deep.false-raw) c.shifted_by.ensures).0

pub lines_of-first-requires-clause-scale_bound_2 : goal.lines_of-first-requires-clause-scale_bound_2
lines_of-first-requires-clause-scale_bound_2 c = let p = c.requires in
    (first_fits p.sweeping p.contexts p.row_inside (not-false _ c.if-not-deep.false-raw) c.shifted_by.ensures).1

pub returns : goal.returns
returns c = let p = c.requires in
    let plane = c.shifted_by-plane.ensures in
    let across = c.shifted_by.ensures in
    let first = c.lines_of-first.ensures in
    let deep = not-false _ c.if-not-deep.false-raw in
    row_deep p.contexts p.row_inside plane c.lines_of-last.ensures c.lines_of-middle.ensures c.cross.ensures across first c.line.ensures deep
