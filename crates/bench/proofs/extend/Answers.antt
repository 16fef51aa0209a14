-- `bench::extend` meets its contract.
use mathlib.Core.Path.{◌∙◌}
use Rattle.benchsheets.specs.State.{sheet_of}
use Rattle.bench.proofs.Adding.{grown_call}
use Rattle.benchtests.proofs.Testing.{add_passed}
use Rattle.bench.proofs.extend.Goals as goal

pub nth-old-requires : goal.nth-old-requires
nth-old-requires c = (add_passed _ _ _ _ _ c.requires).placed.sheet

pub extended-grown-requires-clause-accepted : goal.extended-grown-requires-clause-accepted
unfolding sheet_of
extended-grown-requires-clause-accepted c = let p = add_passed _ _ _ _ _ c.requires in
    p.accepted

pub extended-grown-requires-clause-t : goal.extended-grown-requires-clause-t
unfolding sheet_of
extended-grown-requires-clause-t c = let p = add_passed _ _ _ _ _ c.requires in
    rw c.nth-old.ensures.0 (p.placed.faultless.sheets _ c.nth-old.ensures.1).map

pub extended-grown-requires-clause-x_lt_n : goal.extended-grown-requires-clause-x_lt_n
unfolding sheet_of
extended-grown-requires-clause-x_lt_n c = let p = add_passed _ _ _ _ _ c.requires in
    p.placed.first

pub extended-grown-requires-clause-y_lt_n : goal.extended-grown-requires-clause-y_lt_n
unfolding sheet_of
extended-grown-requires-clause-y_lt_n c = let p = add_passed _ _ _ _ _ c.requires in
    p.placed.second

pub returns : goal.returns
unfolding sheet_of
returns c = let old = c.nth-old.ensures.0 in
    let pre = c.requires in
    c.raised.ensures ∙ grown_call _ _ _ _ _ pre _ _ _ old c.extended-grown.ensures
