-- `divides_irreducibly`: the quotient stands first in the tables, and gathering on it ends in a pair, or in congruences that split it.
use mathlib.Core.Path.{◌≡◌, refl, ◌∙◌}
use native.Mathlib.Omega.{arith}
use lib.ListN.{length}
use Rattle.certification.proofs.Dividing.{quotient_room, divided_counted, divided_fits, divided_accepted, divided_meet, divided_gathered, divided_joined, divided_all}
use borrow.Author.Rules.{rules}
use Rattle.certification.proofs.maximal.divides_irreducibly.Goals as goal

pub divide-requires-clause-arities_in_bounds : goal.divide-requires-clause-arities_in_bounds
divide-requires-clause-arities_in_bounds c =
    let e : length c.args.storage.now.tables ≡ 32768 = search rules in
    omega (arith, quotient_room c.requires.accepted c.requires.congruence)

pub cell_count-count-requires : goal.cell_count-count-requires
cell_count-count-requires c =
    let p = c.requires in
    let d = divided_counted p.accepted p.congruence (c.from-b.ensures ∙ c.divide.ensures.value) _ c.divide.ensures.out_after refl in
    record { n_bound = d.0; arities_len_bound = d.1; by_index = d.2 }

pub shared_ref_as_front-gather : goal.shared_ref_as_front-gather
shared_ref_as_front-gather c =
    let p = c.requires in
    divided_fits p.accepted p.congruence (c.from-b.ensures ∙ c.divide.ensures.value) _ c.divide.ensures.out_after c.cell_count-count.ensures

pub gather-requires-clause-accepted : goal.gather-requires-clause-accepted
gather-requires-clause-accepted c =
    let p = c.requires in
    divided_accepted p.accepted p.congruence (c.from-b.ensures ∙ c.divide.ensures.value) _ c.divide.ensures.out_after c.cell_count-count.ensures

pub gather-requires-clause-n_in_bounds : goal.gather-requires-clause-n_in_bounds
gather-requires-clause-n_in_bounds c =
    let p = c.requires in
    let e : length c.args.storage.now.met ≡ 64 = search rules in
    omega (arith, divided_meet p.accepted p.congruence (c.from-b.ensures ∙ c.divide.ensures.value) _ c.divide.ensures.out_after c.cell_count-count.ensures)

pub gather-requires-clause-n_in_bounds_2 : goal.gather-requires-clause-n_in_bounds_2
gather-requires-clause-n_in_bounds_2 c =
    let p = c.requires in
    let e : length c.args.storage.now.maps ≡ 4032 = search rules in
    omega (arith, divided_gathered p.accepted p.congruence (c.from-b.ensures ∙ c.divide.ensures.value) _ c.divide.ensures.out_after c.cell_count-count.ensures)

pub returns-in-Joined : goal.returns-in-Joined
returns-in-Joined c =
    let p = c.requires in
    divided_joined p.accepted p.congruence (c.from-b.ensures ∙ c.divide.ensures.value) _ c.divide.ensures.out_after c.cell_count-count.ensures _ _ c.gather.ensures c.in-Joined.is

pub returns-in-All : goal.returns-in-All
returns-in-All c =
    let p = c.requires in
    divided_all p.accepted p.congruence (c.from-b.ensures ∙ c.divide.ensures.value) _ c.divide.ensures.out_after c.cell_count-count.ensures _ _ c.gather.ensures c.in-All.is
