-- `quotient::divide_blocks` meets its contract. The blocks are numbered, the tables are walked, and what the walk writes is the quotient's cells.
use Rattle.std.proofs.Common.{sym, arith}
use lib.Seq.{length-take-le}
use Rattle.equivalence.proofs.BlockNumbers.{blocks_le}
use Rattle.equivalence.proofs.Maps.{of_is_map}
use Rattle.algebra.specs.Algebra.{algebra_of}
use Rattle.algebra.proofs.Accepted.{accepted_well_formed}
use Rattle.quotient.proofs.Numbering.{numbered_front}
use Rattle.quotient.proofs.QuotientTables.{written_quotient, numbered_sound, numbered_fits}
use Rattle.quotient.proofs.divide_blocks.Goals as goal

pub number_blocks-b-requires : goal.number_blocks-b-requires
number_blocks-b-requires c =
    let ok = accepted_well_formed _ c.requires.accepted in
    record { n_bound = ok.most; numbers_room = ok.most; names_room = ok.most; t = c.requires.t }

pub slice_bounds-names-end : goal.slice_bounds-names-end
slice_bounds-names-end c =
    let ok = accepted_well_formed _ c.requires.accepted in
    let r = c.number_blocks-b in
    omega (arith, ok.most, r.ensures.count, blocks_le c.args.n c.args.map.now, r.auto.names)

pub slice_bounds-divide_tables-end-2 : goal.slice_bounds-divide_tables-end-2
slice_bounds-divide_tables-end-2 c =
    let ok = accepted_well_formed _ c.requires.accepted in
    let r = c.number_blocks-b in
    sym (length-take-le r.result r.new.names (omega (arith, ok.most, r.ensures.count, blocks_le c.args.n c.args.map.now, r.auto.names)))

pub divide_tables-requires : goal.divide_tables-requires
divide_tables-requires c =
    let a = algebra_of c.args.n c.args.arities.now c.args.cells.now in
    let ok = accepted_well_formed a c.requires.accepted in
    let r = c.number_blocks-b in
    let p = of_is_map c.args.n c.args.map.now c.requires.t in
    let few = blocks_le c.args.n c.args.map.now in
    let front = numbered_front _ _ _ _ _ r.result (omega arith) (omega (arith, ok.most, few, r.ensures.count, r.auto.names)) r.ensures in
    record {
      source_right = numbered_sound a ok c.args.map.now p _ _ front (omega (arith, ok.most, r.auto.numbers));
      all_fit = numbered_fits a ok c.args.map.now p _ _ front _ c.requires.arities_in_bounds;
    }

pub overflow_cast-result : goal.overflow_cast-result
overflow_cast-result c =
    let ok = accepted_well_formed _ c.requires.accepted in
    omega (arith, ok.most, c.number_blocks-b.ensures.count, blocks_le c.args.n c.args.map.now)

pub returns : goal.returns
returns c =
    let a = algebra_of c.args.n c.args.arities.now c.args.cells.now in
    let ok = accepted_well_formed a c.requires.accepted in
    let r = c.number_blocks-b in
    let p = of_is_map c.args.n c.args.map.now c.requires.t in
    let few = blocks_le c.args.n c.args.map.now in
    let front = numbered_front _ _ _ _ _ r.result (omega arith) (omega (arith, ok.most, few, r.ensures.count, r.auto.names)) r.ensures in
    record { out_after = written_quotient a ok c.args.map.now p _ _ front _ _ c.divide_tables.ensures; value = r.ensures.count }
