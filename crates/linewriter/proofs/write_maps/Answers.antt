-- `write_maps` meets its contract, by the laws of Spacing.
use lib.ListN.{length-take, length-drop}
use native.Mathlib.Omega.{arith}
use Prim.Native.Nat.{◌*◌}
use Rattle.writer.proofs.Spacing.{OneMore, maps_written_none, maps_written_room, maps_written_more, maps_written_all, maps_written_short}
use Rattle.linewriter.proofs.write_maps.Goals as goal

pub loop-i-init : goal.loop-i-init
loop-i-init c = maps_written_none _ _ _ _ (omega arith)

pub overflow_mul-from : goal.overflow_mul-from
overflow_mul-from c =
    let turn : OneMore c.args.n c.args.maps.now c.loop-i.out c.loop-i.at (c.loop-i.i * c.args.n) = search maps_written_room in
    omega (arith, turn)

pub slice_bounds-write_spaced_bracket-end : goal.slice_bounds-write_spaced_bracket-end
slice_bounds-write_spaced_bracket-end c =
    let turn : OneMore c.args.n c.args.maps.now c.loop-i.out c.loop-i.at (c.loop-i.i * c.args.n) = search maps_written_room in
    omega (arith, turn)

pub write_spaced_bracket-at-requires : goal.write_spaced_bracket-at-requires
write_spaced_bracket-at-requires c =
    let turn : OneMore c.args.n c.args.maps.now c.loop-i.out c.loop-i.at (c.loop-i.i * c.args.n) = search maps_written_room in
    simp (length-take, length-drop) (omega (arith, turn))

pub loop-i-preserved : goal.loop-i-preserved
loop-i-preserved c = search maps_written_more

pub returns-clause-laid : goal.returns-clause-laid
returns-clause-laid c = maps_written_all _ _ _ _ _ _ _ c.loop-i.invariant _ (omega arith) (omega arith)

pub returns-clause-short : goal.returns-clause-short
returns-clause-short c = maps_written_short _ _ _ _ _ _ _ c.loop-i.invariant _ (omega arith) (omega arith)
