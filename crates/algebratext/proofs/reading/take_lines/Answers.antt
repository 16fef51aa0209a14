-- `reading::take_lines` meets its contract, by the laws of Taking.
use mathlib.Core.Path.{refl}
use Rattle.numberreader.specs.Reading.{ascii}
use borrow.Author.Rules.{rules}
use Rattle.equivalence.proofs.Refusals.{handed_on}
use Rattle.algebratext.proofs.Taking.{size_line_declined, lines_begin, lines_end, line_other, line_room_lem, operation_line_refused, line_past, lines_go_on}
use Rattle.algebratext.proofs.reading.take_lines.Goals as goal

pub returns-in_err-algebra : goal.returns-in_err-algebra
returns-in_err-algebra c = rw (handed_on c.from_residual.ensures.1) (size_line_declined _ _ c.in_err-algebra.ensures)

pub loop-algebra-init : goal.loop-algebra-init
loop-algebra-init c = (lines_begin _ _ _ _ c.in_ok-algebra.ensures, (refl, refl))

pub returns-then-not-begins_with : goal.returns-then-not-begins_with
unfolding ascii
returns-then-not-begins_with c = search line_other

pub take_operation_line-requires-clause-room_for_cells : goal.take_operation_line-requires-clause-room_for_cells
unfolding ascii
take_operation_line-requires-clause-room_for_cells c = search line_room_lem

pub returns-in_err-algebra-2 : goal.returns-in_err-algebra-2
unfolding ascii
returns-in_err-algebra-2 c =
    rw (handed_on c.from_residual-in_err-algebra-2.ensures.1) (let t = c.in_err-algebra-2.ensures in search operation_line_refused)

pub loop-algebra-smaller : goal.loop-algebra-smaller
unfolding ascii
loop-algebra-smaller c = let t = c.in_ok-algebra-2.ensures in search line_past

pub loop-algebra-preserved : goal.loop-algebra-preserved
unfolding ascii
loop-algebra-preserved c = let t = c.in_ok-algebra-2.ensures in (search lines_go_on, search rules)

pub returns : goal.returns
returns c = search lines_end
