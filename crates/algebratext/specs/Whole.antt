-- A text that is a whole algebra: a size line, and operation lines to its end.
use Rattle.std.specs.Prelude.{ℕ, zero, suc, ◌+◌, true, false, List, leb, length}
use Rattle.equivalence.specs.declared.Refusal.TheVariants.{Text}
use Rattle.algebra.specs.Algebra.{Algebra}
use Rattle.numberreader.specs.Reading.{ascii, begins}
use Rattle.reader.specs.Lines.{Progress, defined, refused, sized, operation}

-- the operation line at a place; any other line is 14
unfoldable pub operation_line_at : Algebra → List ℕ → ℕ → Progress
operation_line_at a text at = elim (begins text at (ascii "[op")) [ true ↦ operation a text (at + 3) | false ↦ refused Text ]

-- operation lines behind what the lines before them came to, to the end of the text or a refusal; k is no less than their count
unfoldable pub operations_to_end : ℕ → List ℕ → Progress → Progress
operations_to_end zero text p = p
operations_to_end (suc k) text (refused r) = refused r
operations_to_end (suc k) text (defined a at) =
    elim (leb (length text) at) [ true ↦ defined a at | false ↦ operations_to_end k text (operation_line_at a text at) ]

-- what a whole text comes to; a text has no more lines than bytes
unfoldable pub whole_algebra : List ℕ → Progress
whole_algebra text = operations_to_end (length text) text (sized text 0)
