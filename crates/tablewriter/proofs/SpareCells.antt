-- Cells behind those of the tables are not written.
use Prim.Native.Nat.{ℕ, ◌^◌, ◌≤◌}
use mathlib.Core.List.{List, [], ◌∷◌, ◌++◌, map}
use mathlib.Core.Path.{◌≡◌, refl, ap}
use native.Mathlib.Omega.{arith}
use lib.ListN.{length, drop, length-drop}
use lib.Seq.{take-append-le, drop-append-le}
use Rattle.equivalence.specs.Lists.{concat}
use Rattle.algebra.specs.Algebra.{Operation, algebra_of, cell_count, operations_of, operations}
use Rattle.tablewriter.specs.Texts.{size_text, operation_text, algebra_text}

-- the operations are those of the first cells
operations_spare : (n : ℕ) (arities cells spare : List ℕ) → cell_count n arities ≤ length cells → operations_of n arities (cells ++ spare) ≡ operations_of n arities cells
unfolding operations_of cell_count
operations_spare n [] cells spare h = refl
operations_spare n (s ∷ rest) cells spare h =
    let here : n ^ s ≤ length cells = omega arith in
    rw (
      take-append-le (n ^ s) cells spare here,
      drop-append-le (n ^ s) cells spare here,
      operations_spare n rest (drop (n ^ s) cells) spare (omega (arith, length-drop (n ^ s) cells)),
    )

-- and so is the text
pub text_spare : (n : ℕ) (arities cells spare : List ℕ) → cell_count n arities ≤ length cells
    → algebra_text (algebra_of n arities (cells ++ spare)) ≡ algebra_text (algebra_of n arities cells)
unfolding algebra_text operations
text_spare n arities cells spare h = ap (λ (l : List Operation). size_text n ++ concat (map (operation_text n) l)) (operations_spare n arities cells spare h)
