-- How long tables and lines are: brackets and gaps by the arities, digits by the cells.
use Prim.Native.Nat.{ℕ, zero, suc, ◌+◌, ◌*◌, ◌^◌, ◌≤◌, ◌<◌}
use mathlib.Core.List.{List, [], ◌∷◌, ◌++◌, map}
use mathlib.Core.Path.{◌≡◌, ap, ◌∙◌}
use native.Mathlib.Nat.{one-mul, suc-mul, pow-zero, pow-succ'}
use native.Mathlib.Omega.{arith}
use lib.ListN.{length, get_or, take, drop, length-append, length-drop}
use lib.Seq.{take-add, take-take, length-take-le}
use Rattle.equivalence.specs.Lists.{concat}
use Rattle.algebra.specs.Algebra.{algebra_of, cell_count, operations_of, operations}
use Rattle.numberreader.specs.Reading.{ascii}
use Rattle.writer.specs.Numerals.{decimal}
use Rattle.writer.specs.Lines.{gap_bytes, spaced, line}
use Rattle.writer.proofs.Lengths.{one_digit_long, spaced_length}
use Rattle.tablewriter.specs.Texts.{parted_texts, table_text, size_text, operation_text, algebra_text}
use Rattle.tablewriter.specs.InnerFits.{operation_of, TablesThere}
use Rattle.tablewriter.specs.InnerLengths.{frame, frames, figures}

pub figures_append : (xs ys : List ℕ) → figures (xs ++ ys) ≡ figures xs + figures ys
unfolding figures
figures_append [] ys = omega arith
figures_append (x ∷ xs) ys = omega (arith, figures_append xs ys)

-- the first cells, and those behind them
pub figures_parts : (w v : ℕ) (cells : List ℕ) → figures (take (w + v) cells) ≡ figures (take w cells) + figures (take v (drop w cells))
figures_parts w v cells = ap figures (take-add w v cells) ∙ figures_append (take w cells) (take v (drop w cells))

-- a gap is one byte
pub gap_length : (l : List ℕ) → length (gap_bytes ++ l) ≡ 1 + length l
unfolding gap_bytes ascii
gap_length l = omega arith

-- tables of w cells each, whose texts have b bytes beside the digits of their cells
module _ (text : List ℕ → List ℕ) (w b : ℕ)
    (one : (cells : List ℕ) → w ≤ length cells → length (text cells) ≡ b + figures (take w cells)) where
  parted_length : (k : ℕ) (cells : List ℕ) → suc k * w ≤ length cells → length (parted_texts text w (suc k) cells) ≡ suc k * b + k + figures (take (suc k * w) cells)
  unfolding parted_texts
  parted_length zero cells h = rw (one-mul w, one-mul b) (omega (arith, one cells (omega (arith, one-mul w))))
  parted_length (suc k) cells h =
      let e : suc (suc k) * w ≡ w + suc k * w = omega (arith, suc-mul (suc k) w) in
      let d = drop w cells in
      rw e
      (omega (
        arith,
        length-append (text cells) (gap_bytes ++ parted_texts text w (suc k) d),
        gap_length (parted_texts text w (suc k) d),
        one cells (omega (arith, e)),
        parted_length k d (rw length-drop (omega (arith, e))),
        figures_parts w (suc k * w) cells,
        suc-mul (suc k) b,
      ))

  tables_length : (k : ℕ) → 0 < k → (cells : List ℕ) → k * w ≤ length cells → length (parted_texts text w k cells) + 1 ≡ k * b + k + figures (take (k * w) cells)
  tables_length zero h cells g = absurd (omega arith)
  tables_length (suc k) h cells g = omega (arith, parted_length k cells g)

-- one cell
figures_one : (cells : List ℕ) → 0 < length cells → figures (take 1 cells) ≡ length (decimal (get_or cells 0 0))
unfolding figures
figures_one [] h = absurd (omega arith)
figures_one (x ∷ rest) h = omega arith

-- a bracket around its items
bracket_length : (l : List ℕ) → length (ascii "[" ++ (l ++ ascii "]")) ≡ length l + 2
unfolding ascii
bracket_length l = omega (arith, length-append l (93 ∷ []))

pub table_length : (n s : ℕ) → 0 < n → (cells : List ℕ) → n ^ s ≤ length cells → length (table_text n s cells) ≡ frame n s + figures (take (n ^ s) cells)
unfolding table_text frame
table_length n zero h cells g = rw (pow-zero n) (omega (arith, figures_one cells (omega (arith, pow-zero n))))
table_length n (suc s) h cells g =
    let p = tables_length (table_text n s) (n ^ s) (frame n s) (table_length n s h) n h cells (rw (← pow-succ' n s) g) in
    rw (pow-succ' n s) (omega (arith, bracket_length (parted_texts (table_text n s) (n ^ s) n cells), p))

-- `]` and byte 10 behind a word and what follows it
line_length : (word rest : List ℕ) → length (line word rest) ≡ length word + length rest + 2
unfolding line ascii
line_length word rest = omega (arith, length-append (word ++ rest) (93 ∷ 10 ∷ []), length-append word rest)

pub one_spaced : (v : ℕ) → length (spaced (v ∷ [])) ≡ 1 + length (decimal v)
unfolding spaced
one_spaced v = omega (arith, spaced_length v [])

pub size_length : (n : ℕ) → length (size_text n) ≡ 8 + length (decimal n)
unfolding size_text ascii
size_length n = omega (arith, line_length (ascii "[size") (spaced (n ∷ [])), one_spaced n)

-- an operation line has eight bytes beside its table
pub operation_length : (n s : ℕ) (cells : List ℕ) → s ≤ 3 → length (operation_text n (operation_of s cells)) ≡ 8 + length (table_text n s cells)
unfolding operation_text ascii
operation_length n s cells h =
    let t = table_text n s cells in
    omega (
      arith,
      line_length (ascii "[op") (spaced (s ∷ []) ++ (gap_bytes ++ t)),
      length-append (spaced (s ∷ [])) (gap_bytes ++ t),
      gap_length t,
      one_spaced s,
      one_digit_long s (omega arith),
    )

-- the lines of operations
module _ (n : ℕ) (some : 0 < n) where
  lines_length : (arities cells : List ℕ) → ((j : ℕ) → j < length arities → get_or arities j 0 ≤ 3) → cell_count n arities ≤ length cells
      → length (concat (map (operation_text n) (operations_of n arities cells))) ≡ frames n arities + figures (take (cell_count n arities) cells)
  unfolding concat operations_of cell_count frames figures
  lines_length [] cells a h = omega arith
  lines_length (s ∷ rest) cells a h =
      let w = n ^ s in
      let t = take w cells in
      omega (
        arith,
        length-append (operation_text n (operation_of s t)) (concat (map (operation_text n) (operations_of n rest (drop w cells)))),
        operation_length n s t (a 0 (omega arith)),
        table_length n s some t (rw (length-take-le w cells (omega arith)) (omega arith)),
        ap figures (take-take w w cells (omega arith)),
        lines_length rest (drop w cells) (λ j l. a (suc j) (omega arith)) (rw length-drop (omega arith)),
        figures_parts w (cell_count n rest) cells,
      )

  -- the whole text
  pub text_length : (arities cells : List ℕ) → TablesThere n arities cells
      → length (algebra_text (algebra_of n arities cells)) ≡ 8 + length (decimal n) + frames n arities + figures (take (cell_count n arities) cells)
  unfolding algebra_text operations
  text_length arities cells t =
      omega (
        arith,
        length-append (size_text n) (concat (map (operation_text n) (operations_of n arities cells))),
        size_length n,
        lines_length arities cells t.arity t.there,
      )
