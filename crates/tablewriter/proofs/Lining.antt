-- Lines written piece by piece, and all lines one after the other: there is room for each, and together they are the text.
use Prim.Native.Nat.{ℕ, ◌+◌, ◌-◌, ◌^◌, ◌≤◌, ◌<◌}
use mathlib.Core.List.{List, [], ◌∷◌, ◌++◌, map, map-append, append_assoc, append-nil}
use mathlib.Core.Path.{◌≡◌, refl, ap, sym, ◌∙◌}
use native.Mathlib.Numerals.{add-one}
use native.Mathlib.Omega.{arith}
use lib.ListN.{length, get_or, take, drop, length-append, length-drop, take-append-drop}
use lib.Seq.{drop-drop, take_all, take-suc, length-take-le}
use Rattle.equivalence.specs.Lists.{concat}
use Rattle.equivalence.proofs.Stretches.{concat_append}
use Rattle.algebra.specs.Algebra.{Operation, algebra_of, cell_count, operations_of, operations}
use Rattle.algebra.proofs.Tables.{start_next, start_first, start_room}
use Rattle.numberreader.specs.Reading.{ascii}
use Rattle.tablereader.specs.Laying.{Laid}
use Rattle.tablereader.proofs.Laying.{laid_none, laid_more}
use Rattle.writer.specs.Lines.{gap_bytes, spaced, line}
use Rattle.writer.proofs.Digits.{decimal_some}
use Rattle.writer.proofs.Lengths.{one_digit_long}
use Rattle.writer.proofs.Spacing.{line_written}
use Rattle.tablewriter.specs.Texts.{table_text, size_text, operation_text, algebra_text}
use Rattle.tablewriter.specs.InnerFits.{TableFits, operation_of, arity_text, operations_text, OperationFits, OperationsFit, LinesFit}
use Rattle.tablewriter.proofs.TextLengths.{one_spaced, size_length, operation_length}

-- the size line
module _ (n : ℕ) (lent : List ℕ) (room : length (size_text n) ≤ length lent) where
  pub size_word_fits : 5 ≤ length lent
  size_word_fits = omega (arith, room, size_length n)

  module _ (mid : List ℕ) (at : ℕ) (p : Laid lent 0 (ascii "[size") mid at) where
    pub size_number_fits : at + 4 ≤ length mid
    unfolding ascii
    size_number_fits = omega (arith, room, size_length n, decimal_some n, p.place, p.long)

    module _ (mid' : List ℕ) (at' : ℕ) (q : Laid mid at (spaced (n ∷ [])) mid' at') where
      pub size_close_fits : at' + 2 ≤ length mid'
      unfolding ascii
      size_close_fits = omega (arith, room, size_length n, one_spaced n, p.place, p.long, q.place, q.long)

      pub size_written : (out : List ℕ) (end : ℕ) → Laid mid' at' (ascii "]\n") out end → Laid lent 0 (size_text n) out end
      unfolding size_text
      size_written out end r = line_written lent 0 mid at out end (ascii "[size") (spaced (n ∷ [])) mid' at' p q r

-- the start of an operation line
module _ (s : ℕ) (lent : List ℕ) (put : ℕ) (room : put + 7 ≤ length lent) (most : s ≤ 3) (mid : List ℕ) (at : ℕ) (p : Laid lent put (ascii "[op") mid at) where
  module _ (mid' : List ℕ) (at' : ℕ) (q : Laid mid at (spaced (s ∷ [])) mid' at') where
    pub arity_gap_fits : at' < length mid'
    unfolding ascii
    arity_gap_fits = omega (arith, room, p.place, p.long, q.place, q.long, one_spaced s, one_digit_long s (omega arith))

    pub arity_written : (out : List ℕ) (end : ℕ) → Laid mid' at' gap_bytes out end → Laid lent put (arity_text s) out end
    unfolding arity_text
    arity_written out end r =
        laid_more lent put (ascii "[op") mid at (spaced (s ∷ []) ++ gap_bytes) out end p (laid_more mid at (spaced (s ∷ [])) mid' at' gap_bytes out end q r)

-- it has six bytes
arity_length : (s : ℕ) → s ≤ 3 → length (arity_text s) ≡ 6
unfolding arity_text gap_bytes ascii
arity_length s h = omega (arith, length-append (spaced (s ∷ [])) (32 ∷ []), one_spaced s, one_digit_long s (omega arith))

-- an operation line
module _ (n s : ℕ) (cells : List ℕ) (put : ℕ) (lent : List ℕ) (f : OperationFits n s cells put lent) where
  long : length (operation_text n (operation_of s cells)) ≡ 8 + length (table_text n s cells)
  long = operation_length n s cells f.shape.arity

  pub operation_arity_fits : put + 7 ≤ length lent
  operation_arity_fits = omega (arith, f.room, long)

  parts : operation_text n (operation_of s cells) ≡ line (arity_text s) (table_text n s cells)
  unfolding operation_text arity_text line
  parts = simp (append_assoc)

  module _ (mid : List ℕ) (at : ℕ) (p : Laid lent put (arity_text s) mid at) where
    pub operation_table_fits : TableFits n s cells at mid
    operation_table_fits =
        record { shape = f.shape; there = f.there; room = omega (arith, f.room, long, arity_length s f.shape.arity, p.place, p.long) }

    module _ (mid' : List ℕ) (at' : ℕ) (q : Laid mid at (table_text n s cells) mid' at') where
      pub operation_close_fits : at' + 2 ≤ length mid'
      operation_close_fits = omega (arith, f.room, long, arity_length s f.shape.arity, p.place, p.long, q.place, q.long)

      pub operation_written : (out : List ℕ) (end : ℕ) → Laid mid' at' (ascii "]\n") out end → Laid lent put (operation_text n (operation_of s cells)) out end
      operation_written out end r = rw parts (line_written lent put mid at out end (arity_text s) (table_text n s cells) mid' at' p q r)

-- operations behind others
operations_append : (n : ℕ) (xs ys cells : List ℕ) → operations_of n (xs ++ ys) cells ≡ operations_of n xs cells ++ operations_of n ys (drop (cell_count n xs) cells)
unfolding operations_of cell_count
operations_append n [] ys cells = refl
operations_append n (s ∷ xs) ys cells =
    ap (λ (l : List Operation). operation_of s (take (n ^ s) cells) ∷ l)
    (operations_append n xs ys (drop (n ^ s) cells)
    ∙ ap (λ (l : List ℕ). operations_of n xs (drop (n ^ s) cells) ++ operations_of n ys l) (drop-drop (cell_count n xs) (n ^ s) cells))

-- the lines of the first j operations
unfoldable pub lines_up_to : ℕ → List ℕ → List ℕ → ℕ → List ℕ
lines_up_to n arities cells j = concat (map (operation_text n) (operations_of n (take j arities) cells))

module _ (n : ℕ) (arities cells : List ℕ) where
  -- operation j, whose table begins behind those before it
  abbrev operation_number : ℕ → Operation
  operation_number j = operation_of (get_or arities j 0) (take (n ^ get_or arities j 0) (drop (cell_count n (take j arities)) cells))

  lines_next : (j : ℕ) → j < length arities → lines_up_to n arities cells (j + 1) ≡ lines_up_to n arities cells j ++ operation_text n (operation_number j)
  unfolding lines_up_to operations_of concat
  lines_next j h =
      let before = operations_of n (take j arities) cells in
      rw (
        add-one j,
        take-suc arities j 0 h,
        operations_append n (take j arities) (get_or arities j 0 ∷ []) cells,
        map-append (operation_text n) before (operation_number j ∷ []),
        concat_append (map (operation_text n) before) (operation_text n (operation_number j) ∷ []),
        append-nil,
      )

  lines_all : (j : ℕ) → length arities ≤ j → lines_up_to n arities cells j ≡ operations_text (algebra_of n arities cells)
  unfolding lines_up_to operations_text operations
  lines_all j h = rw take_all

  -- they are the first of all lines
  lines_part : (j : ℕ) → length (lines_up_to n arities cells j) ≤ length (operations_text (algebra_of n arities cells))
  unfolding lines_up_to operations_text operations
  lines_part j =
      let first = operations_of n (take j arities) cells in
      let rest = operations_of n (drop j arities) (drop (cell_count n (take j arities)) cells) in
      let e : operations_of n arities cells ≡ first ++ rest =
      ap (λ (l : List ℕ). operations_of n l cells) (sym (take-append-drop j arities)) ∙ operations_append n (take j arities) (drop j arities) cells in
      let g : concat (map (operation_text n) (operations_of n arities cells)) ≡ concat (map (operation_text n) first) ++ concat (map (operation_text n) rest) =
      ap (λ (l : List Operation). concat (map (operation_text n) l)) e
      ∙ ap concat (map-append (operation_text n) first rest)
      ∙ concat_append (map (operation_text n) first) (map (operation_text n) rest) in
      omega (arith, ap length g, length-append (concat (map (operation_text n) first)) (concat (map (operation_text n) rest)))

-- the lines of the first j operations are written
pub record LinesWritten (n : ℕ) (arities cells lent : List ℕ) (put : ℕ) (out : List ℕ) (at from j : ℕ) : Type 0 where
  pub passed : j ≤ length arities
  pub place : from ≡ cell_count n (take j arities)
  pub laid : Laid lent put (lines_up_to n arities cells j) out at

module _ (n : ℕ) (arities cells lent : List ℕ) (put : ℕ) (f : OperationsFit n arities cells put lent) where
  pub lines_none : LinesWritten n arities cells lent put lent put 0 0
  unfolding lines_up_to operations_of concat
  lines_none = record { passed = omega arith; place = sym (start_first n arities); laid = laid_none lent put (omega (arith, f.room)) }

  module _ (out : List ℕ) (at from j : ℕ) (w : LinesWritten n arities cells lent put out at from j) (h : j < length arities) where
    pub arity_most : get_or arities j 0 ≤ 3
    arity_most = f.tables.arity j h

    module _ (width : ℕ) (e : width ≡ n ^ get_or arities j 0) where
      pub table_within : from + width ≤ length cells
      table_within = omega (arith, w.place, start_room n arities j h, f.tables.there)

      -- its cells, as a slice has them
      abbrev part : List ℕ
      part = take (from + width - from) (drop from cells)

      same_part : part ≡ (operation_number n arities cells j).table
      same_part = let d : from + width - from ≡ n ^ get_or arities j 0 = omega arith in rw (d, w.place)

      pub next_operation_fits : OperationFits n (get_or arities j 0) part at out
      next_operation_fits =
          rw same_part
          (record {
            shape = omega (arith, f.tables.some, f.tables.most, arity_most);
            there =
                let l : n ^ get_or arities j 0 ≤ length (drop (cell_count n (take j arities)) cells) = rw length-drop (omega (arith, w.place, table_within)) in
                omega (arith, length-take-le (n ^ get_or arities j 0) (drop (cell_count n (take j arities)) cells) l);
            room =
                omega (
                  arith,
                  f.room,
                  lines_part n arities cells (j + 1),
                  ap length (lines_next n arities cells j h),
                  length-append (lines_up_to n arities cells j) (operation_text n (operation_number n arities cells j)),
                  w.laid.place,
                  w.laid.long,
                );
          })

      pub lines_more : (out' : List ℕ) (at' : ℕ) → Laid out at (operation_text n (operation_of (get_or arities j 0) part)) out' at'
          → LinesWritten n arities cells lent put out' at' (from + width) (j + 1)
      lines_more out' at' p =
          record {
            passed = omega arith;
            place = omega (arith, w.place, start_next n arities j h);
            laid =
                rw (lines_next n arities cells j h)
                (laid_more lent put (lines_up_to n arities cells j) out at (operation_text n (operation_number n arities cells j)) out' at' w.laid (rw same_part at p));
          }

  pub lines_written : (out : List ℕ) (at from j : ℕ) → LinesWritten n arities cells lent put out at from j → length arities ≤ j
      → Laid lent put (operations_text (algebra_of n arities cells)) out at
  lines_written out at from j w h = rw (← lines_all n arities cells j h) w.laid

-- the size line, and the operation lines behind it
module _ (n : ℕ) (arities cells lent : List ℕ) (f : LinesFit n arities cells lent) where
  both : length (algebra_text (algebra_of n arities cells)) ≡ length (size_text n) + length (operations_text (algebra_of n arities cells))
  unfolding algebra_text operations_text
  both = length-append (size_text n) (concat (map (operation_text n) (operations (algebra_of n arities cells))))

  pub size_line_fits : length (size_text n) ≤ length lent
  size_line_fits = omega (arith, f.room, both)

  module _ (mid : List ℕ) (at : ℕ) (p : Laid lent 0 (size_text n) mid at) where
    pub operations_fit : OperationsFit n arities cells at mid
    operations_fit = record { tables = f.tables; room = omega (arith, f.room, both, p.place, p.long) }

    pub text_written : (out : List ℕ) (end : ℕ) → Laid mid at (operations_text (algebra_of n arities cells)) out end
        → Laid lent 0 (algebra_text (algebra_of n arities cells)) out end
    unfolding algebra_text operations_text
    text_written out end q = laid_more lent 0 (size_text n) mid at (operations_text (algebra_of n arities cells)) out end p q
