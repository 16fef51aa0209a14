-- Tables written piece by piece: there is room for each piece, and together they are the table's text.
use Prim.Native.Nat.{ℕ, zero, suc, ◌+◌, ◌-◌, ◌*◌, ◌^◌, ◌≤◌, ◌<◌}
use mathlib.Core.List.{List, [], ◌∷◌, ◌++◌, append_assoc, append-nil}
use mathlib.Core.Path.{◌≡◌, refl, ap, sym, ◌∙◌, subst}
use native.Mathlib.Nat.{mul-one, sub-zero, suc-mul, pow-zero, pow-succ'}
use native.Mathlib.Decide.{ℕ_discrete}
use native.Mathlib.Numerals.{sub-one}
use native.Mathlib.Omega.{arith}
use lib.ListN.{length, get_or, take, drop, length-append, length-drop}
use lib.Seq.{drop-drop, length-take-le, take_all}
use Rattle.numberreader.specs.Reading.{ascii}
use Rattle.tablereader.specs.Laying.{Laid}
use Rattle.tablereader.proofs.Laying.{laid_more}
use Rattle.tablereader.proofs.RoomLeft.{part_less}
use Rattle.writer.specs.Numerals.{decimal}
use Rattle.writer.specs.Lines.{gap_bytes, spaced, bracketed}
use Rattle.kernel.specs.InnerLargest.{Largest}
use Rattle.writer.specs.InnerRoom.{NumbersBelow}
use Rattle.writer.proofs.Digits.{decimal_some}
use Rattle.tablewriter.specs.Texts.{parted_texts, table_text}
use Rattle.tablewriter.specs.InnerFits.{RowsFit, TableFits}
use Rattle.tablewriter.proofs.TextLengths.{gap_length}
use Rattle.tablewriter.proofs.Parts.{part_length, part_member}

-- a table of arity 0
module _ (n s : ℕ) (cells : List ℕ) (put : ℕ) (lent : List ℕ) (f : TableFits n s cells put lent) (e : s ≡ 0) where
  text_number_lem : table_text n s cells ≡ decimal (get_or cells 0 0)
  unfolding table_text
  text_number_lem = rw e

  pub number_there : 0 < length cells
  number_there = omega (arith, f.there, ap (λ (k : ℕ). n ^ k) e ∙ pow-zero n)

  pub number_fits : put + 3 ≤ length lent
  number_fits = omega (arith, f.room, ap length text_number_lem, decimal_some (get_or cells 0 0))

  pub number_written : (out : List ℕ) (end : ℕ) → Laid lent put (decimal (get_or cells 0 0)) out end → Laid lent put (table_text n s cells) out end
  number_written out end l = rw text_number_lem l

-- numbers parted by gaps, the first without one
row_text : (n k : ℕ) (cells : List ℕ) → suc k ≤ length cells
    → parted_texts (table_text n 0) 1 (suc k) cells ≡ decimal (get_or cells 0 0) ++ spaced (take k (drop 1 cells))
unfolding parted_texts table_text spaced
row_text n zero cells h = sym (append-nil (decimal (get_or cells 0 0)))
row_text n (suc k) [] h = absurd (omega arith)
row_text n (suc k) (x ∷ []) h = absurd (omega arith)
row_text n (suc k) (x ∷ (y ∷ rest)) h =
    ap (λ (l : List ℕ). decimal x ++ l)
    (ap (λ (l : List ℕ). gap_bytes ++ l) (row_text n k (y ∷ rest) (omega arith)) ∙ sym (append_assoc gap_bytes (decimal y) (spaced (take k rest))))

-- a table of arity 1 is a bracket of numbers
table_row : (n : ℕ) (cells : List ℕ) → 0 < n → n ≤ length cells → table_text n 1 cells ≡ bracketed (take n cells)
unfolding table_text bracketed ascii
table_row zero cells h g = absurd (omega arith)
table_row (suc k) [] h g = absurd (omega arith)
table_row (suc k) (x ∷ rest) h g =
    rw (pow-zero (suc k), row_text (suc k) k (x ∷ rest) g) refl

-- a table of arity 1
module _ (n s : ℕ) (cells : List ℕ) (put : ℕ) (lent : List ℕ) (f : TableFits n s cells put lent) (e : s ≡ 1) where
  pub row_there : n ≤ length cells
  row_there = omega (arith, f.there, ap (λ (k : ℕ). n ^ k) e ∙ pow-succ' n 0 ∙ ap (λ (k : ℕ). n * k) (pow-zero n), mul-one n)

  -- its cells, as a slice has them
  text_row : table_text n s cells ≡ bracketed (take (n - 0) (drop 0 cells))
  text_row = ap (λ (k : ℕ). table_text n k cells) e ∙ table_row n cells f.shape.some row_there ∙ ap (λ (k : ℕ). bracketed (take k cells)) (sym (sub-zero n))

  pub row_some : 0 < length (take (n - 0) (drop 0 cells))
  row_some = rw (sub-zero n, length-take-le n cells row_there) f.shape.some

  pub row_fits : put + length (bracketed (take (n - 0) (drop 0 cells))) + 1 ≤ length lent
  row_fits = rw (← text_row) (omega (arith, f.room))

  pub row_written : (out : List ℕ) (end : ℕ) → Laid lent put (bracketed (take (n - 0) (drop 0 cells))) out end → Laid lent put (table_text n s cells) out end
  row_written out end l = rw text_row l

-- a table of another arity
module _ (n s : ℕ) (cells : List ℕ) (put : ℕ) (lent : List ℕ) (f : TableFits n s cells put lent) (e : s ≡ 0 → ⊥) where
  abbrev rows : List ℕ
  rows = parted_texts (table_text n (s - 1)) (n ^ (s - 1)) n cells

  text_rows : table_text n s cells ≡ (91 ∷ []) ++ (rows ++ (93 ∷ []))
  unfolding table_text ascii
  text_rows = go s e
    where
      go : (k : ℕ) → (k ≡ 0 → ⊥) → table_text n k cells ≡ (91 ∷ []) ++ (parted_texts (table_text n (k - 1)) (n ^ (k - 1)) n cells ++ (93 ∷ []))
      go zero h = absurd (h refl)
      go (suc k) h = rw (sub-one (suc k)) refl

  -- they follow the opening bracket
  module _ (mid : List ℕ) (at : ℕ) (p : Laid lent put (91 ∷ []) mid at) where
    length_rows : length (table_text n s cells) ≡ length rows + 2
    length_rows = ap length text_rows ∙ omega (arith, length-append rows (93 ∷ []))

    pub rows_fit : RowsFit n (s - 1) n cells at mid
    rows_fit =
        record {
          shape = omega (arith, f.shape);
          there = subst (λ (k : ℕ). k ≤ length cells) (power_falls s e) f.there;
          room = omega (arith, f.room, length_rows, p.place, p.long);
        }
      where
        power_falls : (k : ℕ) → (k ≡ 0 → ⊥) → n ^ k ≡ n * n ^ (k - 1)
        power_falls zero h = absurd (h refl)
        power_falls (suc k) h = rw (sub-one (suc k)) (pow-succ' n k)

    module _ (mid' : List ℕ) (at' : ℕ) (q : Laid mid at rows mid' at') where
      pub close_fits : at' < length mid'
      close_fits = omega (arith, f.room, length_rows, p.place, p.long, q.place, q.long)

      pub rows_written : (out : List ℕ) (end : ℕ) → Laid mid' at' (93 ∷ []) out end → Laid lent put (table_text n s cells) out end
      rows_written out end r =
          rw text_rows (laid_more lent put (91 ∷ []) mid at (rows ++ (93 ∷ [])) out end p (laid_more mid at rows mid' at' (93 ∷ []) out end q r))

-- so many tables
module _ (n s left : ℕ) (cells : List ℕ) (put : ℕ) (lent : List ℕ) (f : RowsFit n s left cells put lent) where
  width_there : n ^ s ≤ length cells
  width_there = go left f.shape.rows f.there
    where
      go : (k : ℕ) → 0 < k → k * n ^ s ≤ length cells → n ^ s ≤ length cells
      go zero h g = absurd (omega arith)
      go (suc k) h g = omega (arith, suc-mul k (n ^ s))

  one_text : left ≡ 1 → parted_texts (table_text n s) (n ^ s) left cells ≡ table_text n s cells
  unfolding parted_texts
  one_text e = rw e

  more_text : (left ≡ 1 → ⊥) → parted_texts (table_text n s) (n ^ s) left cells
      ≡ table_text n s cells ++ (gap_bytes ++ parted_texts (table_text n s) (n ^ s) (left - 1) (drop (n ^ s) cells))
  unfolding parted_texts
  more_text h = go left f.shape.rows h
    where
      go : (k : ℕ) → 0 < k → (k ≡ 1 → ⊥) → parted_texts (table_text n s) (n ^ s) k cells
          ≡ table_text n s cells ++ (gap_bytes ++ parted_texts (table_text n s) (n ^ s) (k - 1) (drop (n ^ s) cells))
      go zero h g = absurd (omega arith)
      go (suc zero) h g = absurd (g refl)
      go (suc (suc k)) h g = rw (sub-one (suc (suc k))) refl

  length_more : (left ≡ 1 → ⊥) → length (parted_texts (table_text n s) (n ^ s) left cells)
      ≡ length (table_text n s cells) + 1 + length (parted_texts (table_text n s) (n ^ s) (left - 1) (drop (n ^ s) cells))
  length_more h =
      let others = parted_texts (table_text n s) (n ^ s) (left - 1) (drop (n ^ s) cells) in
      ap length (more_text h) ∙ omega (arith, length-append (table_text n s cells) (gap_bytes ++ others), gap_length others)

  -- the first of them
  pub first_fits : TableFits n s cells put lent
  first_fits =
      record {
        shape = omega (arith, f.shape);
        there = width_there;
        room =
            elim (ℕ_discrete left 1) [
              | yes e ↦ omega (arith, f.room, ap length (one_text e))
              | no e ↦ omega (arith, f.room, length_more e)
            ];
      }

  module _ (mid : List ℕ) (at : ℕ) (p : Laid lent put (table_text n s cells) mid at) where
    pub last_written : left ≡ 1 → Laid lent put (parted_texts (table_text n s) (n ^ s) left cells) mid at
    last_written e = rw (one_text e) p

    module _ (h : left ≡ 1 → ⊥) where
      pub gap_fits : at < length mid
      gap_fits = omega (arith, f.room, length_more h, p.place, p.long)

      -- the others begin so many cells further on
      module _ (width : ℕ) (e : width ≡ n ^ s) where
        pub width_within : width ≤ length cells
        width_within = omega (arith, width_there)

        abbrev others : List ℕ
        others = take (length cells - width) (drop width cells)

        others_all : others ≡ drop (n ^ s) cells
        others_all = take_all (length cells - width) (drop width cells) (rw length-drop (omega arith)) ∙ ap (λ (k : ℕ). drop k cells) e

        module _ (mid' : List ℕ) (at' : ℕ) (q : Laid mid at gap_bytes mid' at') where
          pub others_fit : RowsFit n s (left - 1) others at' mid'
          unfolding gap_bytes ascii
          others_fit =
              rw others_all
              (record {
                shape = omega (arith, f.shape);
                there = rw length-drop (omega (arith, f.there, part_less left (n ^ s) f.shape.rows));
                room = omega (arith, f.room, length_more h, p.place, p.long, q.place, q.long);
              })

          pub others_written : (out : List ℕ) (end : ℕ) → Laid mid' at' (parted_texts (table_text n s) (n ^ s) (left - 1) others) out end
              → Laid lent put (parted_texts (table_text n s) (n ^ s) left cells) out end
          others_written out end r =
              let rest = parted_texts (table_text n s) (n ^ s) (left - 1) (drop (n ^ s) cells) in
              rw (more_text h)
              (laid_more lent put (table_text n s cells) mid at (gap_bytes ++ rest) out end p (laid_more mid at gap_bytes mid' at' rest out end q (rw others_all at r)))

-- rows of numbers, one by one: those that are left begin at `from`, and whoever writes them has written all
pub record RowsLeft (n left : ℕ) (cells lent : List ℕ) (put : ℕ) (out : List ℕ) (at from more : ℕ) : Type 0 where
  pub within : from ≤ length cells
  pub behind : from + more * n ≡ left * n
  pub long : length out ≡ length lent
  pub fit : RowsFit n 1 more (drop from cells) at out
  pub joins : (after : List ℕ) (end : ℕ) → Laid out at (parted_texts (table_text n 1) (n ^ 1) more (drop from cells)) after end
      → Laid lent put (parted_texts (table_text n 1) (n ^ 1) left cells) after end

pub rows_left_all : (n left : ℕ) (cells lent : List ℕ) (put : ℕ) → RowsFit n 1 left cells put lent → (more : ℕ) → more ≡ left → RowsLeft n left cells lent put lent put 0 more
rows_left_all n left cells lent put f more e = rw e record { within = omega arith; behind = omega arith; long = refl; fit = f; joins = λ after end l. l }

pow_one : (n : ℕ) → n ^ 1 ≡ n
pow_one n = pow-succ' n 0 ∙ ap (λ (k : ℕ). n * k) (pow-zero n) ∙ mul-one n

pub rows_there : (n left : ℕ) (cells : List ℕ) (put : ℕ) (lent : List ℕ) → RowsFit n 1 left cells put lent → left * n ≤ length cells
rows_there n left cells put lent f = rw (pow_one n) at f.there

module _ (n left : ℕ) (cells lent : List ℕ) (put : ℕ) (out : List ℕ) (at from more : ℕ) (p : RowsLeft n left cells lent put out at from more) where
  next_fits : TableFits n 1 (drop from cells) at out
  next_fits = first_fits n 1 more (drop from cells) at out p.fit

  pub next_row_within : from + n ≤ length cells
  next_row_within = omega (arith, row_there n 1 (drop from cells) at out next_fits refl, length-drop from cells, p.within)

  -- the next row, as a slice has it
  abbrev row : List ℕ
  row = take (from + n - from) (drop from cells)

  same_row : row ≡ take (n - 0) (drop 0 (drop from cells))
  same_row = let e : from + n - from ≡ n - 0 = omega arith in ap (λ (k : ℕ). take k (drop from cells)) e

  pub next_row_some : 0 < length row
  next_row_some = rw same_row (row_some n 1 (drop from cells) at out next_fits refl)

  -- the largest of all numbers bounds those of the next row
  pub next_row_below : (top : ℕ) → Largest (length (take (left * n - 0) (drop 0 cells))) (take (left * n - 0) (drop 0 cells)) top → NumbersBelow (top + 1) row
  next_row_below top h i s =
      let there : left * n ≤ length cells = omega (arith, p.behind, rows_there n more (drop from cells) at out p.fit, length-drop from cells, p.within) in
      let g : i < from + n - from = omega (arith, part_length cells from (from + n) next_row_within) in
      let j : from + i < left * n - 0 = omega (arith, p.behind, part_less more n p.fit.shape.rows) in
      let e : get_or (take (left * n - 0) (drop 0 cells)) (from + i) 0 ≡ get_or cells (from + i) 0 =
      part_member cells 0 (left * n) (from + i) j ∙ ap (λ (x : ℕ). get_or cells x 0) (omega arith) in
      omega (arith, part_member cells from (from + n) i g, e, h.above (from + i) (omega (arith, part_length cells 0 (left * n) there)))

  pub next_row_fits : at + length (bracketed row) + 1 ≤ length out
  next_row_fits = rw same_row (row_fits n 1 (drop from cells) at out next_fits refl)

  module _ (mid : List ℕ) (end : ℕ) (q : Laid out at (bracketed row) mid end) where
    row_laid : Laid out at (table_text n 1 (drop from cells)) mid end
    row_laid = row_written n 1 (drop from cells) at out next_fits refl mid end (rw same_row at q)

    -- the last of them
    pub last_row_written : more ≤ 1 → Laid lent put (parted_texts (table_text n 1) (n ^ 1) left cells) mid end
    last_row_written h = p.joins mid end (last_written n 1 more (drop from cells) at out p.fit mid end row_laid (omega (arith, p.fit.shape.rows)))

    module _ (h : 1 < more) where
      pub row_gap_fits : end < length mid
      row_gap_fits = gap_fits n 1 more (drop from cells) at out p.fit mid end row_laid (λ e. omega arith)

      rest_same : take (length (drop from cells) - n ^ 1) (drop (n ^ 1) (drop from cells)) ≡ drop (from + n) cells
      rest_same =
          take_all (length (drop from cells) - n ^ 1) (drop (n ^ 1) (drop from cells)) (rw length-drop (omega arith))
          ∙ drop-drop (n ^ 1) from cells
          ∙ ap (λ (k : ℕ). drop (from + k) cells) (pow_one n)

      pub rows_left_more : (mid' : List ℕ) (at' : ℕ) → Laid mid end gap_bytes mid' at' → (others : ℕ) → others ≡ more - 1
          → RowsLeft n left cells lent put mid' at' (from + n) others
      rows_left_more mid' at' r others less =
          let f = p.fit in
          let d = drop from cells in
          let g : more ≡ 1 → ⊥ = λ e. omega arith in
          rw less
          (record {
            within = next_row_within;
            behind = omega (arith, p.behind, part_less more n f.shape.rows);
            long = r.long ∙ q.long ∙ p.long;
            fit = rw rest_same at (others_fit n 1 more d at out f mid end row_laid g (n ^ 1) refl mid' at' r);
            joins =
                λ after last l.
                p.joins after last (others_written n 1 more d at out f mid end row_laid g (n ^ 1) refl mid' at' r after last (rw (← rest_same) at l));
          })

-- rows of arity 1 are rows of numbers
module _ (n s left : ℕ) (cells : List ℕ) (put : ℕ) (lent : List ℕ) (e : s ≡ 1) where
  pub number_rows_fit : RowsFit n s left cells put lent → RowsFit n 1 left cells put lent
  number_rows_fit f = rw e at f

  pub number_rows_written : (out : List ℕ) (end : ℕ) → Laid lent put (parted_texts (table_text n 1) (n ^ 1) left cells) out end
      → Laid lent put (parted_texts (table_text n s) (n ^ s) left cells) out end
  number_rows_written out end l = rw e l
