-- The lines of a whole text, taken one by one: what holds before each, and how the text comes to its end, to a fault or to a refusal.
use Prim.Native.Nat.{ℕ, zero, suc, ◌+◌, ◌-◌, ◌≤◌, ◌<◌}
use mathlib.Core.Bool.{Bool, true, false, not}
use mathlib.Core.List.{List, [], ◌∷◌, ◌++◌}
use mathlib.Core.Path.{◌≡◌, refl, ap, sym, ◌∙◌}
use native.Mathlib.Nat.{sub-zero}
use native.Mathlib.Omega.{arith}
use borrow.Author.Tests.{le-leb, lt-leb, not-true, not-false}
use lib.ListN.{length, take, drop, replicate, take-append-drop}
use lib.Seq.{drop-drop, length-take-le}
use Rattle.equivalence.specs.declared.Refusal.{Refusal}
use Rattle.equivalence.specs.declared.Refusal.TheVariants.{Space, Text}
use Rattle.std.specs.Prelude.{Result, Ok, Err, IsErrAnd}
use Rattle.equivalence.specs.Lent.{written}
use Rattle.equivalence.specs.Lists.{every}
use Rattle.equivalence.proofs.Refusals.{handed_on, lowest_none, space_refused, space_passed}
use Rattle.equivalence.proofs.Tests.{pick_yes, pick_no, T_of, not_T_of}
use Rattle.algebra.specs.Algebra.{Algebra}
use Rattle.numberreader.specs.Reading.{ascii, begins}
use Rattle.reader.specs.Lines.{Progress, defined, refused, tested, sized, operation}
use Rattle.reader.specs.InnerPromises.{RoomForCells}
use Rattle.reader.specs.InnerTaking.{algebra_so_far, progress_with, Readable, SizeTaken, OperationTaken, OperationUntaken}
use Rattle.reader.specs.declared.taking.AlgebraSoFar.{AlgebraSoFar}
use Rattle.tablereader.specs.Laying.{Laid}
use Rattle.reader.proofs.CellRoom.{room_of_cells}
use Rattle.numberreader.proofs.Words.{begins_within}
use Rattle.algebratext.specs.Whole.{operation_line_at, operations_to_end, whole_algebra}
use Rattle.algebratext.specs.Calls.{algebra_read, cells_read, reading, read_call}
use Rattle.algebratext.specs.InnerReading.{LinesTaken, whole_call}
use Rattle.algebratext.specs.declared.AlgebraRead.{AlgebraRead}
use Rattle.algebratext.proofs.Writing.{laid_at_start}

-- a refusal stays one
to_end_refused : (k : ℕ) (text : List ℕ) (r : Refusal) → operations_to_end k text (refused r) ≡ refused r
unfolding operations_to_end
to_end_refused zero text r = refl
to_end_refused (suc k) text r = refl

-- lists that are the same from a place on are the same further on
drop_same : (i j : ℕ) (xs ys : List ℕ) → i ≤ j → drop i xs ≡ drop i ys → drop j xs ≡ drop j ys
drop_same i j xs ys h e =
    let s : i + (j - i) ≡ j = omega arith in
    ap (λ (k : ℕ). drop k xs) (sym s) ∙ sym (drop-drop (j - i) i xs) ∙ ap (drop (j - i)) e ∙ drop-drop (j - i) i ys ∙ ap (λ (k : ℕ). drop k ys) s

-- fewer zeros
drop_zeros : (k n : ℕ) → drop {A = ℕ} k (replicate n 0) ≡ replicate (n - k) 0
drop_zeros zero n = rw sub-zero
drop_zeros (suc k) zero = let e : 0 ≡ 0 - suc k = omega arith in ap (λ (j : ℕ). replicate j 0) e
drop_zeros (suc k) (suc n) = let e : n - k ≡ suc n - suc k = omega arith in drop_zeros k n ∙ ap (λ (j : ℕ). replicate j 0) e

-- some lines are taken; `fuel` bounds how many may follow
pub record LinesSoFar (text lent arities cells : List ℕ) (a : AlgebraSoFar) : Type 0 where
  pub fuel : ℕ
  pub enough : length text ≤ fuel + a.at
  pub value : whole_algebra text ≡ operations_to_end fuel text (defined (algebra_so_far a arities cells) a.at)
  pub readable : Readable text a
  pub spare : drop a.operations arities ≡ drop a.operations lent

-- the size line
pub size_line_declined : (text : List ℕ) (r : Refusal) → sized text 0 ≡ refused r → whole_algebra text ≡ refused r
unfolding whole_algebra
size_line_declined text r e = ap (operations_to_end (length text) text) e ∙ to_end_refused (length text) text r

pub lines_begin : (text arities cells : List ℕ) (a : AlgebraSoFar) → SizeTaken text 0 a → LinesSoFar text arities arities cells a
unfolding whole_algebra
lines_begin text arities cells a s =
    record {
      fuel = length text;
      enough = omega arith;
      value = ap (operations_to_end (length text) text) (s.value arities cells);
      readable = s.readable;
      spare = refl;
    }

-- at the end of the text what was found stays
to_end_found : (k : ℕ) (text : List ℕ) (a : Algebra) (at : ℕ) → length text ≤ at → operations_to_end k text (defined a at) ≡ defined a at
unfolding operations_to_end
to_end_found zero text a at h = refl
to_end_found (suc k) text a at h = simp (operations_to_end, le-leb (length text) at h)

-- before it another line comes
to_end_next : (k : ℕ) (text : List ℕ) (a : Algebra) (at : ℕ) → at < length text → operations_to_end (suc k) text (defined a at) ≡ operations_to_end k text (operation_line_at a text at)
unfolding operations_to_end
to_end_next k text a at h = simp (operations_to_end, lt-leb (length text) at h)

-- the lines behind the size line
module _ (text lent arities cells : List ℕ) (a : AlgebraSoFar) (p : LinesSoFar text lent arities cells a) where
  so_far : Algebra
  so_far = algebra_so_far a arities cells

  pub lines_end : length text ≤ a.at → LinesTaken text lent arities cells a
  unfolding so_far
  lines_end h =
      record { value = p.value ∙ to_end_found p.fuel text so_far a.at h; few = p.readable.few; fit = p.readable.fit; spare = p.spare }

  module _ (h : a.at < length text) where
    -- a line is left, so the fuel is not used up
    fuel_left : (k : ℕ) × (p.fuel ≡ suc k)
    fuel_left = go p.fuel p.enough
      where
        go : (f : ℕ) → length text ≤ f + a.at → (k : ℕ) × (f ≡ suc k)
        go zero e = absurd (omega arith)
        go (suc k) e = (k, refl)

    next : whole_algebra text ≡ operations_to_end fuel_left.0 text (operation_line_at so_far text a.at)
    unfolding so_far
    next = p.value ∙ ap (λ (k : ℕ). operations_to_end k text (defined so_far a.at)) fuel_left.1 ∙ to_end_next fuel_left.0 text so_far a.at h

    -- a line that is no operation
    pub line_other : (b : Bool) → b ≡ begins text a.at (ascii "[op") → not b ≡ true → whole_algebra text ≡ refused Text
    unfolding operation_line_at
    line_other b e n =
        next ∙ ap (operations_to_end fuel_left.0 text) (pick_no (begins text a.at (ascii "[op")) (operation so_far text (a.at + 3)) (refused Text) (not_T_of (sym e ∙ not-true b n)))
        ∙ to_end_refused fuel_left.0 text Text

    module _ (b : Bool) (e : b ≡ begins text a.at (ascii "[op")) (n : not b ≡ false) where
      -- an operation line has its word within the text, and room for its cells
      pub line_room_lem : (lent-cells : List ℕ) → 32768 ≤ length lent-cells → length cells ≡ length lent-cells → RoomForCells text (a.at + 3) cells a.cells
      unfolding ascii every
      line_room_lem lent-cells r same =
          room_of_cells text (a.at + 3) cells a.cells
          (begins_within text (91 ∷ 111 ∷ 112 ∷ []) a.at tt p.readable.within (sym e ∙ not-false b n))
          p.readable.fit
          (omega arith)

      came : (q : Progress) → operation so_far text (a.at + 3) ≡ q → whole_algebra text ≡ operations_to_end fuel_left.0 text q
      unfolding operation_line_at so_far
      came q t =
          next
          ∙ ap (operations_to_end fuel_left.0 text)
          (pick_yes (begins text a.at (ascii "[op")) (operation so_far text (a.at + 3)) (refused Text) (T_of (sym e ∙ not-false b n)) ∙ t)

      pub operation_line_refused : (arities' cells' : List ℕ) (r : Refusal) → OperationUntaken text a arities cells arities' cells' r → whole_algebra text ≡ refused r
      unfolding so_far
      operation_line_refused arities' cells' r t = came (refused r) t.value ∙ to_end_refused fuel_left.0 text r

      module _ (arities' cells' : List ℕ) (l : AlgebraSoFar) (t : OperationTaken text a arities cells arities' cells' l) where
        -- each line gets nearer to the end of the text
        pub line_past : length text - l.at < length text - a.at
        line_past = omega (arith, t.past)

        pub lines_go_on : LinesSoFar text lent arities' cells' l
        unfolding so_far
        lines_go_on =
            record {
              fuel = fuel_left.0;
              enough = omega (arith, t.past, p.enough, fuel_left.1);
              value = came (progress_with (Ok l) arities' cells') t.value;
              readable = t.readable;
              spare = t.kept.spare_arities ∙ drop_same a.operations l.operations arities lent t.kept.no_fewer p.spare;
            }

-- what the reader makes of the lines of a whole text
pub whole_refused : (text lent : List ℕ) {r : Refusal} → whole_algebra text ≡ refused r → {answer : Result AlgebraRead Refusal} → IsErrAnd answer (λ e. e ≡ r)
    → (answer, lent) ≡ whole_call text lent
unfolding whole_call algebra_read cells_read
whole_refused text lent e h = rw (handed_on h, e) refl

module _ (text arities cells : List ℕ) (l : AlgebraSoFar) (t : LinesTaken text (replicate 16 0) arities cells l) (lent : List ℕ) where
  -- the arities, and 0 behind them
  arities_read : length arities ≡ 16 → arities ≡ take l.operations arities ++ replicate (16 - length (take l.operations arities)) 0
  arities_read h =
      let k = l.operations in
      let n : length (take k arities) ≡ k = length-take-le k arities (omega (arith, t.few)) in
      sym (take-append-drop k arities) ∙ ap (λ (x : List ℕ). take k arities ++ x) (t.spare ∙ drop_zeros k 16 ∙ ap (λ (j : ℕ). replicate (16 - j) 0) (sym n))

  pub whole_read : length arities ≡ 16 → 32768 ≤ length cells → (after : List ℕ) (end : ℕ) → Laid lent 0 (take (l.cells - 0) (drop 0 cells)) after end
      → (Ok (record { size = l.size; operations = l.operations; arities = arities; cells = l.cells }), after) ≡ whole_call text lent
  unfolding whole_call cells_read algebra_read
  whole_read h r after end d =
      let a = algebra_so_far l arities cells in
      let p : whole_algebra text ≡ defined a l.at = t.value in
      let k : length (take l.operations arities) ≡ l.operations = length-take-le l.operations arities (omega (arith, t.few)) in
      let c : length (take l.cells cells) ≡ l.cells = length-take-le l.cells cells (omega (arith, t.fit)) in
      let made : ℕ → List ℕ → ℕ → Result AlgebraRead Refusal =
      λ operations arities cells. Ok (record { size = l.size; operations = operations; arities = arities; cells = cells }) in
      ap (λ (x : List ℕ). (made l.operations x l.cells, after)) (arities_read h)
      ∙ ap (λ (x : ℕ). (made x (a.arities ++ replicate (16 - length a.arities) 0) l.cells, after)) (sym k)
      ∙ ap (λ (x : ℕ). (made (length a.arities) (a.arities ++ replicate (16 - length a.arities) 0) x, after)) (sym c)
      ∙ ap (λ (x : List ℕ). (algebra_read (defined a l.at), x))
      (laid_at_start lent (take (l.cells - 0) cells) after end d ∙ ap (λ (j : ℕ). written (take j cells) lent) (sub-zero l.cells))
      ∙ ap (λ (x : Progress). (algebra_read x, cells_read x lent)) (sym p)

-- 9, before the text is looked at
module _ (text lent : List ℕ) where
  pub read_short : length lent < 32768 → (Err Space, lent) ≡ read_call text lent
  unfolding read_call reading tested algebra_read cells_read
  read_short h = rw (space_refused 32768 (length lent) [] h) refl

  pub read_enough : 32768 ≤ length lent → (answer : Result AlgebraRead Refusal) (after : List ℕ) → (answer, after) ≡ whole_call text lent → (answer, after) ≡ read_call text lent
  unfolding read_call reading tested whole_call
  read_enough h answer after e = rw (space_passed 32768 (length lent) [] h, lowest_none) e
