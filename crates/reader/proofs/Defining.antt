-- Operation lines: each way they come to an end.
use Prim.Native.Nat.{ℕ, ◌-◌}
use mathlib.Core.Bool.{Bool, true, false, not}
use mathlib.Core.List.{List, [], ◌∷◌}
use mathlib.Core.Path.{◌≡◌, refl, ap, sym, ◌∙◌}
use native.Mathlib.Omega.{arith}
use borrow.Author.Tests.{not-true, not-false}
use lib.Dec.{ltb}
use lib.ListN.{length, take, drop}
use lib.Seq.{length-take-le}
use Rattle.equivalence.specs.Lists.{every}
use Rattle.equivalence.specs.Refusal.{lowest}
use Rattle.equivalence.proofs.Refusals.{lowest_none, lowest_here, lowest_next}
use Rattle.equivalence.specs.declared.Refusal.{Refusal}
use Rattle.equivalence.specs.declared.Refusal.TheVariants.{Cell, Text}
use Rattle.std.specs.Prelude.{⊤, Result, Ok, Err}
use Rattle.algebra.specs.Algebra.{algebra_of}
use Rattle.numberreader.specs.Reading.{found, fault, ◌>>◌, done}
use Rattle.tablereader.specs.Tables.{table}
use Rattle.reader.specs.Lines.{close, tested, arity, last_table, operation_tests, cell_test, with_operation, after_table, after_arity, operation}
use Rattle.numberreader.specs.InnerPromises.{NumberFound}
use Rattle.tablereader.specs.InnerPromises.{Stored, Faulty}
use Rattle.reader.specs.InnerPromises.{RoomForCells, CloseFound, table_progress, TableRead, TableRefused, TableIn, operation_progress, OperationRefused, OperationIn}
use Rattle.reader.specs.declared.lines.OperationLine.{OperationLine}
use Rattle.numberreader.specs.declared.Number.{Number}
use Rattle.tablereader.specs.declared.Spot.{Spot}
use Rattle.reader.proofs.Judging.{fitting}
use Rattle.tablereader.proofs.Laying.{laid_part, laid_before, laid_front}
use Rattle.numberreader.proofs.Readers.{then_found, then_fault}
use Rattle.tablereader.proofs.RoomLeft.{table_count}

-- 6 comes where a cell is not below n
cell_above : (n : ℕ) (cells : List ℕ) → every (λ c. ltb c n) cells ≡ false → lowest (cell_test n cells ∷ []) ≡ Err Cell
unfolding cell_test
cell_above n cells e = lowest_here (cell_test n cells) [] (rw e tt)

cells_below : (n : ℕ) (cells : List ℕ) → every (λ c. ltb c n) cells ≡ true → lowest (cell_test n cells ∷ []) ≡ Ok tt
unfolding cell_test
cells_below n cells e = lowest_next (cell_test n cells) [] (rw e (λ f. f)) ∙ lowest_none

-- its table
module _ (text : List ℕ) (at s n : ℕ) (lent : List ℕ) (put : ℕ) (after : List ℕ) where
  module _ (b : take put after ≡ take put lent) where
    faulty : last_table n s text at ≡ fault → TableRefused text at s n lent put after Text
    unfolding table_progress after_table
    faulty e = record { value = λ arities. ap (after_table (algebra_of n arities (take put lent)) s) e; before = b }

  pub table_faulty : Faulty text at lent put (table n s text at) after → TableRefused text at s n lent put after Text
  unfolding last_table
  table_faulty st = faulty (laid_front st.laid) (then_fault (table n s) (λ cells. ◌>>◌ close (done cells)) text at st.value)

  module _ (t : Spot) (st : Stored text at lent put (table n s text at) after t) where
    table_found : last_table n s text at ≡ ◌>>◌ close (done st.new) text t.at
    unfolding last_table
    table_found = then_found (table n s) (λ cells. ◌>>◌ close (done cells)) text at st.new t.at st.value

    pub table_open : close text t.at ≡ fault → TableRefused text at s n lent put after Text
    table_open g = faulty (laid_front st.laid) (table_found ∙ then_fault close (λ _. done st.new) text t.at g)

    module _ (end : ℕ) (g : CloseFound text t.at end) (b : Bool) (eb : b ≡ every (λ c. ltb c n) (take (t.put - put) (drop put after))) where
      table_read : last_table n s text at ≡ found st.new end
      table_read = table_found ∙ then_found close (λ _. done st.new) text t.at tt end g.value

      below : every (λ c. ltb c n) st.new ≡ b
      below = sym (eb ∙ ap (every (λ c. ltb c n)) (laid_part st.laid))

      pub table_cell_above : not b ≡ true → TableRefused text at s n lent put after Cell
      unfolding table_progress after_table tested
      table_cell_above f =
          record { value = λ arities. rw (table_read, cell_above n st.new (below ∙ not-true b f)); before = laid_front st.laid }

      pub table_defined : not b ≡ false → TableRead text at s n lent put after (record { arity = s; next = end; cells = t.put })
      unfolding table_progress after_table tested with_operation
      table_defined f =
          record {
            value = λ arities. rw (table_read, cells_below n st.new (below ∙ not-false b f), laid_before st.laid);
            reached = omega (arith, g, st.reached.past);
            paced = omega (arith, st.paced, g.past);
            behind = omega (arith, st.laid.place);
            counted = omega (arith, st.laid.place, table_count n s text at st.new t.at st.value);
            stored = st.laid.within;
            before = laid_front st.laid;
          }

-- its arity, and the tests after that
module _ (text : List ℕ) (at n operations : ℕ) (lent : List ℕ) (put : ℕ) where
  pub arity_faulty : arity text at ≡ fault → OperationRefused text at n operations lent put lent Text
  unfolding operation_progress table_progress operation after_arity
  arity_faulty e = record { value = λ arities l. rw e; before = refl }

  module _ (w : RoomForCells text at lent put) (s : Number) (r : NumberFound text at (arity text at) s)
      (c : Result ⊤ Refusal) (ec : c ≡ lowest (operation_tests n operations put s.value)) where
    count : length (take put lent) ≡ put
    count = length-take-le put lent w.start

    arity_known : (arities : List ℕ) → length arities ≡ operations
        → operation_progress text at n lent put arities ≡ tested c (table_progress text s.next s.value n lent put arities)
    unfolding operation_progress table_progress operation after_arity
    arity_known arities l = rw (r.value, l, count, ← ec)

    pub operation_refused : (x : Refusal) → c ≡ Err x → OperationRefused text at n operations lent put lent x
    unfolding tested
    operation_refused x e = record { value = λ arities l. arity_known arities l ∙ rw e; before = refl }

    module _ (e : c ≡ Ok tt) (after : List ℕ) where
      pub operation_read : (o : Result OperationLine Refusal) → TableIn text s.next s.value n lent put after o
          → OperationIn text at n operations lent put after o
      unfolding tested
      operation_read (Ok o) q =
          let f = fitting n operations put s.value (sym ec ∙ e) in
          record {
            value = λ arities l. arity_known arities l ∙ rw e (q.value arities);
            reached = omega (arith, q.reached, r.past);
            paced = omega (arith, q.paced, r.past);
            behind = q.behind;
            fit = λ _. omega (arith, q.counted, f.room);
            stored = q.stored;
            before = q.before;
            few = omega (arith, f.few);
          }
      operation_read (Err x) q =
          record { value = λ arities l. arity_known arities l ∙ rw e (q.value arities); before = q.before }
