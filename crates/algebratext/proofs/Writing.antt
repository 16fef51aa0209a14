-- The writer: what it may rely on once its tests have passed, and its answer with the lent bytes.
use Prim.Native.Nat.{ℕ, ◌≤◌, ◌<◌}
use mathlib.Core.List.{List, [], ◌∷◌}
use mathlib.Core.Path.{◌≡◌, sym, ◌∙◌}
use native.Mathlib.Omega.{arith}
use lib.ListN.{length, take}
use lib.Seq.{take_all}
use Rattle.equivalence.specs.Lent.{written, laid}
use Rattle.equivalence.specs.Refusal.{lowest, space_test}
use Rattle.equivalence.specs.declared.Refusal.{Refusal}
use Rattle.equivalence.specs.declared.Refusal.TheVariants.{Space}
use Rattle.std.specs.Prelude.{⊤, Result, Ok, Err, IsErrAnd}
use Rattle.equivalence.proofs.Refusals.{handed_on, of_passed, of_space_test, space_refused, space_passed}
use Rattle.algebra.specs.Algebra.{Algebra, algebra_of, cell_count}
use Rattle.algebra.specs.Accepted.{algebra_tests, Accepted}
use Rattle.algebra.proofs.Accepted.{accepted_well_formed}
use Rattle.algebra.proofs.Tested.{algebra_passes, of_checked, passed_accepted, all_pass, tests_passed, declined, granted}
use Rattle.tablereader.specs.Laying.{Laid}
use Rattle.tablewriter.specs.Texts.{algebra_text}
use Rattle.tablewriter.specs.InnerFits.{TablesThere, LinesFit}
use Rattle.tablewriter.specs.InnerLengths.{Measurable}
use Rattle.tablewriter.proofs.Bounds.{text_bound}
use Rattle.algebratext.specs.Bounds.{TextBounded}
use Rattle.algebratext.specs.Calls.{write_tests, write_call}

-- an accepted algebra has the cells of all its tables
accepted_tables : (n : ℕ) (arities cells : List ℕ) → Accepted (algebra_of n arities cells) → TablesThere n arities cells
accepted_tables n arities cells a =
    let w = accepted_well_formed (algebra_of n arities cells) a in
    record { some = w.some; most = w.most; few = w.operations; arity = w.arity; there = omega (arith, w.filled) }

module _ (n : ℕ) (arities cells : List ℕ) {check : Result ⊤ Refusal} (known : check ≡ Ok tt) where
  -- and its text can be measured
  pub text_measurable : check ≡ lowest (algebra_tests (algebra_of n arities cells)) → Measurable n arities cells
  text_measurable e =
      let a = passed_accepted (algebra_of n arities cells) known e in
      let w = accepted_well_formed (algebra_of n arities cells) a in
      record { tables = accepted_tables n arities cells a; all = w.filled; few = omega (arith, w.filled, w.room); short = λ i h. omega (arith, w.below i h, w.most) }

  -- once the writer's tests have passed, there is room for its text
  pub text_fits : (out : List ℕ) → check ≡ lowest (write_tests (algebra_of n arities cells) (length out)) → LinesFit n arities cells out
  text_fits out e =
      let a = algebra_of n arities cells in
      let space = space_test (length (algebra_text a)) (length out) in
      let p = of_checked a (space ∷ []) (tests_passed (write_tests a (length out)) known e) in
      record { tables = accepted_tables n arities cells p.0; room = of_space_test (length (algebra_text a)) (length out) (of_passed space [] p.1).0 }

-- 9 by the length that was counted
module _ (a : Algebra) (room long : ℕ) (e : long ≡ length (algebra_text a)) {check : Result ⊤ Refusal} (known : check ≡ Ok tt) (g : check ≡ lowest (algebra_tests a)) where
  pub text_too_long : room < long → Err Space ≡ lowest (write_tests a room)
  text_too_long h = algebra_passes a (space_test (length (algebra_text a)) room ∷ []) known g (sym (space_refused (length (algebra_text a)) room [] (omega arith)))

  pub text_short_enough : long ≤ room → Ok tt ≡ lowest (write_tests a room)
  text_short_enough h =
      algebra_passes a (space_test (length (algebra_text a)) room ∷ []) known g (all_pass ∙ sym (space_passed (length (algebra_text a)) room [] (omega arith)))

-- what is laid from the start on is written
pub laid_at_start : (lent new after : List ℕ) (end : ℕ) → Laid lent 0 new after end → after ≡ written new lent
unfolding laid
laid_at_start lent new after end l = l.bytes

module _ (a : Algebra) (lent : List ℕ) {check : Result ⊤ Refusal} (e : check ≡ lowest (write_tests a (length lent))) where
  pub write_declined : {r : Refusal} → check ≡ Err r → {answer : Result ℕ Refusal} → IsErrAnd answer (λ e. e ≡ r) → (answer, lent) ≡ write_call a lent
  unfolding write_call
  write_declined known h = rw (handed_on h) (declined _ _ _ lent e _ known)

  pub write_granted : (after : List ℕ) (end : ℕ) → check ≡ Ok tt → Laid lent 0 (algebra_text a) after end → (Ok end, after) ≡ write_call a lent
  unfolding write_call
  write_granted after end known l = granted _ _ _ lent e known (omega (arith, l.place)) (laid_at_start lent (algebra_text a) after end l)

-- no text is longer than its cells let it be
module _ (n : ℕ) (arities cells lent : List ℕ) {check : Result ⊤ Refusal} (known : check ≡ Ok tt) (e : check ≡ lowest (write_tests (algebra_of n arities cells) (length lent))) where
  text_bounded : length (algebra_text (algebra_of n arities cells)) ≤ 131290
  text_bounded =
      let a = algebra_of n arities cells in
      let accepted = (of_checked a (space_test (length (algebra_text a)) (length lent) ∷ []) (tests_passed (write_tests a (length lent)) known e)).0 in
      let w = accepted_well_formed a accepted in
      let all : take (cell_count n arities) cells ≡ cells = take_all (cell_count n arities) cells (omega (arith, w.filled)) in
      omega (arith, w.room, text_bound n arities cells (accepted_tables n arities cells accepted) (rw all (λ i h. omega (arith, w.below i h, w.most))))

  pub length_bounded : (after : List ℕ) (end : ℕ) → Laid lent 0 (algebra_text (algebra_of n arities cells)) after end → end ≤ 131290
  length_bounded after end l = omega (arith, text_bounded, l.place)

pub refusal_unbounded : (r : Refusal) (answer : Result ℕ Refusal) → IsErrAnd answer (λ e. e ≡ r) → TextBounded answer
refusal_unbounded r answer h = rw (handed_on h) tt
