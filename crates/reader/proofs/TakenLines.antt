-- Lines of an algebra taken one by one: each way that a size line and an operation line come to an end.
use Prim.Native.Nat.{ℕ, ◌+◌, ◌≤◌, ◌<◌}
use mathlib.Core.Bool.{Bool, true, false, not, ◌||◌}
use mathlib.Core.List.{List, [], ◌∷◌}
use mathlib.Core.Path.{◌≡◌, refl, sym, ◌∙◌}
use native.Mathlib.Numerals.{add-one}
use native.Mathlib.Omega.{arith}
use borrow.Author.Tests.{not-true, not-false, eqb-false, ltb-false}
use lib.Dec.{eqb, ltb}
use lib.ListN.{length, take, set}
use lib.Seq.{take-suc-set, take-set-le, drop-set-lt, length-take-le}
use Rattle.equivalence.specs.Refusal.{lowest, size_test}
use Rattle.equivalence.proofs.Refusals.{lowest_none, lowest_here, lowest_next}
use Rattle.equivalence.specs.declared.Refusal.{Refusal}
use Rattle.equivalence.specs.declared.Refusal.TheVariants.{Size, Text}
use Rattle.std.specs.Prelude.{Ok, Err}
use Rattle.reader.specs.Lines.{refused, size_line, tested, after_size, sized, operation}
use Rattle.numberreader.specs.Reading.{fault}
use Rattle.numberreader.specs.InnerPromises.{NumberFound}
use Rattle.reader.specs.InnerPromises.{progress_of, operation_progress, OperationRead, OperationRefused}
use Rattle.reader.specs.InnerTaking.{algebra_so_far, Readable, SizeTaken, OperationTaken, OperationUntaken}
use Rattle.reader.specs.declared.lines.OperationLine.{OperationLine}
use Rattle.numberreader.specs.declared.Number.{Number}
use Rattle.reader.specs.declared.taking.AlgebraSoFar.{AlgebraSoFar}

-- an algebra of which the size line is read
abbrev bare : ℕ → ℕ → AlgebraSoFar
bare n at = record { at = at; size = n; operations = 0; cells = 0 }

or_left : (a b : Bool) → (a || b) ≡ false → a ≡ false
or_left true b e = e
or_left false b e = refl

or_right : (a b : Bool) → (a || b) ≡ false → b ≡ false
or_right true b e = let z : ◌≡◌ {A = ℕ} 0 1 = cc in absurd (omega arith)
or_right false b e = e

-- 1 passes just where n is 1 to 64
size_fails : (n : ℕ) (b : Bool) → b ≡ not (size_test n).applies → not b ≡ true → lowest (size_test n ∷ []) ≡ Err Size
unfolding size_test
size_fails n b e h = lowest_here (size_test n) [] (rw (not-false (eqb n 0 || ltb 64 n) (sym e ∙ not-true b h)) tt)

size_passes : (n : ℕ) (b : Bool) → b ≡ not (size_test n).applies → not b ≡ false → lowest (size_test n ∷ []) ≡ Ok tt
unfolding size_test
size_passes n b e h =
    lowest_next (size_test n) [] (rw (not-true (eqb n 0 || ltb 64 n) (sym e ∙ not-false b h)) (λ f. f)) ∙ lowest_none

size_known : (n : ℕ) (b : Bool) → b ≡ not (size_test n).applies → not b ≡ false → (0 < n) × (n ≤ 64)
unfolding size_test
size_known n b e h =
    let f : (eqb n 0 || ltb 64 n) ≡ false = not-true (eqb n 0 || ltb 64 n) (sym e ∙ not-false b h) in
    let z : n ≡ 0 → ⊥ = eqb-false n 0 (or_left (eqb n 0) (ltb 64 n) f) in
    omega (arith, ltb-false 64 n (or_right (eqb n 0) (ltb 64 n) f))

-- the size line
module _ (text : List ℕ) (at : ℕ) where
  pub size_faulty : size_line text at ≡ fault → sized text at ≡ refused Text
  unfolding sized after_size
  size_faulty e = rw e

  module _ (n : Number) (r : NumberFound text at (size_line text at) n) (b : Bool) (e : b ≡ not (size_test n.value).applies) where
    pub size_line_refused : not b ≡ true → sized text at ≡ refused Size
    unfolding sized after_size tested
    size_line_refused k = rw (r.value, size_fails n.value b e k)

    pub size_taken : not b ≡ false → SizeTaken text at (bare n.value n.next)
    unfolding sized after_size tested
    size_taken k =
        record {
          value = λ arities cells. rw (r.value, size_passes n.value b e k);
          readable = omega (arith, size_known n.value b e k, r.within);
          past = r.past;
          operations = refl;
          cells = refl;
        }

-- an operation line that was refused, or gave one operation more
module _ (text : List ℕ) (a : AlgebraSoFar) (arities cells : List ℕ) (readable : Readable text a) (sixteen : 16 ≤ length arities) (after : List ℕ) where
  pub operation_untaken : (x : Refusal) → OperationRefused text (a.at + 3) a.size a.operations cells a.cells after x
      → OperationUntaken text a arities cells arities after x
  unfolding operation_progress
  operation_untaken x r =
      record {
        value = r.value (take a.operations arities) (length-take-le a.operations arities (omega arith));
        used_arities = refl;
        used_cells = r.before;
      }

  module _ (l : OperationLine) (r : OperationRead text (a.at + 3) a.size a.operations cells a.cells after l) where
    -- there is room for its arity
    pub arity_place : a.operations < length arities
    arity_place = omega (arith, r.few)

    known : operation (algebra_so_far a arities cells) text (a.at + 3) ≡ progress_of a.size (take a.operations arities) after l
    unfolding operation_progress
    known = r.value (take a.operations arities) (length-take-le a.operations arities (omega arith))

    pub operation_taken : OperationTaken text a arities cells (set arities a.operations l.arity) after
        (record { at = l.next; size = a.size; operations = a.operations + 1; cells = l.cells })
    operation_taken =
        record {
          value = rw (known, add-one a.operations, take-suc-set arities a.operations l.arity arity_place);
          readable = omega (arith, r.reached, r.few, r.fit readable.fit);
          past = omega (arith, r.reached);
          counted = omega arith;
          paced = omega (arith, r.paced);
          stored = r.stored;
          kept =
              record {
                no_fewer = omega arith;
                behind = r.behind;
                used_arities = take-set-le a.operations arities a.operations l.arity (omega arith);
                spare_arities = drop-set-lt (a.operations + 1) arities a.operations l.arity (omega arith);
                used_cells = r.before;
              };
        }
