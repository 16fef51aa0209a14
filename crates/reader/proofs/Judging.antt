-- The tests of an operation line: reasons 2 to 4.
use Prim.Native.Nat.{ℕ, ◌+◌, ◌^◌, ◌≤◌, ◌<◌}
use mathlib.Core.Path.{◌≡◌, sym}
use native.Mathlib.Decide.{dec_lt}
use native.Mathlib.Omega.{arith}
use borrow.Author.Tests.{lt-ltb, le-ltb}
use lib.Dec.{T, ltb, lt→ltb}
use Rattle.equivalence.specs.Refusal.{lowest}
use Rattle.equivalence.specs.declared.Refusal.TheVariants.{Operations, Arity, Cells}
use Rattle.equivalence.proofs.Refusals.{of_passed}
use Rattle.std.specs.Prelude.{Ok, Err}
use Rattle.reader.specs.Lines.{operation_tests}

module _ (n operations cells s : ℕ) where
  pub above_operations : 16 < operations + 1 → Err Operations ≡ lowest (operation_tests n operations cells s)
  unfolding lowest operation_tests
  above_operations h = sym (simp (lowest, lt-ltb 16 (operations + 1) h))

  module _ (h : operations + 1 ≤ 16) where
    pub above_arity : 3 < s → Err Arity ≡ lowest (operation_tests n operations cells s)
    unfolding lowest operation_tests
    above_arity k = sym (simp (lowest, le-ltb 16 (operations + 1) h, lt-ltb 3 s k))

    module _ (k : s ≤ 3) (p : ℕ) (e : p ≡ n ^ s) where
      pub above_cells : 32768 < cells + p → Err Cells ≡ lowest (operation_tests n operations cells s)
      unfolding lowest operation_tests
      above_cells l = sym (simp (lowest, le-ltb 16 (operations + 1) h, le-ltb 3 s k, ← e, lt-ltb 32768 (cells + p) l))

      pub passed : cells + p ≤ 32768 → Ok tt ≡ lowest (operation_tests n operations cells s)
      unfolding lowest operation_tests
      passed l = sym (simp (lowest, le-ltb 16 (operations + 1) h, le-ltb 3 s k, ← e, le-ltb 32768 (cells + p) l))

-- what the tests of an operation line leave
pub record Fitting (n operations cells s : ℕ) : Type 0 where
  pub few : operations + 1 ≤ 16
  pub arity : s ≤ 3
  pub room : cells + n ^ s ≤ 32768

pub not_less : (a b : ℕ) → ¬ T (ltb a b) → b ≤ a
not_less a b h = elim (dec_lt a b) [ yes l ↦ absurd (h (lt→ltb a b l)) | no l ↦ omega arith ]

pub fitting : (n operations cells s : ℕ) → lowest (operation_tests n operations cells s) ≡ Ok tt → Fitting n operations cells s
unfolding operation_tests
fitting n operations cells s e =
    let two = of_passed _ _ e in
    let three = of_passed _ _ two.1 in
    let four = of_passed _ _ three.1 in
    record { few = not_less 16 (operations + 1) two.0; arity = not_less 3 s three.0; room = not_less 32768 (cells + n ^ s) four.0 }
