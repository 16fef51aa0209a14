-- Demand 1, the numbers: each call of the bench is refused with the lowest reason among its tests, under that reason's condition only.
use Rattle.std.specs.Prelude.{ℕ, List}
use Rattle.equivalence.specs.Ranks.{ReasonRight}
use Rattle.algebra.specs.Algebra.{Algebra}
use Rattle.benchtests.specs.Tests.{start_tests, clear_tests, set_tests, known_tests}
use Rattle.bench.specs.Calls.{start_call, add_tests, add_call, clear_call, set_call, return_call, forget_call}
use Rattle.oldbenches.specs.OldKinds.{convert_tests, convert_v1_call, convert_v2_call}
use Rattle.conversion.specs.Conversion.{convert_v3_tests, convert_v3_call}
use Rattle.benchsheets.specs.declared.Bench.{Bench}
use Rattle.oldbenches.specs.declared.BenchV1.{BenchV1}
use Rattle.oldbenches.specs.declared.BenchV2.{BenchV2}
use Rattle.oldbenches.specs.declared.BenchV3.{BenchV3}

-- every call, whatever it is handed
pub record BenchReasons : Type 0 where
  pub start : (n : ℕ) → ReasonRight (start_call n).answer (start_tests n)
  pub add : (b : Bench) (a : Algebra) (k x y : ℕ) → ReasonRight (add_call b a k x y).answer (add_tests b a k x y)
  pub clear : (b : Bench) (k : ℕ) → ReasonRight (clear_call b k).answer (clear_tests b k)
  pub set_point : (b : Bench) (k : ℕ) (name : List ℕ) → ReasonRight (set_call b k name).answer (set_tests b k name)
  pub return_to : (b : Bench) (k : ℕ) (name : List ℕ) → ReasonRight (return_call b k name).answer (known_tests b k name)
  pub forget : (b : Bench) (k : ℕ) (name : List ℕ) → ReasonRight (forget_call b k name).answer (known_tests b k name)
  pub first : (old : BenchV1) → ReasonRight (convert_v1_call old).answer (convert_tests old.n old.sheets)
  pub second : (old : BenchV2) → ReasonRight (convert_v2_call old).answer (convert_tests old.n old.sheets)
  pub third : (old : BenchV3) → ReasonRight (convert_v3_call old).answer (convert_v3_tests old.n old.sheets)
