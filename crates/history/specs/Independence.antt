-- Sheets are independent: what an Add to one of them comes to does not hang on the other seven.
use Rattle.std.specs.Prelude.{ℕ, ◌≡◌, T, length}
use Rattle.algebra.specs.Algebra.{Algebra}
use Rattle.equivalence.specs.Lists.{every}
use Rattle.sheet.specs.Points.{is_faultless}
use Rattle.bench.specs.Calls.{add_call}
use Rattle.benchsheets.specs.State.{sheet_of}
use Rattle.benchsheets.specs.declared.Bench.{Bench}

-- a bench of eight sheets, none with a fault over the bench's n
pub record AllFaultless (b : Bench) : Type 0 where
  pub eight : length b.sheets ≡ 8
  pub sheets : T (every (is_faultless b.n) b.sheets)

-- two benches share their n and sheet k; the other sheets and what was lost earlier may differ
pub record ShareSheet (k : ℕ) (b other : Bench) : Type 0 where
  pub size : b.n ≡ other.n
  pub sheet : sheet_of b k ≡ sheet_of other k

-- an Add to sheet k has one answer on both, and leaves both with one sheet k: map, tally and points
pub record SameAdd (k : ℕ) (b other : Bench) (a : Algebra) (x y : ℕ) : Type 0 where
  pub answer : (add_call b a k x y).answer ≡ (add_call other a k x y).answer
  pub sheet : sheet_of (add_call b a k x y).bench k ≡ sheet_of (add_call other a k x y).bench k

-- the theorem: so it is of every Add, accepted or refused, on two such benches without faults
abbrev pub IndependenceTheorem : Type 0
IndependenceTheorem =
    (k : ℕ) (b other : Bench) → ShareSheet k b other → AllFaultless b → AllFaultless other → (a : Algebra) (x y : ℕ) → SameAdd k b other a x y
