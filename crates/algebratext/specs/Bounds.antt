-- How large the numbers of an answer can be.
use Rattle.std.specs.Prelude.{ℕ, ◌≤◌, ◌≡◌, Result, IfOk, length}
use Rattle.equivalence.specs.declared.Refusal.{Refusal}
use Rattle.algebratext.specs.declared.AlgebraRead.{AlgebraRead}

-- no text has more than 131,290 bytes: four for each of 32,768 cells, and 218 besides
abbrev pub TextBounded : Result ℕ Refusal → Type 0
TextBounded a = IfOk a (λ k. k ≤ 131290)

-- no algebra that is read has more than 16 operations and 32,768 cells, and there are 16 bytes for its arities
pub record ReadBounded (r : AlgebraRead) : Type 0 where
  pub operations : r.operations ≤ 16
  pub cells : r.cells ≤ 32768
  pub sixteen : length r.arities ≡ 16
