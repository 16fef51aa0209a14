-- Demand 3 is a claim over calls together: Decompose; for every factor, Quotient of the same algebra by the factor's map as listed; and Decompose on
-- the tables and b that this Quotient gave, with the arities as before and nothing lent. Here stand these calls, one after the other, and the claim.
use Rattle.std.specs.Prelude.{ℕ, zero, suc, ◌+◌, ◌≤◌, ◌<◌, ◌≡◌, List, [], length, Result, Ok, Err}
use Rattle.std.specs.Borrow.{MutBor}
use denote.Triple.Both.{Both}
use Rattle.equivalence.specs.Equivalence.{Map}
use Rattle.equivalence.specs.Lent.{stretch}
use Rattle.equivalence.specs.declared.Element.{Element}
use Rattle.algebra.specs.Accepted.{Accepted}
use Rattle.algebra.specs.Algebra.{Algebra}
use Rattle.theory.specs.Decompose.{factor_space}
use Rattle.congruence.specs.Calls.{quotient_space, quotient_call, algebra_from, decomposed, decompose_call}
use Rattle.equivalence.specs.declared.Refusal.{Refusal}
use Rattle.congruence.specs.Decomposed.{Decomposed}
use Rattle.congruence.specs.Decomposed.TheVariants.{Factors, Irreducible}
use Rattle.claim.specs.declared.FactorsDecomposed.{FactorsDecomposed}

-- how many factors an answer counts
unfoldable pub factor_count : Result Decomposed Refusal → ℕ
factor_count (Ok (Factors k)) = k
factor_count (Ok (Irreducible x y)) = 0
factor_count (Err r) = 0

-- 1 for the answer 11, 0 for every other
unfoldable pub irreducible_count : Result Decomposed Refusal → ℕ
irreducible_count (Ok (Factors k)) = 0
irreducible_count (Ok (Irreducible x y)) = 1
irreducible_count (Err r) = 0

-- Decompose, lent nothing, on the tables and b that Quotient gave: its answer; a refusal of Quotient is passed on
unfoldable pub last_call : List ℕ → Result ℕ Refusal → List ℕ → Result Decomposed Refusal
last_call arities (Ok b) tables = (decompose_call (algebra_from b arities tables) []).0
last_call arities (Err r) tables = Err r

-- the calls for one factor: Quotient of a by its map into the lent tables, and the last call; its answer, and the tables
unfoldable pub factor_calls : Algebra → Map → List ℕ → Result Decomposed Refusal × List ℕ
factor_calls a m tables = let divided = quotient_call a m tables in (last_call a.arities divided.0 divided.1, divided.1)

-- the tables when the calls for factor i begin: those for the factors below are made; `list` is as Decompose wrote it, factor i from byte i × n
unfoldable pub tables_at : Algebra → List ℕ → List ℕ → ℕ → List ℕ
tables_at a list tables zero = tables
tables_at a list tables (suc i) = (factor_calls a (stretch a.size list i) (tables_at a list tables i)).1

-- what the last call for factor i answers
unfoldable pub last_answer : Algebra → List ℕ → List ℕ → ℕ → Result Decomposed Refusal
last_answer a list tables i = (factor_calls a (stretch a.size list i) (tables_at a list tables i)).0

-- how many of the last calls for the factors below number i answer 11
unfoldable pub irreducible_among : Algebra → List ℕ → List ℕ → ℕ → ℕ
irreducible_among a list tables zero = 0
irreducible_among a list tables (suc i) = irreducible_among a list tables i + irreducible_count (last_answer a list tables i)

-- a lent slice, when a call begins and when it has ended
abbrev pub Slice : Type 0
Slice = Both (MutBor (List ℕ)) (MutBor (List ℕ))

-- the calls were made: the first answer, how many last calls answered 11, and every lent byte afterwards
pub record CallsMade (a : Algebra) (list tables : Slice) (r : FactorsDecomposed) : Type 0 where
  pub first : (r.first, list.exit.now) ≡ decompose_call a list.entry.now
  pub counted : r.irreducible ≡ irreducible_among a list.exit.now tables.entry.now (factor_count r.first)
  pub rest : tables.exit.now ≡ tables_at a list.exit.now tables.entry.now (factor_count r.first)

-- Decompose is lent at least what it wants for its list, and Quotient, by each factor's map, for its tables
pub record LentEnough (a : Algebra) (listLent tablesLent : List ℕ) : Type 0 where
  pub list : factor_space a ≤ length listLent
  pub tables : (i : ℕ) → i < factor_count (Ok (decomposed a)) → quotient_space a (stretch a.size (decompose_call a listLent).1 i) ≤ length tablesLent

-- of an accepted algebra: Decompose finds the factors or 11, and every factor's last call answers 11
pub record EveryLastCall11 (a : Algebra) (list tables : List ℕ) (r : FactorsDecomposed) : Type 0 where
  pub first : r.first ≡ Ok (decomposed a)
  pub each : (i : ℕ) → i < factor_count r.first → (x : Element) × (y : Element) × (last_answer a (decompose_call a list).1 tables i ≡ Ok (Irreducible x y))
  pub all : r.irreducible ≡ factor_count r.first

-- the claim: of an accepted algebra, where the calls are lent enough, every last call answers 11
abbrev pub Claim : Algebra → Slice → Slice → FactorsDecomposed → Type 0
Claim a list tables r = Accepted a → LentEnough a list.entry.now tables.entry.now → EveryLastCall11 a list.entry.now tables.entry.now r
