-- Document 01's examples 1 to 11, the small inputs of its table of reasons, and what document 02 says of Decompose's space, as the calls answer them.
use Rattle.std.specs.Prelude.{ℕ, List, [], ◌∷◌, ◌≡◌, replicate}
use Rattle.equivalence.specs.Outcome.{Outcome, success, written_outcome}
use Rattle.algebra.specs.Algebra.{algebra_of}
use Rattle.theory.specs.Samples.{u, c, bare, minimum}
use Rattle.congruence.specs.Calls.{generate_call, contained_call, separate_call, quotient_call, decompose_call}
use Rattle.congruence.specs.Outcome.{generated_outcome, divided_outcome, decomposed_outcome}

-- what a call shows: its answer's outcome, and the lent bytes afterwards
abbrev pub shown : {A : Type 0} → (A → Outcome) → A × List ℕ → Outcome × List ℕ
shown outcome call = (outcome call.0, call.1)

-- k lent bytes, each of them 9
abbrev pub nines : ℕ → List ℕ
nines k = replicate k 9

-- 11 with its two elements
abbrev pub eleven_with : ℕ → ℕ → Outcome
eleven_with x y = record { reason = 11; count = 0; first = x; second = y }

-- another reason, with zeros
abbrev pub refused_with : ℕ → Outcome
refused_with r = record { reason = r; count = 0; first = 0; second = 0 }

-- examples 1 to 11; one byte more is lent than the call writes, or wants
pub record Examples : Type 0 where
  pub one : shown generated_outcome (generate_call u (0 ∷ 2 ∷ []) (nines 5)) ≡ (success 2, 0 ∷ 1 ∷ 0 ∷ 1 ∷ 9 ∷ [])
  pub two : shown generated_outcome (generate_call u (2 ∷ 3 ∷ []) (nines 5)) ≡ (success 1, 0 ∷ 1 ∷ 2 ∷ 2 ∷ 9 ∷ [])
  pub three : shown generated_outcome (generate_call u [] (nines 5)) ≡ (success 0, 0 ∷ 1 ∷ 2 ∷ 3 ∷ 9 ∷ [])
  pub four : shown written_outcome (contained_call u (0 ∷ 0 ∷ 0 ∷ 3 ∷ []) (nines 5)) ≡ (success 0, 0 ∷ 0 ∷ 2 ∷ 3 ∷ 9 ∷ [])
  pub five : shown written_outcome (separate_call u 0 1 (nines 5)) ≡ (success 0, 0 ∷ 1 ∷ 0 ∷ 1 ∷ 9 ∷ [])
  pub six : shown decomposed_outcome (decompose_call u (nines 13)) ≡ (success 2, 0 ∷ 1 ∷ 0 ∷ 1 ∷ 0 ∷ 0 ∷ 2 ∷ 2 ∷ nines 5)
  pub seven : shown decomposed_outcome (decompose_call c (nines 13)) ≡ (eleven_with 0 2, nines 13)
  pub eight : shown decomposed_outcome (decompose_call (bare 3) (nines 7)) ≡ (success 2, 0 ∷ 1 ∷ 0 ∷ 0 ∷ 0 ∷ 2 ∷ 9 ∷ [])
  pub nine : shown decomposed_outcome (decompose_call (bare 2) (nines 3)) ≡ (eleven_with 0 1, nines 3)
  pub ten : shown decomposed_outcome (decompose_call (bare 1) (nines 1)) ≡ (eleven_with 0 0, nines 1)
  pub eleven : shown decomposed_outcome (decompose_call minimum (nines 7)) ≡ (success 2, 0 ∷ 1 ∷ 1 ∷ 0 ∷ 0 ∷ 2 ∷ 9 ∷ [])

-- the small input of each reason from 1 to 12; those of 13 and 14 are the bench's and the text's
pub record SmallInputs : Type 0 where
  pub size : shown generated_outcome (generate_call (bare 65) [] (nines 65)) ≡ (refused_with 1, nines 65)
  pub operations : shown generated_outcome (generate_call (algebra_of 1 (replicate 17 0) (replicate 17 0)) [] (nines 1)) ≡ (refused_with 2, nines 1)
  pub arity : shown generated_outcome (generate_call (algebra_of 1 (4 ∷ []) (0 ∷ [])) [] (nines 1)) ≡ (refused_with 3, nines 1)
  pub cells : shown generated_outcome (generate_call (algebra_of 64 (3 ∷ []) []) [] (nines 64)) ≡ (refused_with 4, nines 64)
  pub length : shown generated_outcome (generate_call (algebra_of 2 (1 ∷ []) (0 ∷ [])) [] (nines 2)) ≡ (refused_with 5, nines 2)
  pub cell : shown generated_outcome (generate_call (algebra_of 2 (1 ∷ []) (0 ∷ 2 ∷ [])) [] (nines 2)) ≡ (refused_with 6, nines 2)
  pub range : shown generated_outcome (generate_call (bare 2) (0 ∷ 2 ∷ []) (nines 2)) ≡ (refused_with 7, nines 2)
  pub map : shown written_outcome (contained_call (bare 3) (0 ∷ 2 ∷ 2 ∷ []) (nines 3)) ≡ (refused_with 8, nines 3)
  pub space : shown generated_outcome (generate_call (bare 4) [] (nines 3)) ≡ (refused_with 9, nines 3)
  pub equal : shown written_outcome (separate_call (bare 2) 1 1 (nines 2)) ≡ (refused_with 10, nines 2)
  pub irreducible : shown decomposed_outcome (decompose_call (bare 2) (nines 2)) ≡ (eleven_with 0 1, nines 2)
  pub congruence : shown divided_outcome (quotient_call u (0 ∷ 1 ∷ 0 ∷ 3 ∷ []) (nines 3)) ≡ (refused_with 12, nines 3)
  -- the lowest number goes first: 7 before 9, 9 before 12
  pub range_first : shown generated_outcome (generate_call u (0 ∷ 4 ∷ []) (nines 2)) ≡ (refused_with 7, nines 2)
  pub space_first : shown divided_outcome (quotient_call u (0 ∷ 1 ∷ 0 ∷ 3 ∷ []) (nines 2)) ≡ (refused_with 9, nines 2)

-- document 02, job 2: Decompose wants count × n bytes, and of an irreducible algebra none
pub record SpaceExamples : Type 0 where
  pub exact : shown decomposed_outcome (decompose_call u (nines 8)) ≡ (success 2, 0 ∷ 1 ∷ 0 ∷ 1 ∷ 0 ∷ 0 ∷ 2 ∷ 2 ∷ [])
  pub short : shown decomposed_outcome (decompose_call u (nines 7)) ≡ (refused_with 9, nines 7)
  pub irreducible : shown decomposed_outcome (decompose_call c []) ≡ (eleven_with 0 2, [])
