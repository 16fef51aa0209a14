-- The tests of the services behind the algebra's (`Tested` of `algebra`): each one where it applies and where it is passed over; and what a check function finds by the flags of
-- its tests in turn. What a call does with that is in `Serving`.
use Prim.Native.Nat.{ℕ, ◌≤◌, ◌<◌, ◌/◌, ◌%◌}
use mathlib.Core.Bool.{Bool, true, false, not, ◌||◌}
use mathlib.Core.List.{List, ◌∷◌, ◌++◌}
use mathlib.Core.Logic.{inl, inr}
use mathlib.Core.Path.{◌≡◌, sym, ap, ◌∙◌}
use native.Mathlib.Decide.{dec_lt}
use native.Mathlib.Nat.{div-add-mod'}
use native.Mathlib.Omega.{arith}
use lib.Dec.{T, eqb, ltb, T_not, not_T, eqb→eq, ltb→lt, lt→ltb}
use lib.ListN.{length, get_or}
use Rattle.equivalence.specs.Equivalence.{Map, is_map}
use Rattle.equivalence.specs.Lists.{every}
use Rattle.equivalence.specs.Refusal.{Test, lowest, space_test, pairs_test, elements_test, equal_test}
use Rattle.equivalence.proofs.Maps.{of_is_map}
use Rattle.equivalence.proofs.Refusals.{map_refused, map_passed, space_passed, lowest_next, lowest_here}
use Rattle.equivalence.proofs.Refusals.{space_refused, handed_on}
use Rattle.equivalence.proofs.Tests.{T?, or_left, or_right, or_cases, eq→eqb, T_of, not_T_of}
use Rattle.algebra.specs.Accepted.{algebra_tests}
use Rattle.algebra.specs.Algebra.{Algebra, algebra_of}
use Rattle.algebra.specs.Congruence.{is_congruence}
use Rattle.algebra.proofs.Accepted.{WellFormed, every_at, accepted_well_formed}
use Rattle.algebra.proofs.Tested.{algebra_declines, algebra_passes, passed_accepted, test_declines, test_passes, all_pass}
use borrow.Author.Tests.{not-false}
use Rattle.congruence.specs.Calls.{congruence_test, maps_in, maps_test}
use Rattle.maplist.specs.InnerMapLists.{map_list, MapsListed}
use Rattle.theory.proofs.Above.{Below}
use Rattle.maplist.proofs.ListTests.{of_every_map_list}
use Rattle.equivalence.specs.declared.Refusal.TheVariants.{Range, NotMap, Space, Equal, NotCongruence}
use Rattle.std.specs.Prelude.{⊤, Result, Ok, Err, IsErrAnd}
use Rattle.equivalence.specs.declared.Refusal.{Refusal}

-- where `is_map` says so, it is a map
pub flag_map : (n : ℕ) (m : Map) {r : Bool} → r ≡ is_map n m → not r ≡ false → T (is_map n m)
flag_map n m {r} e f = T_of (sym e ∙ not-false r f)

pub flag_long : (n : ℕ) (m : Map) {r : Bool} → r ≡ is_map n m → not r ≡ false → n ≤ length m
flag_long n m e f = omega (arith, (of_is_map n m (flag_map n m e f)).long)

module _ (n : ℕ) (arities cells : List ℕ) {check : Result ⊤ Refusal} (known : check ≡ Ok tt) (e : check ≡ lowest (algebra_tests (algebra_of n arities cells))) where
  passed_well_formed : WellFormed (algebra_of n arities cells)
  passed_well_formed = accepted_well_formed (algebra_of n arities cells) (passed_accepted (algebra_of n arities cells) known e)

  pub passed_some : 1 ≤ n
  passed_some = passed_well_formed.some

  pub passed_most : n ≤ 64
  passed_most = passed_well_formed.most

  pub passed_operations : length arities ≤ 16
  passed_operations = passed_well_formed.operations

  pub passed_arity : (i : ℕ) → i < length arities → get_or arities i 0 ≤ 3
  passed_arity = passed_well_formed.arity

-- a reason of the algebra's is handed on
pub algebra_hands_on : (a : Algebra) (rest : List Test) {check : Result ⊤ Refusal} → check ≡ lowest (algebra_tests a) → {r : Refusal} → check ≡ Err r
    → {answer : Result ⊤ Refusal} → IsErrAnd answer (λ e. e ≡ r) → answer ≡ lowest (algebra_tests a ++ rest)
algebra_hands_on a rest e {r} known h = handed_on h ∙ algebra_declines a rest r known e

-- ---- 7, of a list of pairs

module _ (n : ℕ) (ps : List ℕ) (rest : List Test) where
  pub pairs_odd : ¬ (length ps % 2 ≡ 0) → lowest (pairs_test n ps ∷ rest) ≡ Err Range
  unfolding pairs_test
  pairs_odd h = lowest_here (pairs_test n ps) rest (or_left (not (eqb (length ps % 2) 0)) _ (not_T (eqb (length ps % 2) 0) (λ t. h (eqb→eq (length ps % 2) 0 t))))

  pub pairs_refused : {r : Bool} → r ≡ every (λ x. ltb x n) ps → not r ≡ true → lowest (pairs_test n ps ∷ rest) ≡ Err Range
  unfolding pairs_test
  pairs_refused e f = lowest_here (pairs_test n ps) rest (or_right (not (eqb (length ps % 2) 0)) _ (T_of (ap not (sym e) ∙ f)))

  pub pairs_passed : {r : Bool} → length ps % 2 ≡ 0 → r ≡ every (λ x. ltb x n) ps → not r ≡ false → lowest (pairs_test n ps ∷ rest) ≡ lowest rest
  unfolding pairs_test
  pairs_passed even e f =
      lowest_next (pairs_test n ps) rest (λ t. elim (or_cases (not (eqb (length ps % 2) 0)) _ t) [
        | inl s ↦ absurd (T_not (eqb (length ps % 2) 0) s (eq→eqb (length ps % 2) 0 even))
        | inr s ↦ absurd (not_T_of (ap not (sym e) ∙ f) s)
      ])

pub of_pairs_test : (n : ℕ) (ps : List ℕ) → ¬ T (pairs_test n ps).applies → Below n ps
unfolding pairs_test
of_pairs_test n ps t =
    let all : Bool = every (λ x. ltb x n) ps in
    elim (T? all) [
      | yes s ↦ λ i l. ltb→lt (get_or ps i 0) n (every_at (λ x. ltb x n) ps s i l)
      | no s ↦ absurd (t (or_right (not (eqb (length ps % 2) 0)) (not all) (not_T all s)))
    ]

-- ---- 7, of two elements

module _ (n v w : ℕ) (rest : List Test) where
  pub first_refused : n ≤ v → lowest (elements_test n v w ∷ rest) ≡ Err Range
  unfolding elements_test
  first_refused h = lowest_here (elements_test n v w) rest (or_left (not (ltb v n)) _ (not_T (ltb v n) (λ t. omega (arith, ltb→lt v n t))))

  pub second_refused : n ≤ w → lowest (elements_test n v w ∷ rest) ≡ Err Range
  unfolding elements_test
  second_refused h = lowest_here (elements_test n v w) rest (or_right (not (ltb v n)) _ (not_T (ltb w n) (λ t. omega (arith, ltb→lt w n t))))

  pub elements_passed : v < n → w < n → lowest (elements_test n v w ∷ rest) ≡ lowest rest
  unfolding elements_test
  elements_passed h k =
      lowest_next (elements_test n v w) rest (λ t. elim (or_cases (not (ltb v n)) _ t) [
        | inl s ↦ absurd (T_not (ltb v n) s (lt→ltb v n h))
        | inr s ↦ absurd (T_not (ltb w n) s (lt→ltb w n k))
      ])

pub of_elements_test : (n v w : ℕ) → ¬ T (elements_test n v w).applies → (v < n) × (w < n)
unfolding elements_test
of_elements_test n v w t = (
  elim (T? (ltb v n)) [ yes s ↦ ltb→lt v n s | no s ↦ absurd (t (or_left (not (ltb v n)) _ (not_T (ltb v n) s))) ],
  elim (T? (ltb w n)) [ yes s ↦ ltb→lt w n s | no s ↦ absurd (t (or_right (not (ltb v n)) _ (not_T (ltb w n) s))) ],
)

-- ---- 10

module _ (v w : ℕ) (rest : List Test) where
  pub equal_refused : v ≡ w → lowest (equal_test v w ∷ rest) ≡ Err Equal
  unfolding equal_test
  equal_refused e = lowest_here (equal_test v w) rest (eq→eqb v w e)

  pub equal_passed : ¬ (v ≡ w) → lowest (equal_test v w ∷ rest) ≡ lowest rest
  unfolding equal_test
  equal_passed h = lowest_next (equal_test v w) rest (λ t. h (eqb→eq v w t))

pub of_equal_test : (v w : ℕ) → ¬ T (equal_test v w).applies → ¬ (v ≡ w)
unfolding equal_test
of_equal_test v w t e = t (eq→eqb v w e)

-- ---- 12

module _ (a : Algebra) (m : Map) (rest : List Test) where
  pub congruence_refused : {r : Bool} → r ≡ is_congruence a m → not r ≡ true → lowest (congruence_test a m ∷ rest) ≡ Err NotCongruence
  unfolding congruence_test
  congruence_refused e f = lowest_here (congruence_test a m) rest (T_of (ap not (sym e) ∙ f))

  pub congruence_passed : {r : Bool} → r ≡ is_congruence a m → not r ≡ false → lowest (congruence_test a m ∷ rest) ≡ lowest rest
  unfolding congruence_test
  congruence_passed e f = lowest_next (congruence_test a m) rest (not_T_of (ap not (sym e) ∙ f))

pub of_congruence_test : (a : Algebra) (m : Map) → ¬ T (congruence_test a m).applies → T (is_congruence a m)
unfolding congruence_test
of_congruence_test a m t = elim (T? (is_congruence a m)) [ yes s ↦ s | no s ↦ absurd (t (not_T (is_congruence a m) s)) ]

-- ---- 8, of a list of maps

module _ (n : ℕ) (bytes : List ℕ) (rest : List Test) where
  pub maps_ragged : ¬ (length bytes % n ≡ 0) → lowest (maps_test n bytes ∷ rest) ≡ Err NotMap
  unfolding maps_test
  maps_ragged h =
      lowest_here (maps_test n bytes) rest (or_left (not (eqb (length bytes % n) 0) || ltb 63 (length bytes / n)) _
      (or_left (not (eqb (length bytes % n) 0)) _ (not_T (eqb (length bytes % n) 0) (λ t. h (eqb→eq (length bytes % n) 0 t)))))

  pub maps_many : 63 < length bytes / n → lowest (maps_test n bytes ∷ rest) ≡ Err NotMap
  unfolding maps_test
  maps_many h =
      lowest_here (maps_test n bytes) rest (or_left (not (eqb (length bytes % n) 0) || ltb 63 (length bytes / n)) _
      (or_right (not (eqb (length bytes % n) 0)) _ (lt→ltb 63 (length bytes / n) h)))

  pub maps_refused : {r : Bool} → r ≡ every (is_map n) (map_list n (length bytes / n) bytes) → not r ≡ true → lowest (maps_test n bytes ∷ rest) ≡ Err NotMap
  unfolding maps_test maps_in map_list
  maps_refused e f =
      lowest_here (maps_test n bytes) rest (or_right (not (eqb (length bytes % n) 0) || ltb 63 (length bytes / n)) _ (T_of (ap not (sym e) ∙ f)))

  pub maps_passed : {r : Bool} → length bytes % n ≡ 0 → length bytes / n ≤ 63 → r ≡ every (is_map n) (map_list n (length bytes / n) bytes) → not r ≡ false
      → lowest (maps_test n bytes ∷ rest) ≡ lowest rest
  unfolding maps_test maps_in map_list
  maps_passed even few e f =
      lowest_next (maps_test n bytes) rest (λ t. elim (or_cases (not (eqb (length bytes % n) 0) || ltb 63 (length bytes / n)) _ t) [
        | inl s ↦ elim (or_cases (not (eqb (length bytes % n) 0)) _ s) [
          | inl u ↦ absurd (T_not (eqb (length bytes % n) 0) u (eq→eqb (length bytes % n) 0 even))
          | inr u ↦ absurd (omega (arith, ltb→lt 63 (length bytes / n) u))
        ]
        | inr s ↦ absurd (not_T_of (ap not (sym e) ∙ f) s)
      ])

pub of_maps_test : (n : ℕ) (bytes : List ℕ) → 1 ≤ n → n ≤ 64 → ¬ T (maps_test n bytes).applies → MapsListed n (length bytes / n) bytes
unfolding maps_test maps_in map_list
of_maps_test n bytes some most t =
    let ragged : Bool = not (eqb (length bytes % n) 0) in
    let many : Bool = ltb 63 (length bytes / n) in
    let all : Bool = every (is_map n) (maps_in n bytes) in
    record {
      some = some;
      most = most;
      few = elim (dec_lt 63 (length bytes / n)) [ yes h ↦ absurd (t (or_left (ragged || many) (not all) (or_right ragged many (lt→ltb 63 (length bytes / n) h)))) | no h ↦ omega arith ];
      room = omega (arith, div-add-mod' (length bytes) n);
      each = λ i l. elim (T? all) [
        | yes s ↦ of_every_map_list (is_map n) n (length bytes / n) bytes s i l
        | no s ↦ absurd (t (or_right (ragged || many) (not all) (not_T all s)))
      ];
    }

-- ---- 9, where a function measured what is wanted

module _ (wanted lent : ℕ) (rest : List Test) {measured : ℕ} (e : measured ≡ wanted) where
  pub measured_refused : lent < measured → lowest (space_test wanted lent ∷ rest) ≡ Err Space
  measured_refused h = space_refused wanted lent rest (omega arith)

  pub measured_passed : measured ≤ lent → lowest (space_test wanted lent ∷ rest) ≡ lowest rest
  measured_passed h = space_passed wanted lent rest (omega arith)

-- ---- what a check function finds, by the flags of its tests in turn
pub ruleset tests-in-turn = (
  algebra_passes,
  test_declines,
  test_passes,
  all_pass,
  pairs_odd,
  pairs_refused,
  pairs_passed,
  first_refused,
  second_refused,
  elements_passed,
  map_refused,
  map_passed,
  maps_ragged,
  maps_many,
  maps_refused,
  maps_passed,
  space_refused,
  space_passed,
  measured_refused,
  measured_passed,
  equal_refused,
  equal_passed,
  congruence_refused,
  congruence_passed,
)
