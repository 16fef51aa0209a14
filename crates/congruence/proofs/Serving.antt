-- What a call may rely on once its tests have passed; and its answer with the lent bytes, where a test declines and where all pass.
use Prim.Native.Nat.{ℕ, ◌≤◌, ◌<◌, ◌/◌}
use mathlib.Core.Bool.{Bool}
use mathlib.Core.List.{List, [], ◌∷◌}
use mathlib.Core.Path.{◌≡◌, ap, ◌∙◌}
use lib.Dec.{T}
use lib.ListN.{length}
use Rattle.equivalence.specs.Equivalence.{Map, is_map}
use Rattle.equivalence.specs.Refusal.{Test, lowest, map_test, space_test, answered, serve, pairs_test, elements_test, equal_test}
use Rattle.equivalence.proofs.Maps.{is_map_of}
use Rattle.equivalence.proofs.Refusals.{of_passed, handed_on}
use Rattle.equivalence.proofs.Refusals.{of_map_test, of_space_test}
use Rattle.algebra.specs.Accepted.{Accepted}
use Rattle.algebra.specs.Algebra.{Algebra, algebra_of}
use Rattle.algebra.specs.Congruence.{is_congruence}
use Rattle.algebra.proofs.Accepted.{accepted_well_formed}
use Rattle.congruence.specs.Calls.{congruence_test, maps_in, maps_test, generate_tests, contained_tests, separate_tests, quotient_space, quotient_tests}
use Rattle.congruence.specs.Calls.{decompose_tests, certify_tests}
use Rattle.congruence.specs.Calls.{certify_call}
use Rattle.theory.specs.Certify.{certified}
use Rattle.theory.specs.Decompose.{factor_space}
use Rattle.maplist.specs.InnerMapLists.{map_list, MapsListed}
use Rattle.theory.proofs.Above.{Below}
use Rattle.equivalence.specs.declared.Refusal.{Refusal}
use Rattle.algebra.proofs.Tested.{of_checked, tests_passed, declined}
use Rattle.congruence.proofs.Testing.{of_pairs_test, of_elements_test, of_equal_test, of_congruence_test, of_maps_test}
use Rattle.std.specs.Prelude.{⊤, Result, Ok, Err, IsErrAnd}

-- ---- what a call may rely on once its tests have passed

module _ (a : Algebra) (room : ℕ) where
  pub of_generate_tests : (ps : List ℕ) → Ok tt ≡ lowest (generate_tests a ps room) → Accepted a × (Below a.size ps × (a.size ≤ room))
  of_generate_tests ps e =
      let p = of_checked a (pairs_test a.size ps ∷ space_test a.size room ∷ []) e in
      let q = of_passed (pairs_test a.size ps) (space_test a.size room ∷ []) p.1 in
      (p.0, (of_pairs_test a.size ps q.0, of_space_test a.size room (of_passed (space_test a.size room) [] q.1).0))

  pub of_contained_tests : (m : Map) → Ok tt ≡ lowest (contained_tests a m room) → Accepted a × (T (is_map a.size m) × (a.size ≤ room))
  of_contained_tests m e =
      let p = of_checked a (map_test a.size m ∷ space_test a.size room ∷ []) e in
      let q = of_passed (map_test a.size m) (space_test a.size room ∷ []) p.1 in
      (p.0, (is_map_of a.size m (of_map_test a.size m q.0), of_space_test a.size room (of_passed (space_test a.size room) [] q.1).0))

  pub of_separate_tests : (v w : ℕ) → Ok tt ≡ lowest (separate_tests a v w room)
      → Accepted a × ((v < a.size) × ((w < a.size) × ((¬ (v ≡ w)) × (a.size ≤ room))))
  of_separate_tests v w e =
      let p = of_checked a (elements_test a.size v w ∷ space_test a.size room ∷ equal_test v w ∷ []) e in
      let q = of_passed (elements_test a.size v w) (space_test a.size room ∷ equal_test v w ∷ []) p.1 in
      let r = of_passed (space_test a.size room) (equal_test v w ∷ []) q.1 in
      let l = of_elements_test a.size v w q.0 in
      (p.0, (l.0, (l.1, (of_equal_test v w (of_passed (equal_test v w) [] r.1).0, of_space_test a.size room r.0))))

  pub of_quotient_tests : (m : Map) → Ok tt ≡ lowest (quotient_tests a m room)
      → T (is_congruence a m) × (Accepted a × (T (is_map a.size m) × (quotient_space a m ≤ room)))
  of_quotient_tests m e =
      let wanted : ℕ = quotient_space a m in
      let p = of_checked a (map_test a.size m ∷ space_test wanted room ∷ congruence_test a m ∷ []) e in
      let q = of_passed (map_test a.size m) (space_test wanted room ∷ congruence_test a m ∷ []) p.1 in
      let r = of_passed (space_test wanted room) (congruence_test a m ∷ []) q.1 in
      let congruent : T (is_congruence a m) = of_congruence_test a m (of_passed (congruence_test a m) [] r.1).0 in
      (congruent, (p.0, (is_map_of a.size m (of_map_test a.size m q.0), of_space_test wanted room r.0)))

pub of_decompose_tests : (a : Algebra) (room : ℕ) → Ok tt ≡ lowest (decompose_tests a room) → Accepted a × (factor_space a ≤ room)
of_decompose_tests a room e =
    let p = of_checked a (space_test (factor_space a) room ∷ []) e in
    (p.0, of_space_test (factor_space a) room (of_passed (space_test (factor_space a) room) [] p.1).0)

pub of_certify_tests : (a : Algebra) (bytes : List ℕ) → Ok tt ≡ lowest (certify_tests a bytes) → Accepted a × MapsListed a.size (length bytes / a.size) bytes
of_certify_tests a bytes e =
    let p = of_checked a (maps_test a.size bytes ∷ []) e in
    let w = accepted_well_formed a p.0 in
    (p.0, of_maps_test a.size bytes w.some w.most (of_passed (maps_test a.size bytes) [] p.1).0)

pub certify_some : (n : ℕ) (arities cells bytes : List ℕ) {check : Result ⊤ Refusal} → check ≡ Ok tt → check ≡ lowest (certify_tests (algebra_of n arities cells) bytes)
    → 0 < n
certify_some n arities cells bytes known e = (of_certify_tests (algebra_of n arities cells) bytes (tests_passed _ known e)).1.some

-- ---- the answer, and the lent bytes afterwards

-- a test declines: the refusal is handed on, and nothing is written
pub declined_on : {A : Type 0} (tests : List Test) (answer : A) (new lent : List ℕ) {check : Result ⊤ Refusal} → check ≡ lowest tests → {r : Refusal} → check ≡ Err r
    → {given : Result A Refusal} → IsErrAnd given (λ e. e ≡ r) → (given, lent) ≡ serve tests answer new lent
declined_on {A} tests answer new lent e {r} known h = ap (λ (g : Result A Refusal). (g, lent)) (handed_on h) ∙ declined tests answer new lent e r known

module _ (a : Algebra) (bytes : List ℕ) {check : Result ⊤ Refusal} (e : check ≡ lowest (certify_tests a bytes)) where
  pub certify_declined : {r : Refusal} → check ≡ Err r → {given : Result Bool Refusal} → IsErrAnd given (λ e. e ≡ r) → given ≡ certify_call a bytes
  unfolding certify_call answered
  certify_declined known h = handed_on h ∙ rw (← e, known)

  pub certify_decided : check ≡ Ok tt → {r : Bool} → r ≡ certified a (map_list a.size (length bytes / a.size) bytes) → Ok r ≡ certify_call a bytes
  unfolding certify_call answered maps_in map_list
  certify_decided known f = rw (← e, known, f)
