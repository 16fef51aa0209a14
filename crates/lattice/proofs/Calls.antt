-- The calls of this crate: what their tests leave where they pass, and how an answer meets its definition.
use Prim.Native.Nat.{ℕ, ◌≤◌, ◌<◌}
use mathlib.Core.List.{List, [], ◌∷◌}
use mathlib.Core.Path.{◌≡◌, refl, sym, ◌∙◌}
use native.Mathlib.Omega.{arith}
use lib.ListN.{length}
use Rattle.kernel.specs.InnerKernel.{Canonical}
use Rattle.lattice.specs.Calls.{two_maps_tests, two_maps_check, two_maps_call}
use Rattle.equivalence.specs.Equivalence.{Map, byte}
use Rattle.equivalence.specs.Refusal.{lowest, size_test, map_test, space_test, prefer_check, answered}
use Rattle.equivalence.specs.Lent.{written, lent_after}
use Rattle.equivalence.proofs.Bytes.{canonical_of}
use Rattle.equivalence.proofs.Refusals.{handed_on, lowest_none, lowest_append, lowest_failed, of_passed, passed_append, space_refused, space_passed, of_space_test}
use Rattle.equivalence.proofs.TwoMaps.{of_prefer_check}
use Rattle.equivalence.specs.declared.Refusal.{Refusal}
use Rattle.equivalence.specs.declared.Refusal.TheVariants.{Space}
use Rattle.std.specs.Prelude.{⊤, Result, Ok, Err, IsErrAnd}

-- the tests of two maps, and the test of space behind them
module _ (n : ℕ) (a b : Map) (room : ℕ) {check : Result ⊤ Refusal} (s : check ≡ prefer_check n a b) where
  pub space_unmet : {r : Refusal} → check ≡ Err r → {answer : Result ⊤ Refusal} → IsErrAnd answer (λ e. e ≡ r) → answer ≡ lowest (two_maps_tests n a b room)
  unfolding prefer_check
  space_unmet e h = handed_on h ∙ sym (lowest_failed _ (space_test n room ∷ []) _ (sym s ∙ e))

  module _ (e : check ≡ Ok tt) where
    pub space_short : room < n → Err Space ≡ lowest (two_maps_tests n a b room)
    unfolding prefer_check
    space_short l = sym (lowest_append _ (space_test n room ∷ []) (sym s ∙ e) ∙ space_refused n room _ l)

    pub space_enough : n ≤ room → Ok tt ≡ lowest (two_maps_tests n a b room)
    unfolding prefer_check
    space_enough l = sym (lowest_append _ (space_test n room ∷ []) (sym s ∙ e) ∙ space_passed n room _ l ∙ lowest_none)

-- what the tests of a call that writes leave, as the functions below it require it
pub record Writable (n : ℕ) (a b : Map) (lent : ℕ) : Type 0 where
  pub small : n ≤ 64
  pub first : n ≤ length a
  pub second : n ≤ length b
  pub room : n ≤ lent
  pub names : Canonical n (byte a)
  pub others : Canonical n (byte b)

pub two_maps_writable : (n : ℕ) (a b : Map) (room : ℕ) {check : Result ⊤ Refusal} → check ≡ lowest (two_maps_tests n a b room) → check ≡ Ok tt → Writable n a b room
unfolding prefer_check
two_maps_writable n a b room s e =
    let p = passed_append (size_test n ∷ map_test n a ∷ map_test n b ∷ []) (space_test n room ∷ []) (sym s ∙ e) in
    let t = of_prefer_check n a b p.0 in
    record {
      small = t.small;
      first = omega (arith, t.first.long);
      second = omega (arith, t.second.long);
      room = of_space_test n room (of_passed _ _ p.1).0;
      names = canonical_of n a t.first;
      others = canonical_of n b t.second;
    }

module _ (new : Map) (n : ℕ) (a b : Map) (lent : List ℕ) {check : Result ⊤ Refusal} (s : check ≡ lowest (two_maps_tests n a b (length lent))) where
  pub two_maps_refused : {r : Refusal} → check ≡ Err r → {answer : Result ⊤ Refusal} → IsErrAnd answer (λ e. e ≡ r) → (answer, lent) ≡ two_maps_call new n a b lent
  unfolding two_maps_call two_maps_check answered lent_after
  two_maps_refused e h = rw (sym s, e, handed_on h) refl

  pub two_maps_done : check ≡ Ok tt → (after : List ℕ) → after ≡ written new lent → (Ok tt, after) ≡ two_maps_call new n a b lent
  unfolding two_maps_call two_maps_check answered lent_after
  two_maps_done e after f = rw (sym s, e, f) refl
