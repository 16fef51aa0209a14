-- Both conditions, by the meets of the suffixes: they begin with the meet of the whole list, and the answer is no where that is not the identity, else that of the second.
use Prim.Native.Nat.{ℕ, ◌*◌}
use mathlib.Core.Bool.{Bool, true, false, not, ◌&&◌}
use mathlib.Core.List.{List}
use mathlib.Core.Path.{◌≡◌, sym, ap, ◌∙◌}
use native.Mathlib.Omega.{arith}
use lib.ListN.{length, take, drop}
use Rattle.equivalence.specs.Equivalence.{Map, byte, is_identity, meet_all}
use Rattle.kernel.specs.InnerKernel.{Canonical}
use Rattle.equivalence.specs.Lists.{up_to, every, without}
use Rattle.equivalence.specs.Lent.{stretch}
use Rattle.equivalence.proofs.Meets.{meet_all_map}
use Rattle.equivalence.proofs.Tests.{and_true}
use Rattle.maplist.specs.InnerMapLists.{SuffixMeets}
use Rattle.maplist.proofs.MapLists.{Begins, begins_sym, begins_is, begins_take, begins_canonical, begins_is_identity}
use Rattle.irredundance.specs.InnerIrredundant.{irredundant}

-- the meets of the suffixes begin with the meet of the whole list
module _ (n : ℕ) (ms : List Map) (bytes : List ℕ) (s : SuffixMeets n ms bytes) where
  whole_list : Begins n bytes (meet_all n ms)
  unfolding stretch
  whole_list =
      let none : 0 * n ≡ 0 = omega arith in
      begins_is (begins_sym (begins_take bytes)) (ap (λ (z : ℕ). take n (drop z bytes)) (sym none) ∙ s 0 (omega arith))

  pub all_suffixes_canonical : Canonical n (byte bytes)
  all_suffixes_canonical = begins_canonical whole_list (meet_all_map n ms)

  pub meets_elsewhere : {r : Bool} → r ≡ is_identity n bytes → r ≡ false → r ≡ irredundant n ms
  unfolding irredundant
  meets_elsewhere e f =
      f ∙ sym (ap (λ (z : Bool). z && every (λ i. not (is_identity n (meet_all n (without i ms)))) (up_to (length ms))) (sym (begins_is_identity whole_list) ∙ sym e ∙ f))

  pub needed_decides : {q r : Bool} → q ≡ is_identity n bytes → q ≡ true → r ≡ every (λ i. not (is_identity n (meet_all n (without i ms)))) (up_to (length ms)) → r ≡ irredundant n ms
  unfolding irredundant
  needed_decides e f g = g ∙ and_true (sym (begins_is_identity whole_list) ∙ sym e ∙ f)
