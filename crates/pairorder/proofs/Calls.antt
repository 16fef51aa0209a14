-- What Prefer hands back meets its definition: one law for each return.
use Prim.Native.Nat.{ℕ}
use mathlib.Core.Bool.{Bool, true, false}
use mathlib.Core.List.{List, []}
use mathlib.Core.Path.{◌≡◌, refl, sym, ◌∙◌}
use denote.Ref.{Bor}
use Rattle.equivalence.specs.Refusal.{prefer_check}
use Rattle.equivalence.specs.declared.Refusal.{Refusal}
use Rattle.std.specs.Prelude.{⊤, Result, is_err}
use Rattle.equivalence.proofs.Refusals.{passed_of, declined_of}
use Rattle.equivalence.proofs.TwoMaps.{TwoMaps, of_prefer_check}
use Rattle.pairorder.specs.Calls.{earlier_of, Preferred}
use Rattle.pairorder.specs.Order.{not_later}

module _ (n : ℕ) (a b : Bor (List ℕ)) {check : Result ⊤ Refusal} (s : check ≡ prefer_check n a.now b.now) {declined : Bool} (e : declined ≡ is_err check) where
  pub preferred_empty : (r : Bor (List ℕ)) → declined ≡ true → r.now ≡ [] → r.ref_ptr ≡ a.ref_ptr → Preferred n a b r
  preferred_empty r d f g = record { own = λ h. absurd (declined_of e d (s ∙ h)); empty = λ h. (f, g) }

  module _ (p : declined ≡ false) {first : Bool} (t : first ≡ not_later n a.now b.now) where
    pub preferred_first : first ≡ true → Preferred n a b a
    unfolding earlier_of
    preferred_first f = record { own = λ h. rw (sym t ∙ f, earlier_of) refl; empty = λ h. absurd (h (sym s ∙ passed_of e p)) }

    pub preferred_second : first ≡ false → Preferred n a b b
    unfolding earlier_of
    preferred_second f = record { own = λ h. rw (sym t ∙ f, earlier_of) refl; empty = λ h. absurd (h (sym s ∙ passed_of e p)) }

  -- what the tests leave where they pass
  pub preferred_maps : declined ≡ false → TwoMaps n a.now b.now
  preferred_maps p = of_prefer_check n a.now b.now (sym s ∙ passed_of e p)
