-- The marks of refused pairs: none at first, kept by a map that grows, set where a try was refused.
use Prim.Native.Nat.{ℕ, ◌*◌, ◌+◌, ◌≤◌, ◌<◌}
use mathlib.Core.List.{List}
use mathlib.Core.Path.{◌≡◌, sym, ap, ◌∙◌}
use native.Mathlib.Decide.{ℕ_discrete}
use native.Mathlib.Omega.{arith}
use lib.ListN.{set}
use lib.Seq.{get_or-set_other}
use Rattle.equivalence.specs.Equivalence.{byte}
use Rattle.kernel.specs.InnerKernel.{Within}
use Rattle.algebra.specs.Algebra.{Algebra}
use Rattle.closure.specs.InnerStarts.{RefusedRightlyAbove}
use Rattle.bounding.specs.InnerSettled.{Refused}

module _ (a : Algebra) (v w : ℕ) (f : ℕ → ℕ) where
  -- nothing is marked at first
  pub refusals_none : (table : List ℕ) → a.size ≤ 64 → ((i : ℕ) → i < 4096 → byte table i ≡ 0) → RefusedRightlyAbove a table v w f
  refusals_none table most z g c k p q lp lq mark e = absurd (mark (z (p * 64 + q) (omega arith)))

  -- marks are refusals by what is above a larger map
  pub refusals_up : (f' : ℕ → ℕ) (table : List ℕ) → Within a.size f f' → RefusedRightlyAbove a table v w f → RefusedRightlyAbove a table v w f'
  refusals_up f' table up h g c k = h g c (λ x y lx ly e. k x y lx ly (up x y lx ly e))

  -- a refused pair is marked
  pub refusals_mark : (table : List ℕ) (x y : ℕ) → a.size ≤ 64 → y < a.size → Refused a v w f x y → RefusedRightlyAbove a table v w f → RefusedRightlyAbove a (set table (x * 64 + y) 1) v w f
  refusals_mark table x y most ly r h g c k p q lp lq mark e = elim (ℕ_discrete (p * 64 + q) (x * 64 + y)) [
    | yes i ↦ let ep : p ≡ x = omega arith in
        let eq : q ≡ y = omega arith in
        r g c k (sym (ap g ep) ∙ e ∙ ap g eq)
    | no i ↦ h g c k p q lp lq (λ z. mark (get_or-set_other table (x * 64 + y) (p * 64 + q) 1 0 i ∙ z)) e
  ]
