-- What Prefer hands back.
use Rattle.std.specs.Prelude.{ℕ, ◌≡◌, true, false, List, [], Ok}
use Rattle.std.specs.Borrow.{Bor}
use Rattle.equivalence.specs.Equivalence.{Map}
use Rattle.equivalence.specs.Refusal.{prefer_check}
use Rattle.pairorder.specs.Order.{not_later}

-- the earlier of two, the first if they are equal
unfoldable pub earlier_of : {A : Type 0} → ℕ → Map → Map → A → A → A
earlier_of n a b first second = elim (not_later n a b) [ true ↦ first | false ↦ second ]

-- what Prefer hands back: the caller's own slice, the one whose map is the earlier; where a test fails, an empty part at the start of the first
pub record Preferred (n : ℕ) (a b r : Bor (List ℕ)) : Type 0 where
  pub own : prefer_check n a.now b.now ≡ Ok tt → r ≡ earlier_of n a.now b.now a b
  pub empty : ¬ (prefer_check n a.now b.now ≡ Ok tt) → (r.now ≡ []) × (r.ref_ptr ≡ a.ref_ptr)
