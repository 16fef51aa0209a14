-- Two maps that meet in the identity: no two elements have the same names in both. What holds when the elements below i are known to be alone
-- (`Alone`), and the laws that start it, keep it and end it, with no at the first element that has the names of another.
use Prim.Native.Nat.{ℕ, ◌+◌, ◌≤◌, ◌<◌}
use mathlib.Core.Bool.{true, false}
use mathlib.Core.List.{List}
use mathlib.Core.Path.{◌≡◌, sym, ◌∙◌}
use native.Mathlib.Decide.{ℕ_discrete}
use native.Mathlib.Omega.{arith}
use Rattle.equivalence.specs.Equivalence.{byte, is_identity, meet}
use Rattle.lattice.specs.InnerMeeting.{Entered}
use Rattle.equivalence.proofs.Bytes.{canonical_of, is_identity_all, is_identity_not}
use Rattle.lattice.proofs.Meeting.{Entering, entering_is, entering_more}
use Rattle.equivalence.proofs.Meets.{meet_map}

pub record Alone (n i : ℕ) (a b table : List ℕ) : Type 0 where
  pub entering : Entering n i a b table
  pub alone : (x : ℕ) → x < i → byte (meet n a b) x ≡ x

module _ {n i : ℕ} {a b table : List ℕ} (s : Alone n i a b table) where
  -- all are
  pub alone_all : n ≤ i → true ≡ is_identity n (meet n a b)
  alone_all l = is_identity_all n (meet n a b) (canonical_of n (meet n a b) (meet_map n a b)) i l s.alone

  module _ (l : i < n) where
    module _ {v : ℕ} {table' : List ℕ} (t : Entered i (byte a i) (byte b i) table v table') where
      -- one more is
      pub alone_more : v ≡ i → Alone n (i + 1) a b table'
      alone_more e =
          record {
            entering = entering_more s.entering l t;
            alone = λ x k. elim (ℕ_discrete x i) [ yes p ↦ rw p (sym (entering_is s.entering l t) ∙ e) | no p ↦ s.alone x (omega arith) ];
          }

      -- this one is not
      pub alone_not : (v ≡ i → ⊥) → false ≡ is_identity n (meet n a b)
      alone_not h = is_identity_not n (meet n a b) (canonical_of n (meet n a b) (meet_map n a b)) i l (λ e. h (entering_is s.entering l t ∙ e))
