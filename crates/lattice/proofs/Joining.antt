-- The pass that writes a join: a copy of one map, in which each element is put into one block with its name in the other (`Joined`). Laws
-- start and keep it, and say that at its end the join stands there.
use Prim.Native.Nat.{ℕ, ◌+◌, ◌≤◌, ◌<◌}
use mathlib.Core.List.{List}
use mathlib.Core.Path.{◌≡◌, refl, sym, ap, ◌∙◌}
use native.Mathlib.Decide.{ℕ_discrete}
use native.Mathlib.Omega.{arith}
use lib.ListN.{length, take}
use lib.Seq.{get_or-take, length-take-le}
use Rattle.equivalence.specs.Equivalence.{Map, byte, join}
use Rattle.kernel.specs.InnerKernel.{Canonical, Filled, United, Joined}
use Rattle.equivalence.specs.Lent.{written}
use Rattle.equivalence.proofs.Joins.{LeastUpper, join_law, join_is}
use Rattle.equivalence.proofs.Maps.{IsMap}
use Rattle.equivalence.proofs.Writing.{filled_written}

pub joined_none : {n : ℕ} {g f : ℕ → ℕ} → Canonical n f → Joined n 0 g f f
joined_none c = record { canonical = c; within = λ x y l k p. p; holds = λ x l. absurd (omega arith); least = λ h w q. w; rest = λ x l. refl }

pub joined_more : {n i : ℕ} {g f f' f'' : ℕ → ℕ} → i < n → Canonical n g → Joined n i g f f' → United n i (g i) f' f'' → Joined n (i + 1) g f f''
joined_more {n} {i} {g} {f} {f'} {f''} l c j u =
    record {
      canonical = u.canonical;
      within = λ x y k q e. u.within x y k q (j.within x y k q e);
      holds = λ x k. elim (ℕ_discrete x i) [
        | yes e ↦ rw e u.holds
        | no e ↦ u.within x (g x) (omega arith) (omega (arith, c.below x (omega arith))) (j.holds x (omega arith))
      ];
      least = λ h w q. u.least h (j.least h w (λ x k. q x (omega arith))) (q i (omega arith));
      rest = λ x k. u.rest x k ∙ j.rest x k;
    }

-- the loop's end
pub joined_all : {n i : ℕ} {g f f' : ℕ → ℕ} → i ≤ n → n ≤ i → Joined n i g f f' → Joined n n g f f'
joined_all {n} {i} l k j = let e : i ≡ n = omega arith in rw e at j

pub canonical_filled : {n : ℕ} {f g h : ℕ → ℕ} → Canonical n f → Filled n f g h → Canonical n h
canonical_filled {n} {f} {g} {h} c r =
    record {
      below = λ x l. omega (arith, r.first x l, c.below x l);
      named = λ x l. ap h (r.first x l) ∙ r.first (f x) (omega (arith, c.below x l)) ∙ c.named x l ∙ sym (r.first x l);
    }

module _ (n : ℕ) (a b lent after : List ℕ) (copied : ℕ → ℕ) (fits : n ≤ length lent) (long : length after ≡ length lent) (c : Canonical n (byte b))
    (r : Filled n (byte a) (byte lent) copied) (j : Joined n n (byte b) copied (byte after)) where
  new : Map
  new = take n after

  at : (x : ℕ) → x < n → byte new x ≡ byte after x
  unfolding new
  at x l = get_or-take n after x 0 l

  is_map_lem : IsMap n new
  unfolding new
  is_map_lem =
      record {
        long = length-take-le n after (omega arith);
        low = λ x l. omega (arith, at x l, j.canonical.below x l);
        named = λ x l. ap (byte new) (at x l) ∙ at (byte after x) (omega (arith, j.canonical.below x l)) ∙ j.canonical.named x l ∙ sym (at x l);
      }

  least_upper : LeastUpper n a b new
  least_upper =
      record {
        map = is_map_lem;
        left = λ x y l k e. at x l ∙ j.within x y l k (r.first x l ∙ e ∙ sym (r.first y k)) ∙ sym (at y k);
        right = λ x y l k e. at x l ∙ j.holds x l ∙ ap (byte after) e ∙ sym (j.holds y k) ∙ sym (at y k);
        least = λ e p f g x y l k q. j.least (byte e) (λ u v i w s. f u v i w (sym (r.first u i) ∙ s ∙ r.first v w))
            (λ u i. g u (byte b u) i (omega (arith, c.below u i)) (sym (c.named u i))) x y l k (sym (at x l) ∙ q ∙ at y k);
      }

  pub joined_written : after ≡ written (join n a b) lent
  joined_written =
      let e : join n a b ≡ new = join_is n a b new least_upper in
      filled_written n (join n a b) lent after (join_law n a b).map.long fits long
      record { first = λ x l. sym (at x l) ∙ ap (λ (m : Map). byte m x) (sym e); rest = λ x l. j.rest x l ∙ r.rest x l }
