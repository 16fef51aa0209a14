-- The number of blocks, the block of an element and the smallest member of a block.
use Prim.Native.Nat.{ℕ, ◌≤◌, ◌<◌}
use mathlib.Core.Logic.{◌≢◌}
use mathlib.Core.Path.{◌≡◌, sym, ap, ◌∙◌}
use native.Mathlib.Decide.{ℕ_discrete}
use native.Mathlib.Omega.{arith}
use lib.Dec.{eqb, eqb→eq}
use lib.ListN.{length, get_or}
use Rattle.equivalence.specs.Equivalence.{Map, byte, names_of, blocks, block_of}
use Rattle.equivalence.specs.Lists.{up_to, keep}
use Rattle.equivalence.proofs.AllMaps.{member_names_of, of_names_of}
use Rattle.equivalence.proofs.Lists.{keep_all, keep_more, member_at, member_index, up_to_length, member_up_to, of_up_to, rank, ranked}
use Rattle.equivalence.proofs.Maps.{Holds, IsMap, Inside, low_inside}
use Rattle.equivalence.proofs.Tests.{eq→eqb}

pub blocks_le : (n : ℕ) (m : Map) → blocks n m ≤ n
unfolding blocks names_of
blocks_le n m = omega (arith, keep_all (λ x. eqb (byte m x) x) (up_to n), up_to_length n)

pub blocks_some : (n : ℕ) (m : Map) → 1 ≤ n → IsMap n m → 1 ≤ blocks n m
unfolding blocks
blocks_some n m o p = let r = member_index (names_of n m) 0 0 (member_names_of n m 0 o (omega (arith, p.low 0 o))) in omega (arith, r.1)

-- e lies inside d and holds apart two elements that d joins: e has more blocks
pub blocks_more : (n : ℕ) (d e : Map) → IsMap n d → IsMap n e → Inside n e d → (v w : ℕ) → v < n → w < n → Holds d v w → ¬ Holds e v w → blocks n d < blocks n e
unfolding blocks names_of
blocks_more n d e p q h v w l k s a =
    elim (ℕ_discrete (byte d (byte e v)) (byte e v)) [
      | yes f ↦ elim (ℕ_discrete (byte d (byte e w)) (byte e w)) [
        | yes g ↦ absurd (a (sym f ∙ sym (to v l) ∙ s ∙ to w k ∙ g))
        | no g ↦ by w k g
      ]
      | no f ↦ by v l f
    ]
  where
    below : (x : ℕ) → x < n → byte e x < n
    below x i = omega (arith, q.low x i)

    to : (x : ℕ) → x < n → byte d x ≡ byte d (byte e x)
    to x i = h x (byte e x) i (below x i) (sym (q.named x i))

    by : (x : ℕ) → x < n → byte d (byte e x) ≢ byte e x → length (keep (λ x. eqb (byte d x) x) (up_to n)) < length (keep (λ x. eqb (byte e x) x) (up_to n))
    by x i f =
        keep_more (λ x. eqb (byte d x) x) (λ x. eqb (byte e x) x) (up_to n)
        (λ y j t. let u : y < n = of_up_to n y j in
        eq→eqb (byte e y) y (omega (arith, eqb→eq (byte d y) y t, low_inside n e d q p h y u, q.low y u)))
        (byte e x) (member_up_to n (byte e x) (below x i)) (λ t. f (eqb→eq _ _ t)) (eq→eqb _ _ (q.named x i))

abbrev pub smallest : ℕ → Map → ℕ → ℕ
smallest n m b = get_or (names_of n m) b 0

module _ (n : ℕ) (m : Map) (p : IsMap n m) where
  pub block_below : (x : ℕ) → x < n → block_of m x < blocks n m
  unfolding block_of blocks names_of
  block_below x l = (rank (λ x. eqb (byte m x) x) n (byte m x) (omega (arith, p.low x l)) (eq→eqb (byte m (byte m x)) (byte m x) (p.named x l))).0

  pub smallest_block : (x : ℕ) → x < n → smallest n m (block_of m x) ≡ byte m x
  unfolding block_of blocks names_of
  smallest_block x l = (rank (λ x. eqb (byte m x) x) n (byte m x) (omega (arith, p.low x l)) (eq→eqb (byte m (byte m x)) (byte m x) (p.named x l))).1

  pub smallest_below : (b : ℕ) → b < blocks n m → (smallest n m b < n) × (byte m (smallest n m b) ≡ smallest n m b)
  unfolding blocks
  smallest_below b l = of_names_of n m (smallest n m b) (member_at (names_of n m) b 0 l)

  pub block_smallest : (b : ℕ) → b < blocks n m → block_of m (smallest n m b) ≡ b
  unfolding block_of blocks names_of
  block_smallest b l =
      let e : byte m (get_or (keep (λ x. eqb (byte m x) x) (up_to n)) b 0) ≡ get_or (keep (λ x. eqb (byte m x) x) (up_to n)) b 0 = (smallest_below b l).1 in
      rw e (ranked (λ x. eqb (byte m x) x) n b l)

  pub block_holds : (x y : ℕ) → Holds m x y → block_of m x ≡ block_of m y
  unfolding block_of
  block_holds x y e = ap (λ (r : ℕ). blocks r m) e

  pub of_block : (x y : ℕ) → x < n → y < n → block_of m x ≡ block_of m y → Holds m x y
  of_block x y l k e = sym (smallest_block x l) ∙ ap (smallest n m) e ∙ smallest_block y k
