-- The first n bytes of a slice as a map: canonical bytes, and what a pass over them shows (is it a map, is it inside another, is it the
-- identity, how many blocks it has).
use Prim.Native.Nat.{ℕ, zero, suc, ◌+◌, ◌≤◌, ◌<◌}
use mathlib.Core.Bool.{Bool, true, false, ◌&&◌}
use mathlib.Core.List.{[], ◌∷◌}
use mathlib.Core.Path.{◌≡◌, refl, sym, ap, ◌∙◌}
use native.Mathlib.Numerals.{add-one}
use native.Mathlib.Omega.{arith}
use lib.Dec.{eqb, leb, eqb→eq}
use lib.ListN.{length, length-append}
use Rattle.equivalence.specs.Equivalence.{Map, byte, is_map, inside, names_of, blocks, is_identity}
use Rattle.kernel.specs.InnerKernel.{Canonical, bit, names}
use Rattle.equivalence.specs.Lists.{up_to, every, keep}
use Rattle.equivalence.proofs.Lists.{below_of, of_below, keep_append}
use Rattle.equivalence.proofs.Maps.{IsMap, inside_of, of_inside, is_identity_of, of_is_identity}
use Rattle.equivalence.proofs.Tests.{eq→eqb, same_flags, pick, true_is, false_is}
use Rattle.kernel.proofs.Names.{names_most}
use borrow.Author.Tests.{eq-eqb, ne_eqb}

pub canonical_of : (n : ℕ) (m : Map) → IsMap n m → Canonical n (byte m)
canonical_of n m p = record { below = p.low; named = p.named }

-- the test of one byte
abbrev pub is_named : Map → ℕ → Bool
is_named m x = leb (byte m x) x && eqb (byte m (byte m x)) (byte m x)

-- a map is known by its length and by what its bytes name
pub is_map_like : (n : ℕ) (m : Map) → length m ≡ n → every (is_named m) (up_to n) ≡ is_map n m
unfolding is_map
is_map_like n m e = simp (eq-eqb (length m) n e)

pub is_map_unlike : (n : ℕ) (m : Map) → (length m ≡ n → ⊥) → eqb (length m) n ≡ is_map n m
unfolding is_map
is_map_unlike n m h = simp (ne_eqb (length m) n h)

module _ (n : ℕ) (a b : Map) (c : Canonical n (byte a)) where
  -- b joins each element with the first of its block in a
  abbrev pub follows : ℕ → Bool
  follows x = eqb (byte b x) (byte b (byte a x))

  pub inside_each : every follows (up_to n) ≡ inside n a b
  inside_each =
      same_flags _ _
      (λ t. inside_of n a b (λ x y lx ly e. eqb→eq _ _ (of_below n follows t x lx) ∙ ap (byte b) e ∙ sym (eqb→eq _ _ (of_below n follows t y ly))))
      (λ t. below_of n follows (λ x l. eq→eqb _ _ (of_inside n a b t x (byte a x) l (omega (arith, c.below x l)) (sym (c.named x l)))))

module _ (n : ℕ) (m : Map) (c : Canonical n (byte m)) where
  pub is_identity_all : (i : ℕ) → n ≤ i → ((x : ℕ) → x < i → byte m x ≡ x) → true ≡ is_identity n m
  is_identity_all i l h = true_is _ (is_identity_of n m (λ x y lx ly e. sym (h x (omega arith)) ∙ e ∙ h y (omega arith)))

  pub is_identity_not : (x : ℕ) → x < n → (byte m x ≡ x → ⊥) → false ≡ is_identity n m
  is_identity_not x l h = false_is _ (λ t. h (of_is_identity n m t (byte m x) x (omega (arith, c.below x l)) l (c.named x l)))

  -- each element is its own name
  abbrev pub alone : ℕ → Bool
  alone x = eqb (byte m x) x

  pub is_identity_each : every alone (up_to n) ≡ is_identity n m
  is_identity_each =
      same_flags _ _
      (λ t. is_identity_of n m (λ x y lx ly e. sym (eqb→eq _ _ (of_below n alone t x lx)) ∙ e ∙ eqb→eq _ _ (of_below n alone t y ly)))
      (λ t. below_of n alone (λ x l. eq→eqb _ _ (of_is_identity n m t (byte m x) x (omega (arith, c.below x l)) l (c.named x l))))

pub names_more : (n : ℕ) (f : ℕ → ℕ) → names (n + 1) f ≡ names n f + bit (eqb (f n) n)
unfolding names
names_more n f = rw (add-one n, names)

pub names_le : (n : ℕ) (f : ℕ → ℕ) → names n f ≤ n
names_le n f = names_most n f

kept_one : (b : Bool) (x : ℕ) → bit b ≡ length (pick {A = Map} b (x ∷ []) [])
kept_one true x = refl
kept_one false x = refl

-- the elements that are their own names are the smallest members of the blocks
pub names_blocks : (n : ℕ) (m : Map) → names n (byte m) ≡ blocks n m
unfolding names blocks names_of up_to keep
names_blocks zero m = refl
names_blocks (suc n) m =
    let own : ℕ → Bool = λ x. eqb (byte m x) x in
    rw (names_blocks n m, keep_append own (up_to n) (n ∷ []), length-append (keep own (up_to n)) (keep own (n ∷ [])))
    (ap (λ (k : ℕ). length (keep own (up_to n)) + k) (kept_one (own n) n))
