-- A loop over the maps of a list in a slice, each found at its number times n: where the map in its turn stands, what holds once it has passed a test or failed it,
-- and what follows when all have passed.
use Prim.Native.Nat.{ℕ, ◌+◌, ◌-◌, ◌*◌, ◌≤◌, ◌<◌}
use mathlib.Core.Bool.{Bool, true, false, not, ◌&&◌}
use mathlib.Core.List.{List}
use mathlib.Core.Path.{◌≡◌, sym, ap, subst, ◌∙◌}
use native.Mathlib.Decide.{ℕ_discrete}
use native.Mathlib.Nat.{suc-mul, mul-le-mul_right}
use native.Mathlib.Omega.{arith}
use lib.Dec.{T}
use lib.ListN.{length}
use Rattle.equivalence.specs.Equivalence.{Map, is_map}
use Rattle.equivalence.specs.Lists.{every}
use Rattle.equivalence.specs.Lent.{stretch}
use Rattle.equivalence.proofs.Tests.{left, right, T_of, not_T_of, true_is, false_is, and_true}
use Rattle.algebra.specs.Algebra.{Algebra}
use Rattle.algebra.specs.Congruence.{is_congruence, Congruence}
use Rattle.maplist.specs.InnerMapLists.{map_list, MapsListed}
use Rattle.maplist.proofs.ListTests.{between, every_map_list, of_every_map_list}
use borrow.Author.Tests.{not-true, not-false}

-- the maps below number i have passed a test; all k of the list have room
pub record Turns (p : Map → Bool) (n k : ℕ) (bytes : List ℕ) (i : ℕ) : Type 0 where
  pub room : k * n ≤ length bytes
  pub passed : (j : ℕ) → j < i → T (p (stretch n bytes j))

pub turns_begin : (p : Map → Bool) (n k : ℕ) (bytes : List ℕ) → k * n ≤ length bytes → Turns p n k bytes 0
turns_begin p n k bytes room = record { room = room; passed = λ j l. absurd (omega arith) }

module _ {p : Map → Bool} {n k : ℕ} {bytes : List ℕ} {i : ℕ} (t : Turns p n k bytes i) where
  -- all have passed
  pub turns_end : k ≤ i → true ≡ every p (map_list n k bytes)
  turns_end e = true_is _ (every_map_list p n k bytes (λ j l. t.passed j (omega arith)))

  module _ (l : i < k) where
    -- the next map has room
    pub turn_fits : i * n + n ≤ length bytes
    turn_fits = omega (arith, t.room, suc-mul i n, mul-le-mul_right n l)

    pub turn_stretch : between (i * n) (i * n + n) bytes ≡ stretch n bytes i
    unfolding stretch
    turn_stretch = let e : i * n + n - i * n ≡ n = omega arith in rw e

    -- it fails, and the answer is no
    pub turn_fails : {r : Bool} → r ≡ p (between (i * n) (i * n + n) bytes) → not r ≡ true → false ≡ every p (map_list n k bytes)
    turn_fails e f = false_is _ (λ s. not_T_of (sym (ap p turn_stretch) ∙ sym e ∙ not-true _ f) (of_every_map_list p n k bytes s i l))

    -- it passes
    pub turn_passes : {r : Bool} → r ≡ p (between (i * n) (i * n + n) bytes) → not r ≡ false → Turns p n k bytes (i + 1)
    turn_passes e f =
        record {
          room = t.room;
          passed = λ j m. elim (ℕ_discrete j i) [
            | yes is ↦ rw is (T_of (sym (ap p turn_stretch) ∙ sym e ∙ not-false _ f))
            | no is ↦ t.passed j (omega arith)
          ];
        }

-- ---- the map in its turn, where all are known to be maps or congruences

module _ {n k : ℕ} {bytes : List ℕ} (listed : MapsListed n k bytes) {p : Map → Bool} {i : ℕ} (t : Turns p n k bytes i) (l : i < k) where
  pub turn_map : T (is_map n (between (i * n) (i * n + n) bytes))
  turn_map = rw (turn_stretch t l) (listed.each i l)

  pub turn_both : {r : Bool} (q : Map → Bool) → r ≡ q (between (i * n) (i * n + n) bytes)
      → r ≡ (is_map n (between (i * n) (i * n + n) bytes) && q (between (i * n) (i * n + n) bytes))
  turn_both q e = let m : Map = between (i * n) (i * n + n) bytes in e ∙ and_true {a = is_map n m} (sym (true_is (is_map n m) turn_map))

module _ {a : Algebra} {k : ℕ} {bytes : List ℕ} (all : T (every (λ m. is_map a.size m && is_congruence a m) (map_list a.size k bytes)))
    {p : Map → Bool} {i : ℕ} (t : Turns p a.size k bytes i) (l : i < k) where
  pub turn_congruence : Congruence a (between (i * a.size) (i * a.size + a.size) bytes)
  turn_congruence =
      let n : ℕ = a.size in
      let m : Map = stretch n bytes i in
      let s : T (is_map n m && is_congruence a m) = of_every_map_list (λ m. is_map n m && is_congruence a m) n k bytes all i l in
      subst (λ (c : Map). Congruence a c) (sym (turn_stretch t l)) (record { map = left (is_map n m) (is_congruence a m) s; respects = right (is_map n m) (is_congruence a m) s })
