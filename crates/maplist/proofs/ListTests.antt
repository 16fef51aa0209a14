-- A test of each map of a list in a slice, one after the other: what holds when those below number i have passed (`Tested`), and the laws that
-- start it, keep it and end it, with the answer of a function that stops at the first map that fails.
use Prim.Native.Nat.{ℕ, suc, ◌+◌, ◌-◌, ◌*◌, ◌≤◌, ◌<◌}
use mathlib.Core.Bool.{Bool, true, false, not, ◌&&◌}
use mathlib.Core.List.{List, []}
use mathlib.Core.Path.{◌≡◌, sym, ap, subst, ◌∙◌}
use native.Mathlib.Decide.{ℕ_discrete}
use native.Mathlib.Nat.{suc-mul, mul-le-mul_right}
use native.Mathlib.Omega.{arith}
use lib.Dec.{T}
use lib.ListN.{length, get_or, take, drop}
use Rattle.equivalence.specs.Equivalence.{Map, is_map}
use Rattle.equivalence.specs.Lists.{every}
use Rattle.equivalence.specs.Lent.{stretch}
use Rattle.equivalence.proofs.Lists.{every_of, of_every, member_at, member_index}
use Rattle.equivalence.proofs.Tests.{left, right, T_of, not_T_of, true_is, false_is, and_true}
use Rattle.algebra.specs.Algebra.{Algebra}
use Rattle.algebra.specs.Congruence.{is_congruence, Congruence}
use Rattle.maplist.specs.InnerMapLists.{map_list, MapsListed}
use Rattle.maplist.proofs.MapLists.{map_list_length, map_list_at}
use borrow.Author.Tests.{not-true, not-false}

-- a test holds of a map_list where it holds of each of its stretches
module _ (p : Map → Bool) (n k : ℕ) (bytes : List ℕ) where
  pub every_map_list : ((i : ℕ) → i < k → T (p (stretch n bytes i))) → T (every p (map_list n k bytes))
  every_map_list h =
      every_of p (map_list n k bytes)
      (λ m j. let r = member_index (map_list n k bytes) m [] j in
      let l : r.0 < k = omega (arith, r.1, map_list_length n k bytes) in
      subst (λ (c : Map). T (p c)) (sym (map_list_at n k bytes r.0 l) ∙ r.2) (h r.0 l))

  pub of_every_map_list : T (every p (map_list n k bytes)) → (i : ℕ) → i < k → T (p (stretch n bytes i))
  of_every_map_list t i l =
      subst (λ (c : Map). T (p c)) (map_list_at n k bytes i l)
      (of_every p (map_list n k bytes) t (get_or (map_list n k bytes) i []) (member_at (map_list n k bytes) i [] (omega (arith, map_list_length n k bytes))))

-- the bytes from `at` up to `next`
abbrev pub between : ℕ → ℕ → List ℕ → List ℕ
between at next l = take (next - at) (drop at l)

pub record Tested (p : Map → Bool) (n k : ℕ) (bytes : List ℕ) (i at : ℕ) : Type 0 where
  pub room : k * n ≤ length bytes
  pub upto : i ≤ k
  pub place : at ≡ i * n
  pub passed : (j : ℕ) → j < i → T (p (stretch n bytes j))

pub tested_none : (p : Map → Bool) (n k : ℕ) (bytes : List ℕ) → k * n ≤ length bytes → Tested p n k bytes 0 0
tested_none p n k bytes room = record { room = room; upto = omega arith; place = omega arith; passed = λ j l. absurd (omega arith) }

module _ {p : Map → Bool} {n k : ℕ} {bytes : List ℕ} {i at : ℕ} (t : Tested p n k bytes i at) where
  -- all have passed
  pub tested_all : k ≤ i → true ≡ every p (map_list n k bytes)
  tested_all e = true_is _ (every_map_list p n k bytes (λ j l. t.passed j (omega arith)))

  module _ (l : i < k) where
    -- the next map has room
    pub tested_fits : at + n ≤ length bytes
    tested_fits = omega (arith, t.place, t.room, suc-mul i n, mul-le-mul_right n l)

    pub tested_this : between at (at + n) bytes ≡ stretch n bytes i
    unfolding stretch
    tested_this = let e : at + n - at ≡ n = omega arith in rw (e, t.place)

    -- it fails, and the answer is no
    pub tested_fails : {r : Bool} → r ≡ p (between at (at + n) bytes) → not r ≡ true → false ≡ every p (map_list n k bytes)
    tested_fails e f =
        false_is _ (λ s. not_T_of (sym (ap p tested_this) ∙ sym e ∙ not-true _ f) (of_every_map_list p n k bytes s i l))

    -- it passes
    pub tested_more : {r : Bool} → r ≡ p (between at (at + n) bytes) → not r ≡ false → Tested p n k bytes (i + 1) (at + n)
    tested_more e f =
        record {
          room = t.room;
          upto = omega arith;
          place = let s : i + 1 ≡ suc i = omega arith in rw s (omega (arith, t.place, suc-mul i n));
          passed = λ j m. elim (ℕ_discrete j i) [
            | yes is ↦ rw is (T_of (sym (ap p tested_this) ∙ sym e ∙ not-false _ f))
            | no is ↦ t.passed j (omega arith)
          ];
        }

-- ---- the map in its turn, where all are known to be maps or congruences

module _ {n k : ℕ} {bytes : List ℕ} (listed : MapsListed n k bytes) {p : Map → Bool} {i at : ℕ} (t : Tested p n k bytes i at) (l : i < k) where
  pub turn_map : T (is_map n (between at (at + n) bytes))
  turn_map = rw (tested_this t l) (listed.each i l)

  pub turn_both : {r : Bool} (q : Map → Bool) → r ≡ q (between at (at + n) bytes) → r ≡ (is_map n (between at (at + n) bytes) && q (between at (at + n) bytes))
  turn_both q e = let m : Map = between at (at + n) bytes in e ∙ and_true {a = is_map n m} (sym (true_is (is_map n m) turn_map))

module _ {a : Algebra} {k : ℕ} {bytes : List ℕ} (all : T (every (λ m. is_map a.size m && is_congruence a m) (map_list a.size k bytes)))
    {p : Map → Bool} {i at : ℕ} (t : Tested p a.size k bytes i at) (l : i < k) where
  pub turn_congruence : Congruence a (between at (at + a.size) bytes)
  turn_congruence =
      let n : ℕ = a.size in
      let m : Map = stretch n bytes i in
      let s : T (is_map n m && is_congruence a m) = of_every_map_list (λ m. is_map n m && is_congruence a m) n k bytes all i l in
      subst (λ (c : Map). Congruence a c) (sym (tested_this t l)) (record { map = left (is_map n m) (is_congruence a m) s; respects = right (is_map n m) (is_congruence a m) s })
