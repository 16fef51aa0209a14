-- The lines of a table, by its arity: where they lie, and splitting along them all.
use Prim.Native.Nat.{ℕ, ◌+◌, ◌*◌, ◌^◌, ◌≤◌}
use mathlib.Core.Bool.{true, false}
use mathlib.Core.List.{List}
use mathlib.Core.Path.{◌≡◌}
use native.Mathlib.Omega.{arith}
use Rattle.kernel.specs.InnerKernel.{Listed}
use Rattle.equivalence.specs.Equivalence.{Map}
use Rattle.algebra.proofs.Powers.{power_one, power_three}
use Rattle.refinement.specs.InnerSplitting.{KeepsOn, Chosen, Planes, LineSplit, Walk, LinesWalked, PlanesWalked, TableWalked}
use Rattle.refinement.proofs.Splits.{map_said}
use Rattle.refinement.proofs.Walks.{walk_said, walk_more, line_walked}

-- ---- room

-- a table by its arity
pub room_one : (n s base size : ℕ) → s ≡ 1 → base + n ^ s ≤ size → base + n ≤ size
room_one n s base size e h = let k : base + n ^ 1 ≤ size = rw e at h in omega (arith, power_one n)

pub room_three : (n s base size : ℕ) → s ≡ 3 → base + n ^ s ≤ size → base + n * n * n ≤ size
room_three n s base size e h = let k : base + n ^ 3 ≤ size = rw e at h in omega (arith, power_three n)

-- ---- walks over a table

module _ {n : ℕ} {live : List ℕ} {used : ℕ} {cells : List ℕ} {base : ℕ} {m₀ m : Map} where
  pub table_one : {others others' : List ℕ} {left left' : ℕ} → Walk n live used cells m₀ others left → LineSplit n cells base 1 m₀ m others left others' left'
      → TableWalked n live used cells base 1 m₀ m others' left'
  table_one w u = record {
    walked = walk_said (λ g good. good) (λ h. h tt) (line_walked {Given = λ g. Unit {0}} w (map_said (λ h e. h) u.split) u.sifted);
  }

  pub table_two : {m' : Map} {others others' : List ℕ} {left left' : ℕ} → LinesWalked n live used cells base false 1 n m₀ m others left → LinesWalked n live used cells base true n 1 m m' others' left'
      → TableWalked n live used cells base 2 m₀ m' others' left'
  table_two s u = record { walked = walk_more (λ g h. h.1) (λ g p q. (p, q)) (walk_said (λ g h. h.0) (λ h. h) s.walked) u.walked }

  pub table_three : {m' m'' : Map} {others others' others'' : List ℕ} {left left' left'' : ℕ} → PlanesWalked n live used cells base false false n 1 (n * n) m₀ m others left
      → PlanesWalked n live used cells base true false (n * n) 1 n m m' others' left' → PlanesWalked n live used cells base true true (n * n) n 1 m' m'' others'' left''
      → TableWalked n live used cells base 3 m₀ m'' others'' left''
  table_three s u v = record {
    walked = walk_more {Done = λ g. (Planes (Chosen live used false) (Chosen live used false) (KeepsOn (Listed live used)) cells base n 1 (n * n) g
        × Planes (Chosen live used true) (Chosen live used false) (KeepsOn (Listed live used)) cells base (n * n) 1 n g)}
        (λ g h. h.1.1) (λ g p q. (p.0, (p.1, q)))
        (walk_more (λ g h. h.1.0) (λ g p q. (p, q)) (walk_said (λ g h. h.0) (λ h. h) s.walked) u.walked) v.walked;
  }

module _ {n : ℕ} {live : List ℕ} {used : ℕ} {cells : List ℕ} {base s : ℕ} {m : Map} where
  pub table_of : {k : ℕ} {m' : Map} {others' : List ℕ} {left' : ℕ} → TableWalked n live used cells base k m m' others' left' → s ≡ k → TableWalked n live used cells base s m m' others' left'
  table_of u e = rw e u
