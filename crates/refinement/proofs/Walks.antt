-- Walks over lines: what a walk begins with, walks one after the other, and what is known where no others are left.
use Prim.Native.Nat.{ℕ, suc, zero, ◌+◌, ◌*◌, ◌≤◌, ◌<◌}
use mathlib.Core.Bool.{Bool, true, false}
use mathlib.Core.List.{List}
use mathlib.Core.Path.{◌≡◌}
use native.Mathlib.Omega.{arith}
use Rattle.equivalence.specs.Equivalence.{Map, byte}
use Rattle.kernel.specs.InnerKernel.{Listed}
use Rattle.translation.specs.InnerLines.{line_at, PlaneInside, SolidInside}
use Rattle.refinement.specs.InnerSplitting.{Keeps, KeepsOn, Any, Chosen, Lines, Planes, Table, MapLent, MapSplit, Sifted, Turned, Walk, Walked, Split, ElementSplit, PlaneAt, ChosenSplit, LinesWalked, PlaneWalked, PlanesWalked, ElementKept}
use Rattle.refinement.proofs.Splits.{never, split_none, split_more, split_said, split_next, by_index, names_kept}
use Rattle.refinement.proofs.Sifting.{kept_after, lists_after, lists_turned, all_names}
use Rattle.refinement.proofs.Rows.{rows_kept}

module _ {n : ℕ} {live : List ℕ} {used : ℕ} {cells : List ℕ} where
  -- nothing was split
  pub walk_none : {Good Done : (ℕ → ℕ) → Type 0} {m : Map} {others : List ℕ} {left : ℕ} → Walk n live used cells m others left → Done (byte m) → Walked n live used cells Good Done m m others left
  walk_none w d = record { split = split_none w.map.canonical d; walk = w }

  -- one walk after the other
  pub walk_more : {Good Good' Done Done' Both : (ℕ → ℕ) → Type 0} {m₀ m m' : Map} {others others' : List ℕ} {left left' : ℕ} → ((g : ℕ → ℕ) → Good g → Good' g)
      → ((g : ℕ → ℕ) → Done g → Done' g → Both g) → Walked n live used cells Good Done m₀ m others left → Walked n live used cells Good' Done' m m' others' left'
      → Walked n live used cells Good Both m₀ m' others' left'
  walk_more also both s u = record { split = split_more also both s.split u.split; walk = u.walk }

  -- what is asked and what is done may be said otherwise
  pub walk_said : {Good Good' Done Done' : (ℕ → ℕ) → Type 0} {m m' : Map} {others' : List ℕ} {left' : ℕ} → ((g : ℕ → ℕ) → Good' g → Good g) → (Done (byte m') → Done' (byte m'))
      → Walked n live used cells Good Done m m' others' left' → Walked n live used cells Good' Done' m m' others' left'
  walk_said ask h s = record { split = split_said ask h s.split; walk = s.walk }

  -- a loop that has walked over those below i walks over i
  pub walk_next : {i : ℕ} {Good Good' : (ℕ → ℕ) → Type 0} (Q : ℕ → (ℕ → ℕ) → Type 0) {m₀ m m' : Map} {others others' : List ℕ} {left left' : ℕ} → ((g : ℕ → ℕ) → Good g → Good' g)
      → Walked n live used cells Good (λ g. (j : ℕ) → j < i → Q j g) m₀ m others left → Walked n live used cells Good' (Q i) m m' others' left'
      → Walked n live used cells Good (λ g. (j : ℕ) → j < i + 1 → Q j g) m₀ m' others' left'
  walk_next Q also s u = record { split = split_next {Q = Q} also s.split u.split; walk = u.walk }

  -- a line was split, and the list of the others sifted
  pub line_walked : {Good Given : (ℕ → ℕ) → Type 0} {t : ℕ → ℕ} {m m' : Map} {others others' : List ℕ} {left left' : ℕ} → Walk n live used cells m others left
      → MapSplit n cells Good (λ g. Given g → KeepsOn (Listed others left) t g) m m' → Sifted (byte m') others left others' left'
      → Walked n live used cells Good (λ g. Given g → KeepsOn (Listed live used) t g) m m' others' left'
  line_walked {t = t} w s k = record {
    split = split_said (λ g good. good) (λ h e. kept_after t w.map.canonical w.lists s.split (h e)) s.split;
    walk = record { map = s.map; lists = lists_after w.map.canonical w.lists s.split k };
  }

  -- the list was turned round
  pub walk_turned : {m : Map} {others others' : List ℕ} {left : ℕ} → Walk n live used cells m others left → Turned left others others' → Walk n live used cells m others' left
  walk_turned w k = record { map = w.map; lists = lists_turned w.lists k }

  -- ---- where no others are left

  module _ {m : Map} {others : List ℕ} {left : ℕ} (w : Walk n live used cells m others left) (z : left ≡ 0) where
    lines_named : (R : (ℕ → ℕ) → ℕ → Type 0) (base row stride : ℕ) → Lines R (KeepsOn (Listed live used)) cells base row stride (byte m)
    lines_named R base row stride r q = names_kept _ _ (all_names w.lists z)

    pub planes_named : (Q R : (ℕ → ℕ) → ℕ → Type 0) (base layer row stride : ℕ) → Planes Q R (KeepsOn (Listed live used)) cells base layer row stride (byte m)
    planes_named Q R base layer row stride r q = lines_named R (base + r * layer) row stride

    pub table_named : (base s : ℕ) → Table (Chosen live used) (KeepsOn (Listed live used)) n cells base s (byte m)
    table_named base zero = tt
    table_named base (suc zero) = names_kept _ _ (all_names w.lists z)
    table_named base (suc (suc zero)) = (lines_named (Chosen live used false) base 1 n, lines_named (Chosen live used true) base n 1)
    table_named base (suc (suc (suc s))) = (
      planes_named (Chosen live used false) (Chosen live used false) base n 1 (n * n),
      (planes_named (Chosen live used true) (Chosen live used false) base (n * n) 1 n, planes_named (Chosen live used true) (Chosen live used true) base (n * n) n 1),
    )

-- ---- loops over the elements of a plane or a solid

-- the rows of the first i others are beside those of their smallest members
pub record Rowing (n : ℕ) (live : List ℕ) (used : ℕ) (cells : List ℕ) (base stride : ℕ) (others : List ℕ) (left i : ℕ) (m₀ m : Map) : Type 0 where
  pub most : i ≤ left
  pub map : MapLent n m cells
  pub first : Walk n live used cells m₀ others left
  pub plane : PlaneInside n cells base 1 stride
  pub split : Split n (Lines (Any n false) (Keeps n) cells base 1 stride) (λ g. (k : ℕ) → k < i → ElementKept live used cells base stride (byte others k) g) m₀ m

module _ {n : ℕ} {live : List ℕ} {used : ℕ} {cells : List ℕ} {base stride : ℕ} {others : List ℕ} {left : ℕ} where
  pub rowing_more : {i : ℕ} {m₀ m m' : Map} → Rowing n live used cells base stride others left i m₀ m → i < left → ElementSplit n live used cells base stride (byte others i) m m'
      → Rowing n live used cells base stride others left (i + 1) m₀ m'
  rowing_more s l u = record {
    most = omega arith;
    map = u.split.map;
    first = s.first;
    plane = s.plane;
    split = split_next {Q = λ k g. ElementKept live used cells base stride (byte others k) g} (λ g good. good) s.split u.split.split;
  }

  pub rowing_done : {i : ℕ} {m₀ m : Map} {others' : List ℕ} {left' : ℕ} → Rowing n live used cells base stride others left i m₀ m → left ≤ i → Sifted (byte m) others left others' left'
      → LinesWalked n live used cells base false 1 stride m₀ m others' left'
  rowing_done {m = m} s l k =
      let w = s.first in
      record {
        walked = record {
          split = split_said (λ g good. good) (λ h r o. kept_after _ w.map.canonical w.lists s.split (rows_kept live others used left cells base stride (byte m)
              (λ j lj. h j (omega arith)) r o.0)) s.split;
          walk = record { map = s.map; lists = lists_after w.map.canonical w.lists s.split k };
        };
      }

-- the lines of the plane that begin at the first i elements in use were split along
pub record Lining (n : ℕ) (live : List ℕ) (used : ℕ) (cells : List ℕ) (base row stride i : ℕ) (m₀ m : Map) (others : List ℕ) (left : ℕ) : Type 0 where
  pub most : i ≤ used
  pub plane : PlaneInside n cells base row stride
  pub walked : Walked n live used cells (Lines (Any n true) (Keeps n) cells base row stride)
      (λ g. (k : ℕ) → k < i → g (byte live k) ≡ byte live k → KeepsOn (Listed live used) (line_at cells (base + byte live k * row) stride) g) m₀ m others left

module _ {n : ℕ} {live : List ℕ} {used : ℕ} {cells : List ℕ} {base row stride : ℕ} where
  module _ {i : ℕ} {m₀ m : Map} {others : List ℕ} {left : ℕ} (s : Lining n live used cells base row stride i m₀ m others left) where
    module _ (l : i < used) where
      pub lining_more : {m' : Map} {others' : List ℕ} {left' : ℕ} → ChosenSplit n cells (base + byte live i * row) stride (byte live i) m m' others left others' left'
          → Lining n live used cells base row stride (i + 1) m₀ m' others' left'
      lining_more u = record {
        most = omega arith;
        plane = s.plane;
        walked = walk_next (λ k g. g (byte live k) ≡ byte live k → KeepsOn (Listed live used) (line_at cells (base + byte live k * row) stride) g)
            (λ g good. good (byte live i) (s.walked.walk.lists.live_elements.below i l)) s.walked (line_walked s.walked.walk u.split u.sifted);
      }

-- the planes of the solid that begin at the first i elements in use were split along
pub record Planing (n : ℕ) (live : List ℕ) (used : ℕ) (cells : List ℕ) (base : ℕ) (named inner : Bool) (layer row stride i : ℕ) (m₀ m : Map) (others : List ℕ) (left : ℕ) : Type 0 where
  pub most : i ≤ used
  pub solid : SolidInside n cells base layer row stride
  pub walked : Walked n live used cells (Planes (Any n named) (Any n inner) (Keeps n) cells base layer row stride)
      (λ g. (k : ℕ) → k < i → (named ≡ true → g (byte live k) ≡ byte live k)
      → Lines (Chosen live used inner) (KeepsOn (Listed live used)) cells (base + byte live k * layer) row stride g) m₀ m others left

module _ {n : ℕ} {live : List ℕ} {used : ℕ} {cells : List ℕ} {base : ℕ} {named inner : Bool} {layer row stride : ℕ} where
  module _ {i : ℕ} {m₀ m : Map} {others : List ℕ} {left : ℕ} (s : Planing n live used cells base named inner layer row stride i m₀ m others left) where
    pub planing_done : used ≤ i → PlanesWalked n live used cells base named inner layer row stride m₀ m others left
    planing_done l = record {
      walked = walk_said (λ g good. good)
          (λ h r k. by_index live used (λ (z : ℕ). (named ≡ true → byte m z ≡ z)
          → Lines (Chosen live used inner) (KeepsOn (Listed live used)) cells (base + z * layer) row stride (byte m)) (λ j lj. h j (omega arith)) r k.0 k.1)
          s.walked;
    }

    module _ (l : i < used) where
      pub planing_at : PlaneAt n m cells base layer row stride (byte live i)
      planing_at =
          let w = s.walked.walk in
          let e = w.lists.live_elements.below i l in
          let q = s.solid.planes (byte live i) e in
          record {
            map = w.map;
            plane = q;
            element = e;
            named = omega (arith, w.map.canonical.below (byte live i) e);
            begins = omega (arith, (q.lines 0 w.map.some).inside 0 w.map.some);
          }

      pub planing_more : {m' : Map} {others' : List ℕ} {left' : ℕ} → PlaneWalked n live used cells (base + byte live i * layer) (byte live i) named inner row stride m m' others' left'
          → Planing n live used cells base named inner layer row stride (i + 1) m₀ m' others' left'
      planing_more u = record {
        most = omega arith;
        solid = s.solid;
        walked = walk_next (λ k g. (named ≡ true → g (byte live k) ≡ byte live k) → Lines (Chosen live used inner) (KeepsOn (Listed live used)) cells (base + byte live k * layer) row stride g)
            (λ g good. good (byte live i) (s.walked.walk.lists.live_elements.below i l)) s.walked u.walked;
      }

-- ---- one plane

module _ {n : ℕ} {live : List ℕ} {used : ℕ} {cells : List ℕ} {base r : ℕ} {named inner : Bool} {row stride : ℕ} where
  -- a plane whose lines begin one after the other, among all elements in use
  pub plane_rows : {m m' : Map} {others' : List ℕ} {left' : ℕ} → (inner ≡ false → row ≡ 1) → inner ≡ false → LinesWalked n live used cells base false 1 stride m m' others' left'
      → PlaneWalked n live used cells base r named inner row stride m m' others' left'
  plane_rows o e u = rw (o e) (record { walked = walk_said (λ g good. good) (λ h k z q. h z (q.0, λ v. never v)) u.walked })
