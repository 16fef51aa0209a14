-- A list whose first elements are lent as a slice: what holds of so many of them holds of the slice, and what was left in front of the slice stands in front of the list.
use Prim.Native.Nat.{ℕ, ◌≤◌, ◌<◌}
use mathlib.Core.Bool.{Bool}
use mathlib.Core.List.{List, ◌++◌}
use mathlib.Core.Path.{◌≡◌, sym, ◌∙◌}
use native.Mathlib.Omega.{arith}
use lib.ListN.{length, take, length-append, get_or-append}
use lib.Seq.{get_or-take, length-take-le}
use Rattle.equivalence.specs.Equivalence.{byte}
use Rattle.kernel.specs.InnerKernel.{Listed}
use Rattle.algebra.specs.Algebra.{Algebra}
use Rattle.refinement.specs.InnerSplitting.{Elements, Sifted, Walk, Walked, ChosenSplit, LinesWalked, PlaneWalked, PlanesWalked, TableWalked, AllWalked, Represented}
use Rattle.refinement.proofs.Splits.{map_said}

listed_same : (a b : List ℕ) {count x : ℕ} → ((i : ℕ) → i < count → byte a i ≡ byte b i) → Listed b count x → Listed a count x
listed_same a b h k = (k.0, (k.1.0, h k.0 k.1.0 ∙ k.1.1))

-- ---- the slice

module _ (list : List ℕ) (count : ℕ) (r : count ≤ length list) where
  pub front_long : length (take count list) ≡ count
  front_long = length-take-le count list r

  front_same : (i : ℕ) → i < count → byte (take count list) i ≡ byte list i
  front_same i l = get_or-take count list i 0 l

  listed_front : {x : ℕ} → Listed list count x → Listed (take count list) (length (take count list)) x
  listed_front {x} k = rw front_long (listed_same (take count list) list front_same k)

  of_listed_front : {x : ℕ} → Listed (take count list) (length (take count list)) x → Listed list count x
  of_listed_front {x} k = listed_same list (take count list) (λ i l. sym (front_same i l)) (rw front_long at k)

pub elements_front : {n count : ℕ} {list : List ℕ} → Elements n list count → Elements n (take count list) (length (take count list))
elements_front {count = count} {list} e = record {
  room = omega arith;
  below = λ i l. let k : i < count = omega (arith, front_long list count e.room) in rw (front_same list count e.room i k) (e.below i k);
}

pub walk_front : {n used left : ℕ} {live cells m others : List ℕ} → Walk n live used cells m others left → Walk n live used cells m (take left others) (length (take left others))
walk_front {left = left} {others = others} w = record {
  map = w.map;
  lists = record {
    live_elements = w.lists.live_elements;
    elements = elements_front w.lists.elements;
    all = λ x l h. listed_front others left w.lists.elements.room (w.lists.all x l h);
  };
}

-- the elements in use
pub represented_front : {a : Algebra} {live : List ℕ} {used : ℕ} {e : ℕ → ℕ} → Represented a live used e → Represented a (take used live) (length (take used live)) e
represented_front {live = live} {used} s = record {
  elements = elements_front s.elements;
  name = s.name;
  canonical = s.canonical;
  compatible = s.compatible;
  within = s.within;
  listed = λ x l. listed_front live used s.elements.room (s.listed x l);
}

-- ---- what was left in it

back_same : (new rest : List ℕ) (i : ℕ) → i < length new → byte (new ++ rest) i ≡ byte new i
back_same new rest i l = get_or-append new rest 0 i l

pub sifted_back : {f : ℕ → ℕ} (list : List ℕ) {new : List ℕ} (rest : List ℕ) (count : ℕ) {count' : ℕ} → count ≤ length list → Sifted f (take count list) (length (take count list)) new count' → Sifted f list count (new ++ rest) count'
sifted_back list {new} rest count {count'} r s = record {
  fewer = omega (arith, s.fewer, front_long list count r);
  room = simp length-append (omega (arith, s.room));
  old = λ i l. rw (back_same new rest i (omega (arith, s.room))) (of_listed_front list count r (s.old i l));
  all = λ x k h. listed_same (new ++ rest) new (λ i l. back_same new rest i (omega (arith, s.room))) (s.all x (listed_front list count r k) h);
}

pub chosen_back : {n base stride r count count' : ℕ} {cells m m' list new : List ℕ} (rest : List ℕ) → count ≤ length list
    → ChosenSplit n cells base stride r m m' (take count list) (length (take count list)) new count' → ChosenSplit n cells base stride r m m' list count (new ++ rest) count'
chosen_back {count = count} {list = list} rest l s = record { split = map_said (λ h e x k. h e x (listed_front list count l k)) s.split; sifted = sifted_back list rest count l s.sifted }

pub walk_back : {n used left' : ℕ} {live cells m new : List ℕ} (rest : List ℕ) → Walk n live used cells m new left' → Walk n live used cells m (new ++ rest) left'
walk_back {new = new} rest w =
    let e = w.lists.elements in
    record {
      map = w.map;
      lists = record {
        live_elements = w.lists.live_elements;
        elements = record {
          room = simp length-append (omega (arith, e.room));
          below = λ i l. rw (back_same new rest i (omega (arith, e.room))) (e.below i l);
        };
        all = λ x l h. listed_same (new ++ rest) new (λ i k. back_same new rest i (omega (arith, e.room))) (w.lists.all x l h);
      };
    }

walked_back : {n used left' : ℕ} {live cells m m' new : List ℕ} (rest : List ℕ) {Good Done : (ℕ → ℕ) → Type 0} → Walked n live used cells Good Done m m' new left' → Walked n live used cells Good Done m m' (new ++ rest) left'
walked_back rest s = record { split = s.split; walk = walk_back rest s.walk }

module _ {n used left' : ℕ} {live cells m m' new : List ℕ} (rest : List ℕ) where
  pub lines_back : {base row stride : ℕ} {named : Bool} → LinesWalked n live used cells base named row stride m m' new left' → LinesWalked n live used cells base named row stride m m' (new ++ rest) left'
  lines_back s = record { walked = walked_back rest s.walked }

  pub plane_back : {base r row stride : ℕ} {named inner : Bool} → PlaneWalked n live used cells base r named inner row stride m m' new left'
      → PlaneWalked n live used cells base r named inner row stride m m' (new ++ rest) left'
  plane_back s = record { walked = walked_back rest s.walked }

  pub planes_back : {base layer row stride : ℕ} {named inner : Bool} → PlanesWalked n live used cells base named inner layer row stride m m' new left'
      → PlanesWalked n live used cells base named inner layer row stride m m' (new ++ rest) left'
  planes_back s = record { walked = walked_back rest s.walked }

  pub table_back : {base s : ℕ} → TableWalked n live used cells base s m m' new left' → TableWalked n live used cells base s m m' (new ++ rest) left'
  table_back s = record { walked = walked_back rest s.walked }

pub all_back : {a : Algebra} {live m m' new : List ℕ} {used left' : ℕ} (rest : List ℕ) → AllWalked a live used m m' new left' → AllWalked a live used m m' (new ++ rest) left'
all_back rest s = record { walked = walked_back rest s.walked }
