-- Congruences: what the tests say (`Respects`, `IsCongruence`); the identity, `whole`, meets and joins of congruences are congruences.
-- first, so that a wrong definition is refused by an example that it makes false
use Prim.Native.Nat.{ℕ, suc, ◌+◌, ◌^◌, ◌≤◌, ◌<◌}
use mathlib.Core.Bool.{Bool}
use mathlib.Core.List.Memᴰ.{cases_cons}
use mathlib.Core.List.Memᴰ.{head as here}
use mathlib.Core.List.Memᴰ.{not-nil}
use mathlib.Core.List.Memᴰ.{tail as there}
use mathlib.Core.List.{List, [], ◌∷◌, ◌++◌, Memᴰ as Member}
use mathlib.Core.Logic.{inl, inr}
use mathlib.Core.Path.{◌≡◌, refl, sym, ap, subst, ◌∙◌}
use native.Mathlib.Decide.{dec_lt}
use native.Mathlib.Omega.{arith}
use lib.Dec.{T}
use lib.ListN.{length, get_or, take, drop, set, length-take, get_or-eq_default, length-append}
use lib.Seq.{get_or-take, get_or-drop, set-get_or, get_or-set_same, get_or-append_seam, set-append_seam, append_snoc, set-set}
use Rattle.equivalence.specs.Equivalence.{Map, byte, holds, map_of, identity, whole, meet, meet_all, maps, join}
use Rattle.equivalence.proofs.AllMaps.{maps_sound, maps_complete}
use Rattle.equivalence.proofs.Joins.{join_law}
use Rattle.equivalence.proofs.Lists.{every_of, of_every, keep_member, of_keep, below_of, of_below}
use Rattle.equivalence.proofs.Maps.{Holds, holds_of, of_holds, IsMap, is_map_of, of_is_map, Inside, IsEquivalence, map_of_holds}
use Rattle.equivalence.proofs.Maps.{of_map_of, map_of_map, identity_map, identity_discrete, whole_map, whole_holds}
use Rattle.equivalence.proofs.Meets.{meet_map, meet_holds, of_meet}
use Rattle.equivalence.proofs.Tests.{implies, implied}
use Rattle.algebra.specs.Algebra.{Algebra, Operation, operations_of, operations, arguments, place, value}
use Rattle.algebra.specs.Congruence.{respects, is_congruence, Congruence, congruences}
use Rattle.algebra.proofs.Accepted.{WellFormed}
use Rattle.algebra.proofs.Arguments.{Args, arguments_of, of_arguments, args_set}

-- one argument replaced by an equivalent element gives an equivalent result
abbrev pub OneByOne : ℕ → Map → Operation → Type 0
OneByOne n m f =
    (xs : List ℕ) → Args n f.arity xs → (i y : ℕ) → i < f.arity → y < n → Holds m (get_or xs i 0) y → Holds m (value n f xs) (value n f (set xs i y))

-- what `respects` says: `respects_of` and `of_respects` alone see its text
abbrev pub Respects : ℕ → Map → Operation → Type 0
Respects n m f = OneByOne n m f

pub respects_of : (n : ℕ) (m : Map) (f : Operation) → Respects n m f → T (respects n m f)
unfolding respects
respects_of n m f h =
    every_of _ (arguments n f.arity)
    (λ xs k. below_of f.arity _
    (λ i l. below_of n _
    (λ y j. implies (holds m (get_or xs i 0) y) (holds m (value n f xs) (value n f (set xs i y)))
    (λ t. holds_of m (value n f xs) (value n f (set xs i y)) (h xs (of_arguments n f.arity xs k) i y l j (of_holds m (get_or xs i 0) y t))))))

pub of_respects : (n : ℕ) (m : Map) (f : Operation) → T (respects n m f) → Respects n m f
unfolding respects
of_respects n m f t xs k i y l j e =
    of_holds m (value n f xs) (value n f (set xs i y))
    (implied (holds m (get_or xs i 0) y) (holds m (value n f xs) (value n f (set xs i y)))
    (of_below n _ (of_below f.arity _ (of_every _ (arguments n f.arity) t xs (arguments_of n f.arity xs k)) i l) y j)
    (holds_of m (get_or xs i 0) y e))

pub record IsCongruence (a : Algebra) (m : Map) : Type 0 where
  pub map : IsMap a.size m
  pub respects : (f : Operation) → Member f (operations a) → Respects a.size m f

pub congruence_is : (a : Algebra) (m : Map) → Congruence a m → IsCongruence a m
unfolding is_congruence
congruence_is a m c =
    record {
      map = of_is_map a.size m c.map;
      respects = λ f i. of_respects a.size m f (of_every (respects a.size m) (operations a) c.respects f i);
    }

pub congruence_of : (a : Algebra) (m : Map) → IsCongruence a m → Congruence a m
unfolding is_congruence
congruence_of a m c =
    record {
      map = is_map_of a.size m c.map;
      respects = every_of (respects a.size m) (operations a) (λ f i. respects_of a.size m f (c.respects f i));
    }

-- What goes by one argument at a time cites these two, and not the definition: every congruence does so, and in a well-formed algebra what does so is
-- a congruence.
pub respects_one : (a : Algebra) → WellFormed a → (m : Map) → IsCongruence a m → (f : Operation) → Member f (operations a) → OneByOne a.size m f
respects_one a w m c f i = c.respects f i

pub congruence_by_one : (a : Algebra) → WellFormed a → (m : Map) → IsMap a.size m → ((f : Operation) → Member f (operations a) → OneByOne a.size m f) → IsCongruence a m
congruence_by_one a w m p h = record { map = p; respects = h }

pub member_congruences : (a : Algebra) (m : Map) → IsCongruence a m → Member m (congruences a)
unfolding congruences
member_congruences a m c = keep_member (is_congruence a) (maps a.size) m (maps_complete a.size m c.map) (congruence_of a m c).respects

pub of_congruences : (a : Algebra) (m : Map) → Member m (congruences a) → IsCongruence a m
unfolding congruences
of_congruences a m i =
    let r = of_keep (is_congruence a) (maps a.size) m i in
    congruence_is a m (record { map = is_map_of a.size m (maps_sound a.size m r.0); respects = r.1 })

-- each place holds an element, and so does what a place past the end gives
abbrev pub CellsBelow : ℕ → List ℕ → Type 0
CellsBelow n l = (i : ℕ) → get_or l i 0 < n

operations_below : (n : ℕ) → 1 ≤ n → (arities cells : List ℕ) → CellsBelow n cells → (f : Operation) → Member f (operations_of n arities cells) → CellsBelow n f.table
unfolding operations_of
operations_below n o [] cells h f i = absurd (not-nil i)
operations_below n o (s ∷ rest) cells h f i =
    elim (cases_cons i) [
      | inl e ↦ rw e (λ j. elim (dec_lt j (n ^ s)) [
        | yes l ↦ rw (get_or-take (n ^ s) cells j 0 l) (h j)
        | no g ↦ rw (get_or-eq_default (take (n ^ s) cells) 0 {n = j} (omega (arith, length-take (n ^ s) cells))) o
      ])
      | inr k ↦ operations_below n o rest (drop (n ^ s) cells) (λ j. rw (get_or-drop (n ^ s) cells j 0) (h (n ^ s + j))) f k
    ]

pub cells_below : (a : Algebra) → WellFormed a → CellsBelow a.size a.cells
cells_below a c i =
    elim (dec_lt i (length a.cells)) [
      | yes l ↦ c.below i l
      | no g ↦ rw (get_or-eq_default a.cells 0 {n = i} (omega arith)) c.some
    ]

pub value_below : (a : Algebra) → WellFormed a → (f : Operation) → Member f (operations a) → (xs : List ℕ) → value a.size f xs < a.size
unfolding operations value
value_below a c f i xs = operations_below a.size c.some a.arities a.cells (cells_below a c) f i (place a.size xs)

module _ (a : Algebra) (c : WellFormed a) where
  pub identity_congruence : IsCongruence a (identity a.size)
  identity_congruence =
      record {
        map = identity_map a.size;
        respects = λ f i xs k j y l h e.
            let s : get_or xs j 0 ≡ y = identity_discrete a.size (get_or xs j 0) y (k.below j l) h e in
            ap (λ (z : List ℕ). byte (identity a.size) (value a.size f z)) (sym (set-get_or xs j 0) ∙ ap (λ (z : ℕ). set xs j z) s);
      }

  pub meet_congruence : (m k : Map) → IsCongruence a m → IsCongruence a k → IsCongruence a (meet a.size m k)
  meet_congruence m k p q =
      record {
        map = meet_map a.size m k;
        respects = λ f i xs r j y l h e.
            let s = of_meet a.size m k (get_or xs j 0) y (r.below j l) h e in
            meet_holds a.size m k (value a.size f xs) (value a.size f (set xs j y)) (value_below a c f i xs) (value_below a c f i (set xs j y))
            (p.respects f i xs r j y l h s.0) (q.respects f i xs r j y l h s.1);
      }

pub whole_congruence : (a : Algebra) → WellFormed a → IsCongruence a (whole a.size)
whole_congruence a c =
    record {
      map = whole_map a.size;
      respects = λ f i xs h j y l k e. whole_holds a.size (value a.size f xs) (value a.size f (set xs j y)) (value_below a c f i xs) (value_below a c f i (set xs j y));
    }

pub meet_all_congruence : (a : Algebra) → WellFormed a → (ms : List Map) → ((m : Map) → Member m ms → IsCongruence a m) → IsCongruence a (meet_all a.size ms)
unfolding meet_all
meet_all_congruence a c [] h = whole_congruence a c
meet_all_congruence a c (m ∷ ms) h = meet_congruence a c m (meet_all a.size ms) (h m (here refl)) (meet_all_congruence a c ms (λ k i. h k (there i)))

module _ (a : Algebra) (c : WellFormed a) (d e : Map) (p : IsCongruence a d) (q : IsCongruence a e) where
  -- the pairs that the join holds also after one argument's place form an equivalence above both, and so above the join
  along : (f : Operation) → Member f (operations a) → (xs : List ℕ) → Args a.size f.arity xs → (i : ℕ) → i < f.arity → (x y : ℕ) → x < a.size → y < a.size
      → Holds (join a.size d e) x y → Holds (join a.size d e) (value a.size f (set xs i x)) (value a.size f (set xs i y))
  along f m xs h i l x y u v t =
      let k = join_law a.size d e in
      to x y
      (of_map_of a.size related equiv x y u v
      (k.least (map_of a.size related) (map_of_map a.size related equiv) (under d p k.left) (under e q k.right) x y u v t))
    where
      related : ℕ → ℕ → Bool
      related x y = holds (join a.size d e) (value a.size f (set xs i x)) (value a.size f (set xs i y))

      to : (x y : ℕ) → T (related x y) → Holds (join a.size d e) (value a.size f (set xs i x)) (value a.size f (set xs i y))
      to x y t = of_holds (join a.size d e) (value a.size f (set xs i x)) (value a.size f (set xs i y)) t

      from : (x y : ℕ) → Holds (join a.size d e) (value a.size f (set xs i x)) (value a.size f (set xs i y)) → T (related x y)
      from x y t = holds_of (join a.size d e) (value a.size f (set xs i x)) (value a.size f (set xs i y)) t

      equiv : IsEquivalence a.size related
      equiv =
          record {
            same = λ x j. from x x refl;
            swap = λ x y j o t. from y x (sym (to x y t));
            chain = λ x y z j o u t s. from x z (to x y t ∙ to y z s);
          }

      under : (g : Map) → IsCongruence a g → Inside a.size g (join a.size d e) → Inside a.size g (map_of a.size related)
      under g r s x y j o t =
          map_of_holds a.size related equiv x y j o
          (from x y
          (s (value a.size f (set xs i x)) (value a.size f (set xs i y)) (value_below a c f m (set xs i x)) (value_below a c f m (set xs i y))
          (subst (λ (z : List ℕ). Holds g (value a.size f (set xs i x)) (value a.size f z)) (set-set xs i x y)
          (respects_one a c g r f m (set xs i x) (args_set a.size f.arity xs h i x j) i y l o
          (rw (get_or-set_same xs i x 0 (omega (arith, h.long))) t)))))

  pub join_congruence : IsCongruence a (join a.size d e)
  join_congruence =
      congruence_by_one a c (join a.size d e) (join_law a.size d e).map
      (λ f m xs h i y l k g.
      subst (λ (z : List ℕ). Holds (join a.size d e) (value a.size f z) (value a.size f (set xs i y))) (set-get_or xs i 0)
      (along f m xs h i l (get_or xs i 0) y (h.below i l) k g))

module _ (a : Algebra) (w : WellFormed a) (m : Map) (c : IsCongruence a m) (f : Operation) (i : Member f (operations a)) where
  many : (pre xs ys : List ℕ) → Args a.size f.arity (pre ++ xs) → length xs ≡ length ys → ((j : ℕ) → j < length ys → get_or ys j 0 < a.size)
      → ((j : ℕ) → j < length xs → Holds m (get_or xs j 0) (get_or ys j 0)) → Holds m (value a.size f (pre ++ xs)) (value a.size f (pre ++ ys))
  many pre [] [] h e l g = refl
  many pre [] (y ∷ ys) h e l g = absurd (omega arith)
  many pre (x ∷ xs) [] h e l g = absurd (omega arith)
  many pre (x ∷ xs) (y ∷ ys) h e l g =
      let k : length pre < f.arity = omega (arith, h.long, length-append pre (x ∷ xs)) in
      let b : y < a.size = l 0 (omega arith) in
      let one : Holds m (value a.size f (pre ++ (x ∷ xs))) (value a.size f (set (pre ++ (x ∷ xs)) (length pre) y)) =
      respects_one a w m c f i (pre ++ (x ∷ xs)) h (length pre) y k b (rw (get_or-append_seam pre x xs 0) (g 0 (omega arith))) in
      let s : set (pre ++ (x ∷ xs)) (length pre) y ≡ (pre ++ (y ∷ [])) ++ xs = set-append_seam pre x xs y ∙ sym (append_snoc pre y xs) in
      let rest : Holds m (value a.size f ((pre ++ (y ∷ [])) ++ xs)) (value a.size f ((pre ++ (y ∷ [])) ++ ys)) =
      many (pre ++ (y ∷ [])) xs ys (subst (λ (z : List ℕ). Args a.size f.arity z) s (args_set a.size f.arity (pre ++ (x ∷ xs)) h (length pre) y b))
      (omega arith) (λ j q. l (suc j) (omega arith)) (λ j q. g (suc j) (omega arith)) in
      (rw s at one) ∙ (rw (append_snoc pre y ys) at rest)

  pub respects_all : (xs ys : List ℕ) → Args a.size f.arity xs → Args a.size f.arity ys
      → ((j : ℕ) → j < f.arity → Holds m (get_or xs j 0) (get_or ys j 0)) → Holds m (value a.size f xs) (value a.size f ys)
  respects_all xs ys h k g =
      many [] xs ys h (omega (arith, h.long, k.long)) (λ j l. k.below j (omega (arith, k.long))) (λ j l. g j (omega (arith, h.long)))
