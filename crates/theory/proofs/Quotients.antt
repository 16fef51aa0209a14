-- Quotients: the algebra of blocks is accepted, its cells do not depend on the members chosen, and its congruences pull back to those above.
use Prim.Native.Nat.{ℕ, ◌^◌, ◌≤◌, ◌<◌}
use mathlib.Core.List.Memᴰ.{map as member-map}
use mathlib.Core.List.Memᴰ.{of_map}
use mathlib.Core.List.{List, [], ◌∷◌, map, Memᴰ as Member}
use mathlib.Core.Path.{◌≡◌, refl, sym, ap, subst, ◌∙◌}
use native.Mathlib.Nat.{pow-le-pow_left}
use native.Mathlib.Omega.{arith}
use lib.ListN.{length, get_or, take, drop, set, length-map, length-append}
use lib.Seq.{take_at, drop_at}
use Rattle.equivalence.specs.Equivalence.{Map, byte, holds, blocks, block_of, map_of, identity, same}
use Rattle.equivalence.specs.Lists.{concat}
use Rattle.equivalence.proofs.BlockNumbers.{blocks_le, blocks_some, smallest, block_below, smallest_block, smallest_below, block_smallest, block_holds, of_block}
use Rattle.equivalence.proofs.Lists.{of_concat, member_at, member_index, map_at, map_set}
use Rattle.equivalence.proofs.Maps.{Holds, holds_of, of_holds, Inside, IsEquivalence, map_of_holds, of_map_of, map_of_map, discrete_identity}
use Rattle.equivalence.proofs.Meets.{of_meets}
use Rattle.algebra.specs.Algebra.{Algebra, Operation, cell_count, operations_of, operations, arguments, place, value}
use Rattle.algebra.specs.Congruence.{respects}
use Rattle.algebra.proofs.Accepted.{WellFormed}
use Rattle.algebra.proofs.Arguments.{Args, args_set, arguments_long, place_law, args_map}
use Rattle.algebra.proofs.Congruences.{IsCongruence, congruence_is, value_below, respects_one, respects_all}
use Rattle.theory.specs.Splitting.{Splitting}
use Rattle.theory.proofs.Separation.{MaximalFor}
use Rattle.quotient.specs.Quotient.{quotient_table, quotient_cells, quotient}

unfoldable pub on_blocks : ℕ → Map → Operation → Operation
on_blocks n m f = record { arity = f.arity; table = quotient_table n m f }

quotient_table_long : (n : ℕ) (m : Map) (f : Operation) → length (quotient_table n m f) ≡ blocks n m ^ f.arity
unfolding quotient_table
quotient_table_long n m f = length-map (arguments (blocks n m) f.arity) _ ∙ arguments_long (blocks n m) f.arity

operations_of_quotient : (n : ℕ) (m : Map) (arities cells : List ℕ)
    → operations_of (blocks n m) arities (concat (map (quotient_table n m) (operations_of n arities cells))) ≡ map (on_blocks n m) (operations_of n arities cells)
unfolding operations_of concat on_blocks
operations_of_quotient n m [] cells = refl
operations_of_quotient n m (s ∷ rest) cells =
    let f : Operation = record { arity = s; table = take (n ^ s) cells } in
    let more : List ℕ = concat (map (quotient_table n m) (operations_of n rest (drop (n ^ s) cells))) in
    let first : List ℕ = quotient_table n m f in
    let long : length first ≡ blocks n m ^ s = quotient_table_long n m f in
    rw (take_at first more (blocks n m ^ s) long, drop_at first more (blocks n m ^ s) long, operations_of_quotient n m rest (drop (n ^ s) cells))

pub operations_quotient : (a : Algebra) (m : Map) → operations (quotient a m) ≡ map (on_blocks a.size m) (operations a)
unfolding operations quotient quotient_cells
operations_quotient a m = operations_of_quotient a.size m a.arities a.cells

cells_quotient : (n : ℕ) (m : Map) (arities cells : List ℕ) → length (concat (map (quotient_table n m) (operations_of n arities cells))) ≡ cell_count (blocks n m) arities
unfolding operations_of concat cell_count
cells_quotient n m [] cells = refl
cells_quotient n m (s ∷ rest) cells =
    let f : Operation = record { arity = s; table = take (n ^ s) cells } in
    length-append (quotient_table n m f) (concat (map (quotient_table n m) (operations_of n rest (drop (n ^ s) cells))))
    ∙ omega (arith, quotient_table_long n m f, cells_quotient n m rest (drop (n ^ s) cells))

-- the quotient's tables have b^s cells for each arity s
pub quotient_cells_length : (a : Algebra) (m : Map) → length (quotient_cells a m) ≡ cell_count (blocks a.size m) a.arities
unfolding quotient_cells operations
quotient_cells_length a m = cells_quotient a.size m a.arities a.cells

-- fewer elements have no more cells
pub cell_count_mono : (b n : ℕ) → b ≤ n → (arities : List ℕ) → cell_count b arities ≤ cell_count n arities
unfolding cell_count
cell_count_mono b n h [] = omega arith
cell_count_mono b n h (s ∷ rest) = omega (arith, pow-le-pow_left h s, cell_count_mono b n h rest)

module _ (a : Algebra) (c : WellFormed a) (m : Map) (p : IsCongruence a m) where
  cell : (x : ℕ) → Member x (concat (map (quotient_table a.size m) (operations a))) → x < blocks a.size m
  unfolding quotient_table
  cell x i =
      let s = of_concat (map (quotient_table a.size m) (operations a)) x i in
      let u = of_map (quotient_table a.size m) (operations a) s.1 in
      let v = of_map (λ bs. block_of m (value a.size u.0 (map (smallest a.size m) bs))) (arguments (blocks a.size m) u.0.arity)
      (subst (λ (l : List ℕ). Member x l) (sym u.2) s.2) in
      subst (λ (z : ℕ). z < blocks a.size m) v.2
      (block_below a.size m p.map (value a.size u.0 (map (smallest a.size m) v.0)) (value_below a c u.0 u.1 (map (smallest a.size m) v.0)))

  pub quotient_well_formed : WellFormed (quotient a m)
  unfolding quotient quotient_cells operations
  quotient_well_formed =
      record {
        some = blocks_some a.size m c.some p.map;
        most = omega (arith, c.most, blocks_le a.size m);
        operations = c.operations;
        arity = c.arity;
        room = omega (arith, c.room, cell_count_mono (blocks a.size m) a.size (blocks_le a.size m) a.arities);
        filled = cells_quotient a.size m a.arities a.cells;
        below = λ i l. cell (get_or (concat (map (quotient_table a.size m) (operations a))) i 0) (member_at (concat (map (quotient_table a.size m) (operations a))) i 0 l);
      }

  -- to take blocks is a homomorphism
  pub block_value : (f : Operation) → Member f (operations a) → (xs : List ℕ) → Args a.size f.arity xs
      → value (blocks a.size m) (on_blocks a.size m f) (map (block_of m) xs) ≡ block_of m (value a.size f xs)
  unfolding value on_blocks quotient_table
  block_value f i xs h =
      let bs : List ℕ = map (block_of m) xs in
      let k : Args (blocks a.size m) f.arity bs = args_map a.size (blocks a.size m) f.arity (block_of m) (block_below a.size m p.map) xs h in
      let q = place_law (blocks a.size m) f.arity bs k in
      let reps : Args a.size f.arity (map (smallest a.size m) bs) =
      args_map (blocks a.size m) a.size f.arity (smallest a.size m) (λ b l. (smallest_below a.size m p.map b l).0) bs k in
      map_at (λ bs. block_of m (value a.size f (map (smallest a.size m) bs))) (arguments (blocks a.size m) f.arity) (place (blocks a.size m) bs) [] 0
      (omega (arith, q.0, arguments_long (blocks a.size m) f.arity))
      ∙ ap (λ (t : List ℕ). block_of m (value a.size f (map (smallest a.size m) t))) q.1
      ∙ block_holds a.size m p.map (value a.size f (map (smallest a.size m) bs)) (value a.size f xs)
      (respects_all a c m p f i (map (smallest a.size m) bs) xs reps h
      (λ j l. let x : ℕ = get_or xs j 0 in
      let b : x < a.size = h.below j l in
      let e : get_or bs j 0 ≡ block_of m x = map_at (block_of m) xs j 0 0 (omega (arith, h.long)) in
      ap (byte m) (map_at (smallest a.size m) bs j 0 0 (omega (arith, k.long)) ∙ ap (smallest a.size m) e ∙ smallest_block a.size m p.map x b) ∙ p.map.named x b))

  -- ---- a congruence of the quotient, as a congruence of the algebra

  pub pulled : Map → Map
  pulled d = map_of a.size (λ x y. holds d (block_of m x) (block_of m y))

  module _ (d : Map) (q : IsCongruence (quotient a m) d) where
    pulled_equiv : IsEquivalence a.size (λ x y. holds d (block_of m x) (block_of m y))
    pulled_equiv =
        record {
          same = λ x l. holds_of d (block_of m x) (block_of m x) refl;
          swap = λ x y l k t. holds_of d (block_of m y) (block_of m x) (sym (of_holds d (block_of m x) (block_of m y) t));
          chain = λ x y z l k j t s.
              holds_of d (block_of m x) (block_of m z) (of_holds d (block_of m x) (block_of m y) t ∙ of_holds d (block_of m y) (block_of m z) s);
        }

    pub pulled_holds : (x y : ℕ) → x < a.size → y < a.size → Holds d (block_of m x) (block_of m y) → Holds (pulled d) x y
    unfolding pulled
    pulled_holds x y l k e = map_of_holds a.size _ pulled_equiv x y l k (holds_of d (block_of m x) (block_of m y) e)

    pub of_pulled : (x y : ℕ) → x < a.size → y < a.size → Holds (pulled d) x y → Holds d (block_of m x) (block_of m y)
    unfolding pulled
    of_pulled x y l k e = of_holds d (block_of m x) (block_of m y) (of_map_of a.size _ pulled_equiv x y l k e)

    pub pulled_inside : Inside a.size m (pulled d)
    pulled_inside x y l k e = pulled_holds x y l k (ap (byte d) (block_holds a.size m p.map x y e))

    pulled_respects : (f : Operation) → Member f (operations a) → (xs : List ℕ) → Args a.size f.arity xs → (j y : ℕ) → j < f.arity → y < a.size
        → Holds (pulled d) (get_or xs j 0) y → Holds (pulled d) (value a.size f xs) (value a.size f (set xs j y))
    unfolding quotient quotient_cells on_blocks
    pulled_respects f i xs h j y l k e =
        let g : Operation = on_blocks a.size m f in
        let bs : List ℕ = map (block_of m) xs in
        let n : Member g (operations (quotient a m)) = rw (operations_quotient a m) (member-map (on_blocks a.size m) i) in
        let at_j : get_or bs j 0 ≡ block_of m (get_or xs j 0) = map_at (block_of m) xs j 0 0 (omega (arith, h.long)) in
        let small : Args (blocks a.size m) f.arity bs = args_map a.size (blocks a.size m) f.arity (block_of m) (block_below a.size m p.map) xs h in
        let r : Holds d (value (blocks a.size m) g bs) (value (blocks a.size m) g (set bs j (block_of m y))) =
        respects_one (quotient a m) quotient_well_formed d q g n bs small j (block_of m y) l (block_below a.size m p.map y k)
        (ap (byte d) at_j ∙ of_pulled (get_or xs j 0) y (h.below j l) k e) in
        let to : (zs : List ℕ) → Args a.size f.arity zs → byte d (value (blocks a.size m) g (map (block_of m) zs)) ≡ byte d (block_of m (value a.size f zs)) =
        λ zs z. ap (byte d) (block_value f i zs z) in
        pulled_holds (value a.size f xs) (value a.size f (set xs j y)) (value_below a c f i xs) (value_below a c f i (set xs j y))
        (sym (to xs h) ∙ r ∙ ap (λ (t : List ℕ). byte d (value (blocks a.size m) g t)) (sym (map_set (block_of m) xs j y)) ∙ to (set xs j y) (args_set a.size f.arity xs h j y k))

    pub pulled_congruence : IsCongruence a (pulled d)
    unfolding pulled
    pulled_congruence = record { map = map_of_map a.size _ pulled_equiv; respects = pulled_respects }

    -- it is m itself only for the identity
    pub pulled_is : pulled d ≡ m → d ≡ identity (blocks a.size m)
    unfolding quotient quotient_cells
    pulled_is e =
        discrete_identity (blocks a.size m) d q.map
        (λ i j l k g. let s = smallest_below a.size m p.map i l in
        let t = smallest_below a.size m p.map j k in
        let bi = block_smallest a.size m p.map i l in
        let bj = block_smallest a.size m p.map j k in
        let h : Holds m (smallest a.size m i) (smallest a.size m j) =
        subst (λ (z : Map). Holds z (smallest a.size m i) (smallest a.size m j)) e
        (pulled_holds (smallest a.size m i) (smallest a.size m j) s.0 t.0 (ap (byte d) bi ∙ g ∙ ap (byte d) (sym bj))) in
        sym bi ∙ block_holds a.size m p.map (smallest a.size m i) (smallest a.size m j) h ∙ bj)

  -- nothing splits the quotient by a maximal
  pub quotient_unsplit : (x y : ℕ) → x < a.size → y < a.size → MaximalFor a m x y → (ms : List Map) → ¬ Splitting (quotient a m) ms
  unfolding quotient quotient_cells
  quotient_unsplit x y l k h ms s =
      h.apart
      (of_block a.size m p.map x y l k
      (of_meets (blocks a.size m) ms s.meets (block_of m x) (block_of m y) (block_below a.size m p.map x l) (block_below a.size m p.map y k)
      (λ d i. let r = member_index ms d [] i in
      let e = s.each r.0 r.1 in
      let q : IsCongruence (quotient a m) (get_or ms r.0 []) = congruence_is (quotient a m) (get_or ms r.0 []) e.0 in
      subst (λ (z : Map). Holds z (block_of m x) (block_of m y)) r.2
      (of_pulled (get_or ms r.0 []) q x y l k
      (h.joined (pulled (get_or ms r.0 [])) (pulled_congruence (get_or ms r.0 []) q) (pulled_inside (get_or ms r.0 []) q)
      (λ g. e.1 (pulled_is (get_or ms r.0 []) q g)))))))
