-- The congruences of a quotient correspond to the congruences above the one divided by.
use Prim.Native.Nat.{ℕ, ◌<◌}
use mathlib.Core.List.Memᴰ.{of_map}
use mathlib.Core.List.{List, map, Memᴰ as Member}
use mathlib.Core.Path.{◌≡◌, refl, sym, ap, subst, ◌∙◌}
use native.Mathlib.Omega.{arith}
use lib.ListN.{length, get_or, set, length-map}
use lib.Seq.{ext_get_or}
use Rattle.equivalence.specs.Equivalence.{Map, byte, holds, blocks, block_of, map_of, identity, same}
use Rattle.equivalence.proofs.BlockNumbers.{smallest, block_below, smallest_block, smallest_below, block_smallest, of_block}
use Rattle.equivalence.proofs.Lists.{map_at, map_set}
use Rattle.equivalence.proofs.Maps.{Holds, holds_of, of_holds, Inside, map_ext, IsEquivalence, map_of_holds, of_map_of, map_of_map, identity_discrete}
use Rattle.algebra.specs.Algebra.{Algebra, Operation, operations, value}
use Rattle.algebra.specs.Congruence.{respects}
use Rattle.algebra.proofs.Accepted.{WellFormed}
use Rattle.algebra.proofs.Arguments.{Args, args_set, args_map}
use Rattle.algebra.proofs.Congruences.{Respects, IsCongruence, value_below, respects_one}
use Rattle.theory.proofs.Quotients.{on_blocks, operations_quotient, block_value, pulled, pulled_holds, of_pulled, pulled_inside, pulled_congruence}
use Rattle.quotient.specs.Quotient.{quotient_cells, quotient}

module _ (a : Algebra) (c : WellFormed a) (m : Map) (p : IsCongruence a m) where
  pub pushed : Map → Map
  pushed d = map_of (blocks a.size m) (λ i j. holds d (smallest a.size m i) (smallest a.size m j))

  module _ (d : Map) (q : IsCongruence a d) (above : Inside a.size m d) where
    equiv : IsEquivalence (blocks a.size m) (λ i j. holds d (smallest a.size m i) (smallest a.size m j))
    equiv =
        record {
          same = λ x l. holds_of d (smallest a.size m x) (smallest a.size m x) refl;
          swap = λ x y l k t. holds_of d (smallest a.size m y) (smallest a.size m x) (sym (of_holds d (smallest a.size m x) (smallest a.size m y) t));
          chain = λ x y z l k j t s.
              holds_of d (smallest a.size m x) (smallest a.size m z)
              (of_holds d (smallest a.size m x) (smallest a.size m y) t ∙ of_holds d (smallest a.size m y) (smallest a.size m z) s);
        }

    pub pushed_holds : (i j : ℕ) → i < blocks a.size m → j < blocks a.size m → Holds d (smallest a.size m i) (smallest a.size m j) → Holds (pushed d) i j
    unfolding pushed
    pushed_holds i j l k e = map_of_holds (blocks a.size m) _ equiv i j l k (holds_of d (smallest a.size m i) (smallest a.size m j) e)

    pub of_pushed : (i j : ℕ) → i < blocks a.size m → j < blocks a.size m → Holds (pushed d) i j → Holds d (smallest a.size m i) (smallest a.size m j)
    unfolding pushed
    of_pushed i j l k e = of_holds d (smallest a.size m i) (smallest a.size m j) (of_map_of (blocks a.size m) _ equiv i j l k e)

    -- an element and the smallest member of its block
    near : (x : ℕ) → x < a.size → Holds d (smallest a.size m (block_of m x)) x
    near x l =
        ap (byte d) (smallest_block a.size m p.map x l) ∙ above (byte m x) x (omega (arith, p.map.low x l)) l (p.map.named x l)

    back : (bs : List ℕ) (s : ℕ) → Args (blocks a.size m) s bs → map (block_of m) (map (smallest a.size m) bs) ≡ bs
    back bs s h =
        ext_get_or 0 (map (block_of m) (map (smallest a.size m) bs)) bs (length-map (map (smallest a.size m) bs) (block_of m) ∙ length-map bs (smallest a.size m))
        (λ i l. let k : i < length bs = omega (arith, length-map (map (smallest a.size m) bs) (block_of m), length-map bs (smallest a.size m)) in
        map_at (block_of m) (map (smallest a.size m) bs) i 0 0 (omega (arith, length-map bs (smallest a.size m)))
        ∙ ap (block_of m) (map_at (smallest a.size m) bs i 0 0 k) ∙ block_smallest a.size m p.map (get_or bs i 0) (h.below i (omega (arith, h.long))))

    -- an operation of the quotient, and the algebra's at smallest members
    close : (f : Operation) → Member f (operations a) → (bs : List ℕ) → Args (blocks a.size m) f.arity bs
        → (value (blocks a.size m) (on_blocks a.size m f) bs < blocks a.size m)
        × Holds d (smallest a.size m (value (blocks a.size m) (on_blocks a.size m f) bs)) (value a.size f (map (smallest a.size m) bs))
    close f i bs h =
        let xs : List ℕ = map (smallest a.size m) bs in
        let k : Args a.size f.arity xs = args_map (blocks a.size m) a.size f.arity (smallest a.size m) (λ b l. (smallest_below a.size m p.map b l).0) bs h in
        let e : value (blocks a.size m) (on_blocks a.size m f) bs ≡ block_of m (value a.size f xs) =
        ap (value (blocks a.size m) (on_blocks a.size m f)) (sym (back bs f.arity h)) ∙ block_value a c m p f i xs k in
        rw e (block_below a.size m p.map (value a.size f xs) (value_below a c f i xs), near (value a.size f xs) (value_below a c f i xs))

    pushed_respects : (f : Operation) → Member f (operations a) → Respects (blocks a.size m) (pushed d) (on_blocks a.size m f)
    unfolding on_blocks
    pushed_respects f i bs h j y l k e =
        let u = close f i bs h in
        let v = close f i (set bs j y) (args_set (blocks a.size m) f.arity bs h j y k) in
        let xs : List ℕ = map (smallest a.size m) bs in
        let o : Args a.size f.arity xs = args_map (blocks a.size m) a.size f.arity (smallest a.size m) (λ b z. (smallest_below a.size m p.map b z).0) bs h in
        let t : Holds d (get_or xs j 0) (smallest a.size m y) =
        ap (byte d) (map_at (smallest a.size m) bs j 0 0 (omega (arith, h.long))) ∙ of_pushed (get_or bs j 0) y (h.below j l) k e in
        let w : Holds d (value a.size f xs) (value a.size f (set xs j (smallest a.size m y))) =
        respects_one a c d q f i xs o j (smallest a.size m y) l (smallest_below a.size m p.map y k).0 t in
        pushed_holds _ _ u.0 v.0 (u.1 ∙ w ∙ ap (λ (z : List ℕ). byte d (value a.size f z)) (sym (map_set (smallest a.size m) bs j y)) ∙ sym v.1)

    pub pushed_congruence : IsCongruence (quotient a m) (pushed d)
    unfolding pushed quotient quotient_cells
    pushed_congruence =
        record {
          map = map_of_map (blocks a.size m) _ equiv;
          respects = λ g i.
              let r = of_map (on_blocks a.size m) (operations a) (subst (λ (z : List Operation). Member g z) (operations_quotient a m) i) in
              subst (λ (z : Operation). Respects (blocks a.size m) (pushed d) z) r.2 (pushed_respects r.0 r.1);
        }

    -- pushed forward and pulled back
    pub pulled_pushed : pulled a c m p (pushed d) ≡ d
    pulled_pushed =
        map_ext a.size (pulled a c m p (pushed d)) d (pulled_congruence a c m p (pushed d) pushed_congruence).map q.map
        (λ x y l k e. sym (near x l)
        ∙ of_pushed (block_of m x) (block_of m y) (block_below a.size m p.map x l) (block_below a.size m p.map y k) (of_pulled a c m p (pushed d) pushed_congruence x y l k e)
        ∙ near y k)
        (λ x y l k e. pulled_holds a c m p (pushed d) pushed_congruence x y l k
        (pushed_holds (block_of m x) (block_of m y) (block_below a.size m p.map x l) (block_below a.size m p.map y k) (near x l ∙ e ∙ sym (near y k))))

    -- it is the identity only for m
    pub pushed_is : pushed d ≡ identity (blocks a.size m) → d ≡ m
    pushed_is e =
        map_ext a.size d m q.map p.map
        (λ x y l k h. of_block a.size m p.map x y l k
        (identity_discrete (blocks a.size m) (block_of m x) (block_of m y) (block_below a.size m p.map x l) (block_below a.size m p.map y k)
        (subst (λ (z : Map). Holds z (block_of m x) (block_of m y)) e
        (pushed_holds (block_of m x) (block_of m y) (block_below a.size m p.map x l) (block_below a.size m p.map y k) (near x l ∙ h ∙ sym (near y k))))))
        above

  -- pulled back and pushed forward
  pub pushed_pulled : (e : Map) → IsCongruence (quotient a m) e → pushed (pulled a c m p e) ≡ e
  unfolding quotient quotient_cells
  pushed_pulled e q =
      let d : Map = pulled a c m p e in
      let r : IsCongruence a d = pulled_congruence a c m p e q in
      let above : Inside a.size m d = pulled_inside a c m p e q in
      let back : (i : ℕ) → i < blocks a.size m → byte e (block_of m (smallest a.size m i)) ≡ byte e i = λ i l. ap (byte e) (block_smallest a.size m p.map i l) in
      let least : ℕ → ℕ = smallest a.size m in
      let low : (i : ℕ) → i < blocks a.size m → least i < a.size = λ i l. (smallest_below a.size m p.map i l).0 in
      map_ext (blocks a.size m) (pushed d) e (pushed_congruence d r above).map q.map
      (λ i j l k g. sym (back i l) ∙ of_pulled a c m p e q (least i) (least j) (low i l) (low j k) (of_pushed d r above i j l k g) ∙ back j k)
      (λ i j l k g. pushed_holds d r above i j l k
      (pulled_holds a c m p e q (least i) (least j) (low i l) (low j k) (back i l ∙ g ∙ sym (back j k))))
