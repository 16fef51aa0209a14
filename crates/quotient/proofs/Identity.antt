-- The quotient by the identity is the algebra itself: each block has one member, numbered as it is, so that the cells are copied.
use Prim.Native.Nat.{ℕ, zero, suc, ◌+◌, ◌*◌, ◌^◌, ◌≤◌, ◌<◌}
use mathlib.Core.Bool.{Bool, true}
use mathlib.Core.List.{List, [], ◌∷◌, ◌++◌}
use mathlib.Core.Path.{◌≡◌, refl, sym, ap, subst, ◌∙◌}
use native.Mathlib.Nat.{suc-mul, mul-le-mul_right, pow-zero, pow-succ'}
use native.Mathlib.Omega.{arith}
use lib.Dec.{T, eqb}
use lib.ListN.{length, get_or, take, drop}
use lib.Seq.{take-add, take_all, drop-drop, drop-cons}
use borrow.Author.Tests.{eq-eqb}
use mir.Syntax.{w8}
use mir.Val.{Fits}
use Rattle.kernel.specs.InnerKernel.{Canonical, Filled}
use Rattle.equivalence.specs.Equivalence.{Map, byte, is_map, names_of, blocks, block_of, is_identity}
use Rattle.equivalence.specs.Lists.{up_to, keep}
use Rattle.equivalence.specs.Lent.{written, laid}
use Rattle.equivalence.proofs.Lists.{keep_yes, keep_append, up_to_length, up_to_at}
use Rattle.equivalence.proofs.Maps.{of_is_map, of_is_identity}
use Rattle.equivalence.proofs.Writing.{filled_written}
use Rattle.algebra.specs.Accepted.{Accepted}
use Rattle.algebra.specs.Algebra.{Algebra, algebra_of, cell_count}
use Rattle.algebra.proofs.Accepted.{WellFormed, accepted_well_formed}
use Rattle.quotient.specs.InnerNumbers.{Numbered}
use Rattle.quotient.specs.Quotient.{quotient_cells}
use Rattle.quotient.specs.InnerTables.{concat_up_to, Source, source_of, divided, divided_at}
use Rattle.quotient.proofs.Operations.{cell_count_none, cell_count_more, cell_count_part}
use Rattle.quotient.proofs.QuotientTables.{written_quotient}
use Rattle.quotient.proofs.Walks.{concat_up_to_none, concat_up_to_more}

pub accepted_fits : (n : ℕ) (arities cells : List ℕ) → Accepted (algebra_of n arities cells) → Fits w8 n
accepted_fits n arities cells ac = omega (arith, (accepted_well_formed _ ac).most)

pub map_long : (n : ℕ) (m : Map) → T (is_map n m) → n ≤ length m
map_long n m t = omega (arith, (of_is_map n m t).long)

pub map_canonical : (n : ℕ) (m : Map) → T (is_map n m) → Canonical n (byte m)
map_canonical n m t = let p = of_is_map n m t in record { below = p.low; named = p.named }

-- a test that found yes holds
found : (r t : Bool) → r ≡ t → r ≡ true → T t
found r t e f = subst T (sym f ∙ e) tt

module _ (n : ℕ) (m : Map) (same : (x : ℕ) → x < n → byte m x ≡ x) where
  names_are : (k : ℕ) → k ≤ n → names_of k m ≡ up_to k
  unfolding names_of up_to keep
  names_are zero l = refl
  names_are (suc k) l =
      keep_append (λ x. eqb (byte m x) x) (up_to k) (k ∷ [])
      ∙ ap (λ (z : List ℕ). keep (λ x. eqb (byte m x) x) (up_to k) ++ z) (keep_yes (λ x. eqb (byte m x) x) k [] (subst T (sym (eq-eqb (byte m k) k (same k (omega arith)))) tt))
      ∙ ap (λ (z : List ℕ). z ++ (k ∷ [])) (names_are k (omega arith))

  blocks_are : (k : ℕ) → k ≤ n → blocks k m ≡ k
  unfolding blocks
  blocks_are k l = ap length (names_are k l) ∙ up_to_length k

  numbered : Numbered n m (up_to n) (up_to n) (length (up_to n))
  unfolding block_of
  numbered = record {
    count = up_to_length n ∙ sym (blocks_are n (omega arith));
    number = λ x l. up_to_at n x l ∙ sym (rw (same x l) (blocks_are x (omega arith)));
    first = λ k l. rw (names_are n (omega arith)) refl;
  }

module _ (a : Algebra) (ok : WellFormed a) where
  whole : Source
  whole = source_of a.size a.cells (up_to a.size) (up_to a.size)

  -- as many stretches of w cells as K, one behind the other
  stretches_are : (g : ℕ → List ℕ) (w from : ℕ) (K : ℕ) → ((k : ℕ) → k < K → g k ≡ take w (drop (from + k * w) a.cells)) → concat_up_to g K ≡ take (K * w) (drop from a.cells)
  stretches_are g w from zero h =
      let e : 0 ≡ 0 * w = omega arith in
      concat_up_to_none g ∙ ap (λ (z : ℕ). take z (drop from a.cells)) e
  stretches_are g w from (suc K) h =
      concat_up_to_more g K
      ∙ ap (λ (z : List ℕ). z ++ g K) (stretches_are g w from K (λ k l. h k (omega arith)))
      ∙ ap (λ (z : List ℕ). take (K * w) (drop from a.cells) ++ z) (h K (omega arith) ∙ ap (take w) (sym (drop-drop (K * w) from a.cells)))
      ∙ sym (take-add (K * w) w (drop from a.cells))
      ∙ ap (λ (z : ℕ). take z (drop from a.cells)) (sym (suc-mul K w))

  table_whole : (s from : ℕ) → from + a.size ^ s ≤ length a.cells → divided whole s from ≡ take (a.size ^ s) (drop from a.cells)
  unfolding divided whole
  table_whole zero from l =
      let k : from < length a.cells = omega (arith, pow-zero a.size) in
      rw (pow-zero a.size, drop-cons a.cells from 0 k, up_to_at a.size (get_or a.cells from 0) (ok.below from k)) refl
  table_whole (suc s) from l =
      let w = a.size ^ s in
      rw (up_to_length a.size, pow-succ' a.size s)
      (stretches_are (λ k. divided whole s (from + byte (up_to a.size) k * w)) w from a.size (λ k lk.
      rw (up_to_at a.size k lk) (table_whole s (from + k * w) (omega (arith, pow-succ' a.size s, suc-mul k w, mul-le-mul_right w lk)))))

  tables_whole : (j : ℕ) → j ≤ length a.arities → concat_up_to (divided_at whole a.arities) j ≡ take (cell_count a.size (take j a.arities)) a.cells
  unfolding whole
  tables_whole zero l = concat_up_to_none (divided_at whole a.arities) ∙ sym (ap (λ (z : ℕ). take z a.cells) (cell_count_none a.size a.arities))
  tables_whole (suc j) l =
      let n = a.size in
      let s = get_or a.arities j 0 in
      let from = cell_count n (take j a.arities) in
      let k : from + n ^ s ≤ length a.cells = omega (arith, ok.filled, cell_count_more n a.arities j (omega arith), cell_count_part n a.arities (suc j)) in
      concat_up_to_more (divided_at whole a.arities) j
      ∙ ap (λ (z : List ℕ). z ++ divided_at whole a.arities j) (tables_whole j (omega arith))
      ∙ ap (λ (z : List ℕ). take from a.cells ++ z) (table_whole s from k)
      ∙ sym (take-add from (n ^ s) a.cells)
      ∙ ap (λ (z : ℕ). take z a.cells) (sym (cell_count_more n a.arities j (omega arith)))

  all_whole : concat_up_to (divided_at whole a.arities) (length a.arities) ≡ a.cells
  all_whole =
      let k = length a.arities in
      let e : cell_count a.size (take k a.arities) ≡ cell_count a.size a.arities = ap (cell_count a.size) (take_all k a.arities (omega arith)) in
      tables_whole k (omega arith) ∙ take_all (cell_count a.size (take k a.arities)) a.cells (omega (arith, ok.filled))

module _ (n : ℕ) (arities cells m : List ℕ) (ac : Accepted (algebra_of n arities cells)) (t : T (is_map n m)) {r : Bool} (e : r ≡ is_identity n m) (f : r ≡ true) where
  itself : (x : ℕ) → x < n → byte m x ≡ x
  itself x l =
      let p = of_is_map n m t in
      of_is_identity n m (found r _ e f) (byte m x) x (omega (arith, p.low x l)) l (p.named x l)

  identity_blocks : blocks n m ≡ n
  identity_blocks = blocks_are n m itself n (omega arith)

  pub identity_count : n ≡ blocks n m
  identity_count = sym identity_blocks

  pub identity_room : (lent : List ℕ) → cell_count (blocks n m) arities ≤ length lent → length cells ≤ length lent
  identity_room lent h =
      let k : cell_count n arities ≤ length lent = rw identity_blocks at h in
      omega (arith, (accepted_well_formed _ ac).filled)

  pub identity_copied : (lent after : List ℕ) → cell_count (blocks n m) arities ≤ length lent → length after ≡ length lent → Filled (length cells) (byte cells) (byte lent) (byte after)
      → after ≡ written (quotient_cells (algebra_of n arities cells) m) lent
  unfolding laid whole
  identity_copied lent after h long c =
      let b = algebra_of n arities cells in
      let ok = accepted_well_formed b ac in
      written_quotient b ok m (of_is_map n m t) (up_to n) (up_to n) (numbered n m itself) lent after
      (filled_written (length cells) cells lent after refl (identity_room lent h) long c ∙ ap (λ (new : List ℕ). written new lent) (sym (all_whole b ok)))
