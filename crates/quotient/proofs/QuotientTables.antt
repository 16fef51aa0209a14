-- What the walk over tables writes is the quotient's cells.
use Prim.Native.Nat.{ℕ, zero, suc, ◌+◌, ◌*◌, ◌^◌, ◌≤◌, ◌<◌}
use mathlib.Core.List.Memᴰ.{head as here}
use mathlib.Core.List.Memᴰ.{tail as there}
use mathlib.Core.List.{List, [], ◌∷◌, ◌++◌, map, map-map, map-append, Memᴰ as Member}
use mathlib.Core.Path.{◌≡◌, refl, sym, ap, ◌∙◌}
use native.Mathlib.Omega.{arith}
use lib.ListN.{length, get_or, take, drop, length-map}
use lib.Seq.{ext_get_or, drop-drop}
use Rattle.equivalence.specs.Equivalence.{Map, byte, blocks, block_of}
use Rattle.equivalence.specs.Lists.{up_to, concat}
use Rattle.equivalence.specs.Lent.{written, laid}
use Rattle.equivalence.proofs.BlockNumbers.{blocks_le, smallest, smallest_below}
use Rattle.equivalence.proofs.Lists.{map_at, table_at, up_to_length}
use Rattle.equivalence.proofs.Maps.{IsMap}
use Rattle.algebra.specs.Algebra.{Algebra, Operation, cell_count, operations_of, operations, arguments, place, value}
use Rattle.algebra.proofs.Accepted.{WellFormed}
use Rattle.algebra.proofs.Arguments.{Args, of_arguments, args_map, place_law}
use Rattle.algebra.proofs.Tables.{operation_at, value_at}
use Rattle.quotient.specs.InnerNumbers.{Numbered}
use Rattle.quotient.specs.Quotient.{quotient_table, quotient_cells}
use Rattle.quotient.specs.InnerTables.{concat_up_to, AllDivided, Source, source_of, divided, divided_at, SourceRight, AllFit}
use Rattle.quotient.proofs.Operations.{cell_count_more, cell_count_part}

-- two functions that agree on a list's members make one list of it
map_same : {A B : Type 0} (f g : A → B) (l : List A) → ((x : A) → Member x l → f x ≡ g x) → map f l ≡ map g l
map_same f g [] h = refl
map_same f g (x ∷ l) h = rw (h x (here refl), map_same f g l (λ y i. h y (there i)))

map_concat : {A B : Type 0} (f : A → B) (ls : List (List A)) → map f (concat ls) ≡ concat (map (map f) ls)
unfolding concat
map_concat f [] = refl
map_concat f (l ∷ ls) = map-append f l (concat ls) ∙ ap (λ r. map f l ++ r) (map_concat f ls)

-- the cell at a list of blocks: the block number of the cell at their smallest members
abbrev cell_at : Source → ℕ → List ℕ → ℕ
cell_at q from bs = byte q.numbers (byte q.cells (from + place q.size (map (byte q.names) bs)))

-- the cells with block k as the first argument
first_argument : (q : Source) (s from k : ℕ)
    → map (cell_at q (from + byte q.names k * q.size ^ s)) (arguments (length q.names) s) ≡ map (cell_at q from) (map (λ t. k ∷ t) (arguments (length q.names) s))
unfolding place
first_argument q s from k =
    map_same (cell_at q (from + byte q.names k * q.size ^ s)) (λ t. cell_at q from (k ∷ t)) (arguments (length q.names) s)
    (λ t i. let e : length (map (byte q.names) t) ≡ s = length-map t (byte q.names) ∙ (of_arguments (length q.names) s t i).long in
    rw e (ap (λ (c : ℕ). byte q.numbers (byte q.cells c)) (omega arith)))
    ∙ sym (map-map (cell_at q from) (λ t. k ∷ t) (arguments (length q.names) s))

-- the walk writes the cell at each list of blocks, in the order of places
divided_cells : (q : Source) (s from : ℕ) → divided q s from ≡ map (cell_at q from) (arguments (length q.names) s)
unfolding divided concat_up_to arguments place
divided_cells q zero from = ap (λ (c : ℕ). byte q.numbers (byte q.cells c) ∷ []) (omega arith)
divided_cells q (suc s) from =
    ap concat
    (map_same (λ k. divided q s (from + byte q.names k * q.size ^ s)) (λ k. map (cell_at q from) (map (λ t. k ∷ t) (arguments (length q.names) s))) (up_to (length q.names))
    (λ k i. divided_cells q s (from + byte q.names k * q.size ^ s) ∙ first_argument q s from k))
    ∙ ap concat (sym (map-map (map (cell_at q from)) (λ k. map (λ t. k ∷ t) (arguments (length q.names) s)) (up_to (length q.names))))
    ∙ sym (map_concat (cell_at q from) (map (λ k. map (λ t. k ∷ t) (arguments (length q.names) s)) (up_to (length q.names))))

-- operation j stands at number j
operations_at : (n : ℕ) (arities cells : List ℕ) (j : ℕ) (d : Operation) → j < length arities
    → get_or (operations_of n arities cells) j d ≡ record { arity = get_or arities j 0; table = take (n ^ get_or arities j 0) (drop (cell_count n (take j arities)) cells) }
unfolding operations_of cell_count
operations_at n [] cells j d l = absurd (omega arith)
operations_at n (s ∷ rest) cells zero d l = refl
operations_at n (s ∷ rest) cells (suc j) d l =
    operations_at n rest (drop (n ^ s) cells) j d (omega arith)
    ∙ ap (λ (l : List ℕ). record { arity = get_or rest j 0; table = take (n ^ get_or rest j 0) l }) (drop-drop (cell_count n (take j rest)) (n ^ s) cells)

operations_long : (n : ℕ) (arities cells : List ℕ) → length (operations_of n arities cells) ≡ length arities
unfolding operations_of
operations_long n [] cells = refl
operations_long n (s ∷ rest) cells = ap suc (operations_long n rest (drop (n ^ s) cells))

module _ (a : Algebra) (ok : WellFormed a) (m : Map) (p : IsMap a.size m) (numbers names : List ℕ) (r : Numbered a.size m numbers names (length names)) where
  source : Source
  source = source_of a.size a.cells numbers names

  first_below : (k : ℕ) → k < length names → byte names k < a.size
  first_below k l = rw (r.first k l) (smallest_below a.size m p k (rw r.count at l)).0

  -- one cell: the smallest members are the blocks' and the number is that of the result's block
  cell_is : (j : ℕ) → j < length a.arities → (bs : List ℕ) → Args (length names) (get_or a.arities j 0) bs
      → cell_at source (cell_count a.size (take j a.arities)) bs ≡ block_of m (value a.size (operation_at a j) (map (smallest a.size m) bs))
  unfolding source
  cell_is j l bs h =
      let n : ℕ = a.size in
      let s : ℕ = get_or a.arities j 0 in
      let xs : List ℕ = map (byte names) bs in
      let same : xs ≡ map (smallest n m) bs =
      ext_get_or 0 xs (map (smallest n m) bs) (length-map bs (byte names) ∙ sym (length-map bs (smallest n m)))
      (λ i k. let g : i < length bs = rw (length-map bs (byte names)) at k in
      map_at (byte names) bs i 0 0 g ∙ r.first (get_or bs i 0) (h.below i (omega (arith, h.long))) ∙ sym (map_at (smallest n m) bs i 0 0 g)) in
      let here : Args n s xs = args_map (length names) n s (byte names) first_below bs h in
      let at : ℕ = cell_count n (take j a.arities) + place n xs in
      let in_cells : at < length a.cells =
      omega (arith, (place_law n s xs here).0, ok.filled, cell_count_more n a.arities j l, cell_count_part n a.arities (suc j)) in
      r.number (byte a.cells at) (ok.below at in_cells)
      ∙ ap (block_of m) (sym (value_at a j xs here) ∙ ap (value n (operation_at a j)) same)

  table_is : (j : ℕ) → j < length a.arities → divided_at source a.arities j ≡ quotient_table a.size m (operation_at a j)
  unfolding quotient_table source operation_at
  table_is j l =
      let s : ℕ = get_or a.arities j 0 in
      divided_cells source s (cell_count a.size (take j a.arities))
      ∙ map_same (cell_at source (cell_count a.size (take j a.arities))) (λ bs. block_of m (value a.size (operation_at a j) (map (smallest a.size m) bs))) (arguments (length names) s)
      (λ bs i. cell_is j l bs (of_arguments (length names) s bs i))
      ∙ ap (λ (k : ℕ). map (λ bs. block_of m (value a.size (operation_at a j) (map (smallest a.size m) bs))) (arguments k s)) r.count

  cells_are : concat_up_to (divided_at source a.arities) (length a.arities) ≡ quotient_cells a m
  unfolding quotient_cells concat_up_to operations operation_at
  cells_are =
      let n : ℕ = a.size in
      let g : ℕ → List ℕ = divided_at source a.arities in
      let ops : List Operation = operations_of n a.arities a.cells in
      let none : Operation = record { arity = 0; table = [] } in
      let long : length (map g (up_to (length a.arities))) ≡ length a.arities = length-map (up_to (length a.arities)) g ∙ up_to_length (length a.arities) in
      ap concat
      (ext_get_or [] (map g (up_to (length a.arities))) (map (quotient_table n m) ops) (long ∙ sym (length-map ops (quotient_table n m) ∙ operations_long n a.arities a.cells))
      (λ j k. let l : j < length a.arities = rw long at k in
      table_at g (length a.arities) j [] l ∙ table_is j l ∙ ap (quotient_table n m) (sym (operations_at n a.arities a.cells j none l))
      ∙ sym (map_at (quotient_table n m) ops j none [] (omega (arith, operations_long n a.arities a.cells)))))

  pub written_quotient : (lent out : List ℕ) → AllDivided (source_of a.size a.cells numbers names) a.arities lent out → out ≡ written (quotient_cells a m) lent
  unfolding laid source
  written_quotient lent out e = e ∙ ap (λ (new : List ℕ). written new lent) cells_are

  pub numbered_sound : a.size ≤ length numbers → SourceRight (source_of a.size a.cells numbers names)
  numbered_sound ln = record {
    most = ok.most;
    few = omega (arith, r.count, blocks_le a.size m);
    cell = ok.below;
    first = first_below;
    numbers = ln;
  }

  pub numbered_fits : (lent : List ℕ) → cell_count (blocks a.size m) a.arities ≤ length lent → AllFit (source_of a.size a.cells numbers names) a.arities lent
  numbered_fits lent h = record { arity = ok.arity; source = omega (arith, ok.filled); target = rw r.count h }
