-- Where the lines of every table, their other arguments listed, keep the listed elements of a map, and these stand for all, the map is
-- compatible with every operation; and what is compatible is kept along every line.
use Prim.Native.Nat.{ℕ, zero, suc, ◌+◌, ◌*◌, ◌^◌, ◌≤◌, ◌<◌}
use mathlib.Core.Bool.{Bool, true, false}
use mathlib.Core.List.{List, [], ◌∷◌, ◌++◌}
use mathlib.Core.Path.{◌≡◌, refl, sym, ap, subst, ◌∙◌}
use native.Mathlib.Omega.{arith}
use lib.ListN.{length, get_or}
use Rattle.equivalence.specs.Equivalence.{Map, byte}
use Rattle.kernel.specs.InnerKernel.{Canonical, Within, Listed}
use Rattle.algebra.specs.Algebra.{Algebra, place}
use Rattle.translation.specs.InnerLines.{line_at}
use Rattle.translation.specs.InnerTranslations.{AllBelow, table_start, result, Compatible}
use Rattle.algebra.proofs.Accepted.{WellFormed}
use Rattle.algebra.proofs.Congruences.{cells_below}
use Rattle.algebra.proofs.Tables.{start_room}
use Rattle.translation.proofs.Places.{place_one, place_two, place_three}
use Rattle.translation.proofs.Translations.{result_below}
use Rattle.refinement.specs.InnerSplitting.{Keeps, KeepsOn, Any, Chosen, Table, MapLent, Represented}
use Rattle.refinement.proofs.Splits.{never, keeps_by_first}
use Rattle.kernel.proofs.Names.{name_back}

-- ---- results as cells of a line

module _ (a : Algebra) (j : ℕ) where
  pub result_cell : (xs : List ℕ) (k : ℕ) → table_start a j + place a.size xs ≡ k → result a j xs ≡ get_or a.cells k 0
  unfolding result
  result_cell xs k e = ap (λ (z : ℕ). get_or a.cells z 0) e

  one_first : (x : ℕ) → result a j (x ∷ []) ≡ line_at a.cells (table_start a j) 1 x
  one_first x = result_cell (x ∷ []) _ (omega (arith, place_one a.size x))

  two_first : (x u : ℕ) → result a j (x ∷ u ∷ []) ≡ line_at a.cells (table_start a j + u * 1) a.size x
  two_first x u = result_cell (x ∷ u ∷ []) _ (omega (arith, place_two a.size x u))

  two_second : (p x : ℕ) → result a j (p ∷ x ∷ []) ≡ line_at a.cells (table_start a j + p * a.size) 1 x
  two_second p x = result_cell (p ∷ x ∷ []) _ (omega (arith, place_two a.size p x))

  three_first : (x u v : ℕ) → result a j (x ∷ u ∷ v ∷ []) ≡ line_at a.cells (table_start a j + u * a.size + v * 1) (a.size * a.size) x
  three_first x u v = result_cell (x ∷ u ∷ v ∷ []) _ (omega (arith, place_three a.size x u v))

  three_second : (p x v : ℕ) → result a j (p ∷ x ∷ v ∷ []) ≡ line_at a.cells (table_start a j + p * (a.size * a.size) + v * 1) a.size x
  three_second p x v = result_cell (p ∷ x ∷ v ∷ []) _ (omega (arith, place_three a.size p x v))

  three_third : (p q x : ℕ) → result a j (p ∷ q ∷ x ∷ []) ≡ line_at a.cells (table_start a j + p * (a.size * a.size) + q * a.size) 1 x
  three_third p q x = result_cell (p ∷ q ∷ x ∷ []) _ (omega (arith, place_three a.size p q x))

-- g joins two results where it joins the cells that they are
same_cells : (g : ℕ → ℕ) {r s c d : ℕ} → r ≡ c → s ≡ d → g c ≡ g d → g r ≡ g s
same_cells g p q e = ap g p ∙ e ∙ ap g (sym q)

-- ---- what is compatible is kept

-- the lines of the first k tables
abbrev pub Tables : (Bool → (ℕ → ℕ) → ℕ → Type 0) → ((ℕ → ℕ) → (ℕ → ℕ) → Type 0) → Algebra → (ℕ → ℕ) → ℕ → Type 0
Tables R K a g k = (j : ℕ) → j < k → Table R K a.size a.cells (table_start a j) (get_or a.arities j 0) g

module _ (a : Algebra) (w : WellFormed a) (g : ℕ → ℕ) (c : Compatible a g) (j : ℕ) (l : j < length a.arities) where
  -- what `Compatible` says of two argument lists
  same_results : (x y : ℕ) (pre post : List ℕ) → length pre + 1 + length post ≡ get_or a.arities j 0 → AllBelow a.size pre → AllBelow a.size post → x < a.size → y < a.size → g x ≡ g y
      → {k m : ℕ} → result a j (pre ++ (x ∷ post)) ≡ k → result a j (pre ++ (y ∷ post)) ≡ m → g k ≡ g m
  same_results x y pre post e b d lx ly p q r = same_cells g (sym q) (sym r) (c x y lx ly p j l pre post e b d)

  compatible_table : (s : ℕ) → get_or a.arities j 0 ≡ s → Table (Any a.size) (Keeps a.size) a.size a.cells (table_start a j) s g
  compatible_table zero e = tt
  compatible_table (suc zero) e = λ x y lx ly p. same_results x y [] [] (omega arith) tt tt lx ly p (one_first a j x) (one_first a j y)
  compatible_table (suc (suc zero)) e = (
    λ u lu x y lx ly p. same_results x y [] (u ∷ []) (omega arith) tt (lu, tt) lx ly p (two_first a j x u) (two_first a j y u),
    λ r lr x y lx ly p. same_results x y (r ∷ []) [] (omega arith) (lr, tt) tt lx ly p (two_second a j r x) (two_second a j r y),
  )
  compatible_table (suc (suc (suc zero))) e = (
    λ u lu v lv x y lx ly p. same_results x y [] (u ∷ v ∷ []) (omega arith) tt (lu, (lv, tt)) lx ly p (three_first a j x u v) (three_first a j y u v),
    (
      λ r lr v lv x y lx ly p. same_results x y (r ∷ []) (v ∷ []) (omega arith) (lr, tt) (lv, tt) lx ly p (three_second a j r x v) (three_second a j r y v),
      λ r lr q lq x y lx ly p. same_results x y (r ∷ q ∷ []) [] (omega arith) (lr, (lq, tt)) tt lx ly p (three_third a j r q x) (three_third a j r q y),
    ),
  )
  compatible_table (suc (suc (suc (suc s)))) e = absurd (omega (arith, w.arity j l))

pub compatible_tables : (a : Algebra) → WellFormed a → (g : ℕ → ℕ) → Compatible a g → Tables (Any a.size) (Keeps a.size) a g (length a.arities)
compatible_tables a w g c j l = compatible_table a w g c j l (get_or a.arities j 0) refl

-- ---- the listed elements stand for all

module _ (a : Algebra) (w : WellFormed a) {live : List ℕ} {used : ℕ} (g : ℕ → ℕ) (c : Canonical a.size g) (s : Represented a live used g) where
  -- the listed elements, and those of them that stand before the varied argument
  abbrev Picked : Bool → (ℕ → ℕ) → ℕ → Type 0
  Picked = Chosen live used

  name_below : (u : ℕ) → u < a.size → s.name u < a.size
  name_below u l = omega (arith, s.canonical.below u l)

  picked_below : (r : ℕ) → Listed live used r → r < a.size
  picked_below r k = rw k.1.1 at (s.elements.below k.0 k.1.0)

  -- g joins each element with the listed one that stands for it
  named : (u : ℕ) → u < a.size → g (s.name u) ≡ g u
  named u l = s.within (s.name u) u (name_below u l) l (s.canonical.named u l)

  -- which is listed as an argument behind the varied one
  behind : (u : ℕ) → u < a.size → Picked false g (s.name u)
  behind u l = (s.listed u l, λ e. never e)

  -- a smallest member is listed
  before : (u : ℕ) → u < a.size → Picked true g (g u)
  before u l =
      let lr : g u < a.size = omega (arith, c.below u l) in
      (subst (Listed live used) (name_back s.canonical c s.within (g u) lr (c.named u l)) (s.listed (g u) lr), λ e. c.named u l)

  -- a line that keeps the listed elements of g, and all of the congruence that they stand for, keeps g
  line_kept : (t : ℕ → ℕ) → ((x : ℕ) → t x < a.size) → Keeps a.size t s.name → KeepsOn (Listed live used) t g → Keeps a.size t g
  line_kept t b k h =
      keeps_by_first a.size t g
      (λ x l.
      s.within (t x) (t (s.name x)) (b x) (b (s.name x)) (k x (s.name x) l (name_below x l) (sym (s.canonical.named x l)))
      ∙ h (s.name x) (s.listed x l)
      ∙ ap (λ (z : ℕ). g (t z)) (named x l))

  along : (base d : ℕ) → Keeps a.size (line_at a.cells base d) s.name → KeepsOn (Listed live used) (line_at a.cells base d) g → Keeps a.size (line_at a.cells base d) g
  along base d = line_kept (line_at a.cells base d) (λ x. cells_below a w (base + x * d))

  table_kept : (base k : ℕ) → Table (Any a.size) (Keeps a.size) a.size a.cells base k s.name
      → Table Picked (KeepsOn (Listed live used)) a.size a.cells base k g → Table Picked (Keeps a.size) a.size a.cells base k g
  table_kept base zero k t = tt
  table_kept base (suc zero) k t = along _ _ k t
  table_kept base (suc (suc zero)) k t = (λ r h. along _ _ (k.0 r (picked_below r h.0)) (t.0 r h), λ r h. along _ _ (k.1 r (picked_below r h.0)) (t.1 r h))
  table_kept base (suc (suc (suc n))) k t = (
    λ r h q i. along _ _ (k.0 r (picked_below r h.0) q (picked_below q i.0)) (t.0 r h q i),
    (
      λ r h q i. along _ _ (k.1.0 r (picked_below r h.0) q (picked_below q i.0)) (t.1.0 r h q i),
      λ r h q i. along _ _ (k.1.1 r (picked_below r h.0) q (picked_below q i.0)) (t.1.1 r h q i),
    ),
  )

  -- ---- an operation

  module _ (j : ℕ) (l : j < length a.arities) where
    -- operation j takes arguments that differ in one, which g joins, to results that g joins
    abbrev Respects : ℕ → Type 0
    Respects k =
        (pre post : List ℕ) → length pre + 1 + length post ≡ k → AllBelow a.size pre → AllBelow a.size post
        → (x y : ℕ) → x < a.size → y < a.size → g x ≡ g y → g (result a j (pre ++ (x ∷ post))) ≡ g (result a j (pre ++ (y ∷ post)))

    -- an argument may be replaced by the listed one that stands for it
    swap : (k : ℕ) → get_or a.arities j 0 ≡ k → (pre post : List ℕ) → length pre + 1 + length post ≡ k → AllBelow a.size pre → AllBelow a.size post
        → (u : ℕ) → u < a.size → g (result a j (pre ++ (u ∷ post))) ≡ g (result a j (pre ++ (s.name u ∷ post)))
    swap k z pre post e b d u lu =
        s.within (result a j (pre ++ (u ∷ post))) (result a j (pre ++ (s.name u ∷ post))) (result_below a w j (pre ++ (u ∷ post))) (result_below a w j (pre ++ (s.name u ∷ post)))
        (s.compatible u (s.name u) lu (name_below u lu) (sym (s.canonical.named u lu)) j l pre post (e ∙ sym z) b d)

    unary : Table Picked (Keeps a.size) a.size a.cells (table_start a j) 1 g → Respects 1
    unary t [] [] e b d x y lx ly p = same_cells g (one_first a j x) (one_first a j y) (t x y lx ly p)
    unary t [] (u ∷ post) e b d x y lx ly p = absurd (omega arith)
    unary t (u ∷ pre) post e b d x y lx ly p = absurd (omega arith)

    module _ (z : get_or a.arities j 0 ≡ 2) (t : Table Picked (Keeps a.size) a.size a.cells (table_start a j) 2 g) where
      second : (x u : ℕ) → x < a.size → u < a.size → g (result a j (x ∷ u ∷ [])) ≡ g (result a j (x ∷ s.name u ∷ []))
      second x u lx lu = swap 2 z (x ∷ []) [] (omega arith) (lx, tt) tt u lu

      in_two_first : (u : ℕ) → u < a.size → (x y : ℕ) → x < a.size → y < a.size → g x ≡ g y → g (result a j (x ∷ u ∷ [])) ≡ g (result a j (y ∷ u ∷ []))
      in_two_first u lu x y lx ly p =
          second x u lx lu
          ∙ same_cells g (two_first a j x (s.name u)) (two_first a j y (s.name u)) (t.0 (s.name u) (behind u lu) x y lx ly p)
          ∙ sym (second y u ly lu)

      in_two_second : (u : ℕ) → u < a.size → (x y : ℕ) → x < a.size → y < a.size → g x ≡ g y → g (result a j (u ∷ x ∷ [])) ≡ g (result a j (u ∷ y ∷ []))
      in_two_second u lu x y lx ly p =
          let lr : g u < a.size = omega (arith, c.below u lu) in
          in_two_first x lx u (g u) lu lr (sym (c.named u lu))
          ∙ same_cells g (two_second a j (g u) x) (two_second a j (g u) y) (t.1 (g u) (before u lu) x y lx ly p)
          ∙ in_two_first y ly (g u) u lr lu (c.named u lu)

      binary : Respects 2
      binary [] [] e b d x y lx ly p = absurd (omega arith)
      binary [] (u ∷ []) e b d x y lx ly p = in_two_first u d.0 x y lx ly p
      binary [] (u ∷ v ∷ post) e b d x y lx ly p = absurd (omega arith)
      binary (u ∷ []) [] e b d x y lx ly p = in_two_second u b.0 x y lx ly p
      binary (u ∷ []) (v ∷ post) e b d x y lx ly p = absurd (omega arith)
      binary (u ∷ v ∷ pre) post e b d x y lx ly p = absurd (omega arith)

    module _ (z : get_or a.arities j 0 ≡ 3) (t : Table Picked (Keeps a.size) a.size a.cells (table_start a j) 3 g) where
      middle : (x u v : ℕ) → x < a.size → u < a.size → v < a.size → g (result a j (x ∷ u ∷ v ∷ [])) ≡ g (result a j (x ∷ s.name u ∷ v ∷ []))
      middle x u v lx lu lv = swap 3 z (x ∷ []) (v ∷ []) (omega arith) (lx, tt) (lv, tt) u lu

      last : (x u v : ℕ) → x < a.size → u < a.size → v < a.size → g (result a j (x ∷ u ∷ v ∷ [])) ≡ g (result a j (x ∷ u ∷ s.name v ∷ []))
      last x u v lx lu lv = swap 3 z (x ∷ u ∷ []) [] (omega arith) (lx, (lu, tt)) tt v lv

      -- both arguments behind the first replaced
      both : (x u v : ℕ) → x < a.size → u < a.size → v < a.size → g (result a j (x ∷ u ∷ v ∷ [])) ≡ g (result a j (x ∷ s.name u ∷ s.name v ∷ []))
      both x u v lx lu lv = middle x u v lx lu lv ∙ last x (s.name u) v lx (name_below u lu) lv

      in_three_first : (u v : ℕ) → u < a.size → v < a.size → (x y : ℕ) → x < a.size → y < a.size → g x ≡ g y → g (result a j (x ∷ u ∷ v ∷ [])) ≡ g (result a j (y ∷ u ∷ v ∷ []))
      in_three_first u v lu lv x y lx ly p =
          both x u v lx lu lv
          ∙ same_cells g (three_first a j x (s.name u) (s.name v)) (three_first a j y (s.name u) (s.name v)) (t.0 (s.name u) (behind u lu) (s.name v) (behind v lv) x y lx ly p)
          ∙ sym (both y u v ly lu lv)

      in_three_second : (u v : ℕ) → u < a.size → v < a.size → (x y : ℕ) → x < a.size → y < a.size → g x ≡ g y → g (result a j (u ∷ x ∷ v ∷ [])) ≡ g (result a j (u ∷ y ∷ v ∷ []))
      in_three_second u v lu lv x y lx ly p =
          let lr : g u < a.size = omega (arith, c.below u lu) in
          in_three_first x v lx lv u (g u) lu lr (sym (c.named u lu))
          ∙ last (g u) x v lr lx lv
          ∙ same_cells g (three_second a j (g u) x (s.name v)) (three_second a j (g u) y (s.name v)) (t.1.0 (g u) (before u lu) (s.name v) (behind v lv) x y lx ly p)
          ∙ sym (last (g u) y v lr ly lv)
          ∙ in_three_first y v ly lv (g u) u lr lu (c.named u lu)

      in_three_third : (u v : ℕ) → u < a.size → v < a.size → (x y : ℕ) → x < a.size → y < a.size → g x ≡ g y → g (result a j (u ∷ v ∷ x ∷ [])) ≡ g (result a j (u ∷ v ∷ y ∷ []))
      in_three_third u v lu lv x y lx ly p =
          let lr : g u < a.size = omega (arith, c.below u lu) in
          let ls : g v < a.size = omega (arith, c.below v lv) in
          in_three_first v x lv lx u (g u) lu lr (sym (c.named u lu))
          ∙ in_three_second (g u) x lr lx v (g v) lv ls (sym (c.named v lv))
          ∙ same_cells g (three_third a j (g u) (g v) x) (three_third a j (g u) (g v) y) (t.1.1 (g u) (before u lu) (g v) (before v lv) x y lx ly p)
          ∙ in_three_second (g u) y lr ly (g v) v ls lv (c.named v lv)
          ∙ in_three_first v y lv ly (g u) u lr lu (c.named u lu)

      ternary : Respects 3
      ternary [] [] e b d x y lx ly p = absurd (omega arith)
      ternary [] (u ∷ []) e b d x y lx ly p = absurd (omega arith)
      ternary [] (u ∷ v ∷ []) e b d x y lx ly p = in_three_first u v d.0 d.1.0 x y lx ly p
      ternary [] (u ∷ v ∷ i ∷ post) e b d x y lx ly p = absurd (omega arith)
      ternary (u ∷ []) [] e b d x y lx ly p = absurd (omega arith)
      ternary (u ∷ []) (v ∷ []) e b d x y lx ly p = in_three_second u v b.0 d.0 x y lx ly p
      ternary (u ∷ []) (v ∷ i ∷ post) e b d x y lx ly p = absurd (omega arith)
      ternary (u ∷ v ∷ []) [] e b d x y lx ly p = in_three_third u v b.0 b.1.0 x y lx ly p
      ternary (u ∷ v ∷ []) (i ∷ post) e b d x y lx ly p = absurd (omega arith)
      ternary (u ∷ v ∷ i ∷ pre) post e b d x y lx ly p = absurd (omega arith)

    table_respects : (k : ℕ) → get_or a.arities j 0 ≡ k → k ≤ 3 → Table Picked (Keeps a.size) a.size a.cells (table_start a j) k g → Respects k
    table_respects zero z m t pre post e b d x y lx ly p = absurd (omega arith)
    table_respects (suc zero) z m t pre post e b d x y lx ly p = unary t pre post e b d x y lx ly p
    table_respects (suc (suc zero)) z m t pre post e b d x y lx ly p = binary z t pre post e b d x y lx ly p
    table_respects (suc (suc (suc zero))) z m t pre post e b d x y lx ly p = ternary z t pre post e b d x y lx ly p
    table_respects (suc (suc (suc (suc k)))) z m t pre post e b d x y lx ly p = absurd (omega arith)

  pub tables_compatible : Tables Picked (KeepsOn (Listed live used)) a g (length a.arities) → Compatible a g
  tables_compatible t x y lx ly p j l pre post e b d =
      let k = get_or a.arities j 0 in
      table_respects j l k refl (w.arity j l) (table_kept (table_start a j) k (compatible_tables a w s.name s.compatible j l) (t j l)) pre post e b d x y lx ly p

-- what stands for all goes on to do so where a map is split
pub represented_again : {a : Algebra} {live : List ℕ} {used : ℕ} {e e' : ℕ → ℕ} (s : Represented a live used e) → Within a.size s.name e' → Represented a live used e'
represented_again s h = record { elements = s.elements; name = s.name; canonical = s.canonical; compatible = s.compatible; within = h; listed = s.listed }

-- ---- what the walk over an accepted algebra finds

-- each table lies within the cells
pub table_room : (a : Algebra) → WellFormed a → (j : ℕ) → j < length a.arities → table_start a j + a.size ^ get_or a.arities j 0 ≤ length a.cells
table_room a w j l = omega (arith, start_room a.size a.arities j l, w.filled)

-- what holds in a turn of the walk over the tables: the next one is there
pub record TableThere (n arity base size : ℕ) : Type 0 where
  pub small : n ≤ 64
  pub most : arity ≤ 3
  pub room : base + n ^ arity ≤ size

pub table_there : (a : Algebra) (j base : ℕ) → WellFormed a → j < length a.arities → base ≡ table_start a j → TableThere a.size (get_or a.arities j 0) base (length a.cells)
table_there a j base w l e = record { small = w.most; most = w.arity j l; room = omega (arith, table_room a w j l) }

-- what is lent to the walk over an accepted algebra
pub accepted_lent : (a : Algebra) → WellFormed a → (m : Map) → a.size ≤ length m → Canonical a.size (byte m) → MapLent a.size m a.cells
accepted_lent a w m r c = record { some = w.some; small = w.most; room = r; canonical = c; below = w.below }
