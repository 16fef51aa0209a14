-- The laws of the passes over a table: its rows lie within the cells; a row from its lines, all rows one by one, the stop at one block; and the table from its rows.
use Prim.Native.Nat.{ℕ, ◌+◌, ◌*◌, ◌^◌, ◌≤◌, ◌<◌}
use mathlib.Core.Bool.{Bool, true, false}
use mathlib.Core.List.{List}
use mathlib.Core.Path.{◌≡◌, sym, ap, subst, subst₂, ◌∙◌}
use native.Mathlib.Decide.{ℕ_discrete}
use native.Mathlib.Nat.{mul-le-mul_right}
use native.Mathlib.Omega.{arith}
use lib.Dec.{eqb}
use lib.ListN.{length}
use Rattle.algebra.proofs.Powers.{power_one, power_two, power_three}
use Rattle.equivalence.specs.Equivalence.{byte}
use Rattle.kernel.specs.InnerKernel.{Within, bit}
use Rattle.translation.specs.InnerLines.{LineInside}
use Rattle.sweep.specs.declared.Stop.{Stop}
use Rattle.sweep.specs.declared.LinePair.{LinePair}
use Rattle.sweep.specs.declared.ImagePair.{ImagePair}
use Rattle.sweep.specs.InnerContexts.{JoinsLine, JoinsCross, JoinsRow, JoinsRows, JoinsTable, Contexts, LinesInside, RowInside, RowsInside, TableInside, lines_of, shifted, last_of, middle_of, row_at, rows_of}
use Rattle.sweep.specs.InnerQueue.{QueueState}
use Rattle.sweep.specs.InnerSweeps.{Yes, Halts, Sweeping, SweptTo, Swept}
use Rattle.sweep.proofs.Queues.{grown_first}
use Rattle.sweep.proofs.Sweeps.{swept_none, swept_more, swept_halted, swept_as, each_more}
use Rattle.sweep.proofs.Crossings.{line_kept, line_whole, cross_kept, cross_whole}

-- ---- within the cells

two_digits : (n c d : ℕ) → c < n → d < n → c * n + d < n * n
two_digits n c d lc ld = omega (arith, mul-le-mul_right n lc)

three_digits : (n c d e : ℕ) → c < n → d < n → e < n → c * (n * n) + d * n + e < n * n * n
three_digits n c d e lc ld le = omega (arith, mul-le-mul_right (n * n) lc, two_digits n d e ld le)

-- how many cells a table has
module _ (n : ℕ) {s : ℕ} where
  pub unary_cells : s ≡ 1 → n ≡ n ^ s
  unary_cells e = rw e (sym (power_one n))

  pub ternary_cells : s ≡ 3 → n * n * n ≡ n ^ s
  ternary_cells e = rw e (sym (power_three n))

module _ {n : ℕ} {cells : List ℕ} {images : ImagePair} {s : ℕ} (e : s ≡ 1) (h : TableInside n cells s images) where
  pub unary_left : images.o + images.x < length cells
  unary_left = let r : images.o + n ^ 1 ≤ length cells = rw e at h.room in omega (arith, h.left, power_one n)

  pub unary_right : images.o + images.y < length cells
  unary_right = let r : images.o + n ^ 1 ≤ length cells = rw e at h.room in omega (arith, h.right, power_one n)

module _ {n : ℕ} {cells live : List ℕ} {count : ℕ} (x : Contexts n cells live count) {images : ImagePair} where
  deep_rows : TableInside n cells 3 images → RowsInside n cells live count true images
  deep_rows h = record {
    rows = λ i l.
        let c = byte live i in
        let lc = x.live_below i l in
        let last : (z : ℕ) → z < n → LineInside n cells (images.o + c * (n * n) + z * 1) n =
        λ z lz. record { inside = λ d ld. omega (arith, h.room, power_three n, three_digits n c d z lc ld lz) } in
        let middle : (z : ℕ) → z < n → LineInside n cells (images.o + c * (n * n) + z * n) 1 =
        λ z lz. record { inside = λ d ld. omega (arith, h.room, power_three n, three_digits n c z d lc lz ld) } in
        let first : (z : ℕ) → z < n → LineInside n cells (images.o + c * n + z * (n * n)) 1 =
        λ z lz. record { inside = λ d ld. omega (arith, h.room, power_three n, three_digits n z c d lz lc ld) } in
        record {
          last = record { left = last images.x h.left; right = last images.y h.right };
          middle = record { left = middle images.x h.left; right = middle images.y h.right };
          first = λ e. record { left = first images.x h.left; right = first images.y h.right };
        };
  }

  flat_rows : TableInside n cells 2 images → RowsInside n cells live count false images
  flat_rows h = record {
    rows = λ i l.
        let last : (z : ℕ) → z < n → LineInside n cells (images.o + 0 * (n * n) + z * 1) n = λ z lz. record { inside = λ d ld. omega (arith, h.room, power_two n, two_digits n d z ld lz) } in
        let middle : (z : ℕ) → z < n → LineInside n cells (images.o + 0 * (n * n) + z * n) 1 = λ z lz. record { inside = λ d ld. omega (arith, h.room, power_two n, two_digits n z d lz ld) } in
        record {
          last = record { left = last images.x h.left; right = last images.y h.right };
          middle = record { left = middle images.x h.left; right = middle images.y h.right };
          first = λ e. absurd (omega (arith, ap bit e));
        };
  }

  -- of arity 2 or 3
  pub rows_inside : {s : ℕ} → TableInside n cells s images → s ≤ 3 → (s ≡ 1 → ⊥) → 2 ≤ s → RowsInside n cells live count (eqb s 3) images
  rows_inside {s} h l u k = elim (ℕ_discrete s 3) [
    | yes e ↦ subst (λ (z : ℕ). RowsInside n cells live count (eqb z 3) images) (sym e) (deep_rows (subst (λ (z : ℕ). TableInside n cells z images) e h))
    | no e ↦ let e' : s ≡ 2 = omega arith in
        subst (λ (z : ℕ). RowsInside n cells live count (eqb z 3) images) (sym e') (flat_rows (subst (λ (z : ℕ). TableInside n cells z images) e' h))
  ]

-- ---- a row

module _ {n : ℕ} {stop : Stop} {cells live : List ℕ} {count : ℕ} {deep : Bool} {images : ImagePair} {c : ℕ} {s : QueueState} where
  module _ (k : Sweeping n stop s) (x : Contexts n cells live count) (h : RowInside n cells deep images c) where
    some : 0 < n
    some = omega (arith, k.left)

    pub last_fits : {plane : ImagePair} → plane ≡ shifted images (c * (n * n)) → (plane.o + plane.x * 1 < 32768) × (plane.o + plane.y * 1 < 32768)
    last_fits e = rw e (omega (arith, h.last.left.inside 0 some, x.cells_most), omega (arith, h.last.right.inside 0 some, x.cells_most))

    pub middle_fits : {plane : ImagePair} → plane ≡ shifted images (c * (n * n)) → (plane.o + plane.x * n < 32768) × (plane.o + plane.y * n < 32768)
    middle_fits e = rw e (omega (arith, h.middle.left.inside 0 some, x.cells_most), omega (arith, h.middle.right.inside 0 some, x.cells_most))

    pub across_start : deep ≡ true → images.o + c * n < 32768
    across_start d = omega (arith, (h.first d).left.inside 0 some, x.cells_most)

    pub first_fits : {across : ImagePair} → deep ≡ true → across ≡ shifted images (c * n) → (across.o + across.x * (n * n) < 32768) × (across.o + across.y * (n * n) < 32768)
    first_fits d e = rw e (omega (arith, (h.first d).left.inside 0 some, x.cells_most), omega (arith, (h.first d).right.inside 0 some, x.cells_most))

module _ {n : ℕ} {cells : List ℕ} {deep : Bool} {images : ImagePair} {c : ℕ} (h : RowInside n cells deep images c) where
  pub last_inside : {plane : ImagePair} {lines : LinePair} → plane ≡ shifted images (c * (n * n)) → lines ≡ lines_of plane 1 n → LinesInside n cells lines
  last_inside e f = subst (LinesInside n cells) (sym (f ∙ ap (λ (z : ImagePair). lines_of z 1 n) e)) h.last

  pub first_inside : {across : ImagePair} {lines : LinePair} → deep ≡ true → across ≡ shifted images (c * n) → lines ≡ lines_of across (n * n) 1 → LinesInside n cells lines
  first_inside d e f = subst (LinesInside n cells) (sym (f ∙ ap (λ (z : ImagePair). lines_of z (n * n) 1) e)) (h.first d)

module _ {n : ℕ} {refused : List ℕ} {stop : Stop} {cells live : List ℕ} {count : ℕ} {deep : Bool} {images : ImagePair} {c : ℕ} where
  -- the plane of a row, which every function that joins the row joins
  plane_swept : {plane : ImagePair} {last middle : LinePair} {s t : QueueState} → plane ≡ shifted images (c * (n * n)) → last ≡ lines_of plane 1 n → middle ≡ lines_of plane n 1
      → Swept n refused stop (JoinsCross cells live count last middle) s t
      → SweptTo n refused stop (JoinsRow n cells live count deep images c) (JoinsCross cells live count (last_of n images c) (middle_of n images c)) s t
  plane_swept {s = s} {t} p e f a =
      let b = subst₂ (λ (y z : LinePair). Swept n refused stop (JoinsCross cells live count y z) s t) (e ∙ ap (λ (z : ImagePair). lines_of z 1 n) p) (f ∙ ap (λ (z : ImagePair). lines_of z n 1) p) a in
      record { sweeping = b.sweeping; grown = grown_first (λ g good w. (good.0.plane, good.1)) b.grown; done = b.done }

  pub row_flat : {plane : ImagePair} {last middle : LinePair} {s t : QueueState} → plane ≡ shifted images (c * (n * n)) → last ≡ lines_of plane 1 n → middle ≡ lines_of plane n 1
      → Swept n refused stop (JoinsCross cells live count last middle) s t → deep ≡ false → Swept n refused stop (JoinsRow n cells live count deep images c) s t
  row_flat p e f a d = swept_as (plane_swept p e f a) (λ o. record { plane = o; across = λ y. absurd (omega (arith, ap bit (sym d ∙ y))) })

  pub row_deep : {plane across : ImagePair} {last middle first : LinePair} {s t u : QueueState} → Contexts n cells live count → RowInside n cells deep images c
      → plane ≡ shifted images (c * (n * n)) → last ≡ lines_of plane 1 n → middle ≡ lines_of plane n 1 → Swept n refused stop (JoinsCross cells live count last middle) s t
      → across ≡ shifted images (c * n) → first ≡ lines_of across (n * n) 1 → Swept n refused stop (JoinsLine cells live count first) t u → deep ≡ true
      → Swept n refused stop (JoinsRow n cells live count deep images c) s u
  row_deep {t = t} {u} x h p e f a q k b d =
      let b' = subst (λ (z : LinePair). Swept n refused stop (JoinsLine cells live count z) t u) (k ∙ ap (λ (z : ImagePair). lines_of z (n * n) 1) q) b in
      swept_more (plane_swept p e f a) b' (λ g good w. good.across d) (λ w o j. record { plane = cross_kept x h.last h.middle w o; across = λ y. j })

-- ---- all rows

module _ {n : ℕ} {cells live : List ℕ} {count : ℕ} {deep : Bool} {images : ImagePair} {c : ℕ} (x : Contexts n cells live count) (h : RowInside n cells deep images c) where
  row_kept : {f f' : ℕ → ℕ} → Within n f f' → JoinsRow n cells live count deep images c f → JoinsRow n cells live count deep images c f'
  row_kept w o = record { plane = cross_kept x h.last h.middle w o.plane; across = λ d. line_kept x (h.first d) w (omega arith) (o.across d) }

  row_whole : {f : ℕ → ℕ} → ((z : ℕ) → z < n → f z ≡ 0) → JoinsRow n cells live count deep images c f
  row_whole e = record { plane = cross_whole x h.last h.middle e; across = λ d. line_whole x (h.first d) e }

module _ {n : ℕ} {refused : List ℕ} {stop : Stop} {cells live : List ℕ} {count : ℕ} {deep : Bool} {images : ImagePair} where
  pub rows_none : {k : ℕ} {s : QueueState} → Sweeping n stop s → SweptTo n refused stop (JoinsRows n cells live count deep images k) (JoinsRows n cells live count deep images 0) s s
  rows_none k = swept_none k (record { each = λ i l. absurd (omega arith) })

  pub rows_more : {i c all : ℕ} {s t u : QueueState} → Contexts n cells live count → RowsInside n cells live count deep images → all ≡ rows_of deep count
      → SweptTo n refused stop (JoinsRows n cells live count deep images (rows_of deep count)) (JoinsRows n cells live count deep images i) s t → i < all → c ≡ row_at deep live i
      → Swept n refused stop (JoinsRow n cells live count deep images c) t u
      → SweptTo n refused stop (JoinsRows n cells live count deep images (rows_of deep count)) (JoinsRows n cells live count deep images (i + 1)) s u
  rows_more {i} {t = t} {u} x h e a l q b =
      let l' : i < rows_of deep count = subst (λ (z : ℕ). i < z) e l in
      swept_more a (subst (λ (z : ℕ). Swept n refused stop (JoinsRow n cells live count deep images z) t u) q b) (λ g good w. good.each i l')
      (λ w o j. record {
        each = each_more (λ (k : ℕ) (f : ℕ → ℕ). JoinsRow n cells live count deep images (row_at deep live k) f) t.map u.map (λ k lk. row_kept x (h.rows k (omega arith)) w) o.each j;
      })

  pub rows_halted : {i : ℕ} {s t : QueueState} {r : Bool} → Contexts n cells live count → RowsInside n cells live count deep images
      → SweptTo n refused stop (JoinsRows n cells live count deep images (rows_of deep count)) (JoinsRows n cells live count deep images i) s t → Yes r (Halts stop t.size t.map) → r ≡ true
      → Swept n refused stop (JoinsRows n cells live count deep images (rows_of deep count)) s t
  rows_halted x h a e y = swept_halted a e y (λ z. record { each = λ i l. row_whole x (h.rows i l) z })

-- ---- the table, from what was passed over

module _ {n : ℕ} {refused : List ℕ} {stop : Stop} {cells live : List ℕ} {count : ℕ} {images : ImagePair} where
  swept_arity : {k r : ℕ} {s t : QueueState} → k ≡ r → Swept n refused stop (JoinsTable n cells live count r images) s t → Swept n refused stop (JoinsTable n cells live count k images) s t
  swept_arity {s = s} {t} e d = subst (λ (z : ℕ). Swept n refused stop (JoinsTable n cells live count z images) s t) (sym e) d

  pub unary_swept : {k : ℕ} {s t : QueueState} → k ≡ 1 → Swept n refused stop (λ g. g (byte cells (images.o + images.x)) ≡ g (byte cells (images.o + images.y))) s t
      → Swept n refused stop (JoinsTable n cells live count k images) s t
  unary_swept e d = swept_arity e (record { sweeping = d.sweeping; grown = grown_first (λ g good w. (good.0.joined, good.1)) d.grown; done = λ u. record { joined = d.done u } })

  pub rows_swept : {k : ℕ} {s t : QueueState} → k ≤ 3 → (k ≡ 1 → ⊥) → 2 ≤ k → Swept n refused stop (JoinsRows n cells live count (eqb k 3) images (rows_of (eqb k 3) count)) s t
      → Swept n refused stop (JoinsTable n cells live count k images) s t
  rows_swept {k} {s} {t} l u m d = elim (ℕ_discrete k 3) [
    | yes e ↦ let b = subst (λ (z : ℕ). Swept n refused stop (JoinsRows n cells live count (eqb z 3) images (rows_of (eqb z 3) count)) s t) e d in
        swept_arity e (record { sweeping = b.sweeping; grown = grown_first (λ g good w. (good.0.joined, good.1)) b.grown; done = λ u. record { joined = b.done u } })
    | no e ↦ let e' : k ≡ 2 = omega arith in
        let b = subst (λ (z : ℕ). Swept n refused stop (JoinsRows n cells live count (eqb z 3) images (rows_of (eqb z 3) count)) s t) e' d in
        swept_arity e' (record { sweeping = b.sweeping; grown = grown_first (λ g good w. (good.0.joined, good.1)) b.grown; done = λ u. record { joined = b.done u } })
  ]
