-- The cells of a table against the results of its operation: a pass over the lines and planes of a table joins all images whose other
-- arguments are listed. And images: what joins them keeps joining them.
use Prim.Native.Nat.{ℕ, zero, suc, ◌+◌, ◌*◌, ◌≤◌, ◌<◌}
use mathlib.Core.Bool.{Bool, true}
use mathlib.Core.List.{List, [], ◌∷◌, ◌++◌}
use mathlib.Core.Path.{◌≡◌, refl, sym, ap, subst, ◌∙◌, subst₂}
use native.Mathlib.Omega.{arith}
use lib.ListN.{length, get_or}
use Rattle.equivalence.specs.Equivalence.{byte}
use Rattle.kernel.specs.InnerKernel.{Within, Listed, bit}
use Rattle.algebra.specs.Accepted.{Accepted}
use Rattle.algebra.specs.Algebra.{Algebra, algebra_of, place}
use Rattle.translation.specs.InnerTranslations.{AllBelow, table_start, result, Compatible}
use Rattle.algebra.proofs.Accepted.{WellFormed, accepted_well_formed}
use Rattle.translation.proofs.Places.{place_one, place_two, place_three}
use Rattle.translation.proofs.Translations.{result_below}
use Rattle.algebra.proofs.Tables.{start_room}
use Rattle.sweep.specs.declared.Stop.{Stop}
use Rattle.sweep.specs.declared.ImagePair.{ImagePair}
use Rattle.sweep.specs.InnerContexts.{All, ImagesIn, OperationsIn, JoinsCells, JoinsTable, Contexts, TableInside}
use Rattle.sweep.specs.InnerQueue.{QueueState}
use Rattle.sweep.specs.InnerSweeps.{Yes, Halts, Sweeping, SweptTo, Swept}
use Rattle.sweep.proofs.Sweeps.{each_more, swept_none, swept_more, swept_halted}

-- ---- tables and images

-- x and y in the table of operation j
abbrev images_at : Algebra → ℕ → ℕ → ℕ → ImagePair
images_at a j x y = record { o = table_start a j; x = x; y = y }

module _ (a : Algebra) (j : ℕ) (live : List ℕ) (count x y : ℕ) (g : ℕ → ℕ) where
  cell_at : (xs : List ℕ) (k : ℕ) → table_start a j + place a.size xs ≡ k → g (result a j xs) ≡ g (byte a.cells k)
  unfolding result
  cell_at xs k e = ap (λ (i : ℕ). g (byte a.cells i)) e

  -- a cell of either table, where x or y stands last, in the middle or first
  last_place : (b d z : ℕ) → g (result a j (b ∷ d ∷ z ∷ [])) ≡ g (byte a.cells (table_start a j + b * (a.size * a.size) + z * 1 + d * a.size))
  last_place b d z = cell_at (b ∷ d ∷ z ∷ []) (table_start a j + b * (a.size * a.size) + z * 1 + d * a.size) (omega (arith, place_three a.size b d z))

  middle_place : (b d z : ℕ) → g (result a j (b ∷ z ∷ d ∷ [])) ≡ g (byte a.cells (table_start a j + b * (a.size * a.size) + z * a.size + d * 1))
  middle_place b d z = cell_at (b ∷ z ∷ d ∷ []) (table_start a j + b * (a.size * a.size) + z * a.size + d * 1) (omega (arith, place_three a.size b z d))

  first_place : (b d z : ℕ) → g (result a j (z ∷ b ∷ d ∷ [])) ≡ g (byte a.cells (table_start a j + b * a.size + z * (a.size * a.size) + d * 1))
  first_place b d z = cell_at (z ∷ b ∷ d ∷ []) (table_start a j + b * a.size + z * (a.size * a.size) + d * 1) (omega (arith, place_three a.size z b d))

  flat_last : (d z : ℕ) → g (result a j (d ∷ z ∷ [])) ≡ g (byte a.cells (table_start a j + 0 * (a.size * a.size) + z * 1 + d * a.size))
  flat_last d z = cell_at (d ∷ z ∷ []) (table_start a j + 0 * (a.size * a.size) + z * 1 + d * a.size) (omega (arith, place_two a.size d z))

  flat_first : (d z : ℕ) → g (result a j (z ∷ d ∷ [])) ≡ g (byte a.cells (table_start a j + 0 * (a.size * a.size) + z * a.size + d * 1))
  flat_first d z = cell_at (z ∷ d ∷ []) (table_start a j + 0 * (a.size * a.size) + z * a.size + d * 1) (omega (arith, place_two a.size z d))

  -- one other argument, before or behind
  last_line : JoinsCells a.size a.cells live count 2 (images_at a j x y) g → (c : ℕ) → Listed live count c → g (result a j (c ∷ x ∷ [])) ≡ g (result a j (c ∷ y ∷ []))
  last_line h c m =
      subst (λ (c : ℕ). g (result a j (c ∷ x ∷ [])) ≡ g (result a j (c ∷ y ∷ []))) m.1.1
      (flat_last (byte live m.0) x ∙ ((h.each 0 (omega arith)).plane.last_line.each m.0 m.1.0).joined ∙ sym (flat_last (byte live m.0) y))

  first_line : JoinsCells a.size a.cells live count 2 (images_at a j x y) g → (c : ℕ) → Listed live count c → g (result a j (x ∷ c ∷ [])) ≡ g (result a j (y ∷ c ∷ []))
  first_line h c m =
      subst (λ (c : ℕ). g (result a j (x ∷ c ∷ [])) ≡ g (result a j (y ∷ c ∷ []))) m.1.1
      (flat_first (byte live m.0) x ∙ ((h.each 0 (omega arith)).plane.first_line.each m.0 m.1.0).joined ∙ sym (flat_first (byte live m.0) y))

  -- two other arguments, before, around or behind
  module _ (h : JoinsCells a.size a.cells live count 3 (images_at a j x y) g) (c d : ℕ) (m : Listed live count c) (k : Listed live count d) where
    third_plane : g (result a j (c ∷ d ∷ x ∷ [])) ≡ g (result a j (c ∷ d ∷ y ∷ []))
    third_plane =
        subst₂ (λ (c d : ℕ). g (result a j (c ∷ d ∷ x ∷ [])) ≡ g (result a j (c ∷ d ∷ y ∷ []))) m.1.1 k.1.1
        (last_place (byte live m.0) (byte live k.0) x ∙ ((h.each m.0 m.1.0).plane.last_line.each k.0 k.1.0).joined
        ∙ sym (last_place (byte live m.0) (byte live k.0) y))

    second_plane : g (result a j (c ∷ x ∷ d ∷ [])) ≡ g (result a j (c ∷ y ∷ d ∷ []))
    second_plane =
        subst₂ (λ (c d : ℕ). g (result a j (c ∷ x ∷ d ∷ [])) ≡ g (result a j (c ∷ y ∷ d ∷ []))) m.1.1 k.1.1
        (middle_place (byte live m.0) (byte live k.0) x ∙ ((h.each m.0 m.1.0).plane.first_line.each k.0 k.1.0).joined
        ∙ sym (middle_place (byte live m.0) (byte live k.0) y))

    first_plane : g (result a j (x ∷ c ∷ d ∷ [])) ≡ g (result a j (y ∷ c ∷ d ∷ []))
    first_plane =
        subst₂ (λ (c d : ℕ). g (result a j (x ∷ c ∷ d ∷ [])) ≡ g (result a j (y ∷ c ∷ d ∷ []))) m.1.1 k.1.1
        (first_place (byte live m.0) (byte live k.0) x ∙ (((h.each m.0 m.1.0).across refl).each k.0 k.1.0).joined
        ∙ sym (first_place (byte live m.0) (byte live k.0) y))

  -- from a table to its operation's images, by arity
  around : (s : ℕ) → s ≤ 3 → JoinsCells a.size a.cells live count s (images_at a j x y) g → (pre post : List ℕ) → length pre + 1 + length post ≡ s
      → All (Listed live count) pre → All (Listed live count) post → g (result a j (pre ++ (x ∷ post))) ≡ g (result a j (pre ++ (y ∷ post)))
  around zero l h pre post e p q = absurd (omega arith)
  around (suc zero) l h [] [] e p q =
      cell_at (x ∷ []) (table_start a j + x) (omega (arith, place_one a.size x)) ∙ h ∙ sym (cell_at (y ∷ []) (table_start a j + y) (omega (arith, place_one a.size y)))
  around (suc zero) l h [] (c ∷ post) e p q = absurd (omega arith)
  around (suc zero) l h (c ∷ pre) post e p q = absurd (omega arith)
  around (suc (suc zero)) l h [] [] e p q = absurd (omega arith)
  around (suc (suc zero)) l h [] (c ∷ []) e p q = first_line h c q.0
  around (suc (suc zero)) l h [] (c ∷ d ∷ post) e p q = absurd (omega arith)
  around (suc (suc zero)) l h (c ∷ []) [] e p q = last_line h c p.0
  around (suc (suc zero)) l h (c ∷ []) (d ∷ post) e p q = absurd (omega arith)
  around (suc (suc zero)) l h (c ∷ d ∷ pre) post e p q = absurd (omega arith)
  around (suc (suc (suc zero))) l h [] [] e p q = absurd (omega arith)
  around (suc (suc (suc zero))) l h [] (c ∷ []) e p q = absurd (omega arith)
  around (suc (suc (suc zero))) l h [] (c ∷ d ∷ []) e p q = first_plane h c d q.0 q.1.0
  around (suc (suc (suc zero))) l h [] (c ∷ d ∷ b ∷ post) e p q = absurd (omega arith)
  around (suc (suc (suc zero))) l h (c ∷ []) [] e p q = absurd (omega arith)
  around (suc (suc (suc zero))) l h (c ∷ []) (d ∷ []) e p q = second_plane h c d p.0 q.0
  around (suc (suc (suc zero))) l h (c ∷ []) (d ∷ b ∷ post) e p q = absurd (omega arith)
  around (suc (suc (suc zero))) l h (c ∷ d ∷ []) [] e p q = third_plane h c d p.0 p.1.0
  around (suc (suc (suc zero))) l h (c ∷ d ∷ []) (b ∷ post) e p q = absurd (omega arith)
  around (suc (suc (suc zero))) l h (c ∷ d ∷ b ∷ pre) post e p q = absurd (omega arith)
  around (suc (suc (suc (suc s)))) l h pre post e p q = absurd (omega arith)

  pub table_images : get_or a.arities j 0 ≤ 3 → JoinsTable a.size a.cells live count (get_or a.arities j 0) (images_at a j x y) g → ImagesIn a j (Listed live count) x y g
  table_images l h pre post e p q = around (get_or a.arities j 0) l h.joined pre post e p q

  -- and back
  listed : (i : ℕ) → i < count → Listed live count (byte live i)
  listed i l = (i, (l, refl))

  table_of : (s : ℕ) → s ≤ 3 → s ≡ get_or a.arities j 0 → ImagesIn a j (Listed live count) x y g → JoinsCells a.size a.cells live count s (images_at a j x y) g
  table_of zero l e h = tt
  table_of (suc zero) l e h =
      sym (cell_at (x ∷ []) (table_start a j + x) (omega (arith, place_one a.size x))) ∙ h [] [] (omega arith) tt tt
      ∙ cell_at (y ∷ []) (table_start a j + y) (omega (arith, place_one a.size y))
  table_of (suc (suc zero)) l e h = record {
    each = λ r lr. record {
      plane = record {
        last_line = record {
          each = λ i li. let b = byte live i in
              record { joined = sym (flat_last b x) ∙ h (b ∷ []) [] (omega arith) (listed i li, tt) tt ∙ flat_last b y };
        };
        first_line = record {
          each = λ i li. let b = byte live i in
              record { joined = sym (flat_first b x) ∙ h [] (b ∷ []) (omega arith) tt (listed i li, tt) ∙ flat_first b y };
        };
      };
      across = λ f. absurd (omega (arith, ap bit f));
    };
  }
  table_of (suc (suc (suc zero))) l e h = record {
    each = λ r lr. let b = byte live r in
        record {
          plane = record {
            last_line = record {
              each = λ i li. let d = byte live i in
                  record { joined = sym (last_place b d x) ∙ h (b ∷ d ∷ []) [] (omega arith) (listed r lr, (listed i li, tt)) tt ∙ last_place b d y };
            };
            first_line = record {
              each = λ i li. let d = byte live i in
                  record { joined = sym (middle_place b d x) ∙ h (b ∷ []) (d ∷ []) (omega arith) (listed r lr, tt) (listed i li, tt) ∙ middle_place b d y };
            };
          };
          across = λ f. record {
            each = λ i li. let d = byte live i in
                record { joined = sym (first_place b d x) ∙ h [] (b ∷ d ∷ []) (omega arith) tt (listed r lr, (listed i li, tt)) ∙ first_place b d y };
          };
        };
  }
  table_of (suc (suc (suc (suc s)))) l e h = absurd (omega arith)

  pub images_table : get_or a.arities j 0 ≤ 3 → ImagesIn a j (Listed live count) x y g → JoinsTable a.size a.cells live count (get_or a.arities j 0) (images_at a j x y) g
  images_table l h = record { joined = table_of (get_or a.arities j 0) l refl h }

-- ---- results

pub all_map : {L M : ℕ → Type 0} → ((c : ℕ) → L c → M c) → (xs : List ℕ) → All L xs → All M xs
all_map h [] p = tt
all_map h (x ∷ xs) p = (h x p.0, all_map h xs p.1)

pub all_below : (n : ℕ) (xs : List ℕ) → All (λ x. x < n) xs → AllBelow n xs
all_below n [] p = tt
all_below n (x ∷ xs) p = (p.0, all_below n xs p.1)

pub below_all : (n : ℕ) (xs : List ℕ) → AllBelow n xs → All (λ x. x < n) xs
below_all n [] p = tt
below_all n (x ∷ xs) p = (p.0, below_all n xs p.1)

pub all_append : (L : ℕ → Type 0) (xs ys : List ℕ) → All L xs → All L ys → All L (xs ++ ys)
all_append L [] ys p q = q
all_append L (x ∷ xs) ys p q = (p.0, all_append L xs ys p.1 q)

module _ (a : Algebra) (ok : WellFormed a) (j : ℕ) (L : ℕ → Type 0) (x y : ℕ) where
  -- what joins the images keeps joining them
  pub images_kept : {f f' : ℕ → ℕ} → Within a.size f f' → ImagesIn a j L x y f → ImagesIn a j L x y f'
  images_kept w h pre post e p q =
      w (result a j (pre ++ (x ∷ post))) (result a j (pre ++ (y ∷ post))) (result_below a ok j (pre ++ (x ∷ post))) (result_below a ok j (pre ++ (y ∷ post)))
      (h pre post e p q)

  pub images_whole : {f : ℕ → ℕ} → ((c : ℕ) → c < a.size → f c ≡ 0) → ImagesIn a j L x y f
  images_whole z pre post e p q =
      z (result a j (pre ++ (x ∷ post))) (result_below a ok j (pre ++ (x ∷ post)))
      ∙ sym (z (result a j (pre ++ (y ∷ post))) (result_below a ok j (pre ++ (y ∷ post))))

-- with one block left everything is compatible
pub compatible_whole : (a : Algebra) → WellFormed a → (f : ℕ → ℕ) → ((c : ℕ) → c < a.size → f c ≡ 0) → Compatible a f
compatible_whole a ok f z x y lx ly e j lj pre post s p q =
    images_whole a ok j (λ c. c < a.size) x y z pre post s (below_all a.size pre p) (below_all a.size post q)

-- what is compatible joins the images of two elements that it joins
pub compatible_images : (a : Algebra) {L : ℕ → Type 0} → ((c : ℕ) → L c → c < a.size) → (g : ℕ → ℕ) → Compatible a g → (x y : ℕ) → x < a.size → y < a.size → g x ≡ g y
    → OperationsIn a (length a.arities) L x y g
compatible_images a small g h x y lx ly e = record {
  each = λ j lj pre post s p q. h x y lx ly e j lj pre post s (all_below a.size pre (all_map small pre p)) (all_below a.size post (all_map small post q));
}

-- ---- the pass over all operations

pub listed_below : {n : ℕ} {cells live : List ℕ} {count : ℕ} → Contexts n cells live count → (c : ℕ) → Listed live count c → c < n
listed_below {n} k c m = subst (λ (z : ℕ). z < n) m.1.1 (k.live_below m.0 m.1.0)

-- operation j at its table, wherever the pass has it at o
pub operation_inside : {n : ℕ} (arities : List ℕ) {cells : List ℕ} {j x y o : ℕ} → Accepted (algebra_of n arities cells) → j < length arities → o ≡ table_start (algebra_of n arities cells) j → x < n
    → y < n → TableInside n cells (get_or arities j 0) (record { o = o; x = x; y = y })
operation_inside {n} arities {cells} {j} h l e lx ly =
    let ok = accepted_well_formed (algebra_of n arities cells) h in
    record { left = lx; right = ly; room = omega (arith, ok.filled, start_room n arities j l); most = omega (arith, ok.filled, ok.room) }

-- x and y at the first k operations
abbrev Images : ℕ → List ℕ → List ℕ → List ℕ → ℕ → ℕ → ℕ → ℕ → (ℕ → ℕ) → Type 0
Images n arities cells live count x y k = OperationsIn (algebra_of n arities cells) k (Listed live count) x y

module _ {n : ℕ} {refused : List ℕ} {stop : Stop} (arities : List ℕ) {cells live : List ℕ} {count : ℕ} (contexts : Contexts n cells live count) {x y : ℕ} where
  pub operations_none : {s : QueueState} → Sweeping n stop s → SweptTo n refused stop (Images n arities cells live count x y (length arities)) (Images n arities cells live count x y 0) s s
  operations_none k = swept_none k (record { each = λ j l. absurd (omega arith) })

  pub operations_more : {j o : ℕ} {s t u : QueueState} → Accepted (algebra_of n arities cells) → j < length arities → o ≡ table_start (algebra_of n arities cells) j
      → SweptTo n refused stop (Images n arities cells live count x y (length arities)) (Images n arities cells live count x y j) s t
      → Swept n refused stop (JoinsTable n cells live count (get_or arities j 0) (record { o = o; x = x; y = y })) t u
      → SweptTo n refused stop (Images n arities cells live count x y (length arities)) (Images n arities cells live count x y (j + 1)) s u
  operations_more {j} {o} {t = t} {u} h l e a b =
      let algebra = algebra_of n arities cells in
      let ok : WellFormed algebra = accepted_well_formed algebra h in
      swept_more a b
      (λ g good w. subst (λ (z : ℕ). JoinsTable n cells live count (get_or arities j 0) (record { o = z; x = x; y = y }) g) (sym e) (images_table algebra j live count x y g (ok.arity j l) (good.each j l)))
      (λ w o d. record {
        each = each_more (λ (k : ℕ) (g : ℕ → ℕ). ImagesIn algebra k (Listed live count) x y g) t.map u.map (λ k lk. images_kept algebra ok k (Listed live count) x y w) o.each
            (table_images algebra j live count x y u.map (ok.arity j l) (subst (λ (z : ℕ). JoinsTable n cells live count (get_or arities j 0) (record { o = z; x = x; y = y }) u.map) e d));
      })

  pub operations_halted : {j : ℕ} {s t : QueueState} {r : Bool} → Accepted (algebra_of n arities cells)
      → SweptTo n refused stop (Images n arities cells live count x y (length arities)) (Images n arities cells live count x y j) s t → Yes r (Halts stop t.size t.map) → r ≡ true
      → Swept n refused stop (Images n arities cells live count x y (length arities)) s t
  operations_halted h a e says = swept_halted a e says (λ z. record { each = λ j l. images_whole (algebra_of n arities cells) (accepted_well_formed (algebra_of n arities cells) h) j (Listed live count) x y z })
