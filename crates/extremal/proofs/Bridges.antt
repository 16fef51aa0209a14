-- From what the inner functions promise, in kernels, to what the definitions give, in maps: the first n bytes of a slice that is canonical are a map; a
-- map with the defining property is the definition's; and so the slice afterwards is that map, written over what was lent.
use Prim.Native.Nat.{ℕ, zero, suc, ◌+◌, ◌-◌, ◌*◌, ◌≤◌, ◌<◌}
use mathlib.Core.List.Memᴰ.{append_cases}
use mathlib.Core.List.Memᴰ.{append_right}
use mathlib.Core.List.Memᴰ.{cases_cons}
use mathlib.Core.List.Memᴰ.{head as here}
use mathlib.Core.List.{List, [], ◌∷◌, ◌++◌, Memᴰ as Member}
use mathlib.Core.Logic.{inl, inr}
use mathlib.Core.Path.{◌≡◌, refl, sym, ap, subst, ◌∙◌}
use native.Mathlib.Omega.{arith}
use lib.Dec.{T}
use lib.ListN.{length, take}
use lib.Seq.{get_or-take, length-take-le}
use Rattle.equivalence.specs.Equivalence.{Map, byte, is_map, holds, blocks}
use Rattle.kernel.specs.InnerKernel.{Canonical, Within, Filled, names}
use Rattle.pairorder.specs.Order.{Pair, pairs}
use Rattle.equivalence.specs.Lent.{written}
use Rattle.equivalence.proofs.Bytes.{names_blocks, canonical_of}
use Rattle.pairorder.proofs.Earlier.{not_later_by}
use Rattle.kernel.proofs.Kernels.{names_same}
use Rattle.equivalence.proofs.Maps.{holds_of, of_holds, IsMap, of_is_map}
use Rattle.pairorder.proofs.Pairs.{member_pairs, of_pairs, Sorted, Lex, sorted_pairs}
use Rattle.equivalence.proofs.Tests.{both, left, right}
use Rattle.equivalence.proofs.Writing.{filled_written}
use Rattle.algebra.specs.Accepted.{Accepted}
use Rattle.algebra.specs.Algebra.{Algebra, algebra_of}
use Rattle.translation.specs.InnerTranslations.{Compatible, Closed, Refined}
use Rattle.algebra.proofs.Accepted.{WellFormed, accepted_well_formed}
use Rattle.algebra.proofs.Congruences.{IsCongruence}
use Rattle.translation.proofs.Translations.{congruence_compatible, compatible_congruence}
use Rattle.theory.specs.Extremal.{holds_all, generated, extended, contained, separated}
use Rattle.theory.proofs.Above.{extended_is, Below, generated_is}
use Rattle.theory.proofs.GreatestCongruence.{contained_is}
use Rattle.theory.proofs.Separation.{separated_is, lex_asym}
use Rattle.closure.specs.InnerStarts.{JoinsPairs, Extends}
use Rattle.bounding.specs.InnerSettled.{Before, Earliest}
use Rattle.refinement.proofs.Refinements.{canonical_same, compatible_same}
use Rattle.extremal.specs.InnerExtension.{MapExtended}

-- ---- the first n bytes of a slice

-- below n, the first n bytes are the slice's
pub front_byte : (n : ℕ) (l : List ℕ) (x : ℕ) → x < n → byte (take n l) x ≡ byte l x
front_byte n l x h = get_or-take n l x 0 h

pub front_map : (n : ℕ) (l : List ℕ) → n ≤ length l → Canonical n (byte l) → IsMap n (take n l)
front_map n l fits c =
    record {
      long = length-take-le n l fits;
      low = λ x h. rw (front_byte n l x h) (c.below x h);
      named = λ x h.
          let b : byte l x < n = omega (arith, c.below x h) in
          rw (front_byte n l x h) (front_byte n l (byte l x) b ∙ c.named x h);
    }

-- how many blocks they have
pub front_blocks : (n : ℕ) (l : List ℕ) → names n (byte l) ≡ blocks n (take n l)
front_blocks n l = names_same n (byte l) (byte (take n l)) (λ x h. sym (front_byte n l x h)) ∙ names_blocks n (take n l)

-- a slice whose bytes past n are as they were is its first n bytes, written over what was lent
pub front_written : (n : ℕ) (lent after : List ℕ) → n ≤ length lent → length after ≡ length lent → ((x : ℕ) → n ≤ x → byte after x ≡ byte lent x) → after ≡ written (take n after) lent
front_written n lent after fits long rest =
    filled_written n (take n after) lent after (length-take-le n after (omega arith)) fits long
    (record { first = λ x h. sym (front_byte n after x h); rest = rest })

-- ---- the pairs of a flat list

joins_rest : (x y : ℕ) (ps : List ℕ) (g : ℕ → ℕ) → JoinsPairs (x ∷ y ∷ ps) g → JoinsPairs ps g
joins_rest x y ps g h j l =
    let e : 2 * (j + 1) ≡ suc (suc (2 * j)) = omega arith in
    let f : 2 * (j + 1) + 1 ≡ suc (suc (2 * j + 1)) = omega arith in
    ap (λ (i : ℕ). g (byte (x ∷ y ∷ ps) i)) (sym e) ∙ h (j + 1) (omega arith) ∙ ap (λ (i : ℕ). g (byte (x ∷ y ∷ ps) i)) f

pub joins_holds_all : (ps : List ℕ) (m : Map) → JoinsPairs ps (byte m) → T (holds_all ps m)
unfolding holds_all
joins_holds_all [] m h = tt
joins_holds_all (x ∷ []) m h = tt
joins_holds_all (x ∷ y ∷ ps) m h = both (holds m x y) (holds_all ps m) (holds_of m x y (h 0 (omega arith))) (joins_holds_all ps m (joins_rest x y ps (byte m) h))

pub holds_all_joins : (ps : List ℕ) (m : Map) → T (holds_all ps m) → JoinsPairs ps (byte m)
unfolding holds_all
holds_all_joins [] m t j l = absurd (omega arith)
holds_all_joins (x ∷ []) m t j l = absurd (omega arith)
holds_all_joins (x ∷ y ∷ ps) m t zero l = of_holds m x y (left (holds m x y) (holds_all ps m) t)
holds_all_joins (x ∷ y ∷ ps) m t (suc j) l =
    let e : 2 * suc j ≡ suc (suc (2 * j)) = omega arith in
    let f : 2 * suc j + 1 ≡ suc (suc (2 * j + 1)) = omega arith in
    ap (λ (i : ℕ). byte m (byte (x ∷ y ∷ ps) i)) e ∙ holds_all_joins ps m (right (holds m x y) (holds_all ps m) t) j (omega arith) ∙ ap (λ (i : ℕ). byte m (byte (x ∷ y ∷ ps) i)) (sym f)

-- ---- pairs in their order

-- a pair before p stands among those listed before p
before_done : (n : ℕ) (done rest : List Pair) (p q : Pair) → pairs n ≡ done ++ (p ∷ rest) → Member q (pairs n) → Lex q p → Member q done
before_done n done rest p q e m b =
    elim (append_cases done (subst (λ (l : List Pair). Member q l) e m)) [
      | inl i ↦ i
      | inr i ↦ elim (cases_cons i) [
        | inl z ↦ absurd (never p (subst (λ (r : Pair). Lex r p) z b))
        | inr o ↦ absurd (lex_asym p q (after done (subst (λ (l : List Pair). Sorted Lex l) e (sorted_pairs n)) o) b)
      ]
    ]
  where
    never : (p : Pair) → Lex p p → ⊥
    never p b = elim b [ inl o ↦ omega arith | inr o ↦ omega (arith, o.1) ]

    after : (done : List Pair) → Sorted Lex (done ++ (p ∷ rest)) → Member q rest → Lex p q
    after [] s o = s.0 q o
    after (d ∷ done) s o = after done s.1 o

-- the search's result is what the definition gives
pub earliest_separated : (a : Algebra) → WellFormed a → (v w : ℕ) (m : Map) → IsMap a.size m → Earliest a v w (byte m) → separated a v w ≡ m
earliest_separated a c v w m p e =
    separated_is a v w m (record {
      cong = compatible_congruence a c m p e.compatible;
      apart = e.apart;
      earliest = λ d q n. not_later_by m d a.size (λ done r rest s agree h.
          let i = of_pairs a.size r (subst (λ (l : List Pair). Member r l) (sym s) (append_right done (here refl))) in
          let among : (x y : ℕ) → x < y → y < a.size → Before x y r.0 r.1 → Member (x, y) done =
          λ x y l k b. before_done a.size done rest r (x, y) s (member_pairs a.size x y l k) b in
          e.first (byte d) (congruence_compatible a c d q) n r.0 r.1 i.0 i.1
          (λ x y l k b z. (agree (x, y) (among x y l k b)).0 z)
          (λ x y l k b z. (agree (x, y) (among x y l k b)).1 z)
          h);
    })

-- ---- what was found is what the definition gives

module _ (a : Algebra) (c : WellFormed a) (l : List ℕ) (fits : a.size ≤ length l) where
  front_same : (x : ℕ) → x < a.size → byte l x ≡ byte (take a.size l) x
  front_same x h = sym (front_byte a.size l x h)

  front_congruence : Canonical a.size (byte l) → Compatible a (byte l) → IsCongruence a (take a.size l)
  front_congruence k h =
      compatible_congruence a c (take a.size l) (front_map a.size l fits k) (compatible_same a c (byte l) (byte (take a.size l)) (front_byte a.size l) h)

  front_within : (k : ℕ → ℕ) → Within a.size (byte l) k → Within a.size (byte (take a.size l)) k
  front_within k h x y lx ly e = h x y lx ly (front_same x lx ∙ e ∙ sym (front_same y ly))

  -- the least congruence that holds the pairs of a list
  pub closed_generated : (ps : List ℕ) → Below a.size ps → Closed a (JoinsPairs ps) (byte l) → generated a ps ≡ take a.size l
  closed_generated ps b h =
      generated_is a c ps b (take a.size l)
      (record {
        cong = front_congruence h.canonical h.compatible;
        all = joins_holds_all ps (take a.size l) (λ j k.
            sym (front_same (byte ps (2 * j)) (b (2 * j) (omega arith))) ∙ h.good j k ∙ front_same (byte ps (2 * j + 1)) (b (2 * j + 1) k));
        least = λ d p t. front_within (byte d) (h.least (byte d) (congruence_compatible a c d p) (holds_all_joins ps d t));
      })

  -- the least congruence above the first n bytes of a slice that holds one more pair
  pub closed_extended : (m : List ℕ) (x y : ℕ) → x < a.size → y < a.size → Closed a (Extends a.size (byte m) x y) (byte l) → extended a (take a.size m) x y ≡ take a.size l
  closed_extended m x y lx ly h =
      extended_is a c (take a.size m) x y lx ly (take a.size l)
      (record {
        cong = front_congruence h.canonical h.compatible;
        larger = λ p q lp lq e.
            sym (front_same p lp) ∙ h.good.0 p q lp lq (sym (front_byte a.size m p lp) ∙ e ∙ front_byte a.size m q lq) ∙ front_same q lq;
        new = sym (front_same x lx) ∙ h.good.1 ∙ front_same y ly;
        least = λ d p i e. front_within (byte d) (h.least (byte d) (congruence_compatible a c d p)
            (λ q r lq lr z. i q r lq lr (front_byte a.size m q lq ∙ z ∙ sym (front_byte a.size m r lr)), e));
      })

  -- the greatest congruence inside a map, of which f is a copy
  pub refined_contained : (e : Map) → IsMap a.size e → (f : ℕ → ℕ) → ((x : ℕ) → x < a.size → f x ≡ byte e x) → Refined a f (byte l) → contained a e ≡ take a.size l
  refined_contained e p f copied h =
      contained_is a c e p (take a.size l)
      (record {
        cong = front_congruence h.canonical h.compatible;
        inside = front_within (byte e) (λ x y lx ly t. sym (copied x lx) ∙ h.within x y lx ly t ∙ copied y ly);
        greatest = λ d q i x y lx ly t.
            sym (front_same x lx)
            ∙ h.greatest (byte d) (congruence_compatible a c d q) (λ x y lx ly t. copied x lx ∙ i x y lx ly t ∙ sym (copied y ly)) x y lx ly t
            ∙ front_same y ly;
      })

  -- the earliest congruence that holds two elements apart
  pub earliest_front : (v w : ℕ) → v < a.size → w < a.size → Earliest a v w (byte l) → separated a v w ≡ take a.size l
  earliest_front v w lv lw h =
      earliest_separated a c v w (take a.size l) (front_map a.size l fits h.canonical)
      (record {
        canonical = canonical_same a.size (byte l) (byte (take a.size l)) (front_byte a.size l) h.canonical;
        compatible = compatible_same a c (byte l) (byte (take a.size l)) (front_byte a.size l) h.compatible;
        apart = λ e. h.apart (front_same v lv ∙ e ∙ sym (front_same w lw));
        first = λ g cg apart x y lxy ly down up e.
            let lx : x < a.size = omega arith in
            sym (front_same x lx)
            ∙ h.first g cg apart x y lxy ly
            (λ p q lpq lq b z. down p q lpq lq b (sym (front_same p (omega arith)) ∙ z ∙ front_same q lq))
            (λ p q lpq lq b z. front_same p (omega arith) ∙ up p q lpq lq b z ∙ sym (front_same q lq)) e
            ∙ front_same y ly;
      })

-- ---- the slice afterwards, and the blocks lost; for an algebra as it is handed in

-- the bytes past n are as they were
abbrev KeptPast : ℕ → List ℕ → List ℕ → Type 0
KeptPast n lent after = (x : ℕ) → n ≤ x → byte after x ≡ byte lent x

module _ (n : ℕ) (arities cells : List ℕ) (accepted : Accepted (algebra_of n arities cells)) where
  abbrev a : Algebra
  a = algebra_of n arities cells

  well : WellFormed a
  well = accepted_well_formed a accepted

  module _ (lent after : List ℕ) (fits : n ≤ length lent) (long : length after ≡ length lent) where
    -- a map that the first n bytes are
    map_written : (m : Map) → m ≡ take n after → KeptPast n lent after → after ≡ written m lent
    map_written m e rest = front_written n lent after fits long rest ∙ ap (λ (k : Map). written k lent) (sym e)

    module _ (ps : List ℕ) (b : Below n ps) (h : Closed a (JoinsPairs ps) (byte after)) where
      generated_front : generated a ps ≡ take n after
      generated_front = closed_generated a well after (omega arith) ps b h

      pub generated_written : KeptPast n lent after → after ≡ written (generated a ps) lent
      generated_written = map_written (generated a ps) generated_front

      -- merges and blocks left make n
      pub generated_merges : {merges : ℕ} → merges + names n (byte after) ≡ n → merges ≡ n - blocks n (generated a ps)
      generated_merges e = rw generated_front (omega (arith, front_blocks n after))

    module _ (x y : ℕ) (lx : x < n) (ly : y < n) (h : Closed a (Extends n (byte lent) x y) (byte after)) where
      extended_front : extended a (take n lent) x y ≡ take n after
      extended_front = closed_extended a well after (omega arith) lent x y lx ly h

      pub map_extended : (lost : ℕ) → lost + names n (byte after) ≡ names n (byte lent) → KeptPast n lent after → MapExtended a x y lent after lost
      map_extended lost e rest =
          record {
            bytes = map_written (extended a (take n lent) x y) extended_front rest;
            cost = rw extended_front (omega (arith, front_blocks n lent, front_blocks n after));
          }

    pub contained_written : (e : Map) → T (is_map n e) → {copied : ℕ → ℕ} → Filled n (byte e) (byte lent) copied → Refined a copied (byte after)
        → ((x : ℕ) → n ≤ x → byte after x ≡ copied x) → after ≡ written (contained a e) lent
    contained_written e t {copied} k h rest =
        map_written (contained a e) (refined_contained a well after (omega arith) e (of_is_map n e t) copied k.first h) (λ x l. rest x l ∙ k.rest x l)

    pub separated_written : (v w : ℕ) → v < n → w < n → Earliest a v w (byte after) → KeptPast n lent after → after ≡ written (separated a v w) lent
    separated_written v w lv lw h = map_written (separated a v w) (earliest_front a well after (omega arith) v w lv lw h)

-- a copied map is canonical
pub copied_canonical : (n : ℕ) (e : Map) {old f : ℕ → ℕ} → T (is_map n e) → Filled n (byte e) old f → Canonical n f
copied_canonical n e {old} {f} t k = canonical_same n (byte e) f k.first (canonical_of n e (of_is_map n e t))

pub map_long : (n : ℕ) (e : Map) → T (is_map n e) → n ≤ length e
map_long n e t = omega (arith, (of_is_map n e t).long)
