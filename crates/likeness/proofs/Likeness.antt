-- The test whether a map is a congruence: a map is compatible just where it joins each result with that of the names of the arguments (`Named`), and
-- that is what the walk over the parts of the tables looks at (`TableAlike`).
use Prim.Native.Nat.{ℕ, zero, suc, ◌+◌, ◌*◌, ◌-◌, ◌^◌, ◌/◌, ◌%◌, ◌≤◌, ◌<◌}
use mathlib.Core.Bool.{Bool, true, false}
use mathlib.Core.List.{List, [], ◌∷◌, ◌++◌, map, map-append}
use mathlib.Core.Path.{◌≡◌, refl, sym, ap, subst, ◌∙◌}
use native.Mathlib.Decide.{ℕ_discrete, dec_lt}
use native.Mathlib.Nat.{suc-mul, mul_comm, mul-le-mul_right, pow-zero, pow-succ', div-add-mod', mod-lt}
use native.Mathlib.Omega.{arith}
use borrow.Author.Count.{below_more}
use lib.Dec.{T}
use lib.ListN.{length, get_or, take, replicate, length-append, length-map, length-replicate}
use lib.Seq.{append_snoc, get_or-take, length-take-le}
use Rattle.equivalence.specs.Equivalence.{byte, is_map}
use Rattle.equivalence.proofs.Maps.{of_is_map}
use Rattle.kernel.specs.InnerKernel.{Canonical, Filled}
use Rattle.kernel.specs.InnerLargest.{Largest}
use Rattle.algebra.specs.Accepted.{Accepted}
use Rattle.algebra.specs.Algebra.{Algebra, algebra_of, place}
use Rattle.algebra.specs.Congruence.{is_congruence}
use Rattle.algebra.proofs.Accepted.{WellFormed, accepted_well_formed}
use Rattle.algebra.proofs.Congruences.{congruence_is, congruence_of}
use Rattle.algebra.proofs.Tables.{start_first, start_next}
use Rattle.translation.specs.InnerTranslations.{AllBelow, table_start, result, Compatible}
use Rattle.translation.proofs.Translations.{congruence_compatible, compatible_congruence, identity_compatible, result_below}
use Rattle.refinement.specs.InnerSplitting.{Elements, Sifted}
use Rattle.refinement.proofs.Splits.{never}
use Rattle.refinement.proofs.Compatibility.{result_cell, accepted_lent, TableThere, table_there}
use Rattle.likeness.specs.InnerAlike.{Says, Others, WalkLent, StretchAlike, PartsAlike, TableAlike, NamesAlike}

-- ---- answers

pub says_true : {P : Type 0} → P → Says true P
says_true p = record { yes = λ e. p; no = λ q. refl }

pub says_false : {P : Type 0} → (P → ⊥) → Says false P
says_false h = record { yes = λ e. never e; no = λ p. absurd (h p) }

-- ---- names in the place of arguments

append_below : (n : ℕ) (xs ys : List ℕ) → AllBelow n xs → AllBelow n ys → AllBelow n (xs ++ ys)
append_below n [] ys h k = k
append_below n (x ∷ xs) ys h k = (h.0, append_below n xs ys h.1 k)

-- f joins the results of operation j with those of the names of its arguments
abbrev Named : Algebra → (ℕ → ℕ) → ℕ → Type 0
Named a f j = (xs : List ℕ) → length xs ≡ get_or a.arities j 0 → AllBelow a.size xs → f (result a j xs) ≡ f (result a j (map f xs))

module _ (a : Algebra) (f : ℕ → ℕ) where
  named_compatible : ((j : ℕ) → j < length a.arities → Named a f j) → Compatible a f
  named_compatible h x y lx ly p j l pre post e b d = at x lx ∙ ap (λ (z : ℕ). f (result a j (map f pre ++ (z ∷ map f post)))) p ∙ sym (at y ly)
    where
      at : (z : ℕ) → z < a.size → f (result a j (pre ++ (z ∷ post))) ≡ f (result a j (map f pre ++ (f z ∷ map f post)))
      at z lz =
          rw (map-append f pre (z ∷ post)) at
          (h j l (pre ++ (z ∷ post)) (length-append pre (z ∷ post) ∙ omega arith) (append_below a.size pre (z ∷ post) b (lz, d)))

-- ---- places of argument lists

place_below : (n : ℕ) (xs : List ℕ) → AllBelow n xs → place n xs < n ^ length xs
unfolding place
place_below n [] b = omega (arith, pow-zero n)
place_below n (x ∷ xs) b =
    omega (arith, place_below n xs b.1, pow-succ' n (length xs), suc-mul x (n ^ length xs), mul-le-mul_right (n ^ length xs) b.0)

-- every place is that of a list
record Digits (n s i : ℕ) : Type 0 where
  list : List ℕ
  long : length list ≡ s
  below : AllBelow n list
  there : place n list ≡ i

digits : (n s i : ℕ) → i < n ^ s → Digits n s i
unfolding place
digits n zero i l = record { list = []; long = refl; below = tt; there = omega (arith, pow-zero n) }
digits n (suc s) i l =
    let w : ℕ = n ^ s in
    let some : 0 < w = zero_width n w (omega (arith, pow-succ' n s)) in
    let rest = digits n s (i % w) (mod-lt i some) in
    let whole : i / w * w + i % w ≡ i = div-add-mod' i w in
    let first : i / w < n = quotient_below (i / w) n w (omega (arith, pow-succ' n s)) in
    record {
      list = i / w ∷ rest.list;
      long = ap suc rest.long;
      below = (first, rest.below);
      there = rw (rest.long, rest.there) whole;
    }
  where
    zero_width : (n w : ℕ) → 0 < n * w → 0 < w
    zero_width n zero h = absurd (omega (arith, mul_comm n 0))
    zero_width n (suc w) h = omega arith

    quotient_below : (q n w : ℕ) → q * w < n * w → q < n
    quotient_below q n w h = elim (dec_lt q n) [ yes l ↦ l | no l ↦ absurd (omega (arith, mul-le-mul_right {m = n} {n = q} w (omega arith))) ]

-- ---- results as cells of a table

module _ (a : Algebra) (f : ℕ → ℕ) (c : Canonical a.size f) (j : ℕ) where
  -- a part of a table, at a place of the arguments behind the first
  part_at : (base s x : ℕ) (xs t : List ℕ) → length t ≡ s → ((u : List ℕ) → length u ≡ suc s → table_start a j + place a.size (xs ++ u) ≡ base + place a.size u)
      → result a j (xs ++ (x ∷ t)) ≡ get_or a.cells (base + x * a.size ^ s + place a.size t) 0
  unfolding place
  part_at base s x xs t e h =
      result_cell a j (xs ++ (x ∷ t)) _ (h (x ∷ t) (ap suc e) ∙ rw e (omega arith))

  -- what is compatible joins the results that differ in one argument, whatever stands before and behind it
  alike_behind : (k : Compatible a f) → j < length a.arities → (s base : ℕ) (pre : List ℕ) → length pre + s ≡ get_or a.arities j 0 → AllBelow a.size pre
      → ((u : List ℕ) → length u ≡ s → table_start a j + place a.size (pre ++ u) ≡ base + place a.size u) → TableAlike a.size a.cells f base s
  unfolding place
  alike_behind k l zero base pre e b h = tt
  alike_behind k l (suc s) base pre e b h = (
    record {
      of = λ x lx. record {
        cell = λ i li.
            let d = digits a.size s i li in
            let lf : f x < a.size = omega (arith, c.below x lx) in
            let at : (y : ℕ) → f (result a j (pre ++ (y ∷ d.list))) ≡ f (get_or a.cells (base + y * a.size ^ s + i) 0) =
            λ y. ap f (rw d.there at (part_at base s y pre d.list d.long h)) in
            sym (at x) ∙ k x (f x) lx lf (sym (c.named x lx)) j l pre d.list (omega (arith, d.long)) b d.below ∙ at (f x);
      };
    },
    λ x lx p.
        alike_behind k l s (base + x * a.size ^ s) (pre ++ (x ∷ [])) (omega (arith, length-append pre (x ∷ []))) (append_below a.size pre (x ∷ []) b (lx, tt))
        (λ u eu. rw (append_snoc pre x u) (h (x ∷ u) (ap suc eu) ∙ rw eu (omega arith))),
  )

  -- one argument after the other is replaced by its name
  alike_at : (s base : ℕ) (xs : List ℕ) → length xs ≡ s → AllBelow a.size xs → TableAlike a.size a.cells f base s
      → f (get_or a.cells (base + place a.size xs) 0) ≡ f (get_or a.cells (base + place a.size (map f xs)) 0)
  unfolding place
  alike_at s base [] e b h = refl
  alike_at zero base (x ∷ xs) e b h = absurd (omega arith)
  alike_at (suc s) base (x ∷ xs) e b h =
      let long : length xs ≡ s = omega arith in
      let mapped : length (map f xs) ≡ s = length-map xs f ∙ long in
      let l : place a.size xs < a.size ^ s = rw long at (place_below a.size xs b.1) in
      let lf : f x < a.size = omega (arith, c.below x b.0) in
      let there : (y p : ℕ) → base + (y * a.size ^ s + p) ≡ base + y * a.size ^ s + p = λ y p. omega arith in
      rw (long, mapped, there x (place a.size xs), there (f x) (place a.size (map f xs)))
      ((h.0.of x b.0).cell (place a.size xs) l ∙ alike_at s (base + f x * a.size ^ s) xs long b.1 (h.1 (f x) lf (c.named x b.0)))

-- the first k tables
abbrev pub TablesAlike : Algebra → (ℕ → ℕ) → ℕ → Type 0
TablesAlike a f k = (j : ℕ) → j < k → TableAlike a.size a.cells f (table_start a j) (get_or a.arities j 0)

pub alike_compatible : (a : Algebra) (f : ℕ → ℕ) → Canonical a.size f → TablesAlike a f (length a.arities) → Compatible a f
unfolding result
alike_compatible a f c h = named_compatible a f (λ j l xs e b. alike_at a f c j (get_or a.arities j 0) (table_start a j) xs e b (h j l))

pub compatible_alike : (a : Algebra) (f : ℕ → ℕ) → Canonical a.size f → Compatible a f → (j : ℕ) → j < length a.arities
    → TableAlike a.size a.cells f (table_start a j) (get_or a.arities j 0)
compatible_alike a f c k j l = alike_behind a f c j k l (get_or a.arities j 0) (table_start a j) [] (omega arith) tt (λ u e. refl)

-- ---- stretches of cells

module _ {cells : List ℕ} {f : ℕ → ℕ} {base first : ℕ} where
  -- the next `more` cells of a stretch are a stretch themselves
  stretch_part : {more : ℕ} (i count : ℕ) → i + more ≤ count → StretchAlike count cells f base first → StretchAlike more cells f (base + i) (first + i)
  stretch_part i count l h = record { cell = λ z lz. let p : (b : ℕ) → b + i + z ≡ b + (i + z) = λ b. omega arith in rw (p base, p first) (h.cell (i + z) (omega arith)) }

  stretch_longer : {i more : ℕ} → StretchAlike i cells f base first → StretchAlike more cells f (base + i) (first + i) → StretchAlike (i + more) cells f base first
  stretch_longer {i} {more} h k = record {
    cell = λ z lz.
        elim (dec_lt z i) [
          | yes l ↦ h.cell z l
          | no l ↦ let p : (b : ℕ) → b + i + (z - i) ≡ b + z = λ b. omega arith in rw (p base, p first) at (k.cell (z - i) (omega arith))
        ];
  }

  module _ (i : ℕ) {more : ℕ} {r : Bool} (s : Says r (StretchAlike more cells f (base + i) (first + i))) where
    pub turn_apart : {count : ℕ} → r ≡ false → i + more ≤ count → Says false (StretchAlike count cells f base first)
    turn_apart {count} e l = says_false (λ h. never (sym e ∙ s.no (stretch_part i count l h)))

    pub turn_more : r ≡ true → StretchAlike i cells f base first → StretchAlike (i + more) cells f base first
    turn_more e h = stretch_longer h (s.yes e)

    pub turn_last : {count : ℕ} → i + more ≡ count → StretchAlike i cells f base first → Says r (StretchAlike count cells f base first)
    turn_last {count} e h = rw (← e) (record { yes = λ q. stretch_longer h (s.yes q); no = λ k. s.no (stretch_part i (i + more) (omega arith) k) })

-- ---- parts of a table

-- the parts of the first i others are alike to those of their names
pub record OthersAlike (n part : ℕ) (cells others : List ℕ) (f : ℕ → ℕ) (base i : ℕ) : Type 0 where
  pub at : (k : ℕ) → k < i → StretchAlike part cells f (base + byte others k * part) (base + f (byte others k) * part)

-- ---- lines: parts of one cell

-- f joins the cells of the first i others with those of their names
pub record LineBelow (cells others : List ℕ) (f : ℕ → ℕ) (base i : ℕ) : Type 0 where
  pub at : (k : ℕ) → k < i → f (get_or cells (base + byte others k) 0) ≡ f (get_or cells (base + f (byte others k)) 0)

part_of_one : (n base i y : ℕ) → i < n ^ 0 → base + y * n ^ 0 + i ≡ base + y
part_of_one n base i y l = rw (pow-zero n) (omega (arith, pow-zero n))

module _ {cells others : List ℕ} {f : ℕ → ℕ} {base : ℕ} where
  pub line_all : {n left i : ℕ} → Others n others left f → left ≤ i → LineBelow cells others f base i → Says true (TableAlike n cells f base 1)
  line_all {n} {left} {i} o l h = says_true (
    record {
      of = λ x lx. record {
        cell = λ z lz.
            rw (part_of_one n base z x lz, part_of_one n base z (f x) lz)
            (elim (ℕ_discrete (f x) x) [
              | yes p ↦ ap (λ (y : ℕ). f (get_or cells (base + y) 0)) (sym p)
              | no p ↦ let k = o.all x lx p in rw k.1.1 at (h.at k.0 (omega (arith, k.1.0)))
            ]);
      };
    },
    λ x lx p. tt,
  )

  pub line_apart : {n left i : ℕ} → Others n others left f → i < left → (f (get_or cells (base + byte others i) 0) ≡ f (get_or cells (base + f (byte others i)) 0) → ⊥)
      → Says false (TableAlike n cells f base 1)
  line_apart {n} {i = i} o l k = says_false (λ h.
      let x = byte others i in
      let z : 0 < n ^ 0 = omega (arith, pow-zero n) in
      k (rw (part_of_one n base 0 x z, part_of_one n base 0 (f x) z) at ((h.0.of x (o.elements.below i l)).cell 0 z)))

-- ---- the parts of names

-- the tables at the parts of the names below x are alike
pub record NamesBelow (n part s : ℕ) (cells : List ℕ) (f : ℕ → ℕ) (base x : ℕ) : Type 0 where
  pub at : (z : ℕ) → z < x → f z ≡ z → TableAlike n cells f (base + z * part) s

module _ {n part : ℕ} {s : ℕ} {cells : List ℕ} {f : ℕ → ℕ} {base : ℕ} where
  pub names_more : {x : ℕ} → NamesBelow n part s cells f base x → (f x ≡ x → TableAlike n cells f (base + x * part) s) → NamesBelow n part s cells f base (x + 1)
  names_more {x} h t = record { at = below_more (λ (z : ℕ). f z ≡ z → TableAlike n cells f (base + z * part) s) x h.at t }

-- a table is alike where its parts are and the parts of names are
module _ (s : ℕ) {n part : ℕ} {cells : List ℕ} {f : ℕ → ℕ} {base : ℕ} {q : Bool} (e : part ≡ n ^ s) (p : Says q (PartsAlike n part cells f base)) where
  pub table_apart : q ≡ false → Says q (TableAlike n cells f base (suc s))
  table_apart h = record { yes = λ y. never (sym h ∙ y); no = λ k. p.no (rw e k.0) }

  pub table_by : {r : Bool} → q ≡ true → Says r (NamesAlike n part s cells f base) → Says r (TableAlike n cells f base (suc s))
  table_by h t = record { yes = λ y. (rw e at (p.yes h), (rw e at (t.yes y)).of); no = λ k. t.no (rw e (record { of = k.1 })) }

-- ---- the tables, one after the other

-- what holds when the tables below j are alike and the next begins at `base`
pub record Tested (n : ℕ) (arities cells m : List ℕ) (base j : ℕ) : Type 0 where
  pub formed : WellFormed (algebra_of n arities cells)
  pub canonical : Canonical n (byte m)
  pub upto : j ≤ length arities
  pub start : base ≡ table_start (algebra_of n arities cells) j
  pub done : TablesAlike (algebra_of n arities cells) (byte m) j

pub tested_none : (n : ℕ) (arities : List ℕ) {cells m others : List ℕ} {left : ℕ} → Accepted (algebra_of n arities cells) → WalkLent n m cells others left → Tested n arities cells m 0 0
tested_none n arities a w =
    record { formed = accepted_well_formed _ a; canonical = w.map.canonical; upto = omega arith; start = sym (start_first n arities); done = λ j l. absurd (omega arith) }

module _ {n : ℕ} {arities cells m : List ℕ} {base j : ℕ} (t : Tested n arities cells m base j) where
  pub tested_there : j < length arities → TableThere n (get_or arities j 0) base (length cells)
  tested_there l = table_there (algebra_of n arities cells) j base t.formed l t.start

  module _ {r : Bool} (l : j < length arities) (s : Says r (TableAlike n cells (byte m) base (get_or arities j 0))) where
    pub tested_apart : r ≡ false → Says false (Compatible (algebra_of n arities cells) (byte m))
    tested_apart h = says_false (λ k. never (sym h ∙ s.no (rw t.start (compatible_alike (algebra_of n arities cells) (byte m) t.canonical k j l))))

    pub tested_more : {p : ℕ} → r ≡ true → p ≡ n ^ get_or arities j 0 → Tested n arities cells m (base + p) (j + 1)
    tested_more h e = record {
      formed = t.formed;
      canonical = t.canonical;
      upto = omega arith;
      start = omega (arith, start_next n arities j l, t.start);
      done = below_more (λ (i : ℕ). TableAlike n cells (byte m) (table_start (algebra_of n arities cells) i) (get_or arities i 0)) j t.done (rw t.start at (s.yes h));
    }

  pub tested_all : length arities ≤ j → Says true (Compatible (algebra_of n arities cells) (byte m))
  tested_all l = says_true (alike_compatible (algebra_of n arities cells) (byte m) t.canonical (λ i k. t.done i (omega arith)))

-- ---- the test

same_test : (r t : Bool) → (T r → T t) → (T t → T r) → r ≡ t
same_test true true f g = refl
same_test true false f g = absurd (f tt)
same_test false true f g = absurd (g tt)
same_test false false f g = refl

is_true : (r : Bool) → T r → r ≡ true
is_true true t = refl
is_true false t = absurd t

-- ---- what the walk is lent

pub accepted_small : (n : ℕ) (arities cells : List ℕ) → Accepted (algebra_of n arities cells) → n ≤ 64
accepted_small n arities cells a = (accepted_well_formed _ a).most

pub map_long : (n : ℕ) (m : List ℕ) → T (is_map n m) → n ≤ length m
map_long n m t = omega (arith, (of_is_map n m t).long)

-- room for n elements
pub room_long : (n : ℕ) → n ≤ 64 → length {A = ℕ} (take n (replicate 64 0)) ≡ n
room_long n l = length-take-le n (replicate 64 0) (omega (arith, length-replicate {A = ℕ} 64 0))

-- every element is listed there at first
module _ {n : ℕ} {old : ℕ → ℕ} {all : List ℕ} (small : n ≤ 64) (e : length all ≡ length {A = ℕ} (take n (replicate 64 0))) (c : Filled n (λ x. x) old (byte all)) where
  pub all_elements : {k : ℕ} → n ≤ k → Elements k all (length all)
  all_elements h = record { room = omega arith; below = λ i l. omega (arith, room_long n small, c.first i (omega (arith, room_long n small))) }

  -- those that are no smallest members are left, and a slice of just these has them
  pub others_listed : {left : ℕ} {f : ℕ → ℕ} (others : List ℕ) → Sifted f all (length all) others left → Others n (take left others) (length (take left others)) f
  others_listed {left} others k =
      let long : length (take left others) ≡ left = length-take-le left others k.room in
      rw long (record {
        elements = record {
          room = omega (arith, long);
          below = λ i l. let o = k.old i l in rw (get_or-take left others i 0 l) (omega (arith, room_long n small, c.first o.0 (omega (arith, o.1.0, room_long n small)), o.1.1, o.1.0));
        };
        all = λ x l h.
            let o = k.all x (x, (omega (arith, room_long n small), c.first x l)) h in
            (o.0, (o.1.0, get_or-take left others o.0 0 o.1.0 ∙ o.1.1));
      })

module _ (n : ℕ) (arities cells m : List ℕ) (a : Accepted (algebra_of n arities cells)) (t : T (is_map n m)) where
  well_formed : WellFormed (algebra_of n arities cells)
  well_formed = accepted_well_formed _ a

  pub walk_lent : {left : ℕ} {others : List ℕ} → Others n others left (byte m) → WalkLent n m cells others left
  walk_lent o = let p = of_is_map n m t in record { map = accepted_lent _ well_formed m (omega (arith, p.long)) (record { below = p.low; named = p.named }); list = o }

  -- what says whether a map is compatible is the test of the definition
  pub says_congruence : {r : Bool} → Says r (Compatible (algebra_of n arities cells) (byte m)) → r ≡ is_congruence (algebra_of n arities cells) m
  says_congruence {r} s =
      let b = algebra_of n arities cells in
      same_test r (is_congruence b m) (λ q. (congruence_of b m (compatible_congruence b well_formed m (of_is_map n m t) (s.yes (is_true r q)))).respects)
      (λ q. subst T (sym (s.no (congruence_compatible b well_formed m (congruence_is b m (record { map = t; respects = q }))))) tt)

  -- where there is no operation, every map is a congruence
  pub nothing_says : length arities ≡ 0 → true ≡ is_congruence (algebra_of n arities cells) m
  nothing_says e = says_congruence (says_true (λ x y lx ly q j l pre post s d f. absurd (omega (arith, l))))

  -- the identity and the map with one block are congruences of every algebra
  pub identity_says : {left : ℕ} {others : List ℕ} → Others n others left (byte m) → left ≡ 0 → true ≡ is_congruence (algebra_of n arities cells) m
  identity_says o e =
      says_congruence (says_true (identity_compatible _ (byte m) (λ x l.
      elim (ℕ_discrete (byte m x) x) [ yes p ↦ p | no p ↦ let k = o.all x l p in absurd (omega (arith, k.1.0)) ])))

  pub one_block_says : {top : ℕ} → Largest (length m) m top → top ≡ 0 → true ≡ is_congruence (algebra_of n arities cells) m
  one_block_says {top} h e =
      let b = algebra_of n arities cells in
      let low : (x : ℕ) → x < n → byte m x ≡ 0 = λ x l. omega (arith, h.above x (omega (arith, (of_is_map n m t).long))) in
      says_congruence (says_true (λ x y lx ly q j l pre post s d f. low _ (result_below b well_formed j (pre ++ (x ∷ post))) ∙ sym (low _ (result_below b well_formed j (pre ++ (y ∷ post))))))
