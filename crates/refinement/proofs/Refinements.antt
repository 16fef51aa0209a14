-- Passes over all lines, until one splits nothing: the map is then the greatest congruence inside the first one.
use Prim.Native.Nat.{ℕ, ◌+◌, ◌-◌, ◌^◌, ◌≤◌, ◌<◌}
use mathlib.Core.List.{List, ◌∷◌, ◌++◌}
use mathlib.Core.Path.{◌≡◌, refl, sym, ap, ◌∙◌}
use native.Mathlib.Omega.{arith}
use lib.ListN.{length, get_or}
use Rattle.equivalence.specs.Equivalence.{Map, byte}
use Rattle.kernel.specs.InnerKernel.{Canonical, Listed, names}
use Rattle.algebra.specs.Algebra.{Algebra, algebra_of}
use Rattle.algebra.specs.Accepted.{Accepted}
use Rattle.translation.specs.InnerTranslations.{table_start, result, Compatible, Refined}
use Rattle.algebra.proofs.Accepted.{WellFormed, accepted_well_formed}
use Rattle.algebra.proofs.Tables.{start_first, start_next}
use Rattle.translation.proofs.Translations.{identity_compatible}
use Rattle.refinement.specs.InnerSplitting.{Keeps, KeepsOn, Any, Chosen, Table, Sifted, Turned, Split, Walk, Walked, TableWalked, AllWalked, MapRefined, Represented}
use Rattle.refinement.proofs.Walks.{walk_none, walk_said, walk_more, walk_next, walk_turned, table_named}
use Rattle.refinement.proofs.Compatibility.{Tables, tables_compatible, compatible_tables, represented_again, TableThere, table_there}
use Rattle.kernel.proofs.Names.{names_one, names_most}
use Rattle.translation.proofs.Translations.{result_below}

-- a single block is compatible with every operation
whole_compatible : (a : Algebra) → WellFormed a → (g : ℕ → ℕ) → Canonical a.size g → names a.size g ≡ 1 → Compatible a g
whole_compatible a w g c e x y lx ly p j l pre post s b d =
    names_one a.size g c e (result a j (pre ++ (x ∷ post))) (result_below a w j (pre ++ (x ∷ post)))
    ∙ sym (names_one a.size g c e (result a j (pre ++ (y ∷ post))) (result_below a w j (pre ++ (y ∷ post))))

-- a split into what is compatible is the refinement
pub split_refined : (a : Algebra) {Done : (ℕ → ℕ) → Type 0} {m m' : Map} → Split a.size (Compatible a) Done m m' → Compatible a (byte m') → Refined a (byte m) (byte m')
split_refined a s c = record { canonical = s.canonical; compatible = c; within = s.within; greatest = s.greatest }

-- a single block is its own refinement
pub whole_refined : (a : Algebra) → WellFormed a → (f : ℕ → ℕ) → Canonical a.size f → names a.size f ≡ 1 → Refined a f f
whole_refined a w f c e = record { canonical = c; compatible = whole_compatible a w f c e; within = λ x y lx ly p. p; greatest = λ g k h. h }

-- so is every map where there are no operations
pub bare_refined : (a : Algebra) (f : ℕ → ℕ) → Canonical a.size f → length a.arities ≡ 0 → Refined a f f
bare_refined a f c e = record { canonical = c; compatible = λ x y lx ly p j l. absurd (omega arith); within = λ x y lx ly p. p; greatest = λ g k h. h }

-- ---- the lists that a refinement begins with

-- the others among all elements in use
pub walk_begins : {n used left : ℕ} {arities cells live others : List ℕ} {m : Map} → Accepted (algebra_of n arities cells)
    → Represented (algebra_of n arities cells) live used (byte m) → Sifted (byte m) live used others left → n ≤ length m → Canonical n (byte m) → Walk n live used cells m others left
walk_begins {n} {arities = arities} {cells} p s k r d =
    let w = accepted_well_formed (algebra_of n arities cells) p in
    record {
      map = record { some = w.some; small = w.most; room = r; canonical = d; below = w.below };
      lists = record {
        live_elements = s.elements;
        elements = record { room = k.room; below = λ i l. let o = k.old i l in rw o.1.1 at (s.elements.below o.0 o.1.0) };
        all = k.all;
      };
    }

-- all elements stand for all
pub all_represented : (a : Algebra) (live : List ℕ) (e : ℕ → ℕ) → a.size ≤ length live → ((x : ℕ) → x < a.size → byte live x ≡ x) → Represented a live a.size e
all_represented a live e r h = record {
  elements = record { room = r; below = λ i l. omega (arith, h i l) };
  name = λ x. x;
  canonical = record { below = λ x l. omega arith; named = λ x l. refl };
  compatible = identity_compatible a (λ x. x) (λ x l. refl);
  within = λ x y lx ly p. ap e p;
  listed = λ x l. (x, (l, h x l));
}

-- ---- two functions that agree on the elements

pub canonical_same : (n : ℕ) (f g : ℕ → ℕ) → ((x : ℕ) → x < n → g x ≡ f x) → Canonical n f → Canonical n g
canonical_same n f g e c = record {
  below = λ x l. omega (arith, e x l, c.below x l);
  named = λ x l. ap g (e x l) ∙ e (f x) (omega (arith, c.below x l)) ∙ c.named x l ∙ sym (e x l);
}

pub compatible_same : (a : Algebra) → WellFormed a → (f g : ℕ → ℕ) → ((x : ℕ) → x < a.size → g x ≡ f x) → Compatible a f → Compatible a g
compatible_same a w f g e c x y lx ly p j l pre post s b d =
    e (result a j (pre ++ (x ∷ post))) (result_below a w j (pre ++ (x ∷ post)))
    ∙ c x y lx ly (sym (e x lx) ∙ p ∙ e y ly) j l pre post s b d
    ∙ sym (e (result a j (pre ++ (y ∷ post))) (result_below a w j (pre ++ (y ∷ post))))

-- ---- a round: one table after the other

-- the tables below j were walked over, and that of j begins at `base`
pub record Tabling (a : Algebra) (live : List ℕ) (used j base : ℕ) (m₀ m : Map) (others : List ℕ) (left : ℕ) : Type 0 where
  pub most : j ≤ length a.arities
  pub start : base ≡ table_start a j
  pub formed : WellFormed a
  pub represented : Represented a live used (byte m₀)
  pub walked : Walked a.size live used a.cells (λ g. Tables (Any a.size) (Keeps a.size) a g (length a.arities))
      (λ g. Tables (Chosen live used) (KeepsOn (Listed live used)) a g j) m₀ m others left

-- where every table keeps what is in use, or nothing else is left, a map is compatible
named_compatible : {a : Algebra} {live : List ℕ} {used : ℕ} {m : Map} {others : List ℕ} {left : ℕ} → WellFormed a → Represented a live used (byte m)
    → Walk a.size live used a.cells m others left → left ≡ 0
    → Compatible a (byte m)
named_compatible {a} {m = m} w r k z = tables_compatible a w (byte m) k.map.canonical r (λ j i. table_named k z (table_start a j) (get_or a.arities j 0))

pub tabling_none : {a : Algebra} {live : List ℕ} {used : ℕ} {m : Map} {others : List ℕ} {left : ℕ} → Accepted a → Walk a.size live used a.cells m others left → Represented a live used (byte m)
    → Tabling a live used 0 0 m m others left
tabling_none {a} p w r = record {
  most = omega arith;
  start = sym (start_first a.size a.arities);
  formed = accepted_well_formed a p;
  represented = r;
  walked = walk_none w (λ k l. absurd (omega arith));
}

module _ {a : Algebra} {live : List ℕ} {used j base : ℕ} {m₀ m : Map} {others : List ℕ} {left : ℕ} (s : Tabling a live used j base m₀ m others left) where
  again : Represented a live used (byte m)
  again = let r = s.represented in represented_again r (s.walked.split.greatest r.name (compatible_tables a s.formed r.name r.compatible) r.within)

  pub tabling_there : j < length a.arities → TableThere a.size (get_or a.arities j 0) base (length a.cells)
  tabling_there l = table_there a j base s.formed l s.start

  pub tabling_more : {p : ℕ} {m' : Map} {others' : List ℕ} {left' : ℕ} → j < length a.arities → TableWalked a.size live used a.cells base (get_or a.arities j 0) m m' others' left'
      → p ≡ a.size ^ get_or a.arities j 0 → Tabling a live used (j + 1) (base + p) m₀ m' others' left'
  tabling_more l u e = record {
    most = omega arith;
    start = omega (arith, start_next a.size a.arities j l, e, s.start);
    formed = s.formed;
    represented = s.represented;
    walked = walk_next (λ i g. Table (Chosen live used) (KeepsOn (Listed live used)) a.size a.cells (table_start a i) (get_or a.arities i 0) g)
        (λ g good. good j l) s.walked (rw s.start at u.walked);
  }

  pub tabling_done : length a.arities ≤ j → AllWalked a live used m₀ m others left
  tabling_done l = record {
    walked = walk_said (compatible_tables a s.formed) (λ h. tables_compatible a s.formed (byte m) s.walked.split.canonical again
        (λ i k. h i (omega arith))) s.walked;
  }

  pub tabling_over : left ≡ 0 → AllWalked a live used m₀ m others 0
  tabling_over z =
      let w : AllWalked a live used m₀ m others left = record { walked = walk_said (compatible_tables a s.formed) (λ h. named_compatible s.formed again s.walked.walk z) s.walked } in
      rw z at w

-- what the table of j is
module _ {n : ℕ} {arities cells live : List ℕ} {used j base : ℕ} {m₀ m : Map} {others : List ℕ} {left : ℕ} (s : Tabling (algebra_of n arities cells) live used j base m₀ m others left) where
  module _ (l : j < length arities) where
    pub tabling_room : base + n ^ get_or arities j 0 ≤ length cells
    tabling_room = (tabling_there s l).room

-- ---- rounds

-- m₀ was split so that no congruence inside it is lost, and m has `count` blocks
pub record Refining (a : Algebra) (live : List ℕ) (used count : ℕ) (m₀ m : Map) (others : List ℕ) (left : ℕ) : Type 0 where
  pub counted : count ≡ names a.size (byte m)
  pub formed : WellFormed a
  pub represented : Represented a live used (byte m)
  pub walked : Walked a.size live used a.cells (Compatible a) (λ g. Unit {0}) m₀ m others left

pub refining_first : {a : Algebra} {live : List ℕ} {used count : ℕ} {m : Map} {others : List ℕ} {left : ℕ} → Accepted a → Walk a.size live used a.cells m others left
    → Represented a live used (byte m)
    → count ≡ names a.size (byte m) → Refining a live used count m m others left
refining_first {a} p w r e = record { counted = e; formed = accepted_well_formed a p; represented = r; walked = walk_none w tt }

-- a single block is its own refinement
pub refining_whole : {a : Algebra} {live : List ℕ} {used count : ℕ} {m : Map} {others : List ℕ} {left : ℕ} → Accepted a → Walk a.size live used a.cells m others left
    → count ≡ names a.size (byte m) → count ≡ 1 → MapRefined a m m
refining_whole {a} p w e o = record { refined = whole_refined a (accepted_well_formed a p) _ w.map.canonical (sym e ∙ o); rest = λ x l. refl }

module _ {a : Algebra} {live : List ℕ} {used count : ℕ} {m₀ m : Map} {others : List ℕ} {left : ℕ} (s : Refining a live used count m₀ m others left) where
  pub refining_none : left ≤ 0 → MapRefined a m₀ m
  refining_none z = record { refined = split_refined a s.walked.split (named_compatible s.formed s.represented s.walked.walk (omega arith)); rest = s.walked.split.rest }

  module _ {found : ℕ} {m' : Map} {others' : List ℕ} {left' : ℕ} (u : AllWalked a live used m m' others' left') (e : found ≡ names a.size (byte m')) where
    both : Walked a.size live used a.cells (Compatible a) (λ g. Unit {0}) m₀ m' others' left'
    both = walk_more (λ g good. good) (λ g p q. tt) s.walked u.walked

    -- a round that splits nothing ends in a congruence
    pub refining_still : found ≡ count → MapRefined a m₀ m'
    refining_still o = record { refined = split_refined a both.split (u.walked.split.done (sym e ∙ o ∙ s.counted)); rest = both.split.rest }

    pub refining_more : {others'' : List ℕ} → Turned left' others' others'' → Refining a live used found m₀ m' others'' left'
    refining_more k = record {
      counted = e;
      formed = s.formed;
      represented = represented_again s.represented (u.walked.split.greatest s.represented.name s.represented.compatible s.represented.within);
      walked = record { split = both.split; walk = walk_turned u.walked.walk k };
    }

-- the blocks that may still come are fewer
pub refining_less : {n : ℕ} {arities cells live : List ℕ} {used count found : ℕ} {m₀ m m' : Map} {others others' : List ℕ} {left left' : ℕ}
    → Refining (algebra_of n arities cells) live used count m₀ m others left
    → AllWalked (algebra_of n arities cells) live used m m' others' left' → found ≡ names n (byte m') → ¬ (found ≡ count) → n - found < n - count
refining_less {n} {m' = m'} s u e h = omega (arith, u.walked.split.more, s.counted, names_most n (byte m'))
