-- Numbering the blocks of a map, element by element: what holds before the first element, and what one element more adds.
use Prim.Native.Nat.{ℕ, suc, ◌+◌, ◌≤◌, ◌<◌}
use mathlib.Core.Bool.{Bool, true, false}
use mathlib.Core.Path.{◌≡◌, refl, sym, ap, ◌∙◌}
use mathlib.Core.List.{List, [], ◌∷◌, ◌++◌}
use native.Mathlib.Decide.{ℕ_discrete}
use native.Mathlib.Numerals.{add-one}
use native.Mathlib.Omega.{arith}
use lib.Dec.{T, eqb, eqb→eq}
use lib.ListN.{length, take, set, length-append, length-set, get_or-append}
use lib.Seq.{get_or-set_same, get_or-set_other, get_or_at, get_or-take, length-take-le}
use borrow.Author.Tests.{eq-eqb, ne_eqb}
use Rattle.equivalence.specs.Equivalence.{Map, byte, is_map, names_of, blocks, block_of}
use Rattle.kernel.specs.InnerKernel.{bit}
use Rattle.equivalence.specs.Lists.{up_to, keep}
use Rattle.equivalence.proofs.Lists.{keep_yes, keep_no, keep_append}
use Rattle.equivalence.proofs.Maps.{IsMap, of_is_map}
use Rattle.equivalence.proofs.Tests.{eq→eqb}
use Rattle.quotient.specs.InnerNumbers.{Numbered}

-- an element that is its own name is one smallest member more
names_of_more : (m : Map) (x : ℕ) → byte m x ≡ x → names_of (suc x) m ≡ names_of x m ++ (x ∷ [])
unfolding names_of up_to keep
names_of_more m x e = rw (keep_append (λ y. eqb (byte m y) y) (up_to x) (x ∷ []), keep_yes (λ y. eqb (byte m y) y) x [] (eq→eqb (byte m x) x e))

-- and another element is none
names_of_same : (m : Map) (x : ℕ) → (byte m x ≡ x → ⊥) → names_of (suc x) m ≡ names_of x m ++ []
unfolding names_of up_to keep
names_of_same m x h =
    rw (keep_append (λ y. eqb (byte m y) y) (up_to x) (x ∷ []), keep_no (λ y. eqb (byte m y) y) x [] (λ t. h (eqb→eq (byte m x) x t)))

numbered_none : (m : Map) (numbers names : List ℕ) → Numbered 0 m numbers names 0
unfolding blocks names_of up_to keep
numbered_none m numbers names = record { count = refl; number = λ x l. absurd (omega arith); first = λ k l. absurd (omega arith) }

module _ (n : ℕ) (m : Map) (p : IsMap n m) (x : ℕ) (lx : x < n) (numbers names : List ℕ) (b : ℕ) (r : Numbered x m numbers names b)
    (ln : x < length numbers) (lf : b < length names) where
  -- the number of x's block
  number_new : byte (set numbers x b) (byte m x) ≡ block_of m x
  unfolding block_of
  number_new = elim (ℕ_discrete (byte m x) x) [
    | yes e ↦ rw e (get_or-set_same numbers x b 0 ln ∙ r.count)
    | no e ↦
        let l : byte m x < x = omega (arith, p.low x lx) in
        get_or-set_other numbers x (byte m x) b 0 e ∙ r.number (byte m x) l ∙ ap (λ (y : ℕ). blocks y m) (p.named x lx)
  ]

  number_old : (v y : ℕ) → v ≡ block_of m x → y < x + 1 → byte (set (set numbers x b) x v) y ≡ block_of m y
  number_old v y e l = elim (ℕ_discrete y x) [
    | yes f ↦ rw f (get_or-set_same (set numbers x b) x v 0 (rw length-set ln) ∙ e)
    | no f ↦ get_or-set_other (set numbers x b) x y v 0 f ∙ get_or-set_other numbers x y b 0 f ∙ r.number y (omega arith)
  ]

  numbered_more : (v : ℕ) → v ≡ byte (set numbers x b) (byte m x)
      → Numbered (x + 1) m (set (set numbers x b) x v) (set names b x) (b + bit (eqb (byte m x) x))
  unfolding blocks
  numbered_more v e = elim (ℕ_discrete (byte m x) x) [
    | yes f ↦ rw (eq-eqb (byte m x) x f) (record {
      count = rw (add-one x, names_of_more m x f, length-append (names_of x m) (x ∷ [])) (omega (arith, r.count));
      number = λ y l. number_old v y (e ∙ number_new) l;
      first = λ k l. rw (add-one x, names_of_more m x f) (elim (ℕ_discrete k b) [
        | yes g ↦ rw g (get_or-set_same names b x 0 lf ∙ sym (get_or_at (names_of x m) x [] 0 b (sym r.count)))
        | no g ↦ get_or-set_other names b k x 0 g ∙ r.first k (omega arith) ∙ sym (get_or-append (names_of x m) (x ∷ []) 0 k (omega (arith, r.count)))
      ]);
    })
    | no f ↦ rw (ne_eqb (byte m x) x f) (record {
      count = rw (add-one x, names_of_same m x f, length-append (names_of x m) []) (omega (arith, r.count));
      number = λ y l. number_old v y (e ∙ number_new) l;
      first = λ k l. rw (add-one x, names_of_same m x f)
          (get_or-set_other names b k x 0 (omega arith) ∙ r.first k (omega arith) ∙ sym (get_or-append (names_of x m) [] 0 k (omega (arith, r.count))));
    })
  ]

pub bit_le : (t : Bool) → bit t ≤ 1
bit_le true = omega arith
bit_le false = omega arith

-- the first x elements are numbered, into lists as long as the lent ones
pub record Numbering (n : ℕ) (m : Map) (numbers₀ firsts₀ numbers names : List ℕ) (b x : ℕ) : Type 0 where
  pub map : IsMap n m
  pub upto : x ≤ n
  pub few : b ≤ x
  pub numbers_long : length numbers ≡ length numbers₀
  pub names_long : length names ≡ length firsts₀
  pub numbered : Numbered x m numbers names b

pub numbering_none : {n : ℕ} {m : Map} {numbers names : List ℕ} → T (is_map n m) → Numbering n m numbers names numbers names 0 0
numbering_none {n} {m} {numbers} {names} t = record {
  map = of_is_map n m t;
  upto = omega arith;
  few = omega arith;
  numbers_long = refl;
  names_long = refl;
  numbered = numbered_none m numbers names;
}

pub numbering_more : {n : ℕ} {m : Map} {numbers₀ firsts₀ numbers names : List ℕ} {b x v d : ℕ} → Numbering n m numbers₀ firsts₀ numbers names b x
    → x < n → n ≤ length numbers₀ → n ≤ length firsts₀ → v ≡ byte (set numbers x b) (byte m x) → d ≡ bit (eqb (byte m x) x)
    → Numbering n m numbers₀ firsts₀ (set (set numbers x b) x v) (set names b x) (b + d) (x + 1)
numbering_more {n} {m} {numbers₀} {firsts₀} {numbers} {names} {b} {x} {v} {d} s l ln lf e f = record {
  map = s.map;
  upto = omega arith;
  few = omega (arith, bit_le (eqb (byte m x) x), s.few);
  numbers_long = length-set (set numbers x b) x v ∙ length-set numbers x b ∙ s.numbers_long;
  names_long = length-set names b x ∙ s.names_long;
  numbered = rw f (numbered_more n m s.map x l numbers names b s.numbered (omega arith) (omega arith) v e);
}

-- the smallest members alone, as many as there are blocks
pub numbered_front : (n : ℕ) (m : Map) (numbers names : List ℕ) (b k : ℕ) → k ≡ b → b ≤ length names → Numbered n m numbers names b
    → Numbered n m numbers (take k names) (length (take k names))
numbered_front n m numbers names b k e h r =
    let long : length (take k names) ≡ b = length-take-le k names (omega arith) ∙ e in
    record {
      count = long ∙ r.count;
      number = r.number;
      first = λ j l. let i : j < b = rw long at l in get_or-take k names j 0 (omega arith) ∙ r.first j i;
    }
