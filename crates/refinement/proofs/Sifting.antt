-- Lists of elements, and what is left of them.
use Prim.Native.Nat.{ℕ, ◌+◌, ◌-◌, ◌≤◌, ◌<◌}
use mathlib.Core.Bool.{Bool, true, false, not}
use mathlib.Core.List.{List, ◌++◌, reverse}
use mathlib.Core.Path.{◌≡◌, refl, sym, ap, ◌∙◌}
use native.Mathlib.Decide.{ℕ_discrete}
use native.Mathlib.Omega.{arith}
use lib.Dec.{eqb}
use lib.ListN.{length, set, take, drop, length-append, get_or-append}
use Rattle.std.proofs.lemmas.List.{length-reverse, get_or-reverse}
use lib.Seq.{get_or-set_same, get_or-set_other, length-take-le, get_or-take}
use mir.Val.{bool_byte}
use borrow.Author.Tests.{ne_eqb}
use Rattle.equivalence.specs.Equivalence.{Map, byte}
use Rattle.kernel.proofs.Names.{name_back}
use Rattle.kernel.specs.InnerKernel.{Canonical, Within, Listed}
use Rattle.refinement.proofs.Splits.{sifted_none}
use Rattle.refinement.specs.InnerSplitting.{Elements, KeepsOn, Sifted, Turned, Lists, Split}

-- ---- sifting, in place

-- the first i members were looked at, and `kept` of them stand in front
pub record Sifting (f : ℕ → ℕ) (list₀ list : List ℕ) (i kept : ℕ) : Type 0 where
  pub most : kept ≤ i
  pub ahead : (k : ℕ) → i ≤ k → byte list k ≡ byte list₀ k
  pub old : (k : ℕ) → k < kept → Listed list₀ i (byte list k)
  pub all : (k : ℕ) → k < i → ¬ (f (byte list₀ k) ≡ byte list₀ k) → Listed list kept (byte list₀ k)

bool_byte_most : (b : Bool) → bool_byte b ≤ 1
bool_byte_most true = omega arith
bool_byte_most false = omega arith

-- an element that is its own name is left out, and every other is kept
pub sifting_more : {f : ℕ → ℕ} {list₀ list : List ℕ} {i kept b : ℕ} → i < length list → Sifting f list₀ list i kept → b ≡ bool_byte (not (eqb (f (byte list i)) (byte list i)))
    → Sifting f list₀ (set list kept (byte list i)) (i + 1) (kept + b)
sifting_more {f} {list₀} {list} {i} {kept} {b} l s e =
    let one : b ≤ 1 = omega (arith, e, bool_byte_most (not (eqb (f (byte list i)) (byte list i)))) in
    let here : byte (set list kept (byte list i)) kept ≡ byte list i = get_or-set_same list kept (byte list i) 0 (omega (arith, s.most)) in
    record {
      most = omega (arith, s.most);
      ahead = λ k p. get_or-set_other list kept k (byte list i) 0 (λ q. omega (arith, s.most)) ∙ s.ahead k (omega arith);
      old = λ k p.
          elim (ℕ_discrete k kept) [
            | yes q ↦ (i, (omega arith, sym (ap (byte (set list kept (byte list i))) q ∙ here ∙ s.ahead i (omega arith))))
            | no q ↦
                let o = s.old k (omega arith) in
                (o.0, (omega (arith, o.1.0), o.1.1 ∙ sym (get_or-set_other list kept k (byte list i) 0 q)))
          ];
      all = λ k p h.
          elim (ℕ_discrete k i) [
            | yes q ↦
                let same : byte list i ≡ byte list₀ k = s.ahead i (omega arith) ∙ ap (byte list₀) (sym q) in
                let none : b ≡ 1 = e ∙ ap (λ (z : Bool). bool_byte (not z)) (ne_eqb (f (byte list i)) (byte list i) (rw same h)) in
                (kept, (omega arith, here ∙ same))
            | no q ↦
                let o = s.all k (omega arith) h in
                let lo = o.1.0 in
                (o.0, (omega arith, get_or-set_other list kept o.0 (byte list i) 0 (λ r. omega arith) ∙ o.1.1))
          ];
    }

pub sifting_sifted : {f : ℕ → ℕ} {list₀ list : List ℕ} {i kept : ℕ} → i ≤ length list → Sifting f list₀ list i kept → Sifted f list₀ i list kept
sifting_sifted {f} {list₀} {list} {i} {kept} r s = record {
  fewer = s.most;
  room = omega (arith, s.most);
  old = s.old;
  all = λ x k h. rw k.1.1 at (s.all k.0 k.1.0 (rw k.1.1 h));
}

-- ---- lists that were sifted

elements_sifted : {n : ℕ} {f : ℕ → ℕ} {list list' : List ℕ} {count count' : ℕ} → Elements n list count → Sifted f list count list' count' → Elements n list' count'
elements_sifted {n} s k = record {
  room = k.room;
  below = λ i l. let o = k.old i l in rw o.1.1 at (s.below o.0 o.1.0);
}

module _ {n used left left' : ℕ} {f f' : ℕ → ℕ} {live others others' : List ℕ} where
  lists_sifted : Canonical n f → Canonical n f' → Within n f' f → Lists n live used others left f → Sifted f' others left others' left'
      → Lists n live used others' left' f'
  lists_sifted c c' w s k = record {
    live_elements = s.live_elements;
    elements = elements_sifted s.elements k;
    all = λ x l h. k.all x (s.all x l (λ p. h (name_back c' c w x (rw l.1.1 at (s.live_elements.below l.0 l.1.0)) p))) h;
  }

-- what keeps the listed others keeps all in use
kept_in_use : {n used left : ℕ} {live others : List ℕ} {t f : ℕ → ℕ} → Lists n live used others left f → KeepsOn (Listed others left) t f → KeepsOn (Listed live used) t f
kept_in_use {t = t} {f} s h x l =
    elim (ℕ_discrete (f x) x) [
      | yes e ↦ ap (λ (z : ℕ). f (t z)) (sym e)
      | no e ↦ h x (s.all x l e)
    ]

-- where no other is left every element in use is a smallest member
pub all_names : {n used left : ℕ} {live others : List ℕ} {f : ℕ → ℕ} → Lists n live used others left f → left ≡ 0 → (x : ℕ) → Listed live used x → f x ≡ x
all_names {f = f} s z x l =
    elim (ℕ_discrete (f x) x) [
      | yes e ↦ e
      | no e ↦ let o = (s.all x l e).1.0 in absurd (omega arith)
    ]

-- a line that keeps the listed others of a map, once it is split, keeps all in use
pub kept_after : {n used left : ℕ} {live others : List ℕ} {m m' : Map} {Good Done : (ℕ → ℕ) → Type 0} (t : ℕ → ℕ) → Canonical n (byte m) → Lists n live used others left (byte m)
    → Split n Good Done m m' → KeepsOn (Listed others left) t (byte m') → KeepsOn (Listed live used) t (byte m')
kept_after t c l s h = kept_in_use (lists_sifted c s.canonical s.within l (sifted_none l.elements.room)) h

-- the lists after a split
pub lists_after : {n used left left' : ℕ} {live others others' : List ℕ} {m m' : Map} {Good Done : (ℕ → ℕ) → Type 0} → Canonical n (byte m)
    → Lists n live used others left (byte m) → Split n Good Done m m' → Sifted (byte m') others left others' left' → Lists n live used others' left' (byte m')
lists_after c l s k = lists_sifted c s.canonical s.within l k

-- ---- lists that were turned round

module _ (count : ℕ) (list : List ℕ) {turned : List ℕ} (r : count ≤ length list) (e : turned ≡ reverse (take count list)) where
  long : length (take count list) ≡ count
  long = length-take-le count list r

  turned_long : length turned ≡ count
  turned_long = rw e (length-reverse (take count list) ∙ long)

  turned_at : (k : ℕ) → k < count → byte (turned ++ drop count list) k ≡ byte list (count - 1 - k)
  turned_at k l =
      get_or-append turned (drop count list) 0 k (omega (arith, turned_long))
      ∙ rw (e, get_or-reverse (take count list) k 0 (omega (arith, long)), long) (get_or-take count list (count - 1 - k) 0 (omega arith))

  pub turned_back : Turned count list (turned ++ drop count list)
  turned_back = record {
    room = simp length-append (omega (arith, turned_long));
    all = λ x k. (count - 1 - k.0, (omega arith, turned_at (count - 1 - k.0) (omega arith) ∙ ap (byte list) (omega arith) ∙ k.1.1));
    old = λ x k. (count - 1 - k.0, (omega arith, sym (turned_at k.0 k.1.0) ∙ k.1.1));
  }

pub lists_turned : {n used left : ℕ} {live others others' : List ℕ} {f : ℕ → ℕ} → Lists n live used others left f → Turned left others others' → Lists n live used others' left f
lists_turned {n} {others' = others'} s k = record {
  live_elements = s.live_elements;
  elements = record {
    room = k.room;
    below = λ i l. let o = k.old (byte others' i) (i, (l, refl)) in rw o.1.1 at (s.elements.below o.0 o.1.0);
  };
  all = λ x l h. k.all x (s.all x l h);
}
