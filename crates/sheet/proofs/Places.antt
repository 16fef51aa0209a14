-- Places looked through by name: one of the first k has it, and which is the first.
use Prim.Native.Nat.{ℕ, ◌≤◌, ◌<◌}
use mathlib.Core.Bool.{Bool, ◌&&◌, ◌||◌}
use mathlib.Core.List.{List, [], ◌∷◌, Memᴰ as Member}
use mathlib.Core.List.Memᴰ.{head as here, tail as there, not-nil}
use mathlib.Core.Path.{◌≡◌, refl, sym, ap, ◌∙◌}
use native.Mathlib.Omega.{arith}
use lib.Dec.{T, ltb}
use lib.ListN.{length, take}
use lib.Seq.{get_or-take, length-take-le}
use borrow.Author.Tests.{lt-ltb, le-ltb}
use Rattle.std.proofs.Common.{Option, Some, None, unwrap_or, MatchOption}
use Rattle.std.specs.List.{AllWithin, HoldsAt}
use Rattle.equivalence.specs.Lists.{up_to, every, any, first}
use Rattle.equivalence.proofs.Lists.{any_of, of_any, first_found, first_none, first_yes, first_no, first_is, member_up_to, of_up_to}
use Rattle.equivalence.proofs.Tests.{T?, true_is, false_is}
use Rattle.sheet.specs.Points.{point_in, is_named, is_named_below, first_named}
use Rattle.sheet.specs.Sheet.{no_point}
use Rattle.sheet.specs.declared.Point.{Point}
use Rattle.sheet.proofs.Names.{of_same_name, same_name_of}

-- searches by two tests that say the same of every member
module _ {A : Type 0} (p q : A → Bool) where
  any_same : (l : List A) → ((a : A) → Member a l → p a ≡ q a) → any p l ≡ any q l
  unfolding any
  any_same [] h = refl
  any_same (a ∷ l) h = rw (h a (here refl)) (ap (λ (r : Bool). q a || r) (any_same l (λ b m. h b (there m))))

  pub every_same : (l : List A) → ((a : A) → Member a l → p a ≡ q a) → every p l ≡ every q l
  unfolding every
  every_same [] h = refl
  every_same (a ∷ l) h = rw (h a (here refl)) (ap (λ (r : Bool). q a && r) (every_same l (λ b m. h b (there m))))

  first_same : (d : A) (l : List A) → ((a : A) → Member a l → p a ≡ q a) → first p d l ≡ first q d l
  first_same d [] h = first_none p d [] (λ a m. absurd (not-nil m)) ∙ sym (first_none q d [] (λ a m. absurd (not-nil m)))
  first_same d (a ∷ l) h =
      elim (T? (q a)) [
        | yes t ↦ first_yes p d a l (rw (h a (here refl)) t) ∙ sym (first_yes q d a l t)
        | no t ↦ first_no p d a l (rw (h a (here refl)) t) ∙ first_same d l (λ b m. h b (there m)) ∙ sym (first_no q d a l t)
      ]

-- the front of the places, by its own places
module _ (places : List Point) (k : ℕ) where
  pub point_in_front : (i : ℕ) → i < k → point_in (take k places) i ≡ point_in places i
  unfolding point_in
  point_in_front i h = get_or-take k places i no_point h

  module _ (name : List ℕ) where
    named_front : (i : ℕ) → i < k → is_named name (take k places) i ≡ is_named name places i
    unfolding is_named
    named_front i h = rw (point_in_front i h) refl

    pub named_below_front : (i : ℕ) → i ≤ k → is_named_below name (take k places) i ≡ is_named_below name places i
    unfolding is_named_below
    named_below_front i h = any_same _ _ (up_to i) (λ j m. named_front j (let l = of_up_to i j m in omega arith))

    pub first_front : k ≤ length places → first_named name (take k places) (length (take k places)) ≡ first_named name places k
    unfolding first_named
    first_front h = rw (length-take-le k places h) (first_same _ _ k (up_to k) (λ i m. named_front i (of_up_to k i m)))

module _ (name : List ℕ) (places : List Point) where
  -- place i has the name
  abbrev pub Named : ℕ → Type 0
  Named i = (point_in places i).name ≡ name

  of_is_named : (i : ℕ) → T (is_named name places i) → Named i
  unfolding is_named
  of_is_named i t = of_same_name (point_in places i).name name t

  is_named_of : (i : ℕ) → Named i → T (is_named name places i)
  unfolding is_named
  is_named_of i e = same_name_of (point_in places i).name name e

  pub named_below_of : (k i : ℕ) → i < k → Named i → T (is_named_below name places k)
  unfolding is_named_below
  named_below_of k i h e = any_of (is_named name places) (up_to k) i (member_up_to k i h) (is_named_of i e)

  pub of_named_below : (k : ℕ) → T (is_named_below name places k) → (i : ℕ) × (i < k) × Named i
  unfolding is_named_below
  of_named_below k t =
      let r = of_any (is_named name places) (up_to k) t in
      (r.0, of_up_to k r.0 r.1, of_is_named r.0 r.2)

  -- the first that has it
  pub first_is_named : (k i : ℕ) → i < k → Named i → ((j : ℕ) → j < i → ¬ Named j) → first_named name places k ≡ i
  unfolding first_named
  first_is_named k i h e before = first_is (is_named name places) k k i h (is_named_of i e) (λ j l t. before j l (of_is_named j t))

  pub first_named_lem : (k : ℕ) → T (is_named_below name places k) → (first_named name places k < k) × Named (first_named name places k)
  unfolding first_named
  first_named_lem k t =
      let r = of_named_below k t in
      let f = first_found (is_named name places) k (up_to k) r.0 (member_up_to k r.0 r.1) (is_named_of r.0 r.2) in
      (of_up_to k _ f.0, of_is_named _ f.1)

  -- none has it
  pub first_unnamed : (k : ℕ) → ((j : ℕ) → j < k → ¬ Named j) → first_named name places k ≡ k
  unfolding first_named
  first_unnamed k h = first_none (is_named name places) k (up_to k) (λ j m t. h j (of_up_to k j m) (of_is_named j t))

  -- as a search from the front finds it
  pub first_found_named : (r : Option ℕ) → MatchOption r (AllWithin (λ p. ¬ (p.name ≡ name)) places 0 (length places)) (λ i. (i < length places) × HoldsAt (λ p. p.name ≡ name) places i × AllWithin (λ p. ¬ (p.name ≡ name)) places 0 i) → (unwrap_or r (length places) ≡ first_named name places (length places)) × (unwrap_or r (length places) ≤ length places)
  unfolding point_in
  first_found_named None f = (sym (first_unnamed (length places) (λ j h. f j no_point (omega arith) h)), omega arith)
  first_found_named (Some i) f = (sym (first_is_named (length places) i f.0 (f.1 no_point) (λ j h. f.2 j no_point (omega arith) h)), omega (arith, f.0))

  pub first_none_named : (k : ℕ) → ¬ T (is_named_below name places k) → first_named name places k ≡ k
  first_none_named k t = first_unnamed k (λ j l e. t (named_below_of k j l e))

  -- so one has it exactly where the first is among them
  pub first_ltb : (k i : ℕ) → i ≡ first_named name places k → ltb i k ≡ is_named_below name places k
  first_ltb k i f =
      elim (T? (is_named_below name places k)) [
        | yes t ↦ lt-ltb i k (let l = (first_named_lem k t).0 in omega arith) ∙ true_is _ t
        | no t ↦ le-ltb i k (let e = first_none_named k t in omega arith) ∙ false_is _ t
      ]
