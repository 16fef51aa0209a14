-- The bench with another sheet: that sheet, the others, and what it shares with the one before it; a test of every sheet.
use Prim.Native.Nat.{ℕ, ◌≤◌, ◌<◌}
use mathlib.Core.Bool.{Bool, ◌&&◌}
use mathlib.Core.List.{List, [], ◌∷◌, map}
use mathlib.Core.Logic.{◌≢◌}
use mathlib.Core.Path.{◌≡◌, refl, sym, ap, subst, ◌∙◌}
use native.Mathlib.Decide.{dec_lt, ℕ_discrete}
use native.Mathlib.Omega.{arith}
use lib.Dec.{T}
use lib.ListN.{length, get_or, length-set, length-map}
use lib.Seq.{ext_get_or, get_or-set_same, get_or-set_other, set_out}
use denote.Param.Members.{Mut, Called}
use Rattle.std.specs.Array.{IsMapOf}
use Rattle.std.specs.List.{list_all}
use Rattle.equivalence.specs.Lists.{every}
use Rattle.equivalence.proofs.Lists.{map_at, every_of, of_every, member_at, member_index}
use Rattle.sheet.specs.Sheet.{no_sheet}
use Rattle.sheet.specs.declared.Sheet.{Sheet}
use Rattle.benchsheets.specs.State.{sheet_of, with_sheet}
use Rattle.benchsheets.specs.declared.Bench.{Bench}

module _ (b : Bench) (k : ℕ) (s : Sheet) where
  pub with_sheet_same : k < length b.sheets → sheet_of (with_sheet b k s) k ≡ s
  unfolding with_sheet sheet_of
  with_sheet_same l = get_or-set_same b.sheets k s no_sheet l

  pub with_sheet_other : (j : ℕ) → j ≢ k → sheet_of (with_sheet b k s) j ≡ sheet_of b j
  unfolding with_sheet sheet_of
  with_sheet_other j h = get_or-set_other b.sheets k j s no_sheet h

  with_sheet_outside : length b.sheets ≤ k → (j : ℕ) → sheet_of (with_sheet b k s) j ≡ sheet_of b j
  unfolding with_sheet sheet_of
  with_sheet_outside l j = ap (λ (l : List Sheet). get_or l j no_sheet) (set_out b.sheets k s l)

  pub with_sheet_count : length (with_sheet b k s).sheets ≡ length b.sheets
  unfolding with_sheet
  with_sheet_count = length-set b.sheets k s

  -- what it shares with the one before it stays on every sheet
  pub with_sheet_keeps : {A : Type 0} (of : Sheet → A) → of s ≡ of (sheet_of b k) → (j : ℕ) → of (sheet_of (with_sheet b k s) j) ≡ of (sheet_of b j)
  with_sheet_keeps of e j =
      elim (ℕ_discrete j k) [
        | yes i ↦ elim (dec_lt k (length b.sheets)) [
          | yes l ↦ rw (i, with_sheet_same l) e
          | no l ↦ ap of (with_sheet_outside (omega arith) j)
        ]
        | no i ↦ ap of (with_sheet_other j i)
      ]

-- how long a list is, by what its elements are taken to
pub mapped_length : (A B : Type 0) (f : A → B) (l : List A) (n : ℕ) → length (map f l) ≡ n → length l ≡ n
mapped_length A B f l n e = sym (length-map l f) ∙ e

-- a test of every member, as `all` makes it
pub every_is_all : {A : Type 0} (p : A → Bool) (l : List A) → list_all p l ≡ every p l
unfolding every
every_is_all p [] = refl
every_is_all p (a ∷ l) = ap (λ (r : Bool). p a && r) (every_is_all p l)

-- an array that `map` made, by a function of each member
pub mapped_is : {F A B : Type 0} (g : Mut F (A × Unit {0}) B) (h : A → B) (f : F) (xs : List A) (ys : List B) (n : ℕ) → IsMapOf g f xs ys n → length xs ≡ n → A → B
    → ((p q : F) (x : A) (y : B) → Called g p (x, tt) y q → y ≡ h x) → ys ≡ map h xs
mapped_is g h f xs ys n m e a b each =
    ext_get_or b ys (map h xs) (m.long ∙ sym (length-map xs h ∙ e)) (λ i l.
    let k : i < n = omega (arith, m.long) in
    let r = m.at i a b k in
    each r.0 r.1 (get_or xs i a) (get_or ys i b) r.2 ∙ sym (map_at h xs i a b (omega (arith, e))))

-- a test of every sheet, of any kind, by the sheets' numbers
module _ {A : Type 0} (p : A → Bool) (l : List A) (d : A) where
  pub of_every_at : T (every p l) → (k : ℕ) → k < length l → T (p (get_or l k d))
  of_every_at t k o = of_every p l t (get_or l k d) (member_at l k d o)
