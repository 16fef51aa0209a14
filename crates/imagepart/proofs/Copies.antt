-- Arrays made element by element, and bytes copied into a part of lent ones.
use Prim.Native.Nat.{ℕ, zero, suc, ◌+◌, ◌-◌, ◌≤◌, ◌<◌, min}
use mathlib.Core.List.{List, ◌++◌, map}
use mathlib.Core.Path.{◌≡◌, refl, sym, ap, subst, ◌∙◌}
use native.Mathlib.Decide.{dec_lt, ℕ_discrete}
use native.Mathlib.Omega.{arith}
use lib.ListN.{length, get_or, take, drop, length-map}
use lib.Seq.{ext_get_or, drop-drop, take_all, length-take-le}
use denote.Param.Members.{Mut, Called}
use borrow.Rule.Slice.PartMut.{put_mid}
use Rattle.std.specs.Array.{IsFromFnResult, IsFromFnResultFrom}
use Rattle.equivalence.specs.Lent.{written}
use Rattle.equivalence.specs.Lists.{up_to}
use Rattle.equivalence.proofs.Laying.{laid_parts}
use Rattle.equivalence.proofs.Lists.{up_to_length, table_at}
use Rattle.imagepart.specs.Copies.{copied}
use Rattle.imagepart.specs.InnerSteps.{Laid}

-- ---- an array that `from_fn` made, by a function of each number

pub table_length : {A : Type 0} (g : ℕ → A) → length (map g (up_to 8)) ≡ 8
table_length g = length-map (up_to 8) g ∙ up_to_length 8

module _ {F B : Type 0} (g : Mut F (ℕ × Unit {0}) B) (h : ℕ → B) (f : F) (each : (q : F) (i : ℕ) (y : B) → Called g f (i, tt) y q → (q ≡ f) × (y ≡ h i)) where
  tabled_from : (n i j : ℕ) (ys : List B) (d : B) → IsFromFnResultFrom g f ys i n → i ≤ j → j < i + n → get_or ys j d ≡ h j
  tabled_from zero i j ys d r l k = absurd (omega arith)
  tabled_from (suc n) i j ys d r l k =
      let e = each r.0 i r.1 r.3 in
      elim (ℕ_discrete j i) [
        | yes p ↦ rw p (r.2.1 d ∙ e.1)
        | no p ↦ tabled_from n (i + 1) j ys d (subst (λ (p : F). IsFromFnResultFrom g p ys (i + 1) n) e.0 r.4) (omega arith) (omega arith)
      ]

  pub tabled_is : (n : ℕ) (ys : List B) → IsFromFnResult g f ys n → B → ys ≡ map h (up_to n)
  tabled_is n ys r d =
      ext_get_or d ys (map h (up_to n)) (r.long ∙ sym (length-map (up_to n) h ∙ up_to_length n))
      (λ i l. tabled_from n 0 i ys d r.each (omega arith) (omega (arith, r.long)) ∙ sym (table_at h n i d (omega (arith, r.long))))

-- ---- parts of slices

-- as many bytes as both have, copied
pub copied_least : (part lent : List ℕ) → take (min (length part) (length lent)) part ++ drop (min (length part) (length lent)) lent ≡ copied part lent
unfolding copied written
copied_least part lent =
    elim (dec_lt (length part) (length lent)) [
      | yes h ↦ let e : min (length part) (length lent) ≡ length part = omega arith in
          rw (e, take_all (length part) part (omega arith), take_all (length lent) part (omega arith)) refl
      | no h ↦ let e : min (length part) (length lent) ≡ length lent = omega arith in
          rw (e, length-take-le (length lent) part (omega arith)) refl
    ]

-- bytes copied into a part of others are laid there
pub laid_part : (to : ℕ) (l new mid : List ℕ) → mid ≡ new → Laid (length new) new to l (put_mid to (to + length new - to) l mid)
laid_part to l new mid e =
    let width : to + length new - to ≡ length new = omega arith in
    record { long = refl; bytes = rw (e, width, laid_parts l to new) (ap (λ (back : List ℕ). take to l ++ (new ++ back)) (drop-drop (length new) to l)) }
