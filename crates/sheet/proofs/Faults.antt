-- The test of a sheet, as the functions make it, and what it leaves where it passes: points under names that differ.
use Prim.Native.Nat.{ℕ, ◌≤◌, ◌<◌}
use mathlib.Core.Bool.{Bool, true, false, not, ◌&&◌}
use mathlib.Core.List.{List}
use mathlib.Core.Path.{◌≡◌, refl, sym, ◌∙◌}
use native.Mathlib.Decide.{dec_lt}
use native.Mathlib.Omega.{arith}
use lib.Dec.{T, leb, leb→le, T_not, not_T}
use lib.ListN.{length, take}
use lib.Seq.{length-take-le}
use borrow.Author.Tests.{le-leb, lt-leb, le-ltb, lt-ltb, not-true, not-false}
use Rattle.equivalence.specs.Equivalence.{is_map}
use Rattle.equivalence.specs.Lists.{up_to, every}
use Rattle.equivalence.proofs.Lists.{of_below, of_up_to}
use Rattle.equivalence.proofs.Tests.{both, left, right, T_of, not_T_of, false_is}
use Rattle.sheet.specs.Points.{point_in, is_named_below, first_named, is_point, is_faultless}
use Rattle.sheet.specs.Sheet.{map_on}
use Rattle.sheet.proofs.Places.{Named, named_below_of, first_ltb, named_below_front, point_in_front, every_same}
use Rattle.sheet.specs.declared.Point.{Point}
use Rattle.sheet.specs.declared.Sheet.{Sheet}

-- ---- the tests as they are made

module _ (n : ℕ) (places : List Point) (i : ℕ) where
  -- the two parts of the test of place i
  abbrev mapped : Bool
  mapped = is_map n (take n (point_in places i).map)

  abbrev named : Bool
  named = is_named_below (point_in places i).name places i

  module _ {flag : Bool} (s : flag ≡ mapped) where
    unmapped : not flag ≡ true → ¬ T (is_point n places i)
    unfolding is_point
    unmapped f t = not_T_of (sym s ∙ not-true flag f) (left mapped (not named) t)

    pub point_right : not flag ≡ false → {r : ℕ} → r ≡ first_named (point_in places i).name places i → i ≤ r → T (is_point n places i)
    unfolding is_point
    point_right f {r} e h =
        both mapped (not named) (T_of (sym s ∙ not-false flag f)) (not_T named (not_T_of (sym (first_ltb _ places i r e) ∙ le-ltb r i h)))

  alike : (j : ℕ) → j < i → Named (point_in places i).name places j → ¬ T (is_point n places i)
  unfolding is_point
  alike j l e t = T_not named (right mapped (not named) t) (named_below_of _ places i j l e)

  module _ (count : ℕ) (h : i < count) where
    not_every : ¬ T (is_point n places i) → false ≡ every (is_point n places) (up_to count)
    not_every f = false_is _ (λ t. f (of_below count (is_point n places) t i h))

    pub points_unmapped : {flag : Bool} → flag ≡ mapped → not flag ≡ true → false ≡ every (is_point n places) (up_to count)
    points_unmapped s f = not_every (unmapped s f)

    pub points_alike : {r : ℕ} → r ≡ first_named (point_in places i).name places i → r < i → false ≡ every (is_point n places) (up_to count)
    unfolding is_point
    points_alike {r} e l = not_every (λ t. T_not named (right mapped (not named) t) (T_of (sym (first_ltb _ places i r e) ∙ lt-ltb r i l)))

-- the front of the places, by its own places
pub points_front : (n : ℕ) (places : List Point) (k : ℕ) → k ≤ length places → every (is_point n (take k places)) (up_to (length (take k places))) ≡ every (is_point n places) (up_to k)
unfolding is_point
points_front n places k h =
    rw (length-take-le k places h) (every_same _ _ (up_to k) (λ i m. let l : i < k = of_up_to k i m in
    rw (point_in_front places k i l, named_below_front places k (point_in places i).name i (omega arith)) refl))

module _ (n : ℕ) (s : Sheet) {flag : Bool} (e : flag ≡ is_map n (take n s.map)) where
  pub sheet_unmapped : not flag ≡ true → false ≡ is_faultless n s
  unfolding is_faultless map_on
  sheet_unmapped f = simp (sym e ∙ not-true flag f)

  module _ (f : not flag ≡ false) where
    pub sheet_crowded : 8 < s.count → false ≡ is_faultless n s
    unfolding is_faultless map_on
    sheet_crowded h = simp (sym e ∙ not-false flag f, lt-leb s.count 8 h)

    pub sheet_last : s.count ≤ 8 → s.count ≤ length s.points → {rest : Bool} → rest ≡ every (is_point n (take s.count s.points)) (up_to (length (take s.count s.points))) → rest ≡ is_faultless n s
    unfolding is_faultless map_on
    sheet_last h k g = g ∙ points_front n s.points s.count k ∙ simp (sym e ∙ not-false flag f, le-leb s.count 8 h)

-- ---- what they leave

-- held points have names that differ
abbrev pub Apart : Sheet → Type 0
Apart s = (i j : ℕ) → i < s.count → j < s.count → (point_in s.points i).name ≡ (point_in s.points j).name → i ≡ j

pub record Faultless (n : ℕ) (s : Sheet) : Type 0 where
  pub map : T (is_map n (map_on n s))
  pub few : s.count ≤ 8
  pub stored : (i : ℕ) → i < s.count → T (is_map n (take n (point_in s.points i).map))
  pub apart : Apart s

module _ (n : ℕ) (s : Sheet) where
  module _ (right-all : (i : ℕ) → i < s.count → T (is_point n s.points i)) where
    new_name : (i j : ℕ) → i < j → j < s.count → ¬ ((point_in s.points i).name ≡ (point_in s.points j).name)
    new_name i j h l e = alike n s.points j i h e (right-all j l)

    names_apart : Apart s
    names_apart i j h l e =
        elim (dec_lt i j) [
          | yes k ↦ absurd (new_name i j k l e)
          | no k ↦ elim (dec_lt j i) [ yes m ↦ absurd (new_name j i m h (sym e)) | no m ↦ omega arith ]
        ]

    points_mapped : (i : ℕ) → i < s.count → T (is_map n (take n (point_in s.points i).map))
    unfolding is_point
    points_mapped i h = left (is_map n (take n (point_in s.points i).map)) _ (right-all i h)

  pub of_faultless : T (is_faultless n s) → Faultless n s
  unfolding is_faultless
  of_faultless t =
      let points : Bool = every (is_point n s.points) (up_to s.count) in
      let few : Bool = leb s.count 8 in
      let rest : T (few && points) = right (is_map n (map_on n s)) (few && points) t in
      let each : (i : ℕ) → i < s.count → T (is_point n s.points i) = of_below s.count (is_point n s.points) (right few points rest) in
      record {
        map = left (is_map n (map_on n s)) (few && points) t;
        few = leb→le s.count 8 (left few points rest);
        stored = points_mapped each;
        apart = names_apart each;
      }
