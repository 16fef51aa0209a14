-- Set and Forget: the place of a held point, and the sheet with a point more or less, by its points' names.
use Prim.Native.Nat.{ℕ, suc, ◌-◌, ◌≤◌, ◌<◌}
use mathlib.Core.Bool.{Bool, true, false, not, ◌&&◌, ◌||◌}
use mathlib.Core.List.{List}
use mathlib.Core.Logic.{◌≢◌, inl, inr}
use mathlib.Core.Path.{◌≡◌, refl, sym, ap, subst, ◌∙◌}
use native.Mathlib.Decide.{ℕ_discrete}
use native.Mathlib.Omega.{arith}
use lib.Dec.{T, eqb, T_not, not_T}
use lib.ListN.{length, take, set, length-set}
use lib.Seq.{get_or-set_same, get_or-set_other}
use Rattle.equivalence.proofs.Maps.{of_is_map}
use Rattle.equivalence.proofs.Tests.{T?, both, left, right, or_left, or_right, or_cases, eq→eqb, pick, pick_yes, pick_no}
use Rattle.sheet.specs.Points.{same_name, point_in, is_held, is_full_for, place_named, map_under, with_point, without_point}
use Rattle.sheet.specs.Sheet.{map_on, no_point}
use Rattle.sheet.proofs.Faults.{Apart, Faultless}
use Rattle.sheet.proofs.Names.{of_same_name, same_name_of}
use Rattle.sheet.proofs.Places.{Named, named_below_of, of_named_below, first_named_lem, first_none_named}
use Rattle.sheet.specs.declared.Point.{Point}
use Rattle.sheet.specs.declared.Sheet.{Sheet}

-- ---- which names are held, and where

module _ (name : List ℕ) (s : Sheet) where
  held_of : (i : ℕ) → i < s.count → Named name s.points i → T (is_held name s)
  unfolding is_held
  held_of i h e = named_below_of name s.points s.count i h e

  of_held : T (is_held name s) → (i : ℕ) × (i < s.count) × Named name s.points i
  unfolding is_held
  of_held t = of_named_below name s.points s.count t

  pub held_place : T (is_held name s) → (place_named name s < s.count) × Named name s.points (place_named name s)
  unfolding is_held place_named
  held_place t = first_named_lem name s.points s.count t

  free_place : ¬ T (is_held name s) → place_named name s ≡ s.count
  unfolding is_held place_named
  free_place t = first_none_named name s.points s.count t

  -- the place that with_point fills, and how many are then held
  pub stored_in : (place : ℕ) → place ≡ place_named name s → (count : ℕ) → (place < s.count → count ≡ s.count) → (s.count ≤ place → count ≡ suc s.count)
      → record { map = s.map; tally = s.tally; count = count; points = set s.points place (record { name = name; map = s.map }) } ≡ with_point name s
  unfolding with_point
  stored_in place e count old new =
      elim (T? (is_held name s)) [
        | yes t ↦ let c : count ≡ s.count = old (let l = (held_place t).0 in omega arith) in
            rw (c, e, pick_yes (is_held name s) s.count (suc s.count) t) refl
        | no t ↦ let c : count ≡ suc s.count = new (let l = free_place t in omega arith) in
            rw (c, e, pick_no (is_held name s) s.count (suc s.count) t) refl
      ]

-- a name that is held, or for which a place is free, has a place
pub place_room : (name : List ℕ) (s : Sheet) → s.count ≤ 8 → ¬ T (is_full_for name s) → place_named name s < 8
unfolding is_full_for
place_room name s few h =
    elim (T? (is_held name s)) [
      | yes t ↦ omega (arith, (held_place name s t).0)
      | no t ↦ elim (ℕ_discrete s.count 8) [
        | yes e ↦ absurd (h (both (not (is_held name s)) (eqb s.count 8) (not_T (is_held name s) t) (eq→eqb s.count 8 e)))
        | no e ↦ omega (arith, free_place name s t, e)
      ]
    ]

-- the map under a held name is one over n
pub under_length : (n : ℕ) (name : List ℕ) (s : Sheet) → Faultless n s → T (is_held name s) → length (map_under n name s) ≡ n
unfolding map_under
under_length n name s f t = (of_is_map n _ (f.stored (place_named name s) (held_place name s t).0)).long

-- points that differ in names: a name's place is where it is found
place_is : (name : List ℕ) (s : Sheet) → Apart s → (i : ℕ) → i < s.count → Named name s.points i → place_named name s ≡ i
place_is name s apart i h e = let p = held_place name s (held_of name s i h e) in apart (place_named name s) i p.0 h (p.1 ∙ sym e)

-- a held point of one sheet that is one of another under the same name has the same map there
same_map : (n : ℕ) (name : List ℕ) (s t : Sheet) → Apart s → T (is_held name t) → (i : ℕ) → i < s.count → point_in t.points (place_named name t) ≡ point_in s.points i
    → map_under n name t ≡ map_under n name s
unfolding map_under
same_map n name s t apart h i l e =
    let there : Named name s.points i = ap (λ (p : Point). p.name) (sym e) ∙ (held_place name t h).1 in
    ap (λ (p : Point). take n p.map) e ∙ ap (λ (j : ℕ). take n (point_in s.points j).map) (sym (place_is name s apart i l there))

-- a point put in place i, and the others
module _ (places : List Point) (i : ℕ) (p : Point) where
  put_here : (j : ℕ) → j ≡ i → i < length places → point_in (set places i p) j ≡ p
  unfolding point_in
  put_here j e l = rw e (get_or-set_same places i p no_point l)

  put_elsewhere : (j : ℕ) → j ≢ i → point_in (set places i p) j ≡ point_in places j
  unfolding point_in
  put_elsewhere j h = get_or-set_other places i j p no_point h

abbrev name_of : Point → List ℕ
name_of p = p.name

-- tests that pass together are equal
same_test : (a b : Bool) → (T a → T b) → (T b → T a) → a ≡ b
same_test true true f g = refl
same_test true false f g = absurd (f tt)
same_test false true f g = absurd (g tt)
same_test false false f g = refl

-- ---- Set

-- the sheet's own map stays, and how many places there are
pub point_map : (name : List ℕ) (s : Sheet) → (with_point name s).map ≡ s.map
unfolding with_point
point_map name s = refl

pub point_tally : (name : List ℕ) (s : Sheet) → (with_point name s).tally ≡ s.tally
unfolding with_point
point_tally name s = refl

pub point_places : (name : List ℕ) (s : Sheet) → length (with_point name s).points ≡ length s.points
unfolding with_point
point_places name s = length-set s.points _ _

module _ (name : List ℕ) (s : Sheet) (eight : length s.points ≡ 8) (room : place_named name s < 8) where
  abbrev stored : Point
  stored = record { name = name; map = s.map }

  abbrev place : ℕ
  place = place_named name s

  -- the place is held afterwards, and of the others those that were
  set_count : (j : ℕ) → j < (with_point name s).count → j ≢ place → j < s.count
  unfolding with_point
  set_count j h d =
      elim (T? (is_held name s)) [
        | yes t ↦ let c = pick_yes (is_held name s) s.count (suc s.count) t in omega arith
        | no t ↦ let c = pick_no (is_held name s) s.count (suc s.count) t in let f = free_place name s t in omega arith
      ]

  set_held : (place < (with_point name s).count) × (s.count ≤ (with_point name s).count)
  unfolding with_point
  set_held =
      elim (T? (is_held name s)) [
        | yes t ↦ let c = pick_yes (is_held name s) s.count (suc s.count) t in let f = (held_place name s t).0 in (omega arith, omega arith)
        | no t ↦ let c = pick_no (is_held name s) s.count (suc s.count) t in let f = free_place name s t in (omega arith, omega arith)
      ]

  set_here : (j : ℕ) → j ≡ place → point_in (with_point name s).points j ≡ stored
  unfolding with_point
  set_here j e = put_here s.points place stored j e (omega arith)

  set_elsewhere : (j : ℕ) → j ≢ place → point_in (with_point name s).points j ≡ point_in s.points j
  unfolding with_point
  set_elsewhere j h = put_elsewhere s.points place stored j h

  -- the name is held
  set_known : T (is_held name (with_point name s))
  set_known = held_of name (with_point name s) place set_held.0 (ap name_of (set_here place refl))

  -- and the names that were
  set_keeps : (other : List ℕ) → T (is_held other s) → T (is_held other (with_point name s))
  set_keeps other t =
      let h = of_held other s t in
      let c = set_held in
      elim (ℕ_discrete h.0 place) [
        | yes e ↦ let same : name ≡ other = sym (held_place name s (held_here h.0 h.1 e)).1 ∙ ap (λ (j : ℕ). (point_in s.points j).name) (sym e) ∙ h.2 in
            subst (λ (q : List ℕ). T (is_held q (with_point name s))) same set_known
        | no e ↦ held_of other (with_point name s) h.0 (omega (arith, h.1, c.1)) (ap name_of (set_elsewhere h.0 e) ∙ h.2)
      ]
    where
      held_here : (j : ℕ) → j < s.count → j ≡ place → T (is_held name s)
      held_here j l e =
          elim (T? (is_held name s)) [
            | yes t ↦ t
            | no t ↦ absurd (let f = free_place name s t in omega arith)
          ]

  -- no others
  set_only : (other : List ℕ) → T (is_held other (with_point name s)) → other ≢ name → T (is_held other s)
  set_only other t d =
      let h = of_held other (with_point name s) t in
      let e : h.0 ≢ place = λ e. d (sym h.2 ∙ ap name_of (set_here h.0 e)) in
      held_of other s h.0 (set_count h.0 h.1 e) (sym (ap name_of (set_elsewhere h.0 e)) ∙ h.2)

  pub set_names : (other : List ℕ) → is_held other (with_point name s) ≡ (same_name other name || is_held other s)
  set_names other =
      let same : Bool = same_name other name in
      let held : Bool = is_held other s in
      same_test _ _ (λ t. elim (T? same) [ yes e ↦ or_left same held e | no e ↦ or_right same held (set_only other t (λ f. e (same_name_of _ _ f))) ])
      (λ t. elim (or_cases same held t) [
        | inl e ↦ subst (λ (q : List ℕ). T (is_held q (with_point name s))) (sym (of_same_name _ _ e)) set_known
        | inr h ↦ set_keeps other h
      ])

  module _ (n : ℕ) (apart : Apart s) where
    -- under the name is the sheet's map
    set_map : map_under n name (with_point name s) ≡ map_on n s
    unfolding map_under map_on
    set_map =
        let t = held_place name (with_point name s) set_known in
        elim (ℕ_discrete (place_named name (with_point name s)) place) [
          | yes e ↦ ap (λ (p : Point). take n p.map) (set_here _ e)
          | no e ↦ let old : Named name s.points (place_named name (with_point name s)) = sym (ap name_of (set_elsewhere _ e)) ∙ t.1 in
              absurd (e (sym (place_is name s apart _ (set_count _ t.0 e) old)))
        ]

    -- under the others what was there
    set_others : (other : List ℕ) → T (is_held other (with_point name s)) → other ≢ name → map_under n other (with_point name s) ≡ map_under n other s
    set_others other t d =
        let h = held_place other (with_point name s) t in
        let e : place_named other (with_point name s) ≢ place = λ e. d (sym h.1 ∙ ap name_of (set_here _ e)) in
        same_map n other s (with_point name s) apart t _ (set_count _ h.0 e) (set_elsewhere _ e)

    pub set_stored : (other : List ℕ) → T (is_held other (with_point name s)) → map_under n other (with_point name s) ≡ pick (same_name other name) (map_on n s) (map_under n other s)
    set_stored other t =
        elim (T? (same_name other name)) [
          | yes e ↦ ap (λ (q : List ℕ). map_under n q (with_point name s)) (of_same_name _ _ e) ∙ set_map ∙ sym (pick_yes (same_name other name) _ _ e)
          | no e ↦ set_others other t (λ f. e (same_name_of _ _ f)) ∙ sym (pick_no (same_name other name) _ _ e)
        ]

-- ---- Forget

pub pointless_map : (name : List ℕ) (s : Sheet) → (without_point name s).map ≡ s.map
unfolding without_point
pointless_map name s = refl

pub pointless_tally : (name : List ℕ) (s : Sheet) → (without_point name s).tally ≡ s.tally
unfolding without_point
pointless_tally name s = refl

pub pointless_places : (name : List ℕ) (s : Sheet) → length (without_point name s).points ≡ length s.points
unfolding without_point
pointless_places name s = length-set s.points _ _

module _ (name : List ℕ) (s : Sheet) (eight : length s.points ≡ 8) (few : s.count ≤ 8) (apart : Apart s) (known : T (is_held name s)) where
  abbrev freed : ℕ
  freed = place_named name s

  abbrev last : ℕ
  last = s.count - 1

  freed_held : freed < s.count
  freed_held = (held_place name s known).0

  forget_count : (without_point name s).count ≡ last
  unfolding without_point
  forget_count = refl

  forget_here : (j : ℕ) → j ≡ freed → point_in (without_point name s).points j ≡ point_in s.points last
  unfolding without_point
  forget_here j e = put_here s.points freed (point_in s.points last) j e (let h = freed_held in omega arith)

  forget_elsewhere : (j : ℕ) → j ≢ freed → point_in (without_point name s).points j ≡ point_in s.points j
  unfolding without_point
  forget_elsewhere j h = put_elsewhere s.points freed (point_in s.points last) j h

  -- where a point that is held afterwards was before: held, and not in the freed place
  was : (j : ℕ) → j < (without_point name s).count → (i : ℕ) × (i < s.count) × (i ≢ freed) × (point_in (without_point name s).points j ≡ point_in s.points i)
  was j h =
      let c = forget_count in
      let f = freed_held in
      elim (ℕ_discrete j freed) [
        | yes e ↦ (last, omega arith, λ g. omega arith, forget_here j e)
        | no e ↦ (j, omega arith, e, forget_elsewhere j e)
      ]

  -- the name is held no more
  forget_gone : ¬ T (is_held name (without_point name s))
  forget_gone t =
      let h = of_held name (without_point name s) t in
      let w = was h.0 h.1 in
      w.2 (sym (place_is name s apart w.0 w.1 (sym (ap name_of w.3) ∙ h.2)))

  -- no new ones
  forget_only : (other : List ℕ) → T (is_held other (without_point name s)) → T (is_held other s)
  forget_only other t =
      let h = of_held other (without_point name s) t in
      let w = was h.0 h.1 in
      held_of other s w.0 w.1 (sym (ap name_of w.3) ∙ h.2)

  -- the others stay
  forget_keeps : (other : List ℕ) → T (is_held other s) → other ≢ name → T (is_held other (without_point name s))
  forget_keeps other t d =
      let h = of_held other s t in
      let c = forget_count in
      let f = freed_held in
      let e : h.0 ≢ freed = λ e. d (sym h.2 ∙ ap (λ (j : ℕ). (point_in s.points j).name) e ∙ (held_place name s known).1) in
      elim (ℕ_discrete h.0 last) [
        | yes l ↦ held_of other (without_point name s) freed (omega (arith, e, l)) (ap name_of (forget_here freed refl) ∙ ap (λ (j : ℕ). (point_in s.points j).name) (sym l) ∙ h.2)
        | no l ↦ held_of other (without_point name s) h.0 (omega (arith, h.1)) (ap name_of (forget_elsewhere h.0 e) ∙ h.2)
      ]

  pub forget_names : (other : List ℕ) → is_held other (without_point name s) ≡ (not (same_name other name) && is_held other s)
  forget_names other =
      let same : Bool = same_name other name in
      let held : Bool = is_held other s in
      let gone : T (is_held other (without_point name s)) → ¬ T same =
      λ t e. forget_gone (subst (λ (q : List ℕ). T (is_held q (without_point name s))) (of_same_name _ _ e) t) in
      same_test _ _ (λ t. both (not same) held (not_T same (gone t)) (forget_only other t))
      (λ t. forget_keeps other (right (not same) held t) (λ e. T_not same (left (not same) held t) (same_name_of _ _ e)))

  -- with what is under them
  pub forget_stored : (n : ℕ) (other : List ℕ) → T (is_held other (without_point name s)) → map_under n other (without_point name s) ≡ map_under n other s
  forget_stored n other t =
      let w = was _ (held_place other (without_point name s) t).0 in
      same_map n other s (without_point name s) apart t w.0 w.1 w.3
