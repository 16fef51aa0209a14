-- The theorem over lists of calls: a Start makes a bench that is right, and every call keeps it so. A refused call changes nothing, whichever it is;
-- an accepted one that names a sheet changes what `Changed` says.
use Prim.Native.Nat.{ℕ, ◌+◌, ◌<◌}
use mathlib.Core.Bool.{Bool, true, false, not, ◌&&◌, ◌||◌}
use mathlib.Core.List.{List, [], ◌∷◌}
use mathlib.Core.List.Memᴰ.{head as here}
use mathlib.Core.List.Memᴰ.{tail as there}
use mathlib.Core.Logic.{inl, inr, ◌≢◌}
use mathlib.Core.Path.{◌≡◌, refl, sym, ap, ◌∙◌}
use native.Mathlib.Decide.{ℕ_discrete}
use native.Mathlib.Omega.{arith}
use lib.Dec.{T, eqb, eqb→eq, eqb_refl}
use lib.ListN.{length, take}
use Rattle.std.specs.Prelude.{Ok}
use Rattle.equivalence.specs.Equivalence.{Map, identity}
use Rattle.equivalence.specs.Refusal.{lowest}
use Rattle.equivalence.proofs.Maps.{identity_map}
use Rattle.equivalence.specs.Lent.{written}
use Rattle.equivalence.specs.Lists.{up_to, any}
use Rattle.equivalence.proofs.Tests.{T?, right, or_cases, pick, pick_yes, pick_no}
use Rattle.equivalence.specs.declared.Refusal.{Refusal}
use Rattle.algebra.specs.Algebra.{Algebra}
use Rattle.theory.specs.Extremal.{extended}
use Rattle.sheet.specs.Points.{same_name, is_named_below, is_held, place_named, map_under, with_point, without_point}
use Rattle.sheet.specs.Sheet.{map_on, zero_sheet, sheet_with, raised_by}
use Rattle.sheet.specs.declared.Sheet.{Sheet}
use Rattle.sheet.proofs.SheetMaps.{map_on_sheet_with}
use Rattle.sheet.proofs.Storing.{point_map, point_tally, point_places, pointless_map, pointless_tally, pointless_places}
use Rattle.benchtests.specs.Tests.{start_tests}
use Rattle.bench.specs.Calls.{map_by_add, lost_by_add, sheet_by_add, start_call, add_call}
use Rattle.history.specs.Histories.{Call, Start, Add, Clear, Set, Return, Forget, called, Made, History, is_done, next, after}
use Rattle.history.specs.Histories.{SheetState, remapped, where_named, on_sheet, sheet_after, EachLeast, SheetRight, BenchRight, StartsAccepted, HistoryTheorem}
use Rattle.history.specs.Promises.{OnlySheet, LeastExtension}
use Rattle.benchsheets.specs.State.{eight_of, fresh_bench, sheet_of, with_sheet, with_map, blocks_lost}
use Rattle.history.proofs.Adding.{after_add, add_cases, added_length, added_least}
use Rattle.benchsheets.proofs.BenchSheets.{with_sheet_same}
use Rattle.history.proofs.Pointing.{Cases, Settable, Known, after_clear, after_set, after_return, after_forget, clear_cases, set_cases, return_cases, forget_cases, stored_length}
use Rattle.history.proofs.Pointing.{set_held, set_under, forget_held, forget_under}
use Rattle.history.proofs.Promises.{with_sheet_only, equal_sheet}
use Rattle.benchtests.proofs.Testing.{Addable, Clearable}
use Rattle.bench.proofs.Calling.{done_with, refused, benched_passed}
use Rattle.benchsheets.specs.declared.Bench.{Bench}
use Rattle.bench.specs.declared.Benched.{Benched}

abbrev made : Call → Bool → Made
made c accepted = record { call = c; accepted = accepted }

-- the history after a call that gave r
abbrev gave : History → Call → Benched Bench → History
gave h c r = record { made = made c (is_done r.answer) ∷ h.made; bench = r.bench }

next_gave : (h : History) (c : Call) (r : Benched Bench) → called c h.bench ≡ r → next h c ≡ gave h c r
unfolding next
next_gave h c r e = ap (gave h c) e

-- ---- the invariant

-- the bench has eight sheets with eight places each, and is what the calls say
record Kept (h : History) : Type 0 where
  sheets : (k : ℕ) → k < 8 → SheetRight h.bench.n (sheet_of h.bench k) (sheet_after k h.made)
  places : (k : ℕ) → k < 8 → length (sheet_of h.bench k).points ≡ 8
  earlier : h.bench.earlier ≡ 0
  eight : length h.bench.sheets ≡ 8

-- a sheet of a fresh bench
fresh_right : (n : ℕ) (said : SheetState) → SheetRight n (sheet_with (identity n) zero_sheet) (on_sheet 0 (Start n) said)
unfolding on_sheet sheet_with zero_sheet is_held is_named_below up_to any
fresh_right n said = record { size = refl; map = map_on_sheet_with n (identity n) zero_sheet (identity_map n).long; tally = refl; known = λ name. refl; stored = λ name t. absurd t }

start_kept : (h : History) (n : ℕ) → Kept (gave h (Start n) (done_with (fresh_bench n)))
unfolding is_done on_sheet sheet_after fresh_bench eight_of sheet_with zero_sheet
start_kept h n =
    record {
      sheets = λ k o. rw (equal_sheet n k _ o) (fresh_right n (sheet_after k h.made));
      places = λ k o. rw (equal_sheet n k _ o) refl;
      earlier = refl;
      eight = refl;
    }

refused_kept : (h : History) → Kept h → (c : Call) (r : Refusal) → Kept (gave h c (refused r h.bench))
unfolding is_done sheet_after
refused_kept h p c r = record { sheets = p.sheets; places = p.places; earlier = p.earlier; eight = p.eight }

-- an accepted call that names sheet k gave b: that sheet is what `on_sheet` says, and nothing else changed
record Changed (h : History) (c : Call) (k : ℕ) (b : Bench) : Type 0 where
  only : OnlySheet k h.bench b
  own : SheetRight h.bench.n (sheet_of b k) (on_sheet k c (sheet_after k h.made))
  places : length (sheet_of b k).points ≡ 8
  others : (j : ℕ) → j ≢ k → on_sheet j c (sheet_after j h.made) ≡ sheet_after j h.made

module _ (h : History) (p : Kept h) (c : Call) (k : ℕ) (b : Bench) (q : Changed h c k b) where
  changed_right : (j : ℕ) → j < 8 → SheetRight b.n (sheet_of b j) (on_sheet j c (sheet_after j h.made))
  unfolding sheet_of
  changed_right j o =
      elim (ℕ_discrete j k) [
        | yes e ↦ rw (e, q.only.size) q.own
        | no e ↦ rw (q.others j e, q.only.size, q.only.others j e) (p.sheets j o)
      ]

  changed_places : (j : ℕ) → j < 8 → length (sheet_of b j).points ≡ 8
  changed_places j o =
      elim (ℕ_discrete j k) [
        | yes e ↦ rw e q.places
        | no e ↦ rw (q.only.others j e) (p.places j o)
      ]

  changed_kept : Kept (gave h c (done_with b))
  unfolding is_done sheet_after
  changed_kept =
      record {
        sheets = changed_right;
        places = changed_places;
        earlier = q.only.earlier ∙ p.earlier;
        eight = q.only.count ∙ p.eight;
      }

-- ---- what a call does to the sheet that it names, and to the others

module _ (k : ℕ) (new old : SheetState) where
  named_own : where_named k k new old ≡ new
  unfolding where_named
  named_own = pick_yes (eqb k k) new old (eqb_refl k)

  named_other : (j : ℕ) → j ≢ k → where_named k j new old ≡ old
  unfolding where_named
  named_other j h = pick_no (eqb k j) new old (λ t. h (sym (eqb→eq k j t)))

-- one of two that is not the first
second : (a b : Bool) → ¬ T a → T (a || b) → T b
second a b h t = elim (or_cases a b t) [ inl x ↦ absurd (h x) | inr y ↦ y ]

-- a sheet with another map, and a tally raised by the blocks that it lost, is what the state with that map says
remapped_right : (n : ℕ) (s : Sheet) (said : SheetState) → SheetRight n s said → (m : Map) → length m ≡ n → (more tally : ℕ) → tally ≡ s.tally + more
    → SheetRight n (record { map = written m s.map; tally = tally; count = s.count; points = s.points }) (remapped m more said)
unfolding remapped map_on sheet_with is_held place_named map_under
remapped_right n s said r m e more tally f =
    record { size = r.size; map = map_on_sheet_with n m s e; tally = omega (arith, f, r.tally); known = r.known; stored = r.stored }

-- ---- each call

module _ (h : History) (p : Kept h) (k : ℕ) (l : k < 8) where
  abbrev b : Bench
  b = h.bench

  abbrev said : SheetState
  said = sheet_after k h.made

  abbrev old : Sheet
  old = sheet_of b k

  in_range : k < length b.sheets
  in_range = omega (arith, p.eight)

  -- a call that gave sheet k as s, of which `new` says what is on it
  sheet_changed : (c : Call) (s : Sheet) (new : SheetState) → SheetRight b.n s new → length s.points ≡ length old.points → on_sheet k c said ≡ new
      → ((j : ℕ) → j ≢ k → on_sheet j c (sheet_after j h.made) ≡ sheet_after j h.made) → Changed h c k (with_sheet b k s)
  sheet_changed c s new right places own others =
      let same : sheet_of (with_sheet b k s) k ≡ s = with_sheet_same b k s in_range in
      record { only = with_sheet_only b k s; own = rw (same, own) right; places = rw same (places ∙ p.places k l); others = others }

  -- a call that gave it another map, and nothing else
  map_changed : (c : Call) (m : Map) → length m ≡ b.n → on_sheet k c said ≡ remapped m 0 said
      → ((j : ℕ) → j ≢ k → on_sheet j c (sheet_after j h.made) ≡ sheet_after j h.made) → Changed h c k (with_map b k m)
  unfolding with_map sheet_with
  map_changed c m e own others =
      sheet_changed c (sheet_with m old) (remapped m 0 said) (remapped_right b.n old said (p.sheets k l) m e 0 old.tally (omega arith)) refl own others

  clear_changed : Clearable b k → Changed h (Clear k) k (after_clear b k)
  unfolding on_sheet
  clear_changed q =
      let own : on_sheet k (Clear k) said ≡ remapped (identity b.n) 0 said = named_own k _ said ∙ ap (λ (n : ℕ). remapped (identity n) 0 said) (sym (p.sheets k l).size) in
      map_changed (Clear k) (identity b.n) (identity_map b.n).long own (λ j d. named_other k _ _ j d)

  module _ (a : Algebra) (x y : ℕ) (q : Addable b a k x y) where
    old_map : map_on a.size old ≡ said.map
    old_map = rw (← q.placed.faultless.size) (p.sheets k l).map

    new_map : map_by_add b a k x y ≡ extended a said.map x y
    unfolding map_by_add
    new_map = ap (λ (m : Map). extended a m x y) old_map

    more_lost : lost_by_add b a k x y ≡ blocks_lost said.n said.map (extended a said.map x y)
    unfolding lost_by_add
    more_lost = rw (new_map, old_map, ← (p.sheets k l).size, q.placed.faultless.size)

    add_changed : Changed h (Add a k x y) k (after_add b a k x y)
    unfolding on_sheet sheet_by_add raised_by sheet_with
    add_changed =
        sheet_changed (Add a k x y) (sheet_by_add b a k x y) (remapped (map_by_add b a k x y) (lost_by_add b a k x y) said)
        (remapped_right b.n old said (p.sheets k l) (map_by_add b a k x y) (added_length b a k x y q ∙ sym q.placed.faultless.size) (lost_by_add b a k x y) _ refl)
        refl (rw (new_map, more_lost) (named_own k _ said)) (λ j d. named_other k _ _ j d)

  module _ (name : List ℕ) where
    return_changed : Known b k name → Changed h (Return k name) k (after_return b k name)
    unfolding on_sheet
    return_changed q =
        let stored : map_under b.n name old ≡ said.stored name = (p.sheets k l).stored name q.1 in
        map_changed (Return k name) (map_under b.n name old) (stored_length b k p.eight name q) (rw stored (named_own k _ said)) (λ j d. named_other k _ _ j d)

    module _ (q : Settable b k name) where
      abbrev held : List ℕ → Bool
      held other = is_held other (with_point name old)

      set_known : (other : List ℕ) → held other ≡ (same_name other name || said.known other)
      set_known other = set_held b k p.eight name (p.places k l) other q ∙ ap (λ (t : Bool). same_name other name || t) ((p.sheets k l).known other)

      set_stored : (other : List ℕ) → T (held other) → map_under b.n other (with_point name old) ≡ pick (same_name other name) said.map (said.stored other)
      set_stored other t =
          set_under b k p.eight name (p.places k l) other q t
          ∙ elim (T? (same_name other name)) [
            | yes e ↦ pick_yes (same_name other name) _ _ e ∙ (p.sheets k l).map ∙ sym (pick_yes (same_name other name) _ _ e)
            | no e ↦ pick_no (same_name other name) _ _ e
                ∙ (p.sheets k l).stored other (second (same_name other name) _ e (rw (set_held b k p.eight name (p.places k l) other q) at t))
                ∙ sym (pick_no (same_name other name) _ _ e)
          ]

      set_changed : Changed h (Set k name) k (after_set b k name)
      unfolding on_sheet map_on
      set_changed =
          sheet_changed (Set k name) (with_point name old) _
          (record { size = (p.sheets k l).size; map = ap (take b.n) (point_map name old) ∙ (p.sheets k l).map; tally = point_tally name old ∙ (p.sheets k l).tally; known = set_known; stored = set_stored })
          (point_places name old) (named_own k _ said) (λ j d. named_other k _ _ j d)

    module _ (q : Known b k name) where
      forget_known : (other : List ℕ) → is_held other (without_point name old) ≡ (not (same_name other name) && said.known other)
      forget_known other = forget_held b k p.eight name (p.places k l) other q ∙ ap (λ (t : Bool). not (same_name other name) && t) ((p.sheets k l).known other)

      forget_stored : (other : List ℕ) → T (is_held other (without_point name old)) → map_under b.n other (without_point name old) ≡ said.stored other
      forget_stored other t =
          forget_under b k p.eight name (p.places k l) other q t
          ∙ (p.sheets k l).stored other (right (not (same_name other name)) _ (rw (forget_held b k p.eight name (p.places k l) other q) at t))

      forget_changed : Changed h (Forget k name) k (after_forget b k name)
      unfolding on_sheet map_on
      forget_changed =
          sheet_changed (Forget k name) (without_point name old) _
          (record { size = (p.sheets k l).size; map = ap (take b.n) (pointless_map name old) ∙ (p.sheets k l).map; tally = pointless_tally name old ∙ (p.sheets k l).tally; known = forget_known; stored = forget_stored })
          (pointless_places name old) (named_own k _ said) (λ j d. named_other k _ _ j d)

-- ---- every call keeps it

start_gave : (n : ℕ) → lowest (start_tests n) ≡ Ok tt → start_call n ≡ done_with (fresh_bench n)
unfolding start_call
start_gave n e = benched_passed (start_tests n) (fresh_bench n) _ e

next_start : (h : History) (n : ℕ) → lowest (start_tests n) ≡ Ok tt → Kept (next h (Start n))
unfolding called
next_start h n e = rw (next_gave h (Start n) _ (start_gave n e)) (start_kept h n)

-- a call that names a sheet, by its cases
module _ (h : History) (p : Kept h) (c : Call) {Left : Type 0} {after : Bench} where
  by_cases : Cases Left (called c h.bench) after h.bench → (k : ℕ) → (Left → Changed h c k after) → Kept (next h c)
  by_cases cases k changed =
      elim cases [
        | inl q ↦ rw (next_gave h c _ q.1) (changed_kept h p c k _ (changed q.0))
        | inr q ↦ rw (next_gave h c _ q.1) (refused_kept h p c q.0)
      ]

next_kept : (h : History) → Kept h → (c : Call) → ((n : ℕ) → c ≡ Start n → lowest (start_tests n) ≡ Ok tt) → Kept (next h c)
unfolding called
next_kept h p (Start n) s = next_start h n (s n refl)
next_kept h p (Add a k x y) s = by_cases h p (Add a k x y) (add_cases h.bench a k x y) k (λ q. add_changed h p k q.placed.sheet a x y q)
next_kept h p (Clear k) s = by_cases h p (Clear k) (clear_cases h.bench k) k (λ q. clear_changed h p k q.sheet q)
next_kept h p (Set k name) s = by_cases h p (Set k name) (set_cases h.bench k name) k (λ q. set_changed h p k q.0.sheet name q)
next_kept h p (Return k name) s = by_cases h p (Return k name) (return_cases h.bench k name) k (λ q. return_changed h p k q.0.sheet name q)
next_kept h p (Forget k name) s = by_cases h p (Forget k name) (forget_cases h.bench k name) k (λ q. forget_changed h p k q.0.sheet name q)

-- ---- each Add's map is the least

added_map : (before : List Made) (a : Algebra) (k x y : ℕ) → (sheet_after k (made (Add a k x y) true ∷ before)).map ≡ extended a (sheet_after k before).map x y
unfolding sheet_after on_sheet remapped
added_map before a k x y = ap (λ (s : SheetState). s.map) (named_own k _ (sheet_after k before))

not_done : (b : Bench) (a : Algebra) (k x y : ℕ) (r : Refusal) → add_call b a k x y ≡ refused r b → ¬ (is_done (add_call b a k x y).answer ≡ true)
unfolding is_done
not_done b a k x y r e f = let z : false ≡ true = rw e at f in let i : ◌≡◌ {A = ℕ} 0 1 = cc in omega arith

done_addable : (b : Bench) (a : Algebra) (k x y : ℕ) → is_done (add_call b a k x y).answer ≡ true → Addable b a k x y
done_addable b a k x y e =
    elim (add_cases b a k x y) [
      | inl q ↦ q.0
      | inr q ↦ absurd (not_done b a k x y q.0 q.1 e)
    ]

add_least : (h : History) → Kept h → (c : Call) (a : Algebra) (k x y : ℕ) → made c (is_done (called c h.bench).answer) ≡ made (Add a k x y) true
    → LeastExtension a (sheet_after k h.made).map x y (sheet_after k (made c (is_done (called c h.bench).answer) ∷ h.made)).map
unfolding called
add_least h p c a k x y e =
    let i : c ≡ Add a k x y = ap (λ (m : Made). m.call) e in
    let d : is_done (called c h.bench).answer ≡ true = ap (λ (m : Made). m.accepted) e in
    let q : Addable h.bench a k x y = done_addable h.bench a k x y (rw i at d) in
    let l = q.placed.sheet in
    rw (e, added_map h.made a k x y, ← new_map h p k l a x y q, ← old_map h p k l a x y q) (added_least h.bench a k x y q)

next_least : (h : History) → Kept h → EachLeast h.made → (c : Call) → EachLeast (next h c).made
unfolding next EachLeast
next_least h p l c = (λ a k x y e. add_least h p c a k x y e, l)

start_least : (n : ℕ) (accepted : Bool) → EachLeast (made (Start n) accepted ∷ [])
unfolding EachLeast
start_least n accepted = (λ a k x y e. let f : Start n ≡ Add a k x y = ap (λ (m : Made). m.call) e in let z : ◌≡◌ {A = ℕ} 0 1 = cc in absurd (omega arith), tt)

-- ---- the theorem

after_right : (h : History) → Kept h → EachLeast h.made → (calls : List Call) → StartsAccepted calls → BenchRight (after h calls)
unfolding after
after_right h p l [] s = record { sheets = p.sheets; earlier = p.earlier; least = l }
after_right h p l (c ∷ rest) s = after_right (next h c) (next_kept h p c (λ n e. s n (here (sym e)))) (next_least h p l c) rest (λ n i. s n (there i))

pub history_theorem : HistoryTheorem
unfolding after next
history_theorem b n rest s =
    let h : History = record { made = []; bench = b } in
    after_right (next h (Start n)) (next_start h n (s n (here refl))) (start_least n _) rest (λ m i. s m (there i))
