-- The nine numbers together: an accepted Add raises one tally by the blocks that its sheet lost, and no other call but Start moves any of the nine.
use Prim.Native.Nat.{ℕ, zero, suc, ◌+◌, ◌<◌}
use mathlib.Core.Bool.{true, false}
use mathlib.Core.List.{List, [], ◌∷◌}
use mathlib.Core.List.Memᴰ.{head as here}
use mathlib.Core.List.Memᴰ.{tail as there}
use mathlib.Core.Logic.{inl, inr, ◌≢◌}
use mathlib.Core.Path.{◌≡◌, refl, sym, ap, ◌∙◌}
use native.Mathlib.Decide.{ℕ_discrete}
use native.Mathlib.Omega.{arith}
use lib.ListN.{length, length-map}
use Rattle.equivalence.proofs.Lists.{map_at}
use Rattle.equivalence.specs.declared.Refusal.{Refusal}
use Rattle.algebra.specs.Algebra.{Algebra}
use Rattle.sheet.specs.Sheet.{map_on, sheet_with, no_sheet}
use Rattle.sheet.specs.declared.Sheet.{Sheet}
use Rattle.sheet.proofs.Storing.{point_tally, pointless_tally}
use Rattle.bench.specs.Calls.{lost_by_add, sheet_by_add, add_call}
use Rattle.benchsheets.specs.State.{sheet_of, with_sheet, with_map, blocks_lost}
use Rattle.benchsheets.proofs.BenchSheets.{with_sheet_keeps}
use Rattle.benchtests.proofs.Testing.{Addable}
use Rattle.bench.proofs.Calling.{done_with, refused}
use Rattle.benchsheets.specs.declared.Bench.{Bench}
use Rattle.bench.specs.declared.Benched.{Benched}
use Rattle.oldbenches.specs.OldKinds.{no_sheet_v3}
use Rattle.conversion.specs.Conversion.{untallied, with_tallies, convert_v3_call}
use Rattle.conversion.proofs.Conversions.{third_done}
use Rattle.oldbenches.specs.declared.BenchV3.{BenchV3}
use Rattle.history.specs.Histories.{Call, Start, Add, Clear, Set, Return, Forget, called, History, is_done, next, after}
use Rattle.history.specs.Sums.{tallies, nine, lost_by, lost_along, Startless, SumRight, SumTheorem}
use Rattle.history.proofs.Adding.{after_add, add_cases, after_add_sheet, by_add_map, by_add_tally}
use Rattle.history.proofs.Pointing.{Cases, clear_cases, set_cases, return_cases, forget_cases}
use Rattle.history.proofs.Promises.{with_sheet_only}

-- ---- the eight

module _ (b after : Bench) where
  tallies_same : (count : ℕ) → ((j : ℕ) → j < count → (sheet_of after j).tally ≡ (sheet_of b j).tally) → tallies count after ≡ tallies count b
  unfolding tallies
  tallies_same zero h = refl
  tallies_same (suc count) h = omega (arith, tallies_same count (λ j l. h j (omega arith)), h count (omega arith))

  -- one is more
  tallies_more : (count k more : ℕ) → k < count → (sheet_of after k).tally ≡ (sheet_of b k).tally + more → ((j : ℕ) → j ≢ k → sheet_of after j ≡ sheet_of b j)
      → tallies count after ≡ tallies count b + more
  unfolding tallies
  tallies_more zero k more l own others = absurd (omega arith)
  tallies_more (suc count) k more l own others =
      let tally : (j : ℕ) → j ≢ k → (sheet_of after j).tally ≡ (sheet_of b j).tally = λ j d. ap (λ (s : Sheet). s.tally) (others j d) in
      elim (ℕ_discrete count k) [
        | yes e ↦ let last : (sheet_of after count).tally ≡ (sheet_of b count).tally + more = rw e own in
            omega (arith, tallies_same count (λ j i. tally j (λ f. omega arith)), last)
        | no e ↦ omega (arith, tallies_more count k more (omega arith) own others, tally count e)
      ]

-- ---- one call

-- what a call that cost `more` blocks did to the nine
record Stepped (b after : Bench) (more : ℕ) : Type 0 where
  earlier : after.earlier ≡ b.earlier
  eight : length after.sheets ≡ length b.sheets
  sum : tallies 8 after ≡ tallies 8 b + more

module _ (b : Bench) where
  still : Stepped b b 0
  still = record { earlier = refl; eight = refl; sum = omega arith }

  -- a sheet with the tally of the one before it
  with_sheet_stepped : (k : ℕ) (s : Sheet) → s.tally ≡ (sheet_of b k).tally → Stepped b (with_sheet b k s) 0
  with_sheet_stepped k s e =
      let only = with_sheet_only b k s in
      record {
        earlier = only.earlier;
        eight = only.count;
        sum = omega (arith, tallies_same b (with_sheet b k s) 8 (λ j l. with_sheet_keeps b k s (λ (t : Sheet). t.tally) e j));
      }

  -- a call that gives such a sheet, or is refused
  cases_stepped : {Left : Type 0} (r : Benched Bench) (k : ℕ) (s : Sheet) → Cases Left r (with_sheet b k s) b → s.tally ≡ (sheet_of b k).tally → Stepped b r.bench 0
  cases_stepped r k s cases e =
      elim cases [
        | inl q ↦ rw q.1 (with_sheet_stepped k s e)
        | inr q ↦ rw q.1 still
      ]

  module _ (eight : length b.sheets ≡ 8) (a : Algebra) (k x y : ℕ) where
    -- the blocks that sheet k lost, where the Add gave r
    abbrev lost_in : Benched Bench → ℕ
    lost_in r = elim (is_done r.answer) [ true ↦ blocks_lost b.n (map_on b.n (sheet_of b k)) (map_on b.n (sheet_of r.bench k)) | false ↦ 0 ]

    -- an accepted Add
    module _ (p : Addable b a k x y) (e : add_call b a k x y ≡ done_with (after_add b a k x y)) where
      added_lost : lost_by (Add a k x y) b ≡ lost_by_add b a k x y
      unfolding lost_by is_done lost_by_add
      added_lost = ap lost_in e ∙ rw (after_add_sheet b a k x y p eight, by_add_map b a k x y p, p.placed.faultless.size) refl

      added_stepped : Stepped b (after_add b a k x y) (lost_by_add b a k x y)
      added_stepped =
          let only = with_sheet_only b k (sheet_by_add b a k x y) in
          let own : (sheet_of (after_add b a k x y) k).tally ≡ (sheet_of b k).tally + lost_by_add b a k x y =
          ap (λ (s : Sheet). s.tally) (after_add_sheet b a k x y p eight) ∙ by_add_tally b a k x y p in
          record { earlier = only.earlier; eight = only.count; sum = tallies_more b (after_add b a k x y) 8 k (lost_by_add b a k x y) p.placed.sheet own only.others }

    refused_lost : (r : Refusal) → add_call b a k x y ≡ refused r b → lost_by (Add a k x y) b ≡ 0
    unfolding lost_by is_done
    refused_lost r e = ap lost_in e

    add_stepped : Stepped b (add_call b a k x y).bench (lost_by (Add a k x y) b)
    add_stepped =
        elim (add_cases b a k x y) [
          | inl q ↦ rw (added_lost q.0 q.1, q.1) (added_stepped q.0 q.1)
          | inr q ↦ rw (refused_lost q.0 q.1, q.1) still
        ]

step : (b : Bench) → length b.sheets ≡ 8 → (c : Call) → ((n : ℕ) → ¬ (c ≡ Start n)) → Stepped b (called c b).bench (lost_by c b)
unfolding called lost_by with_map sheet_with
step b eight (Start n) s = absurd (s n refl)
step b eight (Add a k x y) s = add_stepped b eight a k x y
step b eight (Clear k) s = cases_stepped b _ k _ (clear_cases b k) refl
step b eight (Set k name) s = cases_stepped b _ k _ (set_cases b k name) (point_tally name (sheet_of b k))
step b eight (Return k name) s = cases_stepped b _ k _ (return_cases b k name) refl
step b eight (Forget k name) s = cases_stepped b _ k _ (forget_cases b k name) (pointless_tally name (sheet_of b k))

-- ---- a list of calls

along : (h : History) → length h.bench.sheets ≡ 8 → (calls : List Call) → Startless calls
    → ((after h calls).bench.earlier ≡ h.bench.earlier) × (tallies 8 (after h calls).bench ≡ tallies 8 h.bench + lost_along calls h.bench)
unfolding after next lost_along
along h e [] s = (refl, omega arith)
along h e (c ∷ rest) s =
    let q = step h.bench e c (λ n f. s n (here (sym f))) in
    let r = along (next h c) (q.eight ∙ e) rest (λ n i. s n (there i)) in
    (r.0 ∙ q.earlier, omega (arith, r.1, q.sum))

-- ---- from a conversion

module _ (old : BenchV3) (eight : length old.sheets ≡ 8) where
  converted_tally : (j : ℕ) → j < 8 → (sheet_of (with_tallies old) j).tally ≡ 0
  unfolding with_tallies sheet_of untallied
  converted_tally j l = ap (λ (s : Sheet). s.tally) (map_at untallied old.sheets j no_sheet_v3 no_sheet (omega (arith, eight)))

  zero_tallies : (count : ℕ) → ((j : ℕ) → j < count → (sheet_of (with_tallies old) j).tally ≡ 0) → tallies count (with_tallies old) ≡ 0
  unfolding tallies
  zero_tallies zero h = refl
  zero_tallies (suc count) h = omega (arith, zero_tallies count (λ j l. h j (omega arith)), h count (omega arith))

  converted_eight : length (with_tallies old).sheets ≡ 8
  unfolding with_tallies
  converted_eight = length-map old.sheets untallied ∙ eight

  converted_right : (convert_v3_call old).bench ≡ with_tallies old → (calls : List Call) → Startless calls → SumRight old calls
  unfolding nine with_tallies
  converted_right e calls s =
      let r = along (record { made = []; bench = with_tallies old }) converted_eight calls s in
      record { earlier = rw e r.0; sum = rw e (omega (arith, r.0, r.1, zero_tallies 8 converted_tally)) }

pub sum_theorem : SumTheorem
sum_theorem old eight done calls s = converted_right old eight (third_done old done) calls s
