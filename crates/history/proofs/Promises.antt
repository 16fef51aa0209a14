-- What the calls promise, proved of their definitions: a refusal alters nothing, a call touches its own sheet alone, and there its map and no byte past
-- n, or its points; and what each gives where it is accepted.
use Prim.Native.Nat.{ℕ, zero, suc, ◌≤◌, ◌<◌}
use mathlib.Core.List.{List}
use mathlib.Core.Logic.{inl, inr}
use mathlib.Core.Path.{◌≡◌, refl, sym, ap, ◌∙◌}
use native.Mathlib.Omega.{arith}
use lib.ListN.{length, drop, replicate, get_or-replicate}
use Rattle.std.specs.Prelude.{⊤, Result, Ok, Err}
use Rattle.equivalence.specs.Equivalence.{Map, byte, identity}
use Rattle.equivalence.proofs.Maps.{identity_map}
use Rattle.equivalence.proofs.Writing.{written_old}
use Rattle.equivalence.specs.Refusal.{lowest, answered}
use Rattle.equivalence.specs.declared.Refusal.{Refusal}
use Rattle.algebra.specs.Algebra.{Algebra}
use Rattle.sheet.specs.Points.{map_under, with_point, without_point}
use Rattle.sheet.specs.Sheet.{zero_sheet, sheet_with, raised_by, no_sheet}
use Rattle.sheet.specs.declared.Sheet.{Sheet}
use Rattle.sheet.proofs.SheetMaps.{map_on_sheet_with, past_sheet_with}
use Rattle.sheet.proofs.Storing.{point_map, point_tally, pointless_map, pointless_tally}
use Rattle.benchtests.specs.Tests.{start_tests, clear_tests}
use Rattle.bench.specs.Calls.{start_call, map_by_add, lost_by_add, sheet_by_add, add_call, clear_call}
use Rattle.oldbenches.specs.OldKinds.{without_points}
use Rattle.conversion.specs.Conversion.{with_tallies}
use Rattle.history.specs.Promises.{OnlySheet, OnlyMap, OnlyPoints, Unaltered, StartPromise, AddPromise, ClearPromise}
use Rattle.history.specs.Promises.{SetPromise, ReturnPromise, ForgetPromise, ConvertV1Promise, ConvertV2Promise, ConvertV3Promise}
use Rattle.benchsheets.specs.State.{eight_of, zero_bench, fresh_bench, sheet_of, with_sheet, with_map}
use Rattle.history.proofs.Adding.{after_add, add_cases, added_length, after_add_sheet, by_add_map, by_add_tally, added_least}
use Rattle.equivalence.proofs.Refusals.{ok_never}
use Rattle.benchsheets.proofs.BenchSheets.{with_sheet_other, with_sheet_count, with_sheet_keeps}
use Rattle.oldbenches.proofs.OldConversions.{first_answer, first_done, first_refused, second_answer, second_done, second_refused}
use Rattle.conversion.proofs.Conversions.{convert_clear, convert_v3_clear}
use Rattle.conversion.proofs.Conversions.{third_answer, third_done, third_refused}
use Rattle.history.proofs.Pointing.{clear_cases, set_cases, return_cases, forget_cases, cleared_map, stored_length, returned_map}
use Rattle.history.proofs.Pointing.{set_sheet, set_held, set_under, forget_sheet, forget_held, forget_under}
use Rattle.benchtests.proofs.Testing.{start_passed, Addable}
use Rattle.bench.proofs.Calling.{done_with, refused, benched_cases, benched_answer}
use Rattle.benchsheets.specs.declared.Bench.{Bench}
use Rattle.bench.specs.declared.Benched.{Benched}
use Rattle.oldbenches.specs.declared.BenchV1.{BenchV1}
use Rattle.oldbenches.specs.declared.BenchV2.{BenchV2}
use Rattle.oldbenches.specs.declared.BenchV3.{BenchV3}

-- ---- what a call leaves as it was

module _ (k : ℕ) (b : Bench) where
  untouched : OnlySheet k b b
  untouched = record { size = refl; earlier = refl; count = refl; others = λ j h. refl }

  map_untouched : OnlyMap k b b
  map_untouched = record { sheet = untouched; past = λ j. refl; held = λ j. refl; points = λ j. refl }

  points_untouched : OnlyPoints k b b
  points_untouched = record { sheet = untouched; maps = λ j. refl; tallies = λ j. refl }

module _ (b : Bench) (k : ℕ) where
  pub with_sheet_only : (s : Sheet) → OnlySheet k b (with_sheet b k s)
  unfolding with_sheet
  with_sheet_only s = record { size = refl; earlier = refl; count = with_sheet_count b k s; others = λ j h. with_sheet_other b k s j h }

  -- a sheet with the bytes past n and the points of the one before it
  map_only : (s : Sheet) → drop b.n s.map ≡ drop b.n (sheet_of b k).map → s.count ≡ (sheet_of b k).count → s.points ≡ (sheet_of b k).points
      → OnlyMap k b (with_sheet b k s)
  map_only s past held points =
      record {
        sheet = with_sheet_only s;
        past = with_sheet_keeps b k s (λ (t : Sheet). drop b.n t.map) past;
        held = with_sheet_keeps b k s (λ (t : Sheet). t.count) held;
        points = with_sheet_keeps b k s (λ (t : Sheet). t.points) points;
      }

  with_map_only : (m : Map) → length m ≡ b.n → OnlyMap k b (with_map b k m)
  unfolding with_map sheet_with
  with_map_only m e = map_only (sheet_with m (sheet_of b k)) (past_sheet_with b.n m (sheet_of b k) e) refl refl

  map_tally : (m : Map) → (sheet_of (with_map b k m) k).tally ≡ (sheet_of b k).tally
  unfolding with_map sheet_with
  map_tally m = with_sheet_keeps b k _ (λ (s : Sheet). s.tally) refl k

  with_points_only : (s : Sheet) → s.map ≡ (sheet_of b k).map → s.tally ≡ (sheet_of b k).tally → OnlyPoints k b (with_sheet b k s)
  with_points_only s e f =
      record { sheet = with_sheet_only s; maps = with_sheet_keeps b k s (λ (t : Sheet). t.map) e; tallies = with_sheet_keeps b k s (λ (t : Sheet). t.tally) f }

add_only : (b : Bench) (a : Algebra) (k x y : ℕ) → OnlyMap k b (add_call b a k x y).bench
unfolding sheet_by_add raised_by sheet_with
add_only b a k x y =
    elim (add_cases b a k x y) [
      | inl p ↦ let long : length (map_by_add b a k x y) ≡ b.n = added_length b a k x y p.0 ∙ sym p.0.placed.faultless.size in
          rw p.1 (map_only b k (sheet_by_add b a k x y) (past_sheet_with b.n (map_by_add b a k x y) (sheet_of b k) long) refl refl)
      | inr p ↦ rw p.1 (map_untouched k b)
    ]

-- ---- the promises

never_refused : (r : Benched Bench) (b : Bench) → r ≡ done_with b → (reason : Refusal) → ¬ (r.answer ≡ Err reason)
never_refused r b e reason f = ok_never (sym (ap (λ (s : Benched Bench). s.answer) e) ∙ f)

never_done : (r : Benched Bench) (b : Bench) (reason : Refusal) → r ≡ refused reason b → ¬ (r.answer ≡ Ok tt)
never_done r b reason e f = ok_never (sym f ∙ ap (λ (s : Benched Bench). s.answer) e)

accepted_unaltered : (r : Benched Bench) (after b : Bench) → r ≡ done_with after → Unaltered b r
accepted_unaltered r after b e reason f = absurd (never_refused r after e reason f)

refused_unaltered : (r : Benched Bench) (b : Bench) (reason : Refusal) → r ≡ refused reason b → Unaltered b r
refused_unaltered r b reason e other f = ap (λ (s : Benched Bench). s.bench) e

module _ (b : Bench) (a : Algebra) (k x y : ℕ) (eight : length b.sheets ≡ 8) where
  add_accepted : Addable b a k x y → add_call b a k x y ≡ done_with (after_add b a k x y) → AddPromise b a k x y
  unfolding lost_by_add sheet_of map_by_add sheet_by_add
  add_accepted p e =
      let sheet : sheet_of (add_call b a k x y).bench k ≡ sheet_by_add b a k x y = rw e (after_add_sheet b a k x y p eight) in
      let map = by_add_map b a k x y p in
      record {
        refused = accepted_unaltered _ _ b e;
        only = add_only b a k x y;
        least = λ f. rw (sheet, map, p.placed.faultless.size) (added_least b a k x y p);
        tally = λ f. rw (sheet, map, p.placed.faultless.size) (by_add_tally b a k x y p);
      }

  pub add_promise : AddPromise b a k x y
  add_promise =
      elim (add_cases b a k x y) [
        | inl p ↦ add_accepted p.0 p.1
        | inr p ↦ record {
          refused = refused_unaltered _ b p.0 p.1;
          only = add_only b a k x y;
          least = λ f. absurd (never_done _ b p.0 p.1 f);
          tally = λ f. absurd (never_done _ b p.0 p.1 f);
        }
      ]

module _ (b : Bench) (k : ℕ) (eight : length b.sheets ≡ 8) where
  pub clear_promise : ClearPromise b k
  unfolding with_map with_sheet
  clear_promise =
      elim (clear_cases b k) [
        | inl p ↦ record {
          refused = accepted_unaltered _ _ b p.1;
          only = rw p.1 (with_map_only b k (identity b.n) (identity_map b.n).long);
          map = λ f. rw p.1 (cleared_map b k eight p.0);
          tally = rw p.1 (map_tally b k (identity b.n));
        }
        | inr p ↦ record {
          refused = refused_unaltered _ b p.0 p.1;
          only = rw p.1 (map_untouched k b);
          map = λ f. absurd (never_done _ b p.0 p.1 f);
          tally = rw p.1;
        }
      ]

  module _ (name : List ℕ) where
    pub return_promise : ReturnPromise b k name
    unfolding with_map with_sheet
    return_promise =
        elim (return_cases b k name) [
          | inl p ↦ record {
            refused = accepted_unaltered _ _ b p.1;
            only = rw p.1 (with_map_only b k (map_under b.n name (sheet_of b k)) (stored_length b k eight name p.0));
            map = λ f. rw p.1 (returned_map b k eight name p.0);
            tally = rw p.1 (map_tally b k (map_under b.n name (sheet_of b k)));
          }
          | inr p ↦ record {
            refused = refused_unaltered _ b p.0 p.1;
            only = rw p.1 (map_untouched k b);
            map = λ f. absurd (never_done _ b p.0 p.1 f);
            tally = rw p.1;
          }
        ]

    module _ (places : length (sheet_of b k).points ≡ 8) where
      pub set_promise : SetPromise b k name
      set_promise =
          elim (set_cases b k name) [
            | inl p ↦ record {
              refused = accepted_unaltered _ _ b p.1;
              only = rw p.1 (with_points_only b k (with_point name (sheet_of b k)) (point_map name (sheet_of b k)) (point_tally name (sheet_of b k)));
              names = λ f other. rw (p.1, set_sheet b k eight name p.0) (set_held b k eight name places other p.0);
              stored = λ f other. rw (p.1, set_sheet b k eight name p.0) (set_under b k eight name places other p.0);
            }
            | inr p ↦ record {
              refused = refused_unaltered _ b p.0 p.1;
              only = rw p.1 (points_untouched k b);
              names = λ f. absurd (never_done _ b p.0 p.1 f);
              stored = λ f. absurd (never_done _ b p.0 p.1 f);
            }
          ]

      pub forget_promise : ForgetPromise b k name
      forget_promise =
          elim (forget_cases b k name) [
            | inl p ↦ record {
              refused = accepted_unaltered _ _ b p.1;
              only = rw p.1 (with_points_only b k (without_point name (sheet_of b k)) (pointless_map name (sheet_of b k)) (pointless_tally name (sheet_of b k)));
              names = λ f other. rw (p.1, forget_sheet b k eight name p.0) (forget_held b k eight name places other p.0);
              stored = λ f other. rw (p.1, forget_sheet b k eight name p.0) (forget_under b k eight name places other p.0);
            }
            | inr p ↦ record {
              refused = refused_unaltered _ b p.0 p.1;
              only = rw p.1 (points_untouched k b);
              names = λ f. absurd (never_done _ b p.0 p.1 f);
              stored = λ f. absurd (never_done _ b p.0 p.1 f);
            }
          ]

-- ---- Start

-- every sheet of a bench of equal ones
pub equal_sheet : (n k : ℕ) (s : Sheet) → k < 8 → sheet_of (eight_of n s) k ≡ s
unfolding eight_of sheet_of
equal_sheet n k s l = get_or-replicate 8 k s no_sheet l

equal_rest : (n : ℕ) (s : Sheet) → ((eight_of n s).n ≡ n) × ((eight_of n s).earlier ≡ 0)
unfolding eight_of
equal_rest n s = (refl, refl)

zero_at : (m x : ℕ) → byte (replicate m 0) x ≡ 0
zero_at zero x = refl
zero_at (suc m) zero = refl
zero_at (suc m) (suc x) = zero_at m x

fresh_zeros : (n x : ℕ) → n ≤ 64 → n ≤ x → byte (sheet_with (identity n) zero_sheet).map x ≡ 0
unfolding sheet_with zero_sheet
fresh_zeros n x l h =
    let e = (identity_map n).long in
    written_old (identity n) (replicate 64 0) (omega arith) x (omega arith) ∙ zero_at 64 x

pub start_promise : (n : ℕ) → StartPromise n
unfolding start_call fresh_bench zero_bench sheet_with zero_sheet
start_promise n =
    elim (benched_cases (start_tests n) (fresh_bench n) zero_bench) [
      | inl p ↦ record {
        size = λ f. rw p.1 (equal_rest n _).0;
        maps = λ f k l. rw (p.1, equal_sheet n k _ l) (map_on_sheet_with n (identity n) zero_sheet (identity_map n).long);
        zeros = λ f k l x h. rw (p.1, equal_sheet n k _ l) (fresh_zeros n x (start_passed n p.0) h);
        unpointed = λ k l. rw (p.1, equal_sheet n k _ l) (refl, refl);
        tallies = λ k l. rw (p.1, equal_sheet n k _ l) refl;
        earlier = rw p.1 (equal_rest n _).1;
        refused = λ reason f. absurd (never_refused _ _ p.1 reason f);
      }
      | inr p ↦ record {
        size = λ f. absurd (never_done _ zero_bench p.0 p.1 f);
        maps = λ f. absurd (never_done _ zero_bench p.0 p.1 f);
        zeros = λ f. absurd (never_done _ zero_bench p.0 p.1 f);
        unpointed = λ k l. rw (p.1, equal_sheet 0 k _ l) (refl, refl);
        tallies = λ k l. rw (p.1, equal_sheet 0 k _ l) refl;
        earlier = rw p.1 (equal_rest 0 _).1;
        refused = λ reason f. ap (λ (r : Benched Bench). r.bench) p.1;
      }
    ]

-- ---- the conversions

-- what such a conversion answers is what Clear does, where their tests find the same
clear_answer : (c : Result ⊤ Refusal) (answer : Result ⊤ Refusal) → answer ≡ answered Err c (Ok tt) → (b : Bench) (k : ℕ) → c ≡ lowest (clear_tests b k) → answer ≡ (clear_call b k).answer
unfolding clear_call
clear_answer c answer e b k f = e ∙ ap (λ (c : Result ⊤ Refusal). answered Err c (Ok tt)) f ∙ sym (benched_answer (clear_tests b k) _ b)

pub first_promise : (old : BenchV1) → ConvertV1Promise old
first_promise old =
    record {
      size = λ f. ap (λ (b : BenchV2). b.n) (first_done old f);
      tally = λ f. ap (λ (b : BenchV2). b.tally) (first_done old f);
      sheets = λ f. ap (λ (b : BenchV2). b.sheets) (first_done old f);
      refused = first_refused old;
      as_clear = λ b e f k h. clear_answer _ _ (first_answer old) b k (convert_clear old.n old.sheets b e f k h);
    }

pub second_promise : (old : BenchV2) → ConvertV2Promise old
unfolding without_points
second_promise old =
    record {
      size = λ f. ap (λ (b : BenchV3). b.n) (second_done old f);
      tally = λ f. ap (λ (b : BenchV3). b.tally) (second_done old f);
      sheets = λ f. ap (λ (b : BenchV3). b.sheets) (second_done old f);
      refused = second_refused old;
      as_clear = λ b e f k h. clear_answer _ _ (second_answer old) b k (convert_clear old.n old.sheets b e f k h);
    }

pub third_promise : (old : BenchV3) → ConvertV3Promise old
unfolding with_tallies
third_promise old =
    record {
      size = λ f. ap (λ (b : Bench). b.n) (third_done old f);
      earlier = λ f. ap (λ (b : Bench). b.earlier) (third_done old f);
      sheets = λ f. ap (λ (b : Bench). b.sheets) (third_done old f);
      refused = third_refused old;
      as_clear = λ b e f k h. clear_answer _ _ (third_answer old) b k (convert_v3_clear old.n old.sheets b e f k h);
    }
