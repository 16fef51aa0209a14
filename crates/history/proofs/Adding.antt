-- Add as a whole: it is accepted, with what its tests leave, or refused; and accepted, it gives the least congruence.
use Prim.Native.Nat.{ℕ, ◌+◌, ◌<◌}
use mathlib.Core.Logic.{◌⊎◌}
use mathlib.Core.Path.{◌≡◌, refl, ap, sym, ◌∙◌}
use native.Mathlib.Omega.{arith}
use lib.ListN.{length}
use Rattle.equivalence.specs.Equivalence.{Map}
use Rattle.equivalence.proofs.Maps.{holds_of, of_holds, inside_of, of_inside}
use Rattle.equivalence.proofs.Refusals.{passed_append}
use Rattle.equivalence.specs.declared.Refusal.{Refusal}
use Rattle.algebra.specs.Algebra.{Algebra}
use Rattle.algebra.proofs.Accepted.{accepted_well_formed}
use Rattle.algebra.proofs.Congruences.{congruence_is, congruence_of}
use Rattle.theory.proofs.Above.{LeastJoining, extended_law}
use Rattle.sheet.specs.Sheet.{map_on, sheet_with, raised_by}
use Rattle.sheet.proofs.SheetMaps.{map_on_sheet_with}
use Rattle.benchtests.specs.Tests.{handed_tests}
use Rattle.bench.specs.Calls.{add_tests, map_by_add, lost_by_add, sheet_by_add, add_call}
use Rattle.benchsheets.specs.State.{sheet_of, with_sheet, with_map}
use Rattle.benchsheets.proofs.BenchSheets.{with_sheet_same}
use Rattle.benchtests.proofs.Testing.{Addable, add_passed}
use Rattle.bench.proofs.Calling.{done_with, refused, call_cases}
use Rattle.benchsheets.specs.declared.Bench.{Bench}
use Rattle.history.specs.Promises.{LeastExtension}

-- the map of the sheet that got it
pub with_map_map : (b : Bench) (k : ℕ) (m : Map) → k < length b.sheets → length m ≡ b.n → map_on b.n (sheet_of (with_map b k m) k) ≡ m
unfolding with_map
with_map_map b k m l e = ap (map_on b.n) (with_sheet_same b k (sheet_with m (sheet_of b k)) l) ∙ map_on_sheet_with b.n m (sheet_of b k) e

module _ (b : Bench) (a : Algebra) (k x y : ℕ) where
  -- the bench after an accepted Add
  abbrev pub after_add : Bench
  after_add = with_sheet b k (sheet_by_add b a k x y)

  pub add_cases : (Addable b a k x y × (add_call b a k x y ≡ done_with after_add)) ⊎ ((r : Refusal) × (add_call b a k x y ≡ refused r b))
  unfolding add_call
  add_cases = call_cases (add_tests b a k x y) after_add b (λ e. add_passed b a k x y (passed_append (handed_tests b a k x y) _ e).0)

  module _ (p : Addable b a k x y) where
    above : LeastJoining a (map_on a.size (sheet_of b k)) (x, y) (map_by_add b a k x y)
    unfolding map_by_add
    above = extended_law a (accepted_well_formed a p.accepted) (map_on a.size (sheet_of b k)) x y p.placed.first p.placed.second

    pub added_length : length (map_by_add b a k x y) ≡ a.size
    added_length = above.cong.map.long

    -- sheet k of the bench after it
    pub after_add_sheet : length b.sheets ≡ 8 → sheet_of after_add k ≡ sheet_by_add b a k x y
    after_add_sheet eight = with_sheet_same b k (sheet_by_add b a k x y) (omega (arith, eight, p.placed.sheet))

    pub by_add_map : map_on b.n (sheet_by_add b a k x y) ≡ map_by_add b a k x y
    unfolding sheet_by_add raised_by map_on
    by_add_map = map_on_sheet_with b.n (map_by_add b a k x y) (sheet_of b k) (added_length ∙ sym p.placed.faultless.size)

    pub by_add_tally : (sheet_by_add b a k x y).tally ≡ (sheet_of b k).tally + lost_by_add b a k x y
    unfolding sheet_by_add raised_by sheet_with
    by_add_tally = refl

    -- demand 2 for Add
    pub added_least : LeastExtension a (map_on a.size (sheet_of b k)) x y (map_by_add b a k x y)
    added_least =
        let old : Map = map_on a.size (sheet_of b k) in
        let new : Map = map_by_add b a k x y in
        record {
          congruence = congruence_of a new above.cong;
          larger = inside_of a.size old new above.larger;
          pair = holds_of new x y above.new;
          least = λ c q h e. inside_of a.size new c (above.least c (congruence_is a c q) (of_inside a.size old c h) (of_holds c x y e));
        }
