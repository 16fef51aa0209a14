-- Add by its steps: the call that they give.
use Prim.Native.Nat.{ℕ, ◌+◌}
use mathlib.Core.List.{[], ◌∷◌}
use mathlib.Core.Path.{◌≡◌, sym}
use Rattle.equivalence.specs.Refusal.{lowest}
use Rattle.std.specs.Prelude.{Ok}
use Rattle.algebra.specs.Algebra.{Algebra}
use Rattle.sheet.specs.Sheet.{sheet_with, raised_by}
use Rattle.sheet.specs.declared.Sheet.{Sheet}
use Rattle.benchtests.specs.Tests.{handed_tests}
use Rattle.bench.specs.Calls.{tally_test, benched, map_by_add, lost_by_add, sheet_by_add, add_call}
use Rattle.sheetchanges.specs.InnerGrowth.{SheetGrown}
use Rattle.benchsheets.specs.State.{sheet_of, with_sheet}
use Rattle.bench.proofs.Calling.{benched_append}
use Rattle.benchsheets.specs.declared.Bench.{Bench}

pub grown_call : (b : Bench) (a : Algebra) (k x y : ℕ) → lowest (handed_tests b a k x y) ≡ Ok tt → (old new : Sheet) (lost : ℕ) → old ≡ sheet_of b k → SheetGrown a x y old new lost
    → benched (tally_test (new.tally + lost) ∷ []) (with_sheet b k (raised_by lost new)) b ≡ add_call b a k x y
unfolding add_call lost_by_add sheet_by_add map_by_add sheet_with
grown_call b a k x y e old new lost o g = rw (g.sheet, g.blocks, o) (sym (benched_append (handed_tests b a k x y) _ _ _ e))
