-- `oldbenches::all_have_maps` meets its contract.
use mathlib.Core.Path.{◌∙◌}
use lib.ListN.{take}
use borrow.Author.Rules.{rules}
use borrow.Author.Tests.{tests}
use Rattle.std.proofs.lemmas.Iterator.{YieldsList-from_slice}
use Rattle.std.proofs.lemmas.Iterator.Search.{all_from_yields_List}
use Rattle.equivalence.specs.Equivalence.{is_map}
use Rattle.oldbenches.specs.declared.SheetV1.{SheetV1}
use Rattle.benchsheets.proofs.BenchSheets.{every_is_all}
use Rattle.oldbenches.proofs.all_have_maps.Goals as goal

pub returns : goal.returns
returns c = let a = c.args in
    all_from_yields_List (λ (s : SheetV1). is_map a.n (take a.n s.map)) _ _ _ c.all.ensures.ran (YieldsList-from_slice a.old cc) (λ x b q k. search (rules, tests)) ∙ every_is_all (λ (s : SheetV1). is_map a.n (take a.n s.map)) a.old
