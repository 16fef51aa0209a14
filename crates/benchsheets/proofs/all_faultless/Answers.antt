-- `benchsheets::all_faultless` meets its contract.
use mathlib.Core.Path.{◌∙◌}
use borrow.Author.Rules.{rules}
use borrow.Author.Tests.{tests}
use Rattle.std.proofs.lemmas.Iterator.{YieldsList-from_slice}
use Rattle.std.proofs.lemmas.Iterator.Search.{all_from_yields_List}
use Rattle.sheet.specs.Points.{is_faultless}
use Rattle.benchsheets.proofs.BenchSheets.{every_is_all}
use Rattle.benchsheets.proofs.all_faultless.Goals as goal

pub returns : goal.returns
returns c = let a = c.args in
    all_from_yields_List (is_faultless a.n) _ _ _ c.all.ensures.ran (YieldsList-from_slice a.bench.sheets cc) (λ x b q k. search (rules, tests)) ∙ every_is_all (is_faultless a.n) a.bench.sheets
