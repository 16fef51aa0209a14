-- `benchtests::known_check` meets its contract, by the laws of Testing: one for each return.
use mathlib.Core.Bool.{not}
use mathlib.Core.Path.{sym, ap, ◌∙◌}
use borrow.Author.Rules.{rules}
use Rattle.sheet.specs.Points.{is_held}
use Rattle.benchtests.specs.Tests.{unknown_test, known_tests}
use Rattle.benchsheets.specs.State.{sheet_of}
use Rattle.benchtests.proofs.Testing.{clear_passed, behind_failed, more_applies, more_passes}
use Rattle.benchtests.proofs.known_check.Goals as goal

pub returns-in_err-clear_check : goal.returns-in_err-clear_check
unfolding known_tests
returns-in_err-clear_check c = search (behind_failed, c.in_err-clear_check.was)

pub nth-sheet-requires : goal.nth-sheet-requires
nth-sheet-requires c = (clear_passed _ _ (sym c.clear_check.ensures ∙ c.in_ok-clear_check.was)).sheet

pub is_held-requires : goal.is_held-requires
unfolding sheet_of
is_held-requires c = let p = clear_passed _ _ (sym c.clear_check.ensures ∙ c.in_ok-clear_check.was) in
    rw c.nth-sheet.ensures.0 (p.faultless.sheets _ c.nth-sheet.ensures.1).few

pub returns-then-not-is_held : goal.returns-then-not-is_held
unfolding known_tests unknown_test sheet_of
returns-then-not-is_held c = more_applies _ (unknown_test _ _) c.clear_check.ensures c.in_ok-clear_check.was (ap not (c.is_held.ensures ∙ ap (is_held _) c.nth-sheet.ensures.0)) (search rules)

pub returns : goal.returns
unfolding known_tests unknown_test sheet_of
returns c = more_passes _ (unknown_test _ _) c.clear_check.ensures c.in_ok-clear_check.was (ap not (c.is_held.ensures ∙ ap (is_held _) c.nth-sheet.ensures.0)) (search rules)
