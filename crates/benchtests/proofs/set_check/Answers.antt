-- `benchtests::set_check` meets its contract, by the laws of Testing: one for each return.
use mathlib.Core.Path.{sym, ap, ◌∙◌}
use Rattle.sheet.specs.Points.{is_full_for}
use Rattle.benchtests.specs.Tests.{full_test, set_tests}
use Rattle.benchsheets.specs.State.{sheet_of}
use Rattle.benchtests.proofs.Testing.{clear_passed, behind_failed, more_applies, more_passes}
use Rattle.benchtests.proofs.set_check.Goals as goal

pub returns-in_err-clear_check : goal.returns-in_err-clear_check
unfolding set_tests
returns-in_err-clear_check c = search (behind_failed, c.in_err-clear_check.was)

pub nth-sheet-requires : goal.nth-sheet-requires
nth-sheet-requires c = (clear_passed _ _ (sym c.clear_check.ensures ∙ c.in_ok-clear_check.was)).sheet

pub is_full_for-requires : goal.is_full_for-requires
unfolding sheet_of
is_full_for-requires c = let p = clear_passed _ _ (sym c.clear_check.ensures ∙ c.in_ok-clear_check.was) in
    rw c.nth-sheet.ensures.0 (p.faultless.sheets _ c.nth-sheet.ensures.1).few

pub returns-then-is_full_for : goal.returns-then-is_full_for
unfolding set_tests full_test sheet_of
returns-then-is_full_for c = more_applies _ (full_test _ _) c.clear_check.ensures c.in_ok-clear_check.was (c.is_full_for.ensures ∙ ap (is_full_for _) c.nth-sheet.ensures.0) c.if-is_full_for.true

pub returns : goal.returns
unfolding set_tests full_test sheet_of
returns c = more_passes _ (full_test _ _) c.clear_check.ensures c.in_ok-clear_check.was (c.is_full_for.ensures ∙ ap (is_full_for _) c.nth-sheet.ensures.0) c.if-is_full_for.false
