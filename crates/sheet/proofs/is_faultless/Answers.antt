-- `sheet::is_faultless` meets its contract, by the laws of Faults: one for each return.
use borrow.Author.Rules.{rules}
use Rattle.sheet.proofs.Faults.{sheet_unmapped, sheet_crowded, sheet_last}
use Rattle.sheet.proofs.is_faultless.Goals as goal

pub returns-then-not-has_map : goal.returns-then-not-has_map
returns-then-not-has_map c = search sheet_unmapped

pub returns-then-sheet-gt-PLACES : goal.returns-then-sheet-gt-PLACES
returns-then-sheet-gt-PLACES c = search sheet_crowded

pub returns : goal.returns
returns c = search (rules, sheet_last)
