-- `sheetchanges::returned` meets its contract.
use Rattle.benchsheets.specs.State.{with_map, sheet_of}
use Rattle.benchtests.proofs.Testing.{known_passed}
use Rattle.sheetchanges.proofs.returned.Goals as goal

pub nth-old-requires : goal.nth-old-requires
nth-old-requires c = (known_passed _ _ _ c.requires).0.sheet

pub returned-new-requires : goal.returned-new-requires
unfolding sheet_of
returned-new-requires c = let p = known_passed _ _ _ c.requires in
    rw c.nth-old.ensures.0 (record { n_bound = p.0.most; count_bound = (p.0.faultless.sheets _ c.nth-old.ensures.1).few; t = p.1 })

pub returns : goal.returns
unfolding with_map sheet_of
returns c = rw (c.with_sheet.ensures, c.returned-new.ensures, c.nth-old.ensures.0)
