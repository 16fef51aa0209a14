-- `sheetchanges::without_point` meets its contract.
use Rattle.benchsheets.specs.State.{sheet_of}
use Rattle.benchtests.proofs.Testing.{known_passed}
use Rattle.sheetchanges.proofs.without_point.Goals as goal

pub nth-old-requires : goal.nth-old-requires
nth-old-requires c = (known_passed _ _ _ c.requires).0.sheet

pub without_point-new-requires : goal.without_point-new-requires
unfolding sheet_of
without_point-new-requires c = let p = known_passed _ _ _ c.requires in
    rw c.nth-old.ensures.0 (record { count_bound = (p.0.faultless.sheets _ c.nth-old.ensures.1).few; t = p.1 })
