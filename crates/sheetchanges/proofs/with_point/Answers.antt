-- `sheetchanges::with_point` meets its contract.
use Rattle.sheet.proofs.Storing.{place_room}
use Rattle.benchsheets.specs.State.{sheet_of}
use Rattle.benchtests.proofs.Testing.{set_passed}
use Rattle.sheetchanges.proofs.with_point.Goals as goal

pub nth-old-requires : goal.nth-old-requires
nth-old-requires c = (set_passed _ _ _ c.requires).0.sheet

pub with_point-new-requires : goal.with_point-new-requires
unfolding sheet_of
with_point-new-requires c = let p = set_passed _ _ _ c.requires in
    let s = p.0.faultless.sheets _ c.nth-old.ensures.1 in
    rw c.nth-old.ensures.0 (record { count_bound = s.few; sheet_bound = place_room _ _ s.few p.1 })
