-- `oldbenches::convert_check` meets its contract, by the laws of OldConversions: one for each return.
use Rattle.equivalence.proofs.Refusals.{sized_most}
use Rattle.oldbenches.proofs.OldConversions.{convert_unsized, convert_unmapped, convert_passed}
use Rattle.oldbenches.proofs.convert_check.Goals as goal

pub returns-then-not-is_size : goal.returns-then-not-is_size
returns-then-not-is_size c = search convert_unsized

pub all_have_maps-requires : goal.all_have_maps-requires
all_have_maps-requires c = search sized_most

pub returns-then-not-all_have_maps : goal.returns-then-not-all_have_maps
returns-then-not-all_have_maps c = search convert_unmapped

pub returns : goal.returns
returns c = search convert_passed
