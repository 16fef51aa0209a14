-- `meet_back`: the map in front is met, and the meet laid in its place.
use Rattle.maplist.proofs.MapLists.{met_laid}
use Rattle.maplist.proofs.meet_back.Goals as goal

pub returns-clause-suffixes_after : goal.returns-clause-suffixes_after
returns-clause-suffixes_after c = met_laid c.args.n c.args.at c.args.maps.now c.args.met.now c.args.suffixes.now c.meet_with.ensures c.copy_from_slice.ensures.after
