-- `suffix_meets`: the laws of `Suffixes` start, keep and end the loop.
use native.Mathlib.Omega.{arith}
use Rattle.maplist.proofs.Suffixes.{suffixes_start, suffixes_canonical, suffixes_all, suffixes_this, suffixes_more}
use Rattle.maplist.proofs.suffix_meets.Goals as goal

pub loop-i-init : goal.loop-i-init
loop-i-init c = search suffixes_start

pub meet_back-requires-clause-canonical : goal.meet_back-requires-clause-canonical
meet_back-requires-clause-canonical c = suffixes_this c.loop-i.invariant c.loop-i-test.true

pub meet_back-requires-clause-canonical_2 : goal.meet_back-requires-clause-canonical_2
meet_back-requires-clause-canonical_2 c = suffixes_canonical c.loop-i.invariant

pub loop-i-preserved : goal.loop-i-preserved
loop-i-preserved c = search suffixes_more

pub returns : goal.returns
returns c = suffixes_all c.loop-i.invariant (omega arith)
