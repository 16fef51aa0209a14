-- `congruence_contained`: the call's answer as a number, and its bytes.
use Rattle.equivalence.specs.Outcome.{written_outcome}
use Rattle.worksheet.proofs.Packing.{packed_call}
use Rattle.worksheet.proofs.congruence_contained.Goals as goal

pub returns-clause-value : goal.returns-clause-value
returns-clause-value c = (packed_call written_outcome c.contained.ensures c.written_number.ensures).0

pub returns-clause-out_after : goal.returns-clause-out_after
returns-clause-out_after c = (packed_call written_outcome c.contained.ensures c.written_number.ensures).1
