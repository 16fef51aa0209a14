-- `congruence_generate`: the call's answer as a number, and its bytes.
use Rattle.congruence.specs.Outcome.{generated_outcome}
use Rattle.worksheet.proofs.Packing.{packed_call}
use Rattle.worksheet.proofs.congruence_generate.Goals as goal

pub returns-clause-value : goal.returns-clause-value
returns-clause-value c = (packed_call generated_outcome c.generate.ensures c.generated_number.ensures).0

pub returns-clause-out_after : goal.returns-clause-out_after
returns-clause-out_after c = (packed_call generated_outcome c.generate.ensures c.generated_number.ensures).1
