-- `factor_calls`: Quotient gives blocks, and the last call is made; or it declines.
use Rattle.claim.proofs.Claims.{quotient_given, calls_given, calls_declined}
use Rattle.claim.proofs.factor_calls.Goals as goal

pub decompose_front-requires : goal.decompose_front-requires
decompose_front-requires c = rw c.from.ensures (search (quotient_given, c.in_ok-b.was))

pub returns-in_err-b : goal.returns-in_err-b
returns-in_err-b c = search (calls_declined, c.in_err-b.was)

pub returns : goal.returns
returns c = search (calls_given, c.in_ok-b.was, rw c.from.ensures at c.decompose_front.ensures)
