-- `requests::read_separate` meets its contract, by the laws of Asking.
use Rattle.reader.proofs.Asking.{separate_none, separate_one, separate_open, separate_read}
use Rattle.reader.proofs.requests.read_separate.Goals as goal

pub returns-in_err-v : goal.returns-in_err-v
returns-in_err-v c = rw c.from_residual.ensures (separate_none _ _ c.args.from.put c.in_err-v.ensures)

pub returns-in_err-w : goal.returns-in_err-w
returns-in_err-w c = rw c.from_residual-in_err-w.ensures (separate_one _ _ c.args.from.put _ c.in_ok-v.ensures c.in_err-w.ensures)

pub returns-in_err-next : goal.returns-in_err-next
returns-in_err-next c =
    rw c.from_residual-in_err-next.ensures (separate_open _ _ c.args.from.put _ c.in_ok-v.ensures _ c.in_ok-w.ensures c.in_err-next.ensures)

pub returns : goal.returns
returns c = separate_read _ _ _ _ c.in_ok-v.ensures _ c.in_ok-w.ensures _ c.in_ok-next.ensures
