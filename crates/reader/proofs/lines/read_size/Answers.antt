-- `lines::read_size` meets its contract, by the laws of SpacedNumbers.
use Rattle.reader.proofs.SpacedNumbers.{size_unopened, size_room, size_missing, size_unclosed, size_closed}
use Rattle.numberreader.specs.Reading.{ascii}
use Rattle.reader.proofs.lines.read_size.Goals as goal

pub returns-then-not-begins_with : goal.returns-then-not-begins_with
unfolding ascii
returns-then-not-begins_with c = search size_unopened

pub read_spaced_number-requires : goal.read_spaced_number-requires
unfolding ascii
read_spaced_number-requires c = search size_room

pub returns-in_err-n : goal.returns-in_err-n
unfolding ascii
returns-in_err-n c = rw c.from_residual.ensures (let e = c.in_err-n.ensures in search size_missing)

pub returns-in_err-next : goal.returns-in_err-next
unfolding ascii
returns-in_err-next c =
    rw c.from_residual-in_err-next.ensures (let n = c.in_ok-n.ensures in
    let e = c.in_err-next.ensures in search size_unclosed)

pub returns : goal.returns
unfolding ascii
returns c = let n = c.in_ok-n.ensures in
    let e = c.in_ok-next.ensures in
    search size_closed
