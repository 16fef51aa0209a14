-- `rows::read_row` meets its contract, by the laws of Begun.
use Rattle.tablereader.proofs.Begun.{begun_rest}
use Rattle.tablereader.proofs.rows.read_row.Goals as goal

pub returns : goal.returns
returns c = search begun_rest
