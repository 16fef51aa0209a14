-- `tablereader::read_cell` meets its contract, by the laws of Storing.
use Rattle.tablereader.proofs.Storing.{cell_none, cell_room, cell_one}
use Rattle.tablereader.proofs.read_cell.Goals as goal

pub returns-in_err-v : goal.returns-in_err-v
returns-in_err-v c = rw c.from_residual.ensures (cell_none _ _ _ _ c.requires c.in_err-v.ensures)

pub bounds-cells-from : goal.bounds-cells-from
bounds-cells-from c = cell_room _ _ _ _ c.requires _ c.in_ok-v.ensures

pub returns : goal.returns
returns c = cell_one _ _ _ _ c.requires _ c.in_ok-v.ensures
