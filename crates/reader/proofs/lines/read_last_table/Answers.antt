-- `lines::read_last_table` meets its contract, by the laws of Defining.
use Rattle.reader.proofs.Defining.{table_faulty, table_open, table_cell_above, table_defined}
use Rattle.reader.proofs.lines.read_last_table.Goals as goal

pub returns-in_default : goal.returns-in_default
returns-in_default c = table_faulty _ _ _ _ _ _ _ c.in_default.ensures

pub returns-in_default-read_close : goal.returns-in_default-read_close
returns-in_default-read_close c = table_open _ _ _ _ _ _ _ _ c.in-Some.ensures c.in_default-read_close.ensures

pub returns-then-not-are_below : goal.returns-then-not-are_below
returns-then-not-are_below c = let t = c.in-Some.ensures in
    let e = c.in-Some-read_close.ensures in
    search table_cell_above

pub returns : goal.returns
returns c = let t = c.in-Some.ensures in
    let e = c.in-Some-read_close.ensures in
    search table_defined
