-- `tablereader::read_items` meets its contract, by the laws of Items.
use Prim.Native.Nat.{◌-◌}
use lib.ListN.{length}
use Rattle.tablereader.specs.Tables.{table}
use Rattle.tablereader.proofs.Items.{ItemsRead}
use Rattle.tablereader.proofs.read_items.Given as goal

abbrev pub invariant-loop-after : goal.invariant-loop-after
invariant-loop-after l = ItemsRead l.text l.initial.here.at l.initial.cells l.initial.here.put (table l.n l.arity) l.cells l.here.at l.here.put

abbrev pub decreases-loop-after : goal.decreases-loop-after
decreases-loop-after l = length l.text - l.here.at
