-- `imagepart::read_part` meets its contract.
use Prim.Native.Nat.{◌+◌, ◌-◌}
use mathlib.Core.Path.{◌≡◌}
use native.Mathlib.Omega.{arith}
use Rattle.imagepart.specs.Parts.{part}
use Rattle.imagepart.proofs.read_part.Goals as goal

pub returns : goal.returns
unfolding part
returns g c = let width : c.args.from + g.row.N - c.args.from ≡ g.row.N = omega arith in rw (c.copy_from_slice.ensures.after, width)
