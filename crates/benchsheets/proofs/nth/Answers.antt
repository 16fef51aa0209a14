-- `benchsheets::nth` meets its contract.
use mathlib.Core.Path.{◌≡◌, refl}
use native.Mathlib.Omega.{arith}
use lib.ListN.{length}
use Rattle.benchsheets.specs.State.{sheet_of}
use Rattle.benchsheets.proofs.BenchSheets.{mapped_length}
use Rattle.benchsheets.proofs.nth.Goals as goal

pub returns : goal.returns
unfolding sheet_of
returns c = let eight : length c.args.bench.sheets ≡ 8 = search mapped_length in (refl, omega (arith, eight))
