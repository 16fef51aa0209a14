-- `steps::refused` meets its contract, by the laws of Stepping.
use Rattle.bracket.proofs.Stepping.{refused_at}
use Rattle.bracket.proofs.steps.refused.Goals as goal

pub returns : goal.returns
returns c = search refused_at
