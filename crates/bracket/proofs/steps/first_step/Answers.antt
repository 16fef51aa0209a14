-- `steps::first_step` meets its contract, by the laws of Stepping.
use Rattle.bracket.proofs.Stepping.{first_too_long, first_taken}
use Rattle.bracket.proofs.steps.first_step.Goals as goal

pub returns-then-text-gt-TEXT_LIMIT : goal.returns-then-text-gt-TEXT_LIMIT
returns-then-text-gt-TEXT_LIMIT c = search first_too_long

pub returns : goal.returns
returns c = first_taken _ _ _ _ _ _ c.if-text-gt-TEXT_LIMIT.false c.requires.sound c.take_size_line-line.ensures c.after_line.ensures
