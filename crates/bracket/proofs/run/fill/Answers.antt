-- `run::fill` meets its contract, by the laws of Calling.
use Rattle.bracket.proofs.Calling.{able_sound, able_lent, fill_idles, fill_made}
use Rattle.bracket.proofs.run.fill.Goals as goal

pub returns-then-not-can_fill : goal.returns-then-not-can_fill
returns-then-not-can_fill c = search fill_idles

pub take_lines-requires-clause-sound : goal.take_lines-requires-clause-sound
take_lines-requires-clause-sound c = search able_sound

pub take_lines-requires-clause-lent : goal.take_lines-requires-clause-lent
take_lines-requires-clause-lent c = search able_lent

pub returns : goal.returns
returns c = search fill_made
