-- `lines::are_below` meets its contract: the largest byte tells.
use Rattle.reader.proofs.Tops.{largest_tells}
use Rattle.reader.proofs.lines.are_below.Goals as goal

pub returns : goal.returns
returns c = search largest_tells
