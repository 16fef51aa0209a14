-- What a run has before it.
use Rattle.std.specs.Prelude.{ℕ, ◌+◌, ◌-◌, List, length}
use Rattle.bracket.specs.Transcript.{output, run}
use Rattle.bracket.specs.Fills.{Position, fresh, midway, over, due}

-- what a run still writes from a position on
unfoldable pub remaining : List ℕ → Position → List ℕ
remaining text p = output (due text p) (run (length text) text)

-- how far a position is from the end of the run
abbrev pub distance : List ℕ → Position → ℕ
distance text fresh = length text + 2
distance text (midway s) = length text - s.at + 1
distance text over = 0
