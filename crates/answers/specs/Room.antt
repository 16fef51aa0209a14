-- How much room the line of an answer may want.
use Rattle.std.specs.Prelude.{ℕ, ◌+◌, ◌-◌, ◌*◌}

-- the larger of two numbers
abbrev pub larger : ℕ → ℕ → ℕ
larger a b = a + (b - a)

-- the room that a line may want over n elements and so many cells: for n maps of 64 numbers, or for the lines of as many cells, and for its words
abbrev pub line_room : ℕ → ℕ → ℕ
line_room n cells = larger (258 * n) (4 * cells) + 256
