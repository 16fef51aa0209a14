-- Lines: numbers after gaps, brackets, a word with what follows it, and the line of an outcome.
use Rattle.std.specs.Prelude.{ℕ, true, false, List, [], ◌∷◌, ◌++◌, eqb}
use Rattle.equivalence.specs.Outcome.{Outcome, refusal}
use Rattle.equivalence.specs.declared.Refusal.{Refusal}
use Rattle.numberreader.specs.Reading.{ascii}
use Rattle.writer.specs.Numerals.{decimal}

-- what is written between two items
unfoldable pub gap_bytes : List ℕ
gap_bytes = ascii " "

-- numbers, each after a space
unfoldable pub spaced : List ℕ → List ℕ
spaced [] = []
spaced (x ∷ rest) = gap_bytes ++ decimal x ++ spaced rest

-- numbers in a bracket, parted by one space
unfoldable pub bracketed : List ℕ → List ℕ
bracketed [] = ascii "[]"
bracketed (x ∷ rest) = ascii "[" ++ decimal x ++ spaced rest ++ ascii "]"

-- lists of numbers, each in a bracket after a space
unfoldable pub spaced_brackets : List (List ℕ) → List ℕ
spaced_brackets [] = []
spaced_brackets (m ∷ rest) = gap_bytes ++ bracketed m ++ spaced_brackets rest

-- a line: its word, what follows it, `]` and byte 10
unfoldable pub line : List ℕ → List ℕ → List ℕ
line word rest = word ++ rest ++ ascii "]\n"

-- the numbers in a refusal's line: the reason, and behind 11 its two elements
unfoldable pub refused_numbers : Outcome → List ℕ
refused_numbers o = elim (eqb o.reason 11) [ true ↦ o.reason ∷ o.first ∷ o.second ∷ [] | false ↦ o.reason ∷ [] ]

-- the line for an outcome: the one that is given for success, else `[refused 8]` or `[refused 11 0 2]`
unfoldable pub outcome_line : Outcome → List ℕ → List ℕ
outcome_line o done = elim (eqb o.reason 0) [ true ↦ done | false ↦ line (ascii "[refused") (spaced (refused_numbers o)) ]

-- the line for a refusal that no service gave
unfoldable pub refused_line : Refusal → List ℕ
refused_line r = outcome_line (refusal r) []
