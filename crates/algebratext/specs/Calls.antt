-- What the writer and the reader of algebras answer, and every lent byte after the call.
use Rattle.std.specs.Prelude.{ℕ, ◌-◌, List, [], ◌∷◌, ◌++◌, length, replicate, Result, Ok, Err}
use Rattle.equivalence.specs.Lent.{written}
use Rattle.equivalence.specs.Refusal.{Test, lowest, space_test, serve}
use Rattle.equivalence.specs.declared.Refusal.{Refusal}
use Rattle.algebra.specs.Algebra.{Algebra}
use Rattle.algebra.specs.Accepted.{algebra_tests}
use Rattle.reader.specs.Lines.{Progress, defined, refused, tested}
use Rattle.tablewriter.specs.Texts.{algebra_text}
use Rattle.algebratext.specs.Whole.{whole_algebra}
use Rattle.algebratext.specs.declared.AlgebraRead.{AlgebraRead}

-- the writer's tests: 1 to 6, and 9 with the text's own length
abbrev pub write_tests : Algebra → ℕ → List Test
write_tests a room = algebra_tests a ++ (space_test (length (algebra_text a)) room ∷ [])

-- the writer: the text of the algebra, and how long it is
unfoldable pub write_call : Algebra → List ℕ → Result ℕ Refusal × List ℕ
write_call a lent = serve (write_tests a (length lent)) (length (algebra_text a)) (algebra_text a) lent

-- what the reader answers: the numbers of the algebra, its arities with 0 behind them; or a refusal
unfoldable pub algebra_read : Progress → Result AlgebraRead Refusal
algebra_read (defined a at) =
    Ok (record { size = a.size; operations = length a.arities; arities = a.arities ++ replicate (16 - length a.arities) 0; cells = length a.cells })
algebra_read (refused r) = Err r

-- the lent bytes after it: the cells of the algebra at their start; a refusal writes nothing
unfoldable pub cells_read : Progress → List ℕ → List ℕ
cells_read (defined a at) lent = written a.cells lent
cells_read (refused r) lent = lent

-- what a text comes to with so many bytes lent: 9 where they are fewer than 32,768, before the text is looked at
unfoldable pub reading : List ℕ → ℕ → Progress
reading text room = tested (lowest (space_test 32768 room ∷ [])) (whole_algebra text)

-- the reader
unfoldable pub read_call : List ℕ → List ℕ → Result AlgebraRead Refusal × List ℕ
read_call text lent = (algebra_read (reading text (length lent)), cells_read (reading text (length lent)) lent)
