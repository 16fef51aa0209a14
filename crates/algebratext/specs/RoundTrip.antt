-- What is written is read back: the text of an algebra, given to the reader, is that algebra.
use Rattle.std.specs.Prelude.{ℕ, ◌≤◌, List, ◌≡◌, length, take, Ok}
use Rattle.equivalence.specs.Lent.{written}
use Rattle.algebra.specs.Algebra.{Algebra}
use Rattle.algebra.specs.Accepted.{Accepted}
use Rattle.reader.specs.Lines.{defined}
use Rattle.tablewriter.specs.Texts.{algebra_text}
use Rattle.algebratext.specs.Calls.{write_call, read_call, algebra_read}

-- what holds of an accepted algebra and lent bytes that are enough for its text
pub record RoundTrip (a : Algebra) (accepted : Accepted a) (out : List ℕ) (enough : length (algebra_text a) ≤ length out) : Type 0 where
  -- lent enough, the writer writes the text, and nothing behind it
  pub writes : write_call a out ≡ (Ok (length (algebra_text a)), written (algebra_text a) out)
  -- what it wrote, given to the reader, is the algebra: its numbers, its arities, its cells, and nothing behind them
  pub reads : (room : List ℕ) → 32768 ≤ length room
      → read_call (take (length (algebra_text a)) (write_call a out).1) room ≡ (algebra_read (defined a (length (algebra_text a))), written a.cells room)
