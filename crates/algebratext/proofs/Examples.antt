-- Small algebras written and small texts read, computed: the points that are easily read otherwise.
use Prim.Native.Nat.{ℕ}
use Prim.Native.String.{String}
use mathlib.Core.List.{List, [], ◌∷◌, ◌++◌}
use mathlib.Core.Path.{◌≡◌, refl}
use lib.ListN.{length, replicate}
use Rattle.equivalence.specs.Lists.{every, concat}
use Rattle.equivalence.specs.Lent.{written, lent_after}
use Rattle.equivalence.specs.Refusal.{lowest, size_test, space_test, answered, serve}
use Rattle.equivalence.specs.declared.Refusal.{Refusal}
use Rattle.equivalence.specs.declared.Refusal.TheVariants.{Size, Operations, Arity, Cells, Length, Cell, Space, Text}
use Rattle.std.specs.Prelude.{Ok, Err}
use Rattle.algebra.specs.Accepted.{algebra_tests}
use Rattle.algebra.specs.Algebra.{Algebra, algebra_of, cell_count, operations_of, operations}
use Rattle.numberreader.specs.Reading.{ascii, onward, ◌>>=◌, mark, gap, begins, opened}
use Rattle.numberreader.specs.Numbers.{digit_at, number}
use Rattle.tablereader.specs.Tables.{cell, parted, bracket, table}
use Rattle.reader.specs.Lines.{close, spaced_number, size_line, tested, after_size, sized, arity, last_table, operation_tests}
use Rattle.reader.specs.Lines.{cell_test, with_operation, after_table, after_arity, operation}
use Rattle.writer.specs.Numerals.{digits, decimal}
use Rattle.writer.specs.Lines.{gap_bytes, spaced, line}
use Rattle.tablewriter.specs.Texts.{parted_texts, table_text, size_text, operation_text, algebra_text}
use Rattle.algebratext.specs.Whole.{operation_line_at, operations_to_end, whole_algebra}
use Rattle.algebratext.specs.Calls.{write_call, algebra_read, cells_read, reading, read_call}

-- document 01's algebra on four elements
abbrev worked : Algebra
worked = algebra_of 4 (1 ∷ []) (1 ∷ 0 ∷ 3 ∷ 2 ∷ [])

-- so many lent bytes
abbrev lent : ℕ → List ℕ
lent k = replicate k 7

-- into so many bytes the writer writes this, and leaves so many behind it
abbrev Writes : Algebra → ℕ → String → ℕ → Type 0
Writes a room text left = write_call a (lent room) ≡ (Ok (length (ascii text)), ascii text ++ lent left)

-- into so many bytes the writer writes nothing, for this reason
abbrev Declines : Algebra → ℕ → Refusal → Type 0
Declines a room r = write_call a (lent room) ≡ (Err r, lent room)

-- lent 32,768 bytes, the reader finds this size, these arities with zeros behind them, and these cells, and leaves so many bytes
abbrev Reads : String → ℕ → ℕ → List ℕ → List ℕ → ℕ → Type 0
Reads text n operations arities cells left =
    read_call (ascii text) (lent 32768)
    ≡ (Ok (record { size = n; operations = operations; arities = arities; cells = length cells }), cells ++ lent left)

-- lent so many bytes, the reader writes nothing, for this reason
abbrev Unread : ℕ → List ℕ → Refusal → Type 0
Unread room text r = read_call text (lent room) ≡ (Err r, lent room)

pub record TextCallExamples : Type 0 where
  -- the bytes lent are just enough, more, or one too few; what is behind the text stays
  pub space : Writes worked 26 "[size 4]\n[op 1 [1 0 3 2]]\n" 0
      × Writes worked 30 "[size 4]\n[op 1 [1 0 3 2]]\n" 4
      × Declines worked 25 Space
  -- no operations; a constant; tables in tables
  pub shapes : Writes (algebra_of 64 [] []) 10 "[size 64]\n" 0
      × Writes (algebra_of 2 (0 ∷ 2 ∷ []) (1 ∷ 0 ∷ 0 ∷ 0 ∷ 1 ∷ [])) 39 "[size 2]\n[op 0 1]\n[op 2 [[0 0] [0 1]]]\n" 0
      × Writes (algebra_of 1 (3 ∷ []) (0 ∷ [])) 28 "[size 1]\n[op 3 [[[0]]]]\n" 4
  -- 1 to 6 go before 9
  pub first : Declines (algebra_of 3 (1 ∷ []) (0 ∷ 1 ∷ 3 ∷ [])) 0 Cell
      × Declines (algebra_of 0 [] []) 0 Size
      × Declines (algebra_of 2 (1 ∷ []) (0 ∷ [])) 0 Length
  -- arities with zeros behind them, and cells at the start of the lent bytes; a size line alone
  pub reads : Reads "[size 2]\n[op 0 1]\n[op 2 [[0 0] [0 1]]]\n" 2 2 (0 ∷ 2 ∷ replicate 14 0) (1 ∷ 0 ∷ 0 ∷ 0 ∷ 1 ∷ []) 32763
      × Reads "[size 3]\n" 3 0 (replicate 16 0) [] 32768
  -- 14: no size line first, another line than an operation line behind it, a line without an end
  pub texts : Unread 32768 [] Text
      × Unread 32768 (ascii "[size 2]\n[decompose]\n") Text
      × Unread 32768 (ascii "[size 2]\n[size 2]\n") Text
      × Unread 32768 (ascii "[size 2]\n[op 0 1]") Text
      × Unread 32768 (ascii "[size 2]\n\n") Text
      × Unread 32768 (ascii "[op 0 0]\n") Text
  -- line by line: what one line is refused for, no later line changes
  pub lines : Unread 32768 (ascii "[size 65]\n[op") Size
      × Unread 32768 (ascii "[size 2]\n[op 1 [0 2]]\n[op") Cell
      × Unread 32768 (ascii "[size 2]\n[op 4 ") Arity
      × Unread 32768 (ascii "[size 33]\n[op 3 ") Cells
      × Unread 32768 (ascii "[size 1]\n" ++ (concat (replicate 16 (ascii "[op 0 0]\n")) ++ ascii "[op 4 ")) Operations
  -- too few bytes go before whatever the text is
  pub few : Unread 32767 [] Space
      × Unread 32767 (ascii "[size 2]\n") Space

pub text_call_examples : TextCallExamples
unfolding ascii onward ◌>>=◌ mark gap begins opened digit_at number digits decimal gap_bytes cell parted bracket table close spaced_number size_line tested
    after_size sized arity last_table operation_tests cell_test with_operation after_table after_arity operation spaced line parted_texts table_text size_text
    operation_text algebra_text operation_line_at operations_to_end whole_algebra write_call algebra_read cells_read reading read_call every concat written lent_after
    lowest size_test space_test answered serve algebra_tests cell_count operations_of operations
text_call_examples =
    record {
      space = (refl, refl, refl);
      shapes = (refl, refl, refl);
      first = (refl, refl, refl);
      reads = (refl, refl);
      texts = (refl, refl, refl, refl, refl, refl);
      lines = (refl, refl, refl, refl, refl);
      few = (refl, refl);
    }
