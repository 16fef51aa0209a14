-- Demand 1 for the writer and the reader of algebras: which refusals come, and that they write nothing.
use Rattle.std.specs.Prelude.{List, ◌≡◌, ℕ, length, Err}
use Rattle.equivalence.specs.Ranks.{RefusalRight}
use Rattle.equivalence.specs.declared.Refusal.{Refusal}
use Rattle.algebra.specs.Algebra.{Algebra}
use Rattle.reader.specs.Lines.{refused}
use Rattle.algebratext.specs.Calls.{write_tests, write_call, reading, read_call}

-- the writer is refused with the lowest reason among its tests, and only so; the reader with the reason that the text comes to; refused, they leave every lent byte
pub record TextReasons : Type 0 where
  pub writer : (a : Algebra) (lent : List ℕ) → RefusalRight (write_call a lent) (write_tests a (length lent)) lent
  pub reader : (text lent : List ℕ) (r : Refusal) → (read_call text lent).0 ≡ Err r
      → (reading text (length lent) ≡ refused r) × (read_call text lent ≡ (Err r, lent))
