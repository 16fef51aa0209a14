-- The answers of the writer and the reader of algebras as numbers, and the reader's numbers as bytes.
use Rattle.std.specs.Prelude.{ℕ, ◌*◌, List, ◌∷◌, Result, Ok, Err, replicate}
use Rattle.equivalence.specs.Refusal.{number_of}
use Rattle.equivalence.specs.declared.Refusal.{Refusal}
use Rattle.algebratext.specs.declared.AlgebraRead.{AlgebraRead}

-- the writer's answer as a number: the reason, or 256 × the length of the text
unfoldable pub text_number : Result ℕ Refusal → ℕ
text_number (Ok k) = 256 * k
text_number (Err r) = number_of r

-- the reader's answer as a number: the reason, or 256 × the number of cells
unfoldable pub read_number : Result AlgebraRead Refusal → ℕ
read_number (Ok r) = 256 * r.cells
read_number (Err r) = number_of r

-- the head of the reader's answer: the size, the number of operations and the arities; zeros for a refusal
unfoldable pub head_of : Result AlgebraRead Refusal → List ℕ
head_of (Ok r) = r.size ∷ r.operations ∷ r.arities
head_of (Err r) = replicate 18 0
