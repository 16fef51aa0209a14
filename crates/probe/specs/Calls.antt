-- What Prefer and the reader of algebras give the tests: a number, and every lent byte afterwards.
use Rattle.std.specs.Prelude.{ℕ, List, [], length}
use Rattle.pairorder.specs.Calls.{earlier_of}
use Rattle.equivalence.specs.Equivalence.{Map}
use Rattle.equivalence.specs.Refusal.{prefer_check, answered}
use Rattle.algebratext.specs.Calls.{read_call}
use Rattle.head.specs.Head.{read_number, head_of}
use Rattle.imagepart.specs.Copies.{copied}
use Rattle.imagecalls.specs.Calls.{of_length}

-- the bytes of the part that Prefer hands back: the earlier map, or none
unfoldable pub preferred : ℕ → Map → Map → List ℕ
preferred n a b = answered (λ r. []) (prefer_check n a b) (earlier_of n a b a b)

-- Prefer: the length of the part, and the lent bytes with a copy of it
unfoldable pub prefer_copy : ℕ → Map → Map → List ℕ → ℕ × List ℕ
prefer_copy n a b lent = (length (preferred n a b), copied (preferred n a b) lent)

-- Read, over a head of 18 bytes: the number, the cells and the head after it; a head of another length gives 255, and nothing is written
unfoldable pub head_call : List ℕ → List ℕ → List ℕ → ℕ × (List ℕ × List ℕ)
head_call text cells head =
    of_length 18 head (read_number (read_call text cells).0, ((read_call text cells).1, head_of (read_call text cells).0)) (255, (cells, head))
