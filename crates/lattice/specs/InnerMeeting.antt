-- Inner vocabulary: no contract of a service and no theorem cites this file.
-- The table by which a meet is written: 64 rows of 64 bytes. Place p of row q keeps the first element with the names p and q, 64 where there is none.
-- A row is cleared by the element that begins its block, so it does not matter what the table holds before.
use Rattle.std.specs.Prelude.{ℕ, ◌+◌, ◌*◌, ◌≤◌, ◌<◌, ◌≡◌, List, length, set}
use Rattle.kernel.specs.InnerKernel.{seen_or}
use Rattle.equivalence.specs.Equivalence.{byte}

-- the first `count` bytes from `at` on are cleared, and those before stay
pub record Cleared (at count : ℕ) (table table' : List ℕ) : Type 0 where
  pub none : (i : ℕ) → i < count → byte table' (at + i) ≡ 64
  pub kept : (k : ℕ) → k < at → byte table' k ≡ byte table k

-- row x is cleared where x is its own name, and the rows before stay
pub record Begun (x name : ℕ) (table table' : List ℕ) : Type 0 where
  pub none : name ≡ x → (i : ℕ) → i < 64 → byte table' (x * 64 + i) ≡ 64
  pub kept : (k : ℕ) → k < x * 64 → byte table' k ≡ byte table k

-- x with the names p and q is entered: in the table as it is once the row is begun, the first element with these names is found or becomes x
pub record Entered (x p q : ℕ) (table : List ℕ) (first : ℕ) (table' : List ℕ) : Type 0 where
  pub begun : List ℕ
  pub row : Begun x q table begun
  pub long : 4096 ≤ length begun
  pub is : first ≡ seen_or (byte begun (q * 64 + p)) x
  pub after : table' ≡ set begun (q * 64 + p) first
