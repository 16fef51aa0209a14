-- Inner vocabulary: no contract of a service and no theorem cites this file.
-- The largest member of a list of bytes.
use Rattle.std.specs.Prelude.{ℕ, ◌≤◌, ◌<◌, List, get_or}

-- r is the larger of two
pub record Larger (a b r : ℕ) : Type 0 where
  pub left : a ≤ r
  pub right : b ≤ r
  pub least : (k : ℕ) → a < k → b < k → r < k

-- r is the largest of the first i members, or 0
pub record Largest (i : ℕ) (s : List ℕ) (r : ℕ) : Type 0 where
  pub above : (j : ℕ) → j < i → get_or s j 0 ≤ r
  pub least : (k : ℕ) → 0 < k → ((j : ℕ) → j < i → get_or s j 0 < k) → r < k
