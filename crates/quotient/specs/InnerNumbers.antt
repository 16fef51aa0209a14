-- The numbers of a map's blocks, as inner functions hand them to each other.
use Rattle.std.specs.Prelude.{ℕ, ◌<◌, ◌≡◌, List, get_or}
use Rattle.equivalence.specs.Equivalence.{Map, byte, names_of, blocks, block_of}

-- b is the number of m's blocks, `numbers` has the number of each element's block, and `names` each block's smallest member
pub record Numbered (n : ℕ) (m : Map) (numbers names : List ℕ) (b : ℕ) : Type 0 where
  pub count : b ≡ blocks n m
  pub number : (x : ℕ) → x < n → byte numbers x ≡ block_of m x
  pub first : (k : ℕ) → k < b → byte names k ≡ get_or (names_of n m) k 0
