-- What the program hands to the writer.
use Rattle.std.specs.Prelude.{ℕ, ◌+◌, List, ◌++◌, ◌≡◌, length, drop}

-- where so many bytes of the whole are written, these come next
pub record Next (whole : List ℕ) (written : ℕ) (part : List ℕ) : Type 0 where
  pub follows : drop written whole ≡ part ++ drop (written + length part) whole
