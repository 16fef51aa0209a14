-- Bytes laid in a lent slice: those that are new, where, and that all others stay. The public promise of `bracket::run::fill` cites it.
use Rattle.std.specs.Prelude.{ℕ, ◌+◌, ◌≤◌, List, ◌≡◌, length}
use Rattle.equivalence.specs.Lent.{laid}

-- a writer laid the new bytes from a place on and gave the place after them
pub record Laid (lent : List ℕ) (put : ℕ) (new after : List ℕ) (end : ℕ) : Type 0 where
  pub place : end ≡ put + length new
  pub within : end ≤ length lent
  pub long : length after ≡ length lent
  pub bytes : after ≡ laid lent put new
