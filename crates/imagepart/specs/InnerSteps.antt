-- What the inner functions promise each other of an image that is written part by part.
use Rattle.std.specs.Prelude.{ℕ, List, ◌≡◌, length}
use Rattle.equivalence.specs.Lent.{laid}

-- the new bytes, w of them, are laid from byte `to` on, and the other bytes are as they were
pub record Laid (w : ℕ) (new : List ℕ) (to : ℕ) (before after : List ℕ) : Type 0 where
  pub long : length new ≡ w
  pub bytes : after ≡ laid before to new
