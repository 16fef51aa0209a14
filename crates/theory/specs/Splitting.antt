-- Lists of congruences that split an algebra.
use Rattle.std.specs.Prelude.{ℕ, ◌<◌, ◌≡◌, List, [], length, get_or}
use Rattle.equivalence.specs.Equivalence.{Map, identity, meet_all}
use Rattle.algebra.specs.Algebra.{Algebra}
use Rattle.algebra.specs.Congruence.{Congruence}

-- a non-empty list of congruences, none the identity, that meets in the identity
pub record Splitting (a : Algebra) (ms : List Map) : Type 0 where
  pub some : 0 < length ms
  pub each : (i : ℕ) → i < length ms → Congruence a (get_or ms i []) × ¬ (get_or ms i [] ≡ identity a.size)
  pub meets : meet_all a.size ms ≡ identity a.size

-- no such list splits the algebra
abbrev pub Unsplit : Algebra → Type 0
Unsplit a = (ms : List Map) → ¬ Splitting a ms
