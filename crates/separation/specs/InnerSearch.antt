-- The search for the earliest congruence that holds v and w apart: where it stands, what it has marked, and the room it is lent.
use Rattle.std.specs.Prelude.{ℕ, ◌≤◌, ◌<◌, ◌≡◌, List, length}
use Rattle.equivalence.specs.Equivalence.{byte}
use Rattle.equivalence.specs.declared.Pair.{Pair}
use Rattle.algebra.specs.Algebra.{Algebra, algebra_of}
use Rattle.algebra.specs.Accepted.{Accepted}
use Rattle.sweep.specs.InnerQueue.{Padded}
use Rattle.closure.specs.declared.Congruence.{Congruence}
use Rattle.closure.specs.InnerStarts.{RefusedRightlyAbove}
use Rattle.closure.specs.InnerClosing.{NamesInUse}
use Rattle.bounding.specs.InnerSettled.{Settled}

-- where the search stands: the pairs before (x, y) are settled in the map m over an accepted algebra, whose bytes past n name themselves; its names are listed, with the place of each
pub record Standing (n : ℕ) (arities cells m names places : List ℕ) (marked : Pair) (x y count : ℕ) : Type 0 where
  pub accepted : Accepted (algebra_of n arities cells)
  pub size : n ≤ 64
  pub map_room : length m ≡ 64
  pub padded : Padded n (byte m)
  pub left : marked.x < n
  pub right : marked.y < n
  pub settled : Settled (algebra_of n arities cells) marked.x marked.y x y (byte m)
  pub names_in_use : NamesInUse n (byte m) names places count

-- the same of a congruence with its names
abbrev pub StandingIn : ℕ → List ℕ → List ℕ → Congruence → Pair → ℕ → ℕ → Type 0
StandingIn n arities cells c marked x y = Standing n arities cells c.map c.names.list c.names.places marked x y c.names.count

-- the table has 64 rows of 64 marks, and every congruence above f joins the marked elements where it joins a pair that has a mark
pub record Marks (a : Algebra) (table : List ℕ) (marked : Pair) (f : ℕ → ℕ) : Type 0 where
  pub room : length table ≡ 4096
  pub rightly : RefusedRightlyAbove a table marked.x marked.y f
