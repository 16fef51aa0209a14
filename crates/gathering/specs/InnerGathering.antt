-- What the first loop of Decompose finds of an algebra, what it leaves in working storage, and what holds on the way there.
use Rattle.std.specs.Prelude.{ℕ, ◌+◌, ◌-◌, ◌*◌, ◌≤◌, ◌<◌, ◌≡◌, Bool, true, false, T, length, take, drop}
use mathlib.Core.List.{List, ◌++◌, Memᴰ as Member}
use Rattle.kernel.specs.InnerKernel.{Canonical}
use Rattle.equivalence.specs.Equivalence.{Map, byte, blocks, whole, is_identity, meet, meet_all}
use Rattle.pairorder.specs.Order.{Pair}
use Rattle.equivalence.specs.Lists.{concat}
use Rattle.equivalence.specs.Lent.{written, laid}
use Rattle.algebra.specs.Algebra.{Algebra}
use Rattle.algebra.specs.Accepted.{Accepted}
use Rattle.algebra.specs.Congruence.{Congruence}
use Rattle.theory.specs.Decompose.{added, gathered, most_factor_space, reducible, common_pair}
use Rattle.gathering.specs.declared.gather.Collected.{Collected}
use Rattle.gathering.specs.declared.gather.Collected.TheVariants.{All, Joined}

-- k congruences are gathered, none of them the identity: they are laid over `lent` one after the other, `met` begins with their meet, and what Decompose
-- gathers in all are they and what it gathers from that meet on
pub record Gathering (a : Algebra) (lent : List ℕ) (k : ℕ) (met bytes : List ℕ) : Type 0 where
  pub accepted : Accepted a
  pub two : 2 ≤ a.size
  pub room : most_factor_space a.size ≤ length lent
  pub enough : a.size ≤ length met
  pub found : List Map
  pub number : length found ≡ k
  pub few : k < a.size
  pub most : a.size ≤ 64
  pub small : k * a.size ≤ 4032
  pub each : (m : Map) → Member m found → Congruence a m × ¬ T (is_identity a.size m)
  pub meets : take a.size met ≡ meet_all a.size found
  pub more : gathered a.size a (whole a.size) ≡ found ++ gathered (a.size - k) a (meet_all a.size found)
  pub fuel : a.size < a.size - k + blocks a.size (meet_all a.size found)
  pub laid : bytes ≡ written (concat found) lent
  pub long : length bytes ≡ length lent

-- the map over n elements at the start of `met` is not the identity
pub record Unmet (n : ℕ) (met : List ℕ) : Type 0 where
  pub some : 1 ≤ n
  pub most : n ≤ 64
  pub enough : n ≤ length met
  pub canonical : Canonical n (byte met)
  pub going : is_identity n met ≡ false

-- the algebra's next congruence is wanted, from byte `at` on
pub record Wanted (a : Algebra) (at : ℕ) (met bytes : List ℕ) : Type 0 where
  pub accepted : Accepted a
  pub unmet : Unmet a.size met
  pub fits : at + a.size ≤ length bytes

-- Separate's congruence for the first pair of `met` is laid there
abbrev pub Separated : Algebra → ℕ → List ℕ → List ℕ → List ℕ → Type 0
Separated a at met bytes after = after ≡ laid bytes at (added a met)

-- two maps, at the start of `met` and from byte `at` on, and a table for their meet
pub record Meetable (n at : ℕ) (bytes table met : List ℕ) : Type 0 where
  pub most : n ≤ 64
  pub fits : at + n ≤ length bytes
  pub pairs : 4096 ≤ length table
  pub enough : n ≤ length met
  pub new : Canonical n (byte (drop at bytes))
  pub old : Canonical n (byte met)

-- the map from byte `at` on is the identity, or is met
pub record Met (n at : ℕ) (bytes met : List ℕ) (stop : Bool) (met' : List ℕ) : Type 0 where
  pub identity : stop ≡ is_identity n (drop at bytes)
  pub stays : stop ≡ true → met' ≡ met
  pub meets : stop ≡ false → met' ≡ written (meet n met (drop at bytes)) met

-- the pair, as elements
abbrev pub pair_found : Pair → Collected
pair_found p = Joined (record { 0 = p.0 }) (record { 0 = p.1 })

-- all that Decompose gathers, where none of it is the identity; or the pair that 11 carries
abbrev pub GatheredRight : Algebra → Collected → List ℕ → List ℕ → Type 0
GatheredRight a (All k) lent after =
    T (reducible a) × (k ≡ length (gathered a.size a (whole a.size))) × (after ≡ written (concat (gathered a.size a (whole a.size))) lent)
GatheredRight a (Joined x y) lent after = (¬ T (reducible a)) × (common_pair a ≡ (x.0, y.0))
