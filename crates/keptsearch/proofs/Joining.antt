-- The records of rows joined from kept pairs, as the functions hand them on.
use Prim.Native.Nat.{ℕ, ◌+◌, ◌*◌, ◌≤◌, ◌<◌}
use mathlib.Core.List.{List}
use mathlib.Core.Logic.{◌⊎◌, inl, inr}
use mathlib.Core.Path.{◌≡◌, subst}
use native.Mathlib.Omega.{arith}
use lib.ListN.{length}
use Rattle.equivalence.specs.Equivalence.{byte}
use Rattle.equivalence.specs.declared.Pair.{Pair}
use Rattle.kernel.specs.InnerKernel.{Within}
use Rattle.algebra.specs.Accepted.{Accepted}
use Rattle.algebra.specs.Algebra.{algebra_of}
use Rattle.algebra.proofs.Accepted.{WellFormed, accepted_well_formed}
use Rattle.translation.specs.InnerTranslations.{Closed}
use Rattle.keeping.specs.InnerKeeping.{PairKept, kept_at, Keeping, PlaceOf}
use Rattle.keeping.specs.InnerPrincipal.{PrincipalHere}
use Rattle.keeping.proofs.Storing.{from, from_byte}
use Rattle.keeping.proofs.Keepings.{alike_compatible, alike_kept, keeping_at, keeping_whole, kept_room}
use Rattle.keeping.proofs.Closings.{names_within, principal_from}
use Rattle.bounding.specs.InnerSettled.{Settled}
use Rattle.bounding.proofs.Settling.{settled_pass, settled_take, settled_skip, settled_row, settled_skip_row}
use Rattle.keptsearch.specs.InnerRows.{AlwaysJoins, KeptStanding, RowLent, WithKept, Generating}
use Rattle.keptsearch.proofs.Rowing.{with_closed, joined_start, joined_grow, joined_next, joined_settled}

-- ---- what is kept for a pair

module _ {n : ℕ} {arities cells maps marks : List ℕ} {x y p : ℕ} where
  -- a map with the mark of a congruence
  pub whole_generating : WellFormed (algebra_of n arities cells) → Keeping (algebra_of n arities cells) maps marks → x < y → y < n → PlaceOf x y p → byte marks p ≡ 2 → Generating (algebra_of n arities cells) x y (from (p * 64) maps)
  whole_generating ok k l h place two =
      let same : (z : ℕ) → z < 64 → byte (from (p * 64) maps) z ≡ kept_at maps p z = λ z lz. from_byte (p * 64) maps z in
      let pair : PairKept (algebra_of n arities cells) x y (byte (from (p * 64) maps)) = alike_kept ok same (omega arith) h (keeping_at k l h place (λ z. absurd (omega (arith, two, z)))) in
      record {
        room = kept_room k place;
        closed = record { canonical = pair.canonical; compatible = alike_compatible ok same (keeping_whole k l h place two); good = pair.joined; least = pair.inside };
      }

  -- a map that holds the marked elements apart
  pub principal_generating : {v w : ℕ} → Accepted (algebra_of n arities cells) → x < y → y < n → PrincipalHere (algebra_of n arities cells) x y v w maps marks p
      → (kept_at maps p v ≡ kept_at maps p w → ⊥) → Generating (algebra_of n arities cells) x y (from (p * 64) maps)
  principal_generating ok l h here apart = record { room = kept_room here.keeping here.place; closed = principal_from ok l h here apart }

  -- a map that joins them
  pub principal_joins : {v w : ℕ} → v < n → w < n → PrincipalHere (algebra_of n arities cells) x y v w maps marks p → kept_at maps p v ≡ kept_at maps p w → AlwaysJoins (algebra_of n arities cells) v w x y
  principal_joins {v} {w} lv lw here e g c i = here.pair.inside g c i v w lv lw e

-- ---- a row

module _ {n : ℕ} {arities cells m : List ℕ} {marked : Pair} {x : ℕ} where
  pub row_start_lem : {all : List ℕ} → KeptStanding n arities cells m marked x (x + 1) → x < n → byte m x ≡ x → all ≡ m → RowLent n arities cells m all marked x (x + 1)
  row_start_lem s l name e = record {
    standing = s;
    below = l;
    named = name;
    full = rw e (record { most = s.size; room = s.map_room; canonical = s.settled.canonical; padded = s.padded });
    joined = rw e (joined_start (algebra_of n arities cells) _ _ x s.settled);
  }

  module _ {all : List ℕ} {y : ℕ} (r : RowLent n arities cells m all marked x y) where
    pub row_grow : {z : ℕ} {kept : List ℕ} (all' : List ℕ) → y ≤ n → x < z → z < n → Generating (algebra_of n arities cells) x z kept
        → WithKept n (length all') (byte kept) (byte all) (byte all') → RowLent n arities cells m all' marked x y
    row_grow all' most l h g j = record {
      standing = r.standing;
      below = r.below;
      named = r.named;
      full = j.full;
      joined = joined_grow (algebra_of n arities cells) _ _ x r.joined (accepted_well_formed _ r.standing.accepted) r.standing.left r.standing.right l h most g.closed j;
    }

    row_next : (byte m y ≡ y → (byte all x ≡ byte all y) ⊎ AlwaysJoins (algebra_of n arities cells) marked.x marked.y x y) → RowLent n arities cells m all marked x (y + 1)
    row_next t = record { standing = r.standing; below = r.below; named = r.named; full = r.full; joined = joined_next (algebra_of n arities cells) _ _ x r.joined t }

    pub row_held : byte all x ≡ byte all y → RowLent n arities cells m all marked x (y + 1)
    row_held e = row_next (λ i. inl e)

    pub row_joins : AlwaysJoins (algebra_of n arities cells) marked.x marked.y x y → RowLent n arities cells m all marked x (y + 1)
    row_joins j = row_next (λ i. inr j)

  -- the row is taken whole
  pub row_taken : {all m' : List ℕ} → RowLent n arities cells m all marked x n → (byte all marked.x ≡ byte all marked.y → ⊥) → m' ≡ all → KeptStanding n arities cells m' marked (x + 1) (x + 2)
  row_taken r apart e = let s = r.standing in rw e (record {
    accepted = s.accepted;
    size = s.size;
    map_room = r.full.room;
    padded = r.full.padded;
    left = s.left;
    right = s.right;
    settled = joined_settled (algebra_of n arities cells) _ _ x r.below r.named s.settled r.joined apart;
  })

-- a pair is joined, and tried
pub row_widened : {n : ℕ} {arities cells m all kept : List ℕ} {marked : Pair} {x y : ℕ} (all' : List ℕ) → RowLent n arities cells m all marked x y → x < y → y < n → Generating (algebra_of n arities cells) x y kept
    → WithKept n (length all') (byte kept) (byte all) (byte all') → RowLent n arities cells m all' marked x (y + 1)
row_widened {x = x} {y} all' r l h g j = row_held (row_grow r all' (omega arith) l h g j) (names_within j.joined x y (omega arith) h g.closed.good)

-- ---- pair by pair

module _ {n : ℕ} {arities cells m : List ℕ} {marked : Pair} where
  standing_as : {x y x' y' : ℕ} → KeptStanding n arities cells m marked x y → Settled (algebra_of n arities cells) marked.x marked.y x' y' (byte m) → KeptStanding n arities cells m marked x' y'
  standing_as s t = record { accepted = s.accepted; size = s.size; map_room = s.map_room; padded = s.padded; left = s.left; right = s.right; settled = t }

  module _ {x y : ℕ} (s : KeptStanding n arities cells m marked x y) (l : x < y) (h : y < n) where
    pub pair_skipped : (byte m y ≡ y → ⊥) → KeptStanding n arities cells m marked x (y + 1)
    pair_skipped d = standing_as s (settled_skip (algebra_of n arities cells) _ _ x y (byte m) s.settled l h (λ p. d p.1))

    pub pair_joins : AlwaysJoins (algebra_of n arities cells) marked.x marked.y x y → KeptStanding n arities cells m marked x (y + 1)
    pair_joins j = standing_as s (settled_pass (algebra_of n arities cells) _ _ x y (byte m) s.settled l h (λ g c up e. j g c e))

    module _ {kept : List ℕ} (all all' : List ℕ) (same : all ≡ m) (g : Generating (algebra_of n arities cells) x y kept) (j : WithKept n (length all') (byte kept) (byte all) (byte all')) where
      closed : Closed (algebra_of n arities cells) (λ f. Within n (byte m) f × (f x ≡ f y)) (byte all')
      closed = with_closed (accepted_well_formed _ s.accepted) (omega arith) h s.settled.compatible g.closed (rw same at j)

      pub pair_refused : byte all' marked.x ≡ byte all' marked.y → KeptStanding n arities cells m marked x (y + 1)
      pair_refused e =
          standing_as s (settled_pass (algebra_of n arities cells) _ _ x y (byte m) s.settled l h (λ f c up i. closed.least f c (up, i) marked.x marked.y s.left s.right e))

      pub pair_taken : (byte all' marked.x ≡ byte all' marked.y → ⊥) → (m' : List ℕ) → m' ≡ all' → KeptStanding n arities cells m' marked x (y + 1)
      pair_taken d m' e = rw e (record {
        accepted = s.accepted;
        size = s.size;
        map_room = j.full.room;
        padded = j.full.padded;
        left = s.left;
        right = s.right;
        settled = settled_take (algebra_of n arities cells) _ _ x y (byte m) s.settled l h (byte all') closed d;
      })

  -- the end of a row, and a row that is skipped
  pub pairs_end : {x y : ℕ} → KeptStanding n arities cells m marked x y → y ≤ n → n ≤ y → KeptStanding n arities cells m marked (x + 1) (x + 2)
  pairs_end {x} {y} s l h = let e : y ≡ n = omega arith in standing_as s (settled_row (algebra_of n arities cells) _ _ x (byte m) (subst (λ (z : ℕ). Settled (algebra_of n arities cells) marked.x marked.y x z (byte m)) e s.settled))

  pub row_skipped : {x : ℕ} → KeptStanding n arities cells m marked x (x + 1) → x < n → (byte m x ≡ x → ⊥) → KeptStanding n arities cells m marked (x + 1) (x + 2)
  row_skipped {x} s l d = standing_as s (settled_skip_row (algebra_of n arities cells) _ _ x (byte m) l d s.settled)
