-- `is_congruence` meets its contract: where there is no table nothing is asked, a map whose bytes are all 0 has one block, and the walk over the tables says
-- whether any other is compatible.
use mathlib.Core.Path.{sym}
use native.Mathlib.Omega.{arith}
use borrow.Author.Rules.{rules}
use Rattle.likeness.proofs.Likeness.{nothing_says, one_block_says, identity_says, says_congruence, accepted_small, map_long, room_long, all_elements, others_listed, walk_lent}
use Rattle.likeness.proofs.is_congruence.Goals as goal
use Rattle.likeness.proofs.is_congruence.Goals.{then-is_empty-via-then-is_empty, then-is_empty-via-else-is_empty+then-largest-eq0}

pub returns-then-is_empty : goal.returns-then-is_empty
returns-then-is_empty c =
    elim c.then-is_empty.branch [
      | then-is_empty-via-then-is_empty w ↦ nothing_says _ _ _ _ c.requires.accepted c.requires.t (search rules)
      | then-is_empty-via-else-is_empty+then-largest-eq0 w ↦ one_block_says _ _ _ _ c.requires.accepted c.requires.t w.largest.ensures w.if-largest-eq0.true
    ]

pub slice_bounds-room-end : goal.slice_bounds-room-end
slice_bounds-room-end c = accepted_small _ _ _ c.requires.accepted

pub slice_bounds-all-end : goal.slice_bounds-all-end
slice_bounds-all-end c = sym (room_long c.args.n (accepted_small _ _ _ c.requires.accepted))

pub identity-requires-clause-n_in_bounds : goal.identity-requires-clause-n_in_bounds
identity-requires-clause-n_in_bounds c = omega (arith, room_long c.args.n (accepted_small _ _ _ c.requires.accepted))

pub identity-requires-clause-n_bound : goal.identity-requires-clause-n_bound
identity-requires-clause-n_bound c = accepted_small _ _ _ c.requires.accepted

pub sift-left-requires : goal.sift-left-requires
sift-left-requires c = all_elements (accepted_small _ _ _ c.requires.accepted) c.identity.auto.m c.identity.ensures (map_long _ _ c.requires.t)

pub returns-then-is_empty-2 : goal.returns-then-is_empty-2
returns-then-is_empty-2 c =
    identity_says _ _ _ _ c.requires.accepted c.requires.t
    (others_listed (accepted_small _ _ _ c.requires.accepted) c.identity.auto.m c.identity.ensures c.sift-left.new.list c.sift-left.ensures) (search rules)

pub is_compatible-requires-clause-walk_lent : goal.is_compatible-requires-clause-walk_lent
is_compatible-requires-clause-walk_lent c =
    walk_lent _ _ _ _ c.requires.accepted c.requires.t
    (others_listed (accepted_small _ _ _ c.requires.accepted) c.identity.auto.m c.identity.ensures c.sift-left.new.list c.sift-left.ensures)

pub returns : goal.returns
returns c = search says_congruence
