-- `is_irredundant`: the meet of all maps is not the identity, or the last condition decides.
use Rattle.irredundance.proofs.Conditions.{all_suffixes_canonical, meets_elsewhere, needed_decides}
use Rattle.irredundance.proofs.is_irredundant.Goals as goal

pub is_identity-requires-clause-canonical : goal.is_identity-requires-clause-canonical
is_identity-requires-clause-canonical c = search all_suffixes_canonical

pub returns-then-is_identity : goal.returns-then-is_identity
returns-then-is_identity c = needed_decides _ _ _ c.suffix_meets.ensures c.is_identity.ensures c.if-is_identity.true c.none_superfluous.ensures

pub returns-else-is_identity : goal.returns-else-is_identity
returns-else-is_identity c = meets_elsewhere _ _ _ c.suffix_meets.ensures c.is_identity.ensures c.if-is_identity.false
