-- `is_certified`: a condition fails, or the last one decides.
use mathlib.Core.Path.{sym, ◌∙◌}
use Rattle.equivalence.proofs.Tests.{T_of}
use Rattle.certification.proofs.Certifying.{not_irredundant, not_congruent, maximal_decides}
use Rattle.certification.proofs.is_certified.Goals as goal

pub returns-then-not-is_irredundant : goal.returns-then-not-is_irredundant
returns-then-not-is_irredundant c = search not_irredundant

pub returns-then-not-all_congruences : goal.returns-then-not-all_congruences
returns-then-not-all_congruences c = search not_congruent

pub all_maximal-requires-clause-t : goal.all_maximal-requires-clause-t
all_maximal-requires-clause-t c = T_of (sym c.all_congruences.ensures ∙ c.if-not-all_congruences.false)

pub returns : goal.returns
returns c = search maximal_decides
