-- `benchtests::start_check` is the test of reason 1, by the laws of the equivalence crate.
use mathlib.Core.Path.{sym, ◌∙◌}
use borrow.Author.Rules.{rules}
use Rattle.equivalence.proofs.Refusals.{lowest_none, size_refused, size_passed}
use Rattle.benchtests.proofs.start_check.Goals as goal

pub returns-then-not-is_size : goal.returns-then-not-is_size
returns-then-not-is_size c = sym (search size_refused)

pub returns : goal.returns
returns c = sym (size_passed _ _ c.is_size.ensures (search rules) ∙ lowest_none)
