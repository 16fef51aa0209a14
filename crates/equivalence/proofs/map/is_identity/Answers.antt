-- `is_identity` meets its contract, by the laws of Passes and Bytes.
use Rattle.std.proofs.Common.{rules, refl, ◌∙◌}
use borrow.Author.Tests.{tests}
use Rattle.equivalence.proofs.Bytes.{alone, is_identity_each}
use Rattle.equivalence.proofs.Passes.{all_up_to}
use Rattle.equivalence.proofs.map.is_identity.Goals as goal

pub returns : goal.returns
returns c = all_up_to (alone c.args.n c.args.m.now c.requires.canonical) c.args.n c.all.ensures.ran refl (λ x b q k. search (rules, tests)) ∙ is_identity_each _ _ c.requires.canonical
