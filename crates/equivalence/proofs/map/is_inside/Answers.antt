-- `is_inside` meets its contract, by the laws of Passes and Bytes.
use Rattle.std.proofs.Common.{rules, refl, ◌∙◌}
use borrow.Author.Tests.{tests}
use Rattle.equivalence.proofs.Bytes.{follows, inside_each}
use Rattle.equivalence.proofs.Passes.{all_up_to}
use Rattle.equivalence.proofs.map.is_inside.Goals as goal

pub returns : goal.returns
returns c = all_up_to (follows c.args.n c.args.a.now c.args.b.now c.requires.canonical) c.args.n c.all.ensures.ran refl (λ x b q k. search (rules, tests)) ∙ inside_each _ _ _ c.requires.canonical
