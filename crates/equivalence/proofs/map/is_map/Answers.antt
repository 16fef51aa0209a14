-- `is_map` meets its contract, by the laws of Passes and Bytes.
use Rattle.std.proofs.Common.{rules, refl, ◌∙◌}
use borrow.Author.Tests.{tests}
use Rattle.equivalence.proofs.Bytes.{is_named, is_map_like, is_map_unlike}
use Rattle.equivalence.proofs.Passes.{all_up_to}
use Rattle.equivalence.proofs.map.is_map.Goals as goal

pub returns-then-m-n : goal.returns-then-m-n
returns-then-m-n c = all_up_to (is_named c.args.m.now) c.args.n c.all.ensures.ran refl (λ x b q k. search (rules, tests)) ∙ is_map_like _ _ c.if-m-n.true

pub returns-else-m-n : goal.returns-else-m-n
returns-else-m-n c = is_map_unlike _ _ c.if-m-n.false
