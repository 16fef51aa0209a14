-- `imagecalls::set_point` meets its contract.
use mathlib.Core.Path.{◌≡◌, ap, ◌∙◌}
use borrow.Author.Rules.{rules}
use Rattle.bench.specs.Calls.{set_call}
use Rattle.imagecalls.proofs.Images.{name_other, named_called}
use Rattle.imagecalls.proofs.set_point.Goals as goal

pub returns-in_default : goal.returns-in_default
returns-in_default c = search (rules, name_other)

pub returns : goal.returns
returns c = let k = c.args.sheet in
    named_called (λ b p. set_call b k p) _ _ c.in-Some.ensures.0
    (c.over_image.ensures (λ b. set_call b k c.args.name.now) (λ b r h. let made : r ≡ set_call b k c.in-Some.point = search rules in made ∙ ap (set_call b k) c.in-Some.ensures.1))
