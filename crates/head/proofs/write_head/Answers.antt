-- `write_head` meets its contract, by the laws of Heads.
use Rattle.std.proofs.Common.{refl, ◌∙◌}
use Rattle.head.specs.Head.{head_of}
use Rattle.head.proofs.Heads.{head_written}
use Rattle.head.proofs.write_head.Goals as goal

pub returns-in-Ok : goal.returns-in-Ok
returns-in-Ok c = let b = rw c.in-Ok.is at c.requires.read_bounded in
    rw c.in-Ok.is (search head_written)

pub returns-in-Err : goal.returns-in-Err
unfolding head_of
returns-in-Err c = c.fill.ensures.after (λ y e. e) ∙ rw (c.in-Err.is, c.requires.head_len) refl
