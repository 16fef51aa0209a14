-- `write_algebra`: a test declines, or the text is written.
use Rattle.algebratext.proofs.Writing.{text_fits, write_declined, write_granted, length_bounded, refusal_unbounded}
use Rattle.algebratext.proofs.write_algebra.Goals as goal

pub returns-in_err-write_check-clause-out_after : goal.returns-in_err-write_check-clause-out_after
returns-in_err-write_check-clause-out_after c = write_declined _ _ c.write_check.ensures c.in_err-write_check.was c.from_residual.ensures.1

pub returns-in_err-write_check-clause-bounded : goal.returns-in_err-write_check-clause-bounded
returns-in_err-write_check-clause-bounded c = refusal_unbounded _ _ c.from_residual.ensures.1

pub write_lines-requires : goal.write_lines-requires
write_lines-requires c = search (text_fits, c.in_ok-write_check.was)

pub returns-clause-out_after : goal.returns-clause-out_after
returns-clause-out_after c = search (write_granted, c.in_ok-write_check.was)

pub returns-clause-bounded : goal.returns-clause-bounded
returns-clause-bounded c = search (length_bounded, c.in_ok-write_check.was)
