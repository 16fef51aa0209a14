-- `separate_next`: the first pair is of two elements, and what Separate gives for it is laid.
use Rattle.gathering.proofs.Gathering.{wanted_pair, wanted_laid}
use Rattle.gathering.proofs.gather.separate_next.Goals as goal

pub separated_into-requires : goal.separated_into-requires
separated_into-requires c =
    let w = wanted_pair c.requires c.first_held-pair.ensures in
    record { accepted = w.0; v_lt_n = w.1.0; w_lt_n = w.1.1.0; fact = w.1.1.1.0; n_in_bounds = w.1.1.1.1 }

pub returns-clause-separated : goal.returns-clause-separated
returns-clause-separated c = search wanted_laid
