-- `separate_next`: the first pair is of two elements, and what Separate gives for it is laid.
use Rattle.gathering.proofs.Gathering.{wanted_pair, wanted_laid}
use Rattle.gathering.proofs.gather_kept.separate_next.Goals as goal

pub separated_kept_into-requires : goal.separated_kept_into-requires
separated_kept_into-requires c =
    let p = c.requires in
    let w = wanted_pair p.wanted c.first_held-pair.ensures in
    record { keeping = p.keeping; accepted = w.0; v_lt_n = w.1.0; w_lt_n = w.1.1.0; fact = w.1.1.1.0; n_in_bounds = w.1.1.1.1 }

pub returns-clause-separated : goal.returns-clause-separated
returns-clause-separated c = search wanted_laid
