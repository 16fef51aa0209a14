-- `try_pair`: the pair is taken with the names that are left, or marked.
use Rattle.std.proofs.Common.{rules}
use borrow.Author.Tests.{tests}
use Rattle.separation.proofs.Standings.{try_taken, try_refused}
use Rattle.separation.proofs.search.try_pair.Goals as goal

pub returns-then-not-close_apart-clause-standing_2 : goal.returns-then-not-close_apart-clause-standing_2
returns-then-not-close_apart-clause-standing_2 c = let p = c.requires in
    (try_refused p.standing p.x_lt_y p.y_lt_n p.marks _ c.close_apart.ensures (search (rules, tests))).0

pub returns-then-not-close_apart-clause-marks_2 : goal.returns-then-not-close_apart-clause-marks_2
returns-then-not-close_apart-clause-marks_2 c = let p = c.requires in
    (try_refused p.standing p.x_lt_y p.y_lt_n p.marks _ c.close_apart.ensures (search (rules, tests))).1

pub returns-then-not-close_apart-clause-within : goal.returns-then-not-close_apart-clause-within
returns-then-not-close_apart-clause-within c = let p = c.requires in
    (try_refused p.standing p.x_lt_y p.y_lt_n p.marks _ c.close_apart.ensures (search (rules, tests))).2

pub returns-else-not-close_apart-clause-standing_2 : goal.returns-else-not-close_apart-clause-standing_2
returns-else-not-close_apart-clause-standing_2 c = let p = c.requires in
    (try_taken p.standing p.x_lt_y p.y_lt_n p.marks _ c.close_apart.ensures (search (rules, tests))).0

pub returns-else-not-close_apart-clause-marks_2 : goal.returns-else-not-close_apart-clause-marks_2
returns-else-not-close_apart-clause-marks_2 c = let p = c.requires in
    (try_taken p.standing p.x_lt_y p.y_lt_n p.marks _ c.close_apart.ensures (search (rules, tests))).1

pub returns-else-not-close_apart-clause-within : goal.returns-else-not-close_apart-clause-within
returns-else-not-close_apart-clause-within c = let p = c.requires in
    (try_taken p.standing p.x_lt_y p.y_lt_n p.marks _ c.close_apart.ensures (search (rules, tests))).2
