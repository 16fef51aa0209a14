-- `prefer` meets its contract, by the laws of Calls: one for each return, and `preferred_maps` for what the tests leave.
use native.Mathlib.Omega.{arith}
use Rattle.equivalence.proofs.Bytes.{canonical_of}
use Rattle.pairorder.proofs.Calls.{preferred_first, preferred_second, preferred_maps}
use Rattle.pairorder.proofs.prefer.Goals as goal

pub is_not_later-requires : goal.is_not_later-requires
is_not_later-requires c =
    let t = preferred_maps _ c.args.a c.args.b c.maps_check.ensures c.is_err.ensures.value c.if-is_err.false in
    record {
      le_n = t.some;
      n_in_bounds = omega (arith, t.first.long);
      n_in_bounds_2 = omega (arith, t.second.long);
      canonical = canonical_of _ _ t.first;
      canonical_2 = canonical_of _ _ t.second;
    }

pub returns-then-is_not_later : goal.returns-then-is_not_later
returns-then-is_not_later c = search preferred_first

pub returns-else-is_not_later : goal.returns-else-is_not_later
returns-else-is_not_later c = search preferred_second
