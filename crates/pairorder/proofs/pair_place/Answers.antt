-- `pair_place` is `place_of`, by the laws of Places: one for each return, and for each way to the last.
use mathlib.Core.Path.{ap, sym, ◌∙◌}
use Rattle.std.specs.Prelude.{Some}
use Rattle.pairorder.proofs.Places.{place_of_at, place_of_unordered, place_of_large}
use Rattle.pairorder.proofs.pair_place.Goals as goal
use Rattle.pairorder.proofs.pair_place.Goals.{else-x-y-via-then-x-y+else-y-lt-MAX_SIZE, else-x-y-via-else-x-y}

pub returns-then-y-lt-MAX_SIZE : goal.returns-then-y-lt-MAX_SIZE
returns-then-y-lt-MAX_SIZE c = ap Some c.place.ensures ∙ sym (place_of_at _ _ c.if-x-y.true c.if-y-lt-MAX_SIZE.true)

pub returns : goal.returns
returns c =
    elim c.else-x-y.branch [
      | else-x-y-via-then-x-y+else-y-lt-MAX_SIZE w ↦ sym (place_of_large _ _ w.if-y-lt-MAX_SIZE.false)
      | else-x-y-via-else-x-y w ↦ sym (place_of_unordered _ _ w.if-x-y.false)
    ]
