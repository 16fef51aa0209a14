-- A part of a list, as a slice has it: how long it is, and its members.
use Prim.Native.Nat.{ℕ, ◌+◌, ◌-◌, ◌≤◌, ◌<◌}
use mathlib.Core.List.{List}
use mathlib.Core.Path.{◌≡◌, ◌∙◌}
use native.Mathlib.Omega.{arith}
use lib.ListN.{length, get_or, take, drop, length-drop}
use lib.Seq.{length-take-le, get_or-take, get_or-drop}

module _ (m : List ℕ) (from to : ℕ) where
  pub part_length : to ≤ length m → length (take (to - from) (drop from m)) ≡ to - from
  part_length h = length-take-le (to - from) (drop from m) (rw length-drop (omega arith))

  pub part_member : (i : ℕ) → i < to - from → get_or (take (to - from) (drop from m)) i 0 ≡ get_or m (from + i) 0
  part_member i h = get_or-take (to - from) (drop from m) i 0 h ∙ get_or-drop from m i 0
