-- A sheet with a new map: the map that is then on it, and the bytes past it; a loop that leaves the identity in the first n bytes.
use Prim.Native.Nat.{ℕ}
use mathlib.Core.List.{List}
use mathlib.Core.Path.{◌≡◌, sym, ap, ◌∙◌}
use lib.ListN.{length, take, drop}
use lib.Seq.{take_at, drop_at, get_or-take}
use Rattle.kernel.specs.InnerKernel.{Filled}
use Rattle.equivalence.specs.Equivalence.{Map, byte, identity}
use Rattle.equivalence.specs.Lent.{written}
use Rattle.equivalence.proofs.Maps.{identity_at}
use Rattle.sheet.specs.Sheet.{map_on, sheet_with}
use Rattle.sheet.specs.declared.Sheet.{Sheet}

module _ (n : ℕ) (m : Map) (s : Sheet) (e : length m ≡ n) where
  pub map_on_sheet_with : map_on n (sheet_with m s) ≡ m
  unfolding map_on sheet_with written
  map_on_sheet_with = take_at m (drop (length m) s.map) n e

  pub past_sheet_with : drop n (sheet_with m s).map ≡ drop n s.map
  unfolding sheet_with written
  past_sheet_with = drop_at m (drop (length m) s.map) n e ∙ ap (λ (k : ℕ). drop k s.map) e

-- a pass that writes each element's own number leaves the identity
pub filled_identity : (n : ℕ) (f f' : ℕ → ℕ) → Filled n (λ x. x) f f' → Filled n (byte (identity n)) f f'
filled_identity n f f' h = record { first = λ x l. h.first x l ∙ sym (identity_at n x l); rest = h.rest }
