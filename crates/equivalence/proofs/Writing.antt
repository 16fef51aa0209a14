-- Bytes written at the start of a lent slice: what a pass that fills the first n bytes leaves there.
use Prim.Native.Nat.{ℕ, ◌+◌, ◌-◌, ◌≤◌, ◌<◌}
use mathlib.Core.List.{List, ◌++◌}
use mathlib.Core.Path.{◌≡◌, sym, ap, ◌∙◌}
use native.Mathlib.Decide.{dec_lt}
use native.Mathlib.Omega.{arith}
use lib.ListN.{length, drop, length-append, get_or-append, length-drop}
use lib.Seq.{get_or-drop, ext_get_or, get_or-append-add}
use Rattle.equivalence.specs.Equivalence.{byte}
use Rattle.kernel.specs.InnerKernel.{Filled}
use Rattle.equivalence.specs.Lent.{written}

module _ (new lent : List ℕ) (fits : length new ≤ length lent) where
  pub written_length : length (written new lent) ≡ length lent
  unfolding written
  written_length = rw (length-append new (drop (length new) lent), length-drop (length new) lent) (omega arith)

  -- the new bytes, and then the old
  pub written_new : (x : ℕ) → x < length new → byte (written new lent) x ≡ byte new x
  unfolding written
  written_new x l = get_or-append new (drop (length new) lent) 0 x l

  pub written_old : (x : ℕ) → length new ≤ x → byte (written new lent) x ≡ byte lent x
  unfolding written
  written_old x l =
      let e : x ≡ length new + (x - length new) = omega arith in
      ap (byte (new ++ drop (length new) lent)) e ∙ get_or-append-add new (drop (length new) lent) (x - length new) 0
      ∙ get_or-drop (length new) lent (x - length new) 0 ∙ ap (byte lent) (sym e)

pub filled_written : (n : ℕ) (new lent after : List ℕ) → length new ≡ n → n ≤ length lent → length after ≡ length lent → Filled n (byte new) (byte lent) (byte after) → after ≡ written new lent
filled_written n new lent after e fits long f =
    ext_get_or 0 after (written new lent) (long ∙ sym (written_length new lent (omega arith)))
    (λ x l. elim (dec_lt x n) [
      | yes k ↦ f.first x k ∙ sym (written_new new lent (omega arith) x (omega arith))
      | no k ↦ f.rest x (omega arith) ∙ sym (written_old new lent (omega arith) x (omega arith))
    ])
