-- A map written to its place in a slice of maps, 64 bytes each: what is there then, and what stays.
use Prim.Native.Nat.{ℕ, ◌+◌, ◌*◌, ◌-◌, ◌≤◌, ◌<◌}
use mathlib.Core.List.{List, ◌++◌}
use mathlib.Core.Path.{◌≡◌, sym, ap, ◌∙◌}
use native.Mathlib.Decide.{dec_lt}
use native.Mathlib.Omega.{arith}
use lib.ListN.{length, take, set, length-set, length-drop, get_or-append}
use lib.Seq.{get_or-append-add, get_or-take, get_or-drop, length-take-le, get_or-set_same, get_or-set_other}
use borrow.Rule.Slice.PartMut.{put_mid, mid_of, post_of, same_len_mid}
use Rattle.equivalence.specs.Equivalence.{byte}
use Rattle.equivalence.proofs.Laying.{rest_whole}
use Rattle.kernel.specs.InnerKernel.{Canonical, Filled}
use Rattle.keeping.specs.InnerKeeping.{kept_at, Stored}

-- ---- the rest of a slice from a place on

-- a slice from `at` on
abbrev pub from : ℕ → List ℕ → List ℕ
from at l = mid_of at (length l - at) l

pub from_long : (at : ℕ) (l : List ℕ) → length (from at l) ≡ length l - at
from_long at l = ap length (rest_whole at l) ∙ length-drop at l

pub from_byte : (at : ℕ) (l : List ℕ) (z : ℕ) → byte (from at l) z ≡ byte l (at + z)
from_byte at l z = ap (λ (k : List ℕ). byte k z) (rest_whole at l) ∙ get_or-drop at l z 0

module _ (at : ℕ) (lent after : List ℕ) (room : at ≤ length lent) (long : length after ≡ length (from at lent)) where
  after_long : length after ≡ length lent - at
  after_long = long ∙ from_long at lent

  put_before : (i : ℕ) → i < at → byte (put_mid at (length lent - at) lent after) i ≡ byte lent i
  put_before i l =
      get_or-append (take at lent) (after ++ post_of at (length lent - at) lent) 0 i (omega (arith, length-take-le at lent room)) ∙ get_or-take at lent i 0 l

  put_at : (z : ℕ) → z < length lent - at → byte (put_mid at (length lent - at) lent after) (at + z) ≡ byte after z
  put_at z l =
      ap (λ (k : ℕ). byte (put_mid at (length lent - at) lent after) (k + z)) (sym (length-take-le at lent room))
      ∙ get_or-append-add (take at lent) (after ++ post_of at (length lent - at) lent) z 0
      ∙ get_or-append after (post_of at (length lent - at) lent) 0 z (omega (arith, after_long))

-- ---- a map at its place

module _ {p : ℕ} (m maps after : List ℕ) (room : length maps ≡ 129024) (small : p < 2016)
    (long : length after ≡ length (from (p * 64) maps)) (f : Filled 64 (byte m) (byte (from (p * 64) maps)) (byte after)) where
  stored_map : (z : ℕ) → z < 64 → kept_at (put_mid (p * 64) (length maps - p * 64) maps after) p z ≡ byte m z
  stored_map z l = put_at (p * 64) maps after (omega arith) long z (omega arith) ∙ f.first z l

  stored_others : (q z : ℕ) → q < 2016 → (q ≡ p → ⊥) → z < 64 → kept_at (put_mid (p * 64) (length maps - p * 64) maps after) q z ≡ kept_at maps q z
  stored_others q z inside other l =
      elim (dec_lt q p) [
        | yes h ↦ put_before (p * 64) maps after (omega arith) long (q * 64 + z) (omega arith)
        | no h ↦
            let j : ℕ = q * 64 + z - p * 64 in
            let e : q * 64 + z ≡ p * 64 + j = omega (arith, other) in
            ap (byte (put_mid (p * 64) (length maps - p * 64) maps after)) e ∙ put_at (p * 64) maps after (omega arith) long j (omega (arith, other))
            ∙ f.rest j (omega (arith, other)) ∙ from_byte (p * 64) maps j ∙ ap (byte maps) (sym e)
      ]

  pub stored : (k : ℕ) (marks : List ℕ) → length marks ≡ 2016 → Stored p k m maps marks (put_mid (p * 64) (length maps - p * 64) maps after) (set marks p k)
  stored k marks marked = record {
    maps_long = same_len_mid (p * 64) (length maps - p * 64) maps after long;
    marks_long = length-set marks p k;
    map = stored_map;
    mark = get_or-set_same marks p k 0 (omega arith);
    other_maps = stored_others;
    other_marks = λ q other. get_or-set_other marks p q k 0 other;
  }

-- a kept map, read from its place on
pub kept_canonical : {n : ℕ} (p : ℕ) (maps : List ℕ) → Canonical n (kept_at maps p) → Canonical n (byte (from (p * 64) maps))
kept_canonical {n} p maps c = record {
  below = λ x l. omega (arith, from_byte (p * 64) maps x, c.below x l);
  named = λ x l. ap (byte (from (p * 64) maps)) (from_byte (p * 64) maps x) ∙ from_byte (p * 64) maps (kept_at maps p x) ∙ c.named x l ∙ sym (from_byte (p * 64) maps x);
}
