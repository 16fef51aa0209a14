-- The maps that are needed, written one after the other: what holds when those below number i stand in the lent list (`NeededWritten`), and the laws that start it, keep
-- it and end it.
use Prim.Native.Nat.{ℕ, ◌+◌, ◌-◌, ◌*◌, ◌≤◌, ◌<◌}
use mathlib.Core.List.{List, [], ◌∷◌, ◌++◌, map, map-append, append-nil}
use mathlib.Core.Path.{◌≡◌, refl, sym, ap, ◌∙◌}
use native.Mathlib.Nat.{suc-mul, mul-le-mul_right}
use native.Mathlib.Numerals.{add-one}
use native.Mathlib.Omega.{arith}
use lib.ListN.{length, take, drop, length-append}
use lib.Seq.{take-suc}
use Rattle.equivalence.specs.Equivalence.{Map, byte}
use Rattle.equivalence.specs.Lists.{concat}
use Rattle.equivalence.specs.Lent.{stretch, written, laid}
use Rattle.equivalence.proofs.Maps.{IsMap, of_is_map}
use Rattle.equivalence.proofs.Stretches.{concat_append}
use Rattle.equivalence.proofs.Writing.{written_length}
use Rattle.pruning.specs.InnerPruning.{chosen, ChosenMaps}
use Rattle.maplist.proofs.MapLists.{laid_snoc, copied_laid}
use borrow.Rule.Slice.PartMut.{put_mid}

pub record NeededWritten (n : ℕ) (maps : List ℕ) (k : ℕ) (needed lent : List ℕ) (i : ℕ) (out : List ℕ) : Type 0 where
  pub numbers : ChosenMaps n maps k needed
  pub room : k * n ≤ length lent
  pub upto : i ≤ k
  pub total : length (concat (chosen n maps i needed)) ≡ i * n
  pub bytes : out ≡ written (concat (chosen n maps i needed)) lent

pub needed_written_none : {n : ℕ} {maps : List ℕ} {k : ℕ} {needed lent : List ℕ} → ChosenMaps n maps k needed → k * n ≤ length lent → NeededWritten n maps k needed lent 0 lent
unfolding concat written
needed_written_none c r =
    record { numbers = c; room = r; upto = omega arith; total = omega arith; bytes = refl }

module _ {n : ℕ} {maps : List ℕ} {k : ℕ} {needed lent : List ℕ} {i : ℕ} {out : List ℕ} (w : NeededWritten n maps k needed lent i out) where
  fits : i * n ≤ length lent
  fits = omega (arith, w.room, mul-le-mul_right n w.upto)

  pub needed_written_long : length out ≡ length lent
  needed_written_long = rw w.bytes (written_length (concat (chosen n maps i needed)) lent (omega (arith, w.total, fits)))

  pub needed_written_all : k ≤ i → out ≡ written (concat (chosen n maps k needed)) lent
  needed_written_all h = let all : i ≡ k = omega (arith, w.upto) in rw all at w.bytes

  module _ (l : i < k) where
    -- the next map, and where it stands
    this : IsMap n (stretch n maps (byte needed i))
    this = of_is_map n (stretch n maps (byte needed i)) (w.numbers.each i l)

    pub needed_written_part : (byte needed i * n + n ≤ length maps) × (i * n + n ≤ length out) × (i < length needed)
    needed_written_part = (
      w.numbers.within i l,
      omega (arith, w.room, needed_written_long, mul-le-mul_right n l, suc-mul i n),
      omega (arith, w.numbers.room),
    )

    more : chosen n maps (i + 1) needed ≡ chosen n maps i needed ++ (stretch n maps (byte needed i) ∷ [])
    more =
        let last : take (i + 1) needed ≡ take i needed ++ (byte needed i ∷ []) = rw add-one (take-suc needed i 0 needed_written_part.2) in
        ap (map (stretch n maps)) last ∙ map-append (stretch n maps) (take i needed) (byte needed i ∷ [])

    pub needed_written_more : {part : List ℕ} → part ≡ take (byte needed i * n + n - byte needed i * n) (drop (byte needed i * n) maps)
        → NeededWritten n maps k needed lent (i + 1) (put_mid (i * n) (i * n + n - i * n) out part)
    unfolding concat stretch
    needed_written_more {part} e =
        let m : Map = stretch n maps (byte needed i) in
        let width : byte needed i * n + n - byte needed i * n ≡ n = omega arith in
        let here : put_mid (i * n) (i * n + n - i * n) out part ≡ laid out (i * n) m = rw (e, width) (copied_laid (i * n) n out m this.long) in
        let old : i * n ≡ length (concat (chosen n maps i needed)) = sym w.total in
        record {
          numbers = w.numbers;
          room = w.room;
          upto = omega arith;
          total = rw (more, concat_append (chosen n maps i needed) (m ∷ []), length-append (concat (chosen n maps i needed)) (m ++ []), append-nil m, this.long)
              (omega (arith, w.total, suc-mul i n));
          bytes = here ∙ rw (w.bytes, laid_snoc (chosen n maps i needed) m lent (i * n) old (omega (arith, w.total, fits)), more);
        }
