-- Bytes laid in a lent list from a place on: one, none, some after others, and what the rest keeps.
use Prim.Native.Nat.{ℕ, ◌+◌, ◌-◌, ◌≤◌, ◌<◌}
use mathlib.Core.List.{List, [], ◌∷◌, ◌++◌, append_assoc}
use mathlib.Core.Path.{◌≡◌, refl, sym, ◌∙◌}
use native.Mathlib.Omega.{arith}
use lib.ListN.{length, take, drop, set, length-append, length-set}
use lib.Seq.{take_at, drop_at, length-take-le}
use Rattle.equivalence.proofs.Laying.{laid_parts, laid_nothing, laid_byte, laid_laid}
use Rattle.tablereader.specs.Laying.{Laid}

pub laid_none : (lent : List ℕ) (put : ℕ) → put ≤ length lent → Laid lent put [] lent put
laid_none lent put h = record { place = omega arith; within = h; long = refl; bytes = sym (laid_nothing lent put) }

pub laid_one : (lent : List ℕ) (put b : ℕ) → put < length lent → Laid lent put (b ∷ []) (set lent put b) (put + 1)
laid_one lent put b h = record { place = omega arith; within = omega arith; long = length-set lent put b; bytes = laid_byte lent put b h }

-- some bytes, and others after them
pub laid_more : (lent : List ℕ) (put : ℕ) (a mid : List ℕ) (at : ℕ) (b after : List ℕ) (end : ℕ)
    → Laid lent put a mid at → Laid mid at b after end → Laid lent put (a ++ b) after end
laid_more lent put a mid at b after end p q =
    record {
      place = omega (arith, p.place, q.place, length-append a b);
      within = omega (arith, q.within, p.long);
      long = q.long ∙ p.long;
      bytes = q.bytes ∙ rw (p.place, p.bytes) (laid_laid lent put a b (omega (arith, p.place, p.within)));
    }

-- what was laid, what stands before its end, and what stood there before
module _ {lent : List ℕ} {put : ℕ} {new after : List ℕ} {end : ℕ} (p : Laid lent put new after end) where
  front_length : length (take put lent) ≡ put
  front_length = length-take-le put lent (omega (arith, p.place, p.within))

  parts : after ≡ take put lent ++ (new ++ drop (put + length new) lent)
  parts = p.bytes ∙ laid_parts lent put new

  pub laid_part : take (end - put) (drop put after) ≡ new
  laid_part =
      let e : end - put ≡ length new = omega (arith, p.place) in
      rw (e, parts, drop_at (take put lent) (new ++ drop (put + length new) lent) put front_length) (take_at new (drop (put + length new) lent) (length new) refl)

  pub laid_before : take end after ≡ take put lent ++ new
  laid_before =
      rw (p.place, parts ∙ sym (append_assoc (take put lent) new (drop (put + length new) lent)))
      (take_at (take put lent ++ new) (drop (put + length new) lent) (put + length new) (rw (length-append, front_length)))

  pub laid_front : take put after ≡ take put lent
  laid_front = rw parts (take_at (take put lent) (new ++ drop (put + length new) lent) put front_length)
