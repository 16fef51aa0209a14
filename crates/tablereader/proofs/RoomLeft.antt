-- Room in storage: for a part of what may come, further on in the text, and behind what was stored; for cells, rows and tables.
use Prim.Native.Nat.{ℕ, zero, suc, ◌+◌, ◌-◌, ◌*◌, ◌^◌, ◌≤◌, ◌<◌}
use mathlib.Core.Bool.{Bool, true}
use mathlib.Core.List.{List}
use mathlib.Core.Path.{◌≡◌, refl, sym, ◌∙◌, subst}
use native.Mathlib.Nat.{mul-one, suc-mul, pow-zero, pow-succ'}
use native.Mathlib.Numerals.{sub-one}
use native.Mathlib.Omega.{arith}
use lib.Dec.{T, ltb}
use lib.ListN.{length}
use Rattle.equivalence.specs.Lists.{every}
use Rattle.numberreader.specs.Reading.{found, Reader, begins}
use Rattle.tablereader.specs.Tables.{cell, table}
use Rattle.tablereader.specs.Laying.{Laid}
use Rattle.numberreader.specs.InnerPromises.{GapFound}
use Rattle.tablereader.specs.InnerPromises.{RoomFor, RoomForText, Stored}
use Rattle.tablereader.specs.declared.Spot.{Spot}
use Rattle.tablereader.proofs.Lengths.{IfFound, Finds, Long, cell_long, table_long}
use Rattle.numberreader.proofs.Words.{begins_within}

-- a part less
pub part_less : (k w : ℕ) → 0 < k → (k - 1) * w + w ≡ k * w
part_less zero w h = absurd (omega arith)
part_less (suc k) w h = rw (sub-one (suc k), suc-mul k w)

module _ {need : ℕ} {text : List ℕ} {at : ℕ} {lent : List ℕ} {put : ℕ} (w : RoomFor need text at lent put) where
  -- further on in the text, for no more cells
  pub room_less : (next less : ℕ) → at ≤ next → next ≤ length text → less ≤ need → RoomFor less text next lent put
  room_less next less l e h = record { within = e; start = w.start; fits = λ k a b. w.fits k (omega arith) (omega arith) }

  -- behind what was stored, if that and what may come are no more than what might come before
  pub room_on : (new after : List ℕ) (so_far next end less : ℕ) → Laid lent put new after so_far → so_far + at ≤ put + next → next ≤ end → end ≤ length text
      → ((k : ℕ) → k ≤ less → k + end ≤ length text → length new + k ≤ need) → RoomFor less text end after so_far
  room_on new after so_far next end less l p h e f =
      record {
        within = e;
        start = omega (arith, l.within, l.long);
        fits =
            λ k a b.
            omega (arith, w.fits (length new + k) (f k a b) (omega (arith, l.place)), l.place, l.long);
      }

-- the same room, for as many cells
pub room_same : {need less : ℕ} {text : List ℕ} {at : ℕ} {lent : List ℕ} {put : ℕ} → less ≡ need → RoomFor need text at lent put → RoomFor less text at lent put
room_same e w = rw e w

-- behind a word that stands in the text
pub room_behind : (word : List ℕ) → T (every (ltb 0) word) → {need : ℕ} {text : List ℕ} {at : ℕ} {lent : List ℕ} {put : ℕ} (b : Bool) → b ≡ begins text at word → b ≡ true
    → RoomFor need text at lent put → RoomFor need text (at + length word) lent put
room_behind word t {need} {text} {at} b e h w =
    room_less w (at + length word) need (omega arith) (begins_within text word at t w.within (sym e ∙ h)) (omega arith)

-- an item that was found is as long as all that its reader finds
module _ (item : Reader (List ℕ)) (w : ℕ) (long : Finds (Long w) item) (text : List ℕ) (at : ℕ) where
  item_count : (new : List ℕ) (next : ℕ) → item text at ≡ found new next → length new ≡ w
  item_count new next e = subst (IfFound (Long w)) e (long text at)

  -- behind an item and a gap there is room for what is left
  room_behind_item : (need left : ℕ) (lent : List ℕ) (put : ℕ) → RoomFor need text at lent put → w + left ≤ need → (after : List ℕ) (r : Spot)
      → Stored text at lent put (item text at) after r → (end : ℕ) → GapFound text r.at end → RoomFor left text end after r.put
  room_behind_item need left lent put room l after r q end g =
      room_on room q.new after r.put r.at end left q.laid q.paced (omega (arith, g.past)) g.within
      (λ k a b. omega (arith, item_count q.new r.at q.value))

-- a table that was found has n^s cells
pub table_count : (n s : ℕ) (text : List ℕ) (at : ℕ) (new : List ℕ) (next : ℕ) → table n s text at ≡ found new next → length new ≡ n ^ s
table_count n s = item_count (table n s) (n ^ s) (table_long n s)

-- a row of cells: room for one, and behind it for the others
module _ (text : List ℕ) (at : ℕ) (lent : List ℕ) (put left : ℕ) (p : 0 < left) (w : RoomFor left text at lent put) where
  pub room_first : RoomFor 1 text at lent put
  room_first = room_less w at 1 (omega arith) w.within (omega arith)

  pub room_others : (after : List ℕ) (r : Spot) → Stored text at lent put (cell text at) after r → (end : ℕ) → GapFound text r.at end
      → (more : ℕ) → more ≡ left - 1 → RoomFor more text end after r.put
  room_others after r s end g more e = room_behind_item cell 1 cell_long text at left more lent put w (omega arith) after r s end g

module _ (n s : ℕ) (text : List ℕ) (at : ℕ) (lent : List ℕ) (put : ℕ) where
  -- a table of s 0 is one cell
  pub room_cell : s ≡ 0 → RoomFor (n ^ s) text at lent put → RoomFor 1 text at lent put
  room_cell e w = rw (e, pow-zero n) at w

  -- a table of another s is n rows
  pub room_rows : (s ≡ 0 → ⊥) → at < length text → RoomFor (n ^ s) text at lent put → RoomFor (n * n ^ (s - 1)) text (at + 1) lent put
  room_rows h l w = room_less w (at + 1) (n * n ^ (s - 1)) (omega arith) (omega arith) (omega (arith, rows s h))
    where
      rows : (k : ℕ) → (k ≡ 0 → ⊥) → n ^ k ≡ n * n ^ (k - 1)
      rows zero h = absurd (h refl)
      rows (suc k) h = rw (sub-one (suc k)) (pow-succ' n k)

  module _ (left : ℕ) (p : 0 < left) (w : RoomFor (left * n ^ (s - 1)) text at lent put) where
    -- the rows of a table of s 1 are cells
    pub room_row_cells : s ≡ 1 → RoomFor left text at lent put
    room_row_cells e = room_less w at left (omega arith) w.within (omega (arith, cells))
      where
        cells : left * n ^ (s - 1) ≡ left
        cells = rw (e, pow-zero n) (mul-one left)

    pub room_row : RoomFor (n ^ (s - 1)) text at lent put
    room_row = room_less w at (n ^ (s - 1)) (omega arith) w.within (omega (arith, part_less left (n ^ (s - 1)) p))

    -- behind one row there is room for the others
    pub room_rest : (after : List ℕ) (r : Spot) → Stored text at lent put (table n (s - 1) text at) after r → (end : ℕ) → GapFound text r.at end
        → (more : ℕ) → more ≡ left - 1 → RoomFor (more * n ^ (s - 1)) text end after r.put
    room_rest after r q end g more e =
        rw e
        (room_behind_item (table n (s - 1)) (n ^ (s - 1)) (table_long n (s - 1)) text at (left * n ^ (s - 1)) ((left - 1) * n ^ (s - 1)) lent put w
        (omega (arith, part_less left (n ^ (s - 1)) p)) after r q end g)

-- behind some items of a list there is room for whatever comes
pub room_for_item : (text : List ℕ) (at : ℕ) (lent : List ℕ) (put : ℕ) → RoomForText text at lent put → (new after : List ℕ) (so_far next end need : ℕ) → Laid lent put new after so_far
    → so_far + at ≤ put + next → GapFound text next end → RoomFor need text end after so_far
room_for_item text at lent put w new after so_far next end need l p g =
    room_on w new after so_far next end need l p (omega (arith, g.past)) g.within (λ k a b. omega (arith, l.place, g))

-- storage that is as long as the text has room for whatever comes, if no more is stored than is read
pub room_of_text : (need : ℕ) (text : List ℕ) (at : ℕ) (lent : List ℕ) (put : ℕ) → at ≤ length text → put ≤ at → length text ≤ length lent → RoomFor need text at lent put
room_of_text need text at lent put w p l = record { within = w; start = omega arith; fits = λ k a b. omega arith }
