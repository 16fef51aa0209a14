-- A row of numbers that is begun: one number more with the gap behind it, and the rest.
use Prim.Native.Nat.{ℕ, ◌+◌, ◌-◌, ◌<◌}
use Rattle.std.specs.Prelude.{Option, Some, None}
use mathlib.Core.List.{List, ◌++◌}
use mathlib.Core.Path.{refl, sym, ◌∙◌}
use native.Mathlib.Omega.{arith}
use lib.ListN.{length, set}
use Rattle.tablereader.specs.Tables.{cell, parted}
use Rattle.numberreader.specs.InnerPromises.{GapFound}
use Rattle.tablereader.specs.InnerPromises.{RoomFor, StoredIn}
use Rattle.tablereader.specs.InnerRows.{RowBegun, number_found, Item}
use Rattle.tablereader.specs.declared.Spot.{Spot}
use Rattle.tablereader.proofs.Laying.{laid_more}
use Rattle.numberreader.proofs.Readers.{gap_here, before_found, before_fault}
use Rattle.tablereader.proofs.Storing.{spot, cell_room, cell_one}
use Rattle.tablereader.proofs.Parted.{rows_read_none, rows_read_more}
use Rattle.tablereader.proofs.RoomLeft.{room_first, room_others}

pub begun_none : (n : ℕ) (text : List ℕ) (at : ℕ) (lent : List ℕ) (put : ℕ) → RoomFor n text at lent put → 0 < n → RowBegun n text at lent put lent n at put
begun_none n text at lent put w p = record { rows = rows_read_none text at lent put cell n w p n refl; room = w }

module _ (n : ℕ) (text : List ℕ) (at : ℕ) (lent : List ℕ) (put : ℕ) (cells : List ℕ) (more next so_far : ℕ) (b : RowBegun n text at lent put cells more next so_far) where
  -- the rest, read and stored
  pub begun_rest : (after : List ℕ) (r : Option Spot) → StoredIn text next cells so_far (parted cell more text next) after r
      → StoredIn text at lent put (parted cell n text at) after r
  begun_rest after None s =
      let l = b.rows in
      record {
        value = l.value ∙ before_fault l.new (parted cell more text next) s.value;
        new = l.new ++ s.new;
        end = s.end;
        laid = laid_more lent put l.new cells so_far s.new after s.end l.laid s.laid;
        paced = omega (arith, s.paced, l.paced);
      }
  begun_rest after (Some r) s =
      let l = b.rows in
      record {
        new = l.new ++ s.new;
        value = l.value ∙ before_found l.new s.new r.at (parted cell more text next) s.value;
        laid = laid_more lent put l.new cells so_far s.new after r.put l.laid s.laid;
        reached = omega (arith, s.reached, l.reached);
        paced = omega (arith, s.paced, l.paced);
      }

  module _ (p : 1 < more) (v end : ℕ) (i : Item text next v end) where
    one : RoomFor 1 text next cells so_far
    one = room_first text next cells so_far more (omega arith) b.room

    pub begun_room : so_far < length cells
    begun_room = cell_room text next cells so_far one (number_found v end) i.read

    pub begun_more : RowBegun n text at lent put (set cells so_far v) (more - 1) (end + 1) (so_far + 1)
    begun_more =
        let g : GapFound text end (end + 1) = gap_here text end 32 (sym i.gap) refl in
        let s = cell_one text next cells so_far one (number_found v end) i.read in
        let r = spot end (so_far + 1) in
        record {
          rows = rows_read_more text at lent put cell n cells more next so_far b.rows (set cells so_far v) r s p (end + 1) g (more - 1) refl;
          room = room_others text next cells so_far more (omega arith) b.room (set cells so_far v) r s (end + 1) g (more - 1) refl;
        }
