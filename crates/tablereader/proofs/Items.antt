-- Any count of items, each after a gap, read into storage one by one.
use Prim.Native.Nat.{ℕ, zero, suc, ◌+◌, ◌≤◌}
use mathlib.Core.List.{List, [], ◌++◌, append-nil}
use mathlib.Core.Path.{◌≡◌, refl, ap, ◌∙◌}
use native.Mathlib.Omega.{arith}
use lib.ListN.{length}
use Rattle.numberreader.specs.Reading.{found, fault, Reader, onward, ◌>>=◌, done, gap}
use Rattle.tablereader.specs.Tables.{items_up_to, items}
use Rattle.numberreader.specs.InnerPromises.{GapFound, Reached}
use Rattle.tablereader.specs.InnerPromises.{RoomFor, RoomForText, Stored, Faulty}
use Rattle.tablereader.specs.Laying.{Laid}
use Rattle.tablereader.specs.declared.Spot.{Spot}
use Rattle.tablereader.proofs.Laying.{laid_none, laid_more}
use Rattle.tablereader.proofs.RoomLeft.{room_for_item}
use Rattle.numberreader.proofs.Readers.{before, before_none, before_fault, before_twice, then_found, then_fault, behind_found, behind_fault}
use Rattle.tablereader.proofs.Storing.{spot}

module _ (item : Reader (List ℕ)) (text : List ℕ) (at : ℕ) where
  -- no gap, no item more
  items_end : (k : ℕ) → gap text at ≡ fault → items_up_to k item text at ≡ found [] at
  unfolding items_up_to
  items_end zero h = refl
  items_end (suc k) h = behind_fault gap (◌>>=◌ item (λ xs. ◌>>=◌ (items_up_to k item) (λ ys. done (xs ++ ys)))) (done []) text at h

  module _ (end : ℕ) (h : gap text at ≡ found tt end) (k : ℕ) where
    items_next : items_up_to (suc k) item text at ≡ ◌>>=◌ item (λ xs. ◌>>=◌ (items_up_to k item) (λ ys. done (xs ++ ys))) text end
    unfolding items_up_to
    items_next = behind_found gap (◌>>=◌ item (λ xs. ◌>>=◌ (items_up_to k item) (λ ys. done (xs ++ ys)))) (done []) text at tt end h

    items_fault : item text end ≡ fault → items_up_to (suc k) item text at ≡ fault
    items_fault e = items_next ∙ then_fault item (λ xs. ◌>>=◌ (items_up_to k item) (λ ys. done (xs ++ ys))) text end e

    items_more : (xs : List ℕ) (next : ℕ) → item text end ≡ found xs next → items_up_to (suc k) item text at ≡ before xs (items_up_to k item text next)
    unfolding ◌>>=◌
    items_more xs next e = items_next ∙ then_found item (λ xs. ◌>>=◌ (items_up_to k item) (λ ys. done (xs ++ ys))) text end xs next e

-- some items are read, from `at` to `next`, and stored, from `put` to `so_far`; `fuel` bounds how many may follow
pub record ItemsRead (text : List ℕ) (at : ℕ) (lent : List ℕ) (put : ℕ) (item : Reader (List ℕ)) (cells : List ℕ) (next so_far : ℕ) : Type 0 where
  pub new : List ℕ
  pub fuel : ℕ
  pub enough : length text ≤ fuel + next
  pub value : items item text at ≡ before new (items_up_to fuel item text next)
  pub laid : Laid lent put new cells so_far
  pub reached : Reached text at next
  pub paced : so_far + at ≤ put + next

module _ (text : List ℕ) (at : ℕ) (lent : List ℕ) (put : ℕ) (item : Reader (List ℕ)) where
  pub items_read_none : RoomForText text at lent put → ItemsRead text at lent put item lent at put
  unfolding items
  items_read_none w =
      record {
        new = [];
        fuel = length text;
        enough = omega arith;
        value = before_none (items_up_to (length text) item text at);
        laid = laid_none lent put w.start;
        reached = omega arith;
        paced = omega arith;
      }

  module _ (cells : List ℕ) (next so_far : ℕ) (l : ItemsRead text at lent put item cells next so_far) where
    pub items_read_all : gap text next ≡ fault → Stored text at lent put (items item text at) cells (spot next so_far)
    unfolding onward
    items_read_all g =
        record {
          new = l.new;
          value = l.value ∙ ap (before l.new) (items_end item text next l.fuel g) ∙ ap (λ (x : List ℕ). found x next) (append-nil l.new);
          laid = l.laid;
          reached = l.reached;
          paced = l.paced;
        }

    module _ (end : ℕ) (g : GapFound text next end) where
      pub items_read_room : RoomForText text at lent put → (need : ℕ) → RoomFor need text end cells so_far
      items_read_room w need = room_for_item text at lent put w l.new cells so_far next end need l.laid l.paced g

      -- an item is left to read, so the fuel is not used up
      fuel_left : (k : ℕ) × (l.fuel ≡ suc k)
      fuel_left = go l.fuel l.enough
        where
          go : (f : ℕ) → length text ≤ f + next → (k : ℕ) × (f ≡ suc k)
          go zero e = absurd (omega (arith, g))
          go (suc k) e = (k, refl)

      pub items_read_fault : (after : List ℕ) → Faulty text end cells so_far (item text end) after → Faulty text at lent put (items item text at) after
      items_read_fault after s =
          record {
            value =
                l.value
                ∙ before_fault l.new (items_up_to l.fuel item text next)
                (ap (λ (k : ℕ). items_up_to k item text next) fuel_left.1 ∙ items_fault item text next end g.value fuel_left.0 s.value);
            new = l.new ++ s.new;
            end = s.end;
            laid = laid_more lent put l.new cells so_far s.new after s.end l.laid s.laid;
            paced = omega (arith, s.paced, l.paced, g);
          }

      pub items_read_more : (after : List ℕ) (r : Spot) → Stored text end cells so_far (item text end) after r → ItemsRead text at lent put item after r.at r.put
      items_read_more after r s =
          record {
            new = l.new ++ s.new;
            fuel = fuel_left.0;
            enough = omega (arith, l.enough, fuel_left.1, s.reached.past, g);
            value =
                l.value
                ∙ ap (before l.new)
                (ap (λ (k : ℕ). items_up_to k item text next) fuel_left.1
                ∙ items_more item text next end g.value fuel_left.0 s.new r.at s.value)
                ∙ before_twice l.new s.new (items_up_to fuel_left.0 item text r.at);
            laid = laid_more lent put l.new cells so_far s.new after r.put l.laid s.laid;
            reached = omega (arith, s.reached, l.reached, g);
            paced = omega (arith, s.paced, l.paced, g);
          }
