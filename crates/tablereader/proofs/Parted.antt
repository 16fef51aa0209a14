-- Items parted by gaps, read into storage one by one.
use Prim.Native.Nat.{ℕ, zero, suc, ◌-◌, ◌≤◌, ◌<◌}
use Rattle.std.specs.Prelude.{Option, Some, None}
use mathlib.Core.List.{List, [], ◌++◌}
use mathlib.Core.Path.{◌≡◌, refl, ap, ◌∙◌}
use native.Mathlib.Numerals.{sub-one}
use native.Mathlib.Omega.{arith}
use Rattle.numberreader.specs.Reading.{found, fault, Reader, ◌>>=◌, ◌>>◌, done, gap}
use Rattle.tablereader.specs.Tables.{parted}
use Rattle.numberreader.specs.InnerPromises.{GapFound}
use Rattle.tablereader.specs.InnerPromises.{RoomFor, Stored, Faulty, StoredIn}
use Rattle.tablereader.specs.InnerRows.{RowsRead}
use Rattle.tablereader.specs.declared.Spot.{Spot}
use Rattle.tablereader.proofs.Laying.{laid_none, laid_more}
use Rattle.numberreader.proofs.Readers.{before, before_none, before_twice, before_found, before_fault, then_found, then_fault, gapped, ungapped}

-- what the first item decides: it is the only one, or a fault, or what comes next has to be a gap
module _ (item : Reader (List ℕ)) (text : List ℕ) (at : ℕ) where
  parted_one : (left : ℕ) → 0 < left → left ≤ 1 → parted item left text at ≡ item text at
  unfolding parted
  parted_one zero p l = absurd (omega arith)
  parted_one (suc zero) p l = refl
  parted_one (suc (suc k)) p l = absurd (omega arith)

  parted_fault : (left : ℕ) → 0 < left → item text at ≡ fault → parted item left text at ≡ fault
  unfolding parted
  parted_fault zero p e = absurd (omega arith)
  parted_fault (suc zero) p e = e
  parted_fault (suc (suc k)) p e =
      then_fault item (λ xs. ◌>>◌ gap (◌>>=◌ (parted item (suc k)) (λ ys. done (xs ++ ys)))) text at e

  module _ (xs : List ℕ) (next : ℕ) (e : item text at ≡ found xs next) where
    -- more than one: an item, a gap, and the others
    parted_next : (left : ℕ) → 1 < left → parted item left text at ≡ ◌>>◌ gap (◌>>=◌ (parted item (left - 1)) (λ ys. done (xs ++ ys))) text next
    unfolding parted
    parted_next zero p = absurd (omega arith)
    parted_next (suc zero) p = absurd (omega arith)
    parted_next (suc (suc k)) p =
        rw (sub-one (suc (suc k))) (then_found item (λ xs. ◌>>◌ gap (◌>>=◌ (parted item (suc k)) (λ ys. done (xs ++ ys)))) text at xs next e)

    parted_unparted : (left : ℕ) → 1 < left → gap text next ≡ fault → parted item left text at ≡ fault
    parted_unparted left p g = parted_next left p ∙ ungapped (◌>>=◌ (parted item (left - 1)) (λ ys. done (xs ++ ys))) text next g

    parted_more : (left : ℕ) → 1 < left → (end : ℕ) → GapFound text next end → parted item left text at ≡ before xs (parted item (left - 1) text end)
    unfolding ◌>>=◌
    parted_more left p end g = parted_next left p ∙ gapped (◌>>=◌ (parted item (left - 1)) (λ ys. done (xs ++ ys))) text next end g

module _ (text : List ℕ) (at : ℕ) (lent : List ℕ) (put : ℕ) (item : Reader (List ℕ)) (left : ℕ) where
  pub rows_read_none : {need : ℕ} → RoomFor need text at lent put → 0 < left → (more : ℕ) → more ≡ left → RowsRead text at lent put item left lent more at put
  rows_read_none w p more e =
      record {
        new = [];
        value = rw e (before_none (parted item left text at));
        some = omega arith;
        laid = laid_none lent put w.start;
        reached = omega (arith, w.within);
        paced = omega arith;
      }

  module _ (cells : List ℕ) (more next so_far : ℕ) (l : RowsRead text at lent put item left cells more next so_far) (after : List ℕ) where
    -- a fault behind what was stored
    faulty_next : Faulty text next cells so_far (item text next) after → parted item left text at ≡ fault → Faulty text at lent put (parted item left text at) after
    faulty_next s e =
        record {
          value = e;
          new = l.new ++ s.new;
          end = s.end;
          laid = laid_more lent put l.new cells so_far s.new after s.end l.laid s.laid;
          paced = omega (arith, s.paced, l.paced);
        }

    pub rows_read_fault : Faulty text next cells so_far (item text next) after → Faulty text at lent put (parted item left text at) after
    rows_read_fault s = faulty_next s (l.value ∙ before_fault l.new (parted item more text next) (parted_fault item text next more l.some s.value))

    module _ (r : Spot) (s : Stored text next cells so_far (item text next) after r) where
      rows_read_stored : more ≤ 1 → Stored text at lent put (parted item left text at) after r
      rows_read_stored h =
          record {
            new = l.new ++ s.new;
            value = l.value ∙ before_found l.new s.new r.at (parted item more text next) (parted_one item text next more l.some h ∙ s.value);
            laid = laid_more lent put l.new cells so_far s.new after r.put l.laid s.laid;
            reached = omega (arith, s.reached, l.reached);
            paced = omega (arith, s.paced, l.paced);
          }

      module _ (p : 1 < more) where
        pub rows_read_unparted : gap text r.at ≡ fault → Faulty text at lent put (parted item left text at) after
        rows_read_unparted g =
            record {
              value = l.value ∙ before_fault l.new (parted item more text next) (parted_unparted item text next s.new r.at s.value more p g);
              new = l.new ++ s.new;
              end = r.put;
              laid = laid_more lent put l.new cells so_far s.new after r.put l.laid s.laid;
              paced = omega (arith, s.paced, l.paced, s.reached);
            }

        pub rows_read_more : (end : ℕ) → GapFound text r.at end → (others : ℕ) → others ≡ more - 1 → RowsRead text at lent put item left after others end r.put
        rows_read_more end g others e =
            record {
              new = l.new ++ s.new;
              value =
                  rw e
                  (l.value
                  ∙ ap (before l.new) (parted_more item text next s.new r.at s.value more p end g)
                  ∙ before_twice l.new s.new (parted item (more - 1) text end));
              some = omega arith;
              laid = laid_more lent put l.new cells so_far s.new after r.put l.laid s.laid;
              reached = omega (arith, s.reached, l.reached, g);
              paced = omega (arith, s.paced, l.paced, g);
            }

    pub rows_read_last : more ≤ 1 → (r : Option Spot) → StoredIn text next cells so_far (item text next) after r
        → StoredIn text at lent put (parted item left text at) after r
    rows_read_last h None s = rows_read_fault s
    rows_read_last h (Some r) s = rows_read_stored r s h
