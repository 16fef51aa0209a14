-- Numbers and tables read into storage: each way that their readers come to an end.
use Prim.Native.Nat.{ℕ, zero, suc, ◌+◌, ◌-◌, ◌^◌, ◌≤◌, ◌<◌}
use mathlib.Core.List.{List, [], ◌∷◌}
use mathlib.Core.Path.{◌≡◌, refl, sym, ◌∙◌}
use native.Mathlib.Numerals.{sub-one}
use native.Mathlib.Omega.{arith}
use lib.ListN.{length, set}
use Rattle.numberreader.specs.Reading.{Read, found, fault, Reader, byte_at, ◌>>=◌, ◌>>◌, done, mark}
use Rattle.numberreader.specs.Numbers.{number}
use Rattle.tablereader.specs.Tables.{cell, parted, bracket, table}
use Rattle.numberreader.specs.InnerPromises.{NumberFound}
use Rattle.tablereader.specs.InnerPromises.{RoomFor, Stored, Faulty}
use Rattle.numberreader.specs.declared.Number.{Number}
use Rattle.tablereader.specs.declared.Spot.{Spot}
use Rattle.tablereader.proofs.Laying.{laid_none, laid_one}
use Rattle.numberreader.proofs.Readers.{within_text, then_found, then_fault, marked, unmarked}

-- a place in the text and one in the storage
abbrev pub spot : ℕ → ℕ → Spot
spot at put = record { at = at; put = put }

-- a fault, found before anything was stored
pub faulty_nothing : {A : Type 0} {need : ℕ} (text : List ℕ) (at : ℕ) (lent : List ℕ) (put : ℕ) (d : Read A) → RoomFor need text at lent put → d ≡ fault
    → Faulty text at lent put d lent
faulty_nothing text at lent put d w e =
    record { value = e; new = []; end = put; laid = laid_none lent put w.start; paced = omega (arith, w.within) }

-- a fault further on, and one behind what was stored
pub faulty_on : {A B : Type 0} (text : List ℕ) (at from : ℕ) (lent : List ℕ) (put : ℕ) (d : Read A) (d' : Read B) (after : List ℕ) → at ≤ from
    → Faulty text from lent put d after → d' ≡ fault → Faulty text at lent put d' after
faulty_on text at from lent put d d' after l s e =
    record { value = e; new = s.new; end = s.end; laid = s.laid; paced = omega (arith, s.paced) }

pub faulty_behind : {B : Type 0} (text : List ℕ) (at from : ℕ) (lent : List ℕ) (put : ℕ) (d : Read (List ℕ)) (d' : Read B) (after : List ℕ) (r : Spot) → at ≤ from
    → Stored text from lent put d after r → d' ≡ fault → Faulty text at lent put d' after
faulty_behind text at from lent put d d' after r l s e =
    record { value = e; new = s.new; end = r.put; laid = s.laid; paced = omega (arith, s.paced, s.reached) }

module _ (text : List ℕ) (at : ℕ) (lent : List ℕ) (put : ℕ) (w : RoomFor 1 text at lent put) where
  pub cell_none : number text at ≡ fault → Faulty text at lent put (cell text at) lent
  unfolding cell
  cell_none n = faulty_nothing text at lent put (cell text at) w (then_fault number (λ v. done (v ∷ [])) text at n)

  module _ (v : Number) (n : NumberFound text at (number text at) v) where
    pub cell_room : put < length lent
    cell_room = omega (arith, w.fits 1 (omega arith) (omega (arith, n)))

    pub cell_one : Stored text at lent put (cell text at) (set lent put v.value) (spot v.next (put + 1))
    unfolding cell
    cell_one =
        record {
          new = v.value ∷ [];
          value = then_found number (λ v. done (v ∷ [])) text at v.value v.next n.value;
          laid = laid_one lent put v.value cell_room;
          reached = omega (arith, n);
          paced = omega (arith, n);
        }

-- a bracket: its opening byte, the items, its closing byte
module _ (item : Reader (List ℕ)) (k : ℕ) (text : List ℕ) (at : ℕ) where
  rest : Reader (List ℕ)
  rest = ◌>>=◌ (parted item k) (λ xs. ◌>>◌ (mark "]") (done xs))

  bracket_unopened : (byte_at text at ≡ 91 → ⊥) → bracket item k text at ≡ fault
  unfolding bracket rest
  bracket_unopened h = unmarked "[" text at rest h

  module _ (h : byte_at text at ≡ 91) where
    bracket_fault : parted item k text (at + 1) ≡ fault → bracket item k text at ≡ fault
    unfolding bracket rest
    bracket_fault e = marked "[" text at rest h ∙ then_fault (parted item k) (λ xs. ◌>>◌ (mark "]") (done xs)) text (at + 1) e

    module _ (xs : List ℕ) (next : ℕ) (e : parted item k text (at + 1) ≡ found xs next) where
      bracket_items : bracket item k text at ≡ ◌>>◌ (mark "]") (done xs) text next
      unfolding bracket rest
      bracket_items = marked "[" text at rest h ∙ then_found (parted item k) (λ xs. ◌>>◌ (mark "]") (done xs)) text (at + 1) xs next e

      bracket_unclosed : (byte_at text next ≡ 93 → ⊥) → bracket item k text at ≡ fault
      bracket_unclosed c = bracket_items ∙ unmarked "]" text next (done xs) c

      pub bracket_closed : byte_at text next ≡ 93 → bracket item k text at ≡ found xs (next + 1)
      bracket_closed c = bracket_items ∙ marked "]" text next (done xs) c

-- a table of arity 0 is a number
pub table_cell : (n arity : ℕ) → arity ≡ 0 → table n arity ≡ cell
unfolding table
table_cell n arity e = rw e

-- the rows of a table of arity 1 are cells
pub rows_cells : (n arity left : ℕ) → arity ≡ 1 → parted (table n (arity - 1)) left ≡ parted cell left
unfolding table
rows_cells n arity left e = rw e

-- a table of another arity is a bracket of tables
table_bracket : (n arity : ℕ) → (arity ≡ 0 → ⊥) → table n arity ≡ bracket (table n (arity - 1)) n
unfolding table
table_bracket n zero h = absurd (h refl)
table_bracket n (suc s) h = rw (sub-one (suc s))

module _ (text : List ℕ) (at : ℕ) (lent : List ℕ) (put n arity : ℕ) (h : arity ≡ 0 → ⊥) (b : ℕ) (eb : b ≡ byte_at text at) where
  pub table_unopened : RoomFor (n ^ arity) text at lent put → (b ≡ 91 → ⊥) → Faulty text at lent put (table n arity text at) lent
  table_unopened w k =
      rw (table_bracket n arity h)
      (faulty_nothing text at lent put (bracket (table n (arity - 1)) n text at) w (bracket_unopened (table n (arity - 1)) n text at (λ g. k (eb ∙ g))))

  module _ (k : b ≡ 91) (after : List ℕ) where
    pub table_fault : Faulty text (at + 1) lent put (parted (table n (arity - 1)) n text (at + 1)) after → Faulty text at lent put (table n arity text at) after
    table_fault s =
        rw (table_bracket n arity h)
        (faulty_on text at (at + 1) lent put (parted (table n (arity - 1)) n text (at + 1)) (bracket (table n (arity - 1)) n text at) after (omega arith) s
        (bracket_fault (table n (arity - 1)) n text at (sym eb ∙ k) s.value))

    module _ (r : Spot) (s : Stored text (at + 1) lent put (parted (table n (arity - 1)) n text (at + 1)) after r) (c : ℕ) (ec : c ≡ byte_at text r.at) where
      pub table_unclosed : (c ≡ 93 → ⊥) → Faulty text at lent put (table n arity text at) after
      table_unclosed u =
          rw (table_bracket n arity h)
          (faulty_behind text at (at + 1) lent put (parted (table n (arity - 1)) n text (at + 1)) (bracket (table n (arity - 1)) n text at) after r (omega arith) s
          (bracket_unclosed (table n (arity - 1)) n text at (sym eb ∙ k) s.new r.at s.value (λ g. u (ec ∙ g))))

      pub table_closed : c ≡ 93 → Stored text at lent put (table n arity text at) after (spot (r.at + 1) r.put)
      table_closed u =
          record {
            new = s.new;
            value = rw (table_bracket n arity h) (bracket_closed (table n (arity - 1)) n text at (sym eb ∙ k) s.new r.at s.value (sym ec ∙ u));
            laid = s.laid;
            reached = omega (arith, within_text text r.at (omega arith), s.reached.past);
            paced = omega (arith, s.paced);
          }
