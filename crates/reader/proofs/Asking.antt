-- Requests: each way their lines come to an end.
use Prim.Native.Nat.{ℕ, ◌+◌, ◌≤◌}
use mathlib.Core.Bool.{Bool, true, false}
use mathlib.Core.List.{List, []}
use mathlib.Core.Path.{◌≡◌, refl, sym, ◌∙◌}
use native.Mathlib.Omega.{arith}
use lib.Dec.{T, ltb}
use lib.ListN.{length}
use Rattle.std.specs.Prelude.{Option, Some, None}
use Rattle.equivalence.specs.Lists.{every}
use Rattle.numberreader.specs.Reading.{ascii, Read, fault, Reader, ◌>>=◌, ◌>>◌, done, failed, begins, opened}
use Rattle.tablereader.specs.Tables.{cell, pair, items}
use Rattle.reader.specs.Lines.{close, spaced_number, Request, request_of, separating, items_to_end, asks_with, two_numbers, request}
use Rattle.numberreader.specs.InnerPromises.{NumberFound}
use Rattle.tablereader.specs.InnerPromises.{RoomForText, Stored, Faulty}
use Rattle.reader.specs.InnerPromises.{CloseFound, Requested, RequestedIn, RequestRead, RequestReadIn}
use Rattle.numberreader.specs.declared.Number.{Number}
use Rattle.tablereader.specs.declared.Spot.{Spot}
use Rattle.reader.specs.declared.requests.Asked.{Asked}
use Rattle.reader.specs.declared.requests.Asked.TheVariants.{Generate, Contained, Separate, Decompose, Quotient}
use Rattle.reader.specs.declared.requests.RequestLine.{RequestLine}
use Rattle.tablereader.proofs.Laying.{laid_none}
use Rattle.numberreader.proofs.Readers.{then_found, then_fault, opened_body, opened_other}
use Rattle.tablereader.proofs.Storing.{spot, faulty_on, faulty_behind}
use Rattle.numberreader.proofs.Words.{begins_within}

-- a request line, and the places after it
abbrev asking : Asked → ℕ → ℕ → RequestLine
asking a next end = record { asked = a; next = next; end = end }

-- items to the line's end
module _ (text : List ℕ) (at : ℕ) (lent : List ℕ) (put : ℕ) (item : Reader (List ℕ)) (after : List ℕ) where
  pub to_end_fault : Faulty text at lent put (items item text at) after → Faulty text at lent put (items_to_end item text at) after
  unfolding items_to_end
  to_end_fault s =
      faulty_on text at at lent put (items item text at) (items_to_end item text at) after (omega arith) s
      (then_fault (items item) (λ xs. ◌>>◌ close (done xs)) text at s.value)

  module _ (r : Spot) (s : Stored text at lent put (items item text at) after r) where
    to_end_found : items_to_end item text at ≡ ◌>>◌ close (done s.new) text r.at
    unfolding items_to_end
    to_end_found = then_found (items item) (λ xs. ◌>>◌ close (done xs)) text at s.new r.at s.value

    pub to_end_open : close text r.at ≡ fault → Faulty text at lent put (items_to_end item text at) after
    to_end_open g =
        faulty_behind text at at lent put (items item text at) (items_to_end item text at) after r (omega arith) s
        (to_end_found ∙ then_fault close (λ _. done s.new) text r.at g)

    pub to_end_closed : (end : ℕ) → CloseFound text r.at end → Stored text at lent put (items_to_end item text at) after (spot end r.put)
    to_end_closed end g =
        record {
          new = s.new;
          value = to_end_found ∙ then_found close (λ _. done s.new) text r.at tt end g.value;
          laid = s.laid;
          reached = omega (arith, g, s.reached.past);
          paced = omega (arith, s.paced, g.past);
        }

-- a request over items that were read and stored, or were not
module _ (text : List ℕ) (at : ℕ) (lent : List ℕ) (put : ℕ) (asked : Asked) (item : Reader (List ℕ)) (after : List ℕ) where
  pub items_unasked : Faulty text at lent put (items_to_end item text at) after → Faulty text at lent put (asks_with asked item text at) after
  unfolding asks_with
  items_unasked s =
      faulty_on text at at lent put (items_to_end item text at) (asks_with asked item text at) after (omega arith) s
      (then_fault (items_to_end item) (λ xs. done (request_of asked xs)) text at s.value)

  pub items_asked : (r : Spot) → Stored text at lent put (items_to_end item text at) after r
      → Requested text at lent put (asks_with asked item text at) after (asking asked r.at r.put)
  unfolding asks_with
  items_asked r s =
      record {
        new = s.new;
        value = then_found (items_to_end item) (λ xs. done (request_of asked xs)) text at s.new r.at s.value;
        laid = s.laid;
        reached = s.reached;
      }

-- two numbers to the line's end
module _ (text : List ℕ) (at put : ℕ) where
  pub separate_none : spaced_number text at ≡ fault → two_numbers text at ≡ fault
  unfolding two_numbers
  separate_none e = then_fault spaced_number (λ v. ◌>>=◌ spaced_number (λ w. ◌>>◌ close (done (separating v w)))) text at e

  module _ (v : Number) (rv : NumberFound text at (spaced_number text at) v) where
    one : two_numbers text at ≡ ◌>>=◌ spaced_number (λ w. ◌>>◌ close (done (separating v.value w))) text v.next
    unfolding two_numbers
    one = then_found spaced_number (λ v. ◌>>=◌ spaced_number (λ w. ◌>>◌ close (done (separating v w)))) text at v.value v.next rv.value

    pub separate_one : spaced_number text v.next ≡ fault → two_numbers text at ≡ fault
    separate_one e = one ∙ then_fault spaced_number (λ w. ◌>>◌ close (done (separating v.value w))) text v.next e

    module _ (u : Number) (ru : NumberFound text v.next (spaced_number text v.next) u) where
      two : two_numbers text at ≡ ◌>>◌ close (done (separating v.value u.value)) text u.next
      two = one ∙ then_found spaced_number (λ w. ◌>>◌ close (done (separating v.value w))) text v.next u.value u.next ru.value

      pub separate_open : close text u.next ≡ fault → two_numbers text at ≡ fault
      separate_open g = two ∙ then_fault close (λ _. done (separating v.value u.value)) text u.next g

      pub separate_read : (end : ℕ) → CloseFound text u.next end → RequestRead text at put (two_numbers text at) (asking (Separate v.value u.value) end put)
      separate_read end g =
          record {
            value = two ∙ then_found close (λ _. done (separating v.value u.value)) text u.next tt end g.value;
            end = refl;
            reached = omega (arith, g, rv.past, ru.past);
          }

-- a request behind its word
module _ (text : List ℕ) (at : ℕ) (lent : List ℕ) (put : ℕ) (word : List ℕ) (body other : Reader Request) (b : Bool) (e : b ≡ begins text at word) (after : List ℕ) where
  pub word_stands : (r : Option RequestLine) → b ≡ true → RequestedIn text (at + length word) lent put (body text (at + length word)) after r
      → RequestedIn text at lent put (opened word body other text at) after r
  word_stands None h q =
      faulty_on text at (at + length word) lent put (body text (at + length word)) (opened word body other text at) after (omega arith) q
      (opened_body word body other text at (sym e ∙ h) ∙ q.value)
  word_stands (Some r) h q =
      record { new = q.new; value = opened_body word body other text at (sym e ∙ h) ∙ q.value; laid = q.laid; reached = omega (arith, q.reached) }

  -- where another word stands
  pub word_missing : (r : Option RequestLine) → b ≡ false → RequestedIn text at lent put (other text at) after r
      → RequestedIn text at lent put (opened word body other text at) after r
  word_missing None h q =
      faulty_on text at at lent put (other text at) (opened word body other text at) after (omega arith) q
      (opened_other word body other text at (sym e ∙ h) ∙ q.value)
  word_missing (Some r) h q =
      record { new = q.new; value = opened_other word body other text at (sym e ∙ h) ∙ q.value; laid = q.laid; reached = q.reached }

-- a request that stores nothing
pub request_unstored : (text : List ℕ) (at : ℕ) (lent : List ℕ) (put : ℕ) (d : Read Request) → put ≤ length lent → at ≤ length text
    → (r : Option RequestLine) → RequestReadIn text at put d r → RequestedIn text at lent put d lent r
request_unstored text at lent put d w l None q =
    record { value = q; new = []; end = put; laid = laid_none lent put w; paced = omega arith }
request_unstored text at lent put d w l (Some r) q =
    record { new = []; value = q.value; laid = rw q.end (laid_none lent put w); reached = q.reached }

-- a request that is its word
pub word_alone : (word : List ℕ) → T (every (ltb 0) word) → (asked : Asked) (text : List ℕ) (at : ℕ) (lent : List ℕ) (put : ℕ) → RoomForText text at lent put
    → (b : Bool) → b ≡ begins text at word → b ≡ true
    → Requested text (at + length word) lent put (done (request_of asked []) text (at + length word)) lent (asking asked (at + length word) put)
word_alone word t asked text at lent put w b e h =
    record {
      new = [];
      value = refl;
      laid = laid_none lent put w.start;
      reached = omega (arith, begins_within text word at t w.within (sym e ∙ h));
    }

-- no word of a request
pub request_missing : (text : List ℕ) (at : ℕ) → begins text at (ascii "[generate") ≡ false → begins text at (ascii "[contained") ≡ false → begins text at (ascii "[separate") ≡ false
    → begins text at (ascii "[decompose]\n") ≡ false → begins text at (ascii "[quotient") ≡ false → request text at ≡ fault
unfolding request
request_missing text at g c s d q =
    opened_other (ascii "[generate") (asks_with Generate pair) _ text at g
    ∙ opened_other (ascii "[contained") (asks_with Contained cell) _ text at c
    ∙ opened_other (ascii "[separate") two_numbers _ text at s
    ∙ opened_other (ascii "[decompose]\n") (done (request_of Decompose [])) _ text at d
    ∙ opened_other (ascii "[quotient") (asks_with Quotient cell) failed text at q
