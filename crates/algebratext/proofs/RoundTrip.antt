-- What the writer writes of an accepted algebra, the reader reads as that algebra.
use Prim.Native.Nat.{ℕ, zero, suc, ◌+◌, ◌-◌, ◌≤◌}
use mathlib.Core.List.{List, [], ◌∷◌, append-nil}
use mathlib.Core.Path.{◌≡◌, refl, ap, ◌∙◌}
use native.Mathlib.Omega.{arith}
use borrow.Author.Tests.{lt-leb, le-leb}
use lib.ListN.{length, take, drop}
use lib.Seq.{take-append_seam}
use Rattle.equivalence.specs.Lent.{written}
use Rattle.equivalence.specs.Refusal.{space_test}
use Rattle.equivalence.proofs.Refusals.{lowest_none, lowest_append, space_passed, serve_passed}
use Rattle.algebra.specs.Accepted.{Accepted, algebra_tests}
use Rattle.algebra.specs.Algebra.{Algebra, algebra_of}
use Rattle.reader.specs.Lines.{defined, tested}
use Rattle.tablewriter.specs.Texts.{size_text, algebra_text}
use Rattle.tablewriter.proofs.AlgebraBack.{LineRead, ReadAtStart, lines_past, lines_turned, algebra_back}
use Rattle.algebratext.specs.Whole.{operation_line_at, operations_to_end, whole_algebra}
use Rattle.algebratext.specs.Calls.{write_tests, write_call, algebra_read, cells_read, reading, read_call}
use Rattle.algebratext.specs.RoundTrip.{RoundTrip}
use Rattle.std.specs.Prelude.{Ok}

-- one turn passes an operation line
turn_passes : (text : List ℕ) (k : ℕ) (a : Algebra) (at : ℕ) (b : Algebra) (next : ℕ) → LineRead text a at b next
    → operations_to_end (suc k) text (defined a at) ≡ operations_to_end k text (defined b next)
unfolding operations_to_end operation_line_at
turn_passes text k a at b next l = simp (operations_to_end, lt-leb (length text) at l.within, operation_line_at, l.opens, l.value)

-- at the end of the text nothing changes any more
ended : (text : List ℕ) (k : ℕ) (a : Algebra) (at : ℕ) → length text ≤ at → operations_to_end k text (defined a at) ≡ defined a at
unfolding operations_to_end
ended text zero a at h = refl
ended text (suc k) a at h = simp (operations_to_end, le-leb (length text) at h)

-- the text of an accepted algebra is that algebra, whole
pub whole_back : (a : Algebra) → Accepted a → whole_algebra (algebra_text a) ≡ defined a (length (algebra_text a))
unfolding whole_algebra
whole_back a accepted =
    let text = algebra_text a in
    let r : ReadAtStart text a = rw append-nil at (algebra_back a accepted []) in
    let count = length a.arities in
    let left = length text - count in
    let turns : length text ≡ count + left = omega (arith, lines_past r.lines) in
    rw r.size
    (ap (λ (k : ℕ). operations_to_end k text (defined (algebra_of a.size [] []) (length (size_text a.size)))) turns
    ∙ lines_turned (λ k b at. operations_to_end k text (defined b at)) (turn_passes text) left r.lines
    ∙ ended text left a (length text) (omega arith))

-- and so it is with enough bytes lent
reading_back : (a : Algebra) → Accepted a → (room : ℕ) → 32768 ≤ room → reading (algebra_text a) room ≡ defined a (length (algebra_text a))
unfolding reading tested
reading_back a accepted room h = rw (space_passed 32768 room [] h, lowest_none) (whole_back a accepted)

-- lent enough, the writer writes the text of an accepted algebra
pub write_passed : (a : Algebra) → Accepted a → (out : List ℕ) → length (algebra_text a) ≤ length out
    → write_call a out ≡ (Ok (length (algebra_text a)), written (algebra_text a) out)
unfolding write_call Accepted
write_passed a accepted out enough =
    let text = algebra_text a in
    serve_passed (write_tests a (length out)) (length text) text out
    (lowest_append (algebra_tests a) (space_test (length text) (length out) ∷ []) accepted ∙ space_passed (length text) (length out) [] enough ∙ lowest_none)

-- what is written at the start of lent bytes
written_start : (new lent : List ℕ) → take (length new) (written new lent) ≡ new
unfolding written
written_start new lent = take-append_seam new (drop (length new) lent)

-- the text of an accepted algebra, read
read_back : (a : Algebra) → Accepted a → (room : List ℕ) → 32768 ≤ length room
    → read_call (algebra_text a) room ≡ (algebra_read (defined a (length (algebra_text a))), written a.cells room)
unfolding read_call cells_read
read_back a accepted room h = rw (reading_back a accepted (length room) h)

-- the round trip
pub round_trip : (a : Algebra) (accepted : Accepted a) (out : List ℕ) (enough : length (algebra_text a) ≤ length out) → RoundTrip a accepted out enough
round_trip a accepted out enough =
    record {
      writes = write_passed a accepted out enough;
      reads = λ room h. rw (write_passed a accepted out enough, written_start (algebra_text a) out) (read_back a accepted room h);
    }
