-- What the desk writes as a quotient is fed back: Quotient answers with the text of an algebra, and behind such a text the run goes on with that algebra.
use Prim.Native.Nat.{ℕ, suc, ◌+◌, ◌-◌, ◌≤◌, ◌<◌}
use mathlib.Core.Bool.{true, false}
use mathlib.Core.List.{List, [], ◌∷◌, ◌++◌, append-nil}
use mathlib.Core.Path.{◌≡◌, ap, sym, ◌∙◌}
use native.Mathlib.Nat.{add-zero}
use native.Mathlib.Omega.{arith}
use borrow.Author.Tests.{eq-eqb, ne_eqb, le-ltb}
use lib.ListN.{length, drop, replicate, length-replicate, length-append}
use Rattle.equivalence.specs.Equivalence.{Map, blocks}
use Rattle.equivalence.specs.Lent.{written}
use Rattle.equivalence.specs.Outcome.{success}
use Rattle.equivalence.proofs.BlockNumbers.{blocks_le}
use Rattle.algebra.specs.Accepted.{Accepted}
use Rattle.algebra.specs.Algebra.{Algebra, algebra_of}
use Rattle.algebra.specs.Congruence.{Congruence}
use Rattle.algebra.proofs.Accepted.{accepted_well_formed}
use Rattle.quotient.specs.Quotient.{quotient_cells, quotient}
use Rattle.theory.proofs.Quotients.{quotient_cells_length, cell_count_mono}
use Rattle.congruence.specs.Calls.{quotient_space}
use Rattle.congruence.specs.Outcome.{divided_outcome}
use Rattle.congruence.proofs.Calls.{quotient_answer, quotient_bytes}
use Rattle.numberreader.specs.Reading.{ascii, found, byte_at, done, failed, begins, opened}
use Rattle.tablereader.specs.Tables.{cell, pair}
use Rattle.reader.specs.Lines.{request_of, asks_with, two_numbers, request}
use Rattle.reader.specs.declared.requests.Asked.TheVariants.{Generate, Contained, Decompose, Quotient}
use Rattle.numberreader.proofs.Readers.{opened_body, opened_other}
use Rattle.writer.specs.Lines.{outcome_line}
use Rattle.writer.proofs.Numerals.{first_byte, later_bytes}
use Rattle.tablewriter.specs.Texts.{size_text, algebra_text}
use Rattle.tablewriter.proofs.AlgebraBack.{LineRead, lines_past, lines_turned, algebra_back}
use Rattle.tablewriter.proofs.ReadBack.{begins_here}
use Rattle.tablewriter.proofs.SpareCells.{text_spare}
use Rattle.answers.specs.Answers.{quotient_lines, answer}
use Rattle.bracket.specs.Transcript.{Step, text_limit, goes, after_line, after_request, first_step, operation_step, request_step, step, output, run, transcript}
use Rattle.bracket.specs.Fills.{Position, fresh, midway, due, position_after}
use Rattle.bracket.specs.FedBack.{lines_on, before_requests, FedBack}
use Rattle.bracket.proofs.Fills.{run_finished, run_onwards, run_same, after_midway}

-- ---- the answer to Quotient

module _ (a : Algebra) (accepted : Accepted a) (m : Map) where
  -- the desk lends enough: the blocks have no more cells than the algebra
  quotient_room : quotient_space a m ≤ length {A = ℕ} (replicate (length a.cells) 0)
  quotient_room =
      omega (
        arith,
        length-replicate {A = ℕ} (length a.cells) 0,
        (accepted_well_formed a accepted).filled,
        cell_count_mono (blocks a.size m) a.size (blocks_le a.size m) a.arities,
      )

  -- so it writes the text of the algebra of blocks
  quotient_text : Congruence a m → answer a Quotient m ≡ algebra_text (quotient a m)
  unfolding answer quotient_lines divided_outcome success outcome_line written quotient
  quotient_text p =
      let zeros : List ℕ = replicate (length a.cells) 0 in
      rw (quotient_answer a accepted m p zeros quotient_room, quotient_bytes a accepted m p zeros quotient_room)
      (text_spare (blocks a.size m) a.arities (quotient_cells a m) (drop (length (quotient_cells a m)) zeros) (omega (arith, quotient_cells_length a m)))

-- ---- the lines of an algebra

-- the step at an operation line that is read writes nothing, and leads behind the line
step_passes : (text : List ℕ) (a : Algebra) (at : ℕ) (b : Algebra) (next : ℕ) → LineRead text a at b next → step text (before_requests a at) ≡ goes [] (before_requests b next)
unfolding step operation_step after_line
step_passes text a at b next l = simp (step, l.opens, l.value)

-- a run writes the same from behind it, in one turn less
run_passes : (text : List ℕ) (k : ℕ) (a : Algebra) (at : ℕ) (b : Algebra) (next : ℕ) → LineRead text a at b next
    → run (suc k) text (before_requests a at) ≡ run k text (before_requests b next)
unfolding output
run_passes text k a at b next l = run_onwards text k (before_requests a at) l.within ∙ rw (step_passes text a at b next l)

-- where a run with an algebra comes to by so many lines from a byte on
abbrev comes_to : List ℕ → ℕ → Algebra → ℕ → Position
comes_to text k a at = lines_on k text (position_after text (goes [] (before_requests a at)))

-- and comes to the same position from behind it, by one line less
line_passes : (text : List ℕ) (k : ℕ) (a : Algebra) (at : ℕ) (b : Algebra) (next : ℕ) → LineRead text a at b next → comes_to text (suc k) a at ≡ comes_to text k b next
unfolding lines_on due
line_passes text k a at b next l = rw (after_midway text [] (before_requests a at) l.within, step_passes text a at b next l)

module _ (a : Algebra) (accepted : Accepted a) (rest : List ℕ) (short : length (algebra_text a ++ rest) ≤ text_limit) where
  -- the size line is read, and writes nothing
  size_passes : first_step (algebra_text a ++ rest) ≡ goes [] (before_requests (algebra_of a.size [] []) (length (size_text a.size)))
  unfolding first_step after_line
  size_passes = simp (first_step, le-ltb text_limit (length (algebra_text a ++ rest)) short, (algebra_back a accepted rest).size)

  -- as many lines as the algebra has lead behind its text
  stands_behind : 0 < length rest → lines_on (suc (length a.arities)) (algebra_text a ++ rest) fresh ≡ midway (before_requests a (length (algebra_text a)))
  unfolding lines_on due
  stands_behind some =
      let text = algebra_text a ++ rest in
      let start = length (size_text a.size) in
      let bare = algebra_of a.size [] [] in
      ap (λ (d : Step). lines_on (length a.arities) text (position_after text d)) size_passes
      ∙ ap (λ (k : ℕ). comes_to text k bare start) (sym (add-zero (length a.arities)))
      ∙ lines_turned (comes_to text) (line_passes text) 0 (algebra_back a accepted rest).lines
      ∙ after_midway text [] (before_requests a (length (algebra_text a))) (omega (arith, length-append (algebra_text a) rest))

  -- and the run writes what the lines behind it write
  writes_behind : transcript (algebra_text a ++ rest) ≡ run (length rest) (algebra_text a ++ rest) (before_requests a (length (algebra_text a)))
  unfolding transcript output
  writes_behind =
      let text = algebra_text a ++ rest in
      let lines = (algebra_back a accepted rest).lines in
      let left = length text - length a.arities in
      let sum = length-append (algebra_text a) rest in
      let turns : length text ≡ length a.arities + left = omega (arith, lines_past lines, sum) in
      let bare = before_requests (algebra_of a.size [] []) (length (size_text a.size)) in
      rw size_passes
      (ap (λ (k : ℕ). run k text bare) turns
      ∙ lines_turned (λ k b at. run k text (before_requests b at)) (run_passes text) left lines
      ∙ run_same text left (length rest) (before_requests a (length (algebra_text a))) (omega (arith, lines_past lines, sum)) (omega (arith, sum)))

-- ---- a request behind them

module _ (text : List ℕ) (at : ℕ) (e : begins text at (ascii "[decompose]\n") ≡ true) where
  -- no word with another second byte stands there too
  no_other : (d : ℕ) (v : List ℕ) → (100 ≡ d → ⊥) → begins text at (91 ∷ d ∷ v) ≡ false
  unfolding begins ascii
  no_other d v h =
      let later = drop 1 (ascii "[decompose]\n") in
      let second = first_byte text (at + 1) 100 (drop 1 later) (later_bytes text at 91 later e) in
      simp (eq-eqb (byte_at text at) 91 (first_byte text at 91 later e), ne_eqb (byte_at text (at + 1)) d (λ g. h (sym second ∙ g)))

  -- the request to decompose is read
  decompose_read : request text at ≡ found (request_of Decompose []) (at + 12)
  unfolding request ascii
  decompose_read =
      let last = opened (ascii "[quotient") (asks_with Quotient cell) failed in
      let fourth = opened (ascii "[decompose]\n") (done (request_of Decompose [])) last in
      let third = opened (ascii "[separate") two_numbers fourth in
      let second = opened (ascii "[contained") (asks_with Contained cell) third in
      opened_other (ascii "[generate") (asks_with Generate pair) second text at (no_other 103 (drop 2 (ascii "[generate")) (λ g. omega arith))
      ∙ opened_other (ascii "[contained") (asks_with Contained cell) third text at (no_other 99 (drop 2 (ascii "[contained")) (λ g. omega arith))
      ∙ opened_other (ascii "[separate") two_numbers fourth text at (no_other 115 (drop 2 (ascii "[separate")) (λ g. omega arith))
      ∙ opened_body (ascii "[decompose]\n") (done (request_of Decompose [])) last text at e

  -- and answered
  decompose_step : (a : Algebra) → step text (before_requests a at) ≡ goes (answer a Decompose []) (record { at = at + 12; algebra = a; requested = true })
  unfolding step request_step after_request ascii
  decompose_step a = simp (step, no_other 111 (112 ∷ []) (λ g. omega arith), decompose_read)

-- the request to decompose behind the text of an algebra
decomposes_behind : (a : Algebra) → Accepted a → length (algebra_text a ++ ascii "[decompose]\n") ≤ text_limit
    → transcript (algebra_text a ++ ascii "[decompose]\n") ≡ answer a Decompose []
unfolding output ascii
decomposes_behind a accepted short =
    let word = ascii "[decompose]\n" in
    let text = algebra_text a ++ word in
    let at = length (algebra_text a) in
    let long : length text ≡ at + 12 = length-append (algebra_text a) word in
    let here : begins text at word ≡ true = rw append-nil at (begins_here (algebra_text a) word []) in
    writes_behind a accepted word short
    ∙ run_onwards text 11 (before_requests a at) (omega (arith, long))
    ∙ rw (decompose_step text at here a, run_finished text 11 (record { at = at + 12; algebra = a; requested = true }) (omega (arith, long))) (append-nil (answer a Decompose []))

-- the text of an accepted algebra, as the desk writes it, is fed back as that algebra
pub fed_back : (a : Algebra) (accepted : Accepted a) → FedBack a accepted
fed_back a accepted =
    record {
      answers = quotient_text a accepted;
      stands = λ rest some short. stands_behind a accepted rest short some;
      writes = writes_behind a accepted;
      decomposes = decomposes_behind a accepted;
    }
