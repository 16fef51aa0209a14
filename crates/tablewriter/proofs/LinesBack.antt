-- The lines that are written of an algebra are read back: the size line, and an operation line.
use Prim.Native.Nat.{ℕ, ◌+◌, ◌^◌, ◌≤◌, ◌<◌}
use mathlib.Core.Bool.{true}
use mathlib.Core.List.{List, [], ◌∷◌, ◌++◌, append_assoc}
use mathlib.Core.Path.{◌≡◌, refl, ap, sym, ◌∙◌}
use native.Mathlib.Omega.{arith}
use lib.Dec.{ltb, lt→ltb}
use lib.ListN.{length, get_or, take, length-append}
use lib.Seq.{take_all}
use Rattle.equivalence.specs.Lists.{every}
use Rattle.equivalence.specs.Refusal.{lowest, size_test}
use Rattle.std.specs.Prelude.{Ok}
use Rattle.equivalence.proofs.Refusals.{lowest_none, lowest_next, size_test_of}
use Rattle.algebra.specs.Algebra.{Algebra, Operation, algebra_of}
use Rattle.algebra.proofs.Accepted.{every_by, not_yes}
use Rattle.numberreader.specs.Reading.{ascii, found, ◌>>=◌, ◌>>◌, done, failed, gap, begins}
use Rattle.numberreader.specs.Numbers.{number}
use Rattle.tablereader.specs.Tables.{table}
use Rattle.reader.specs.Lines.{close, spaced_number, size_line, defined, tested, after_size, sized, arity, last_table, operation_tests, cell_test, with_operation, after_table, after_arity, operation}
use Rattle.numberreader.proofs.Readers.{then_found, opened_body}
use Rattle.reader.proofs.SpacedNumbers.{close_found}
use Rattle.reader.proofs.Judging.{Fitting, passed}
use Rattle.writer.specs.Numerals.{decimal}
use Rattle.writer.specs.Lines.{gap_bytes, spaced, line}
use Rattle.writer.proofs.Numerals.{stands_number}
use Rattle.writer.proofs.Spacing.{spaced_one}
use Rattle.tablewriter.specs.Texts.{table_text, size_text, operation_text}
use Rattle.tablewriter.proofs.ReadBack.{begins_left, begins_right, StandsApart, gap_back, gapped_length, gap_between, before_gap, behind_gap, before_close, table_back}
use Rattle.writer.specs.InnerRoom.{NumbersBelow}

-- a number after a gap
spaced_number_back : (text : List ℕ) (at v : ℕ) → v ≤ 255 → StandsApart text at (spaced (v ∷ [])) → spaced_number text at ≡ found v (at + length (spaced (v ∷ [])))
unfolding spaced_number
spaced_number_back text at v m a =
    let b : StandsApart text at (gap_bytes ++ decimal v) = rw (spaced_one v) at a in
    let mid = at + length gap_bytes in
    let sum : at + length (gap_bytes ++ decimal v) ≡ mid + length (decimal v) = omega (arith, length-append gap_bytes (decimal v)) in
    rw (spaced_one v, sum)
    (then_found gap (λ _. number) text at tt mid (gap_back text at (begins_left text gap_bytes (decimal v) at b.here))
    ∙ stands_number text mid v m (begins_right text gap_bytes (decimal v) at b.here) (rw sum at b.end))

-- the parts of a line that stands there
record LineParts (text : List ℕ) (at : ℕ) (word rest : List ℕ) : Type 0 where
  pub opening : begins text at word ≡ true
  pub body : StandsApart text (at + length word) rest
  pub closing : begins text (at + length word + length rest) (ascii "]\n") ≡ true
  pub end : at + length word + length rest + 2 ≡ at + length (line word rest)

line_parts : (text : List ℕ) (at : ℕ) (word rest : List ℕ) → begins text at (line word rest) ≡ true → LineParts text at word rest
unfolding line ascii
line_parts text at word rest e =
    let close : List ℕ = 93 ∷ 10 ∷ [] in
    let both : begins text at (word ++ (rest ++ close)) ≡ true = rw append_assoc at e in
    let body = begins_right text word (rest ++ close) at both in
    record {
      opening = begins_left text word (rest ++ close) at both;
      body = before_close text rest (10 ∷ []) (at + length word) body;
      closing = begins_right text rest close (at + length word) body;
      end = omega (arith, length-append (word ++ rest) close, length-append word rest);
    }

-- the size line
pub size_line_back : (text : List ℕ) (at n : ℕ) → n ≤ 255 → begins text at (size_text n) ≡ true → size_line text at ≡ found n (at + length (size_text n))
unfolding size_line size_text
size_line_back text at n m e =
    let word = ascii "[size" in
    let number = spaced (n ∷ []) in
    let p = line_parts text at word number e in
    let mid = at + length word in
    let next = mid + length number in
    opened_body word (◌>>=◌ spaced_number (λ n. ◌>>◌ close (done n))) failed text at p.opening
    ∙ then_found spaced_number (λ n. ◌>>◌ close (done n)) text mid n next (spaced_number_back text mid n m p.body)
    ∙ then_found close (λ _. done n) text next tt (next + 2) (close_found text next p.closing)
    ∙ ap (λ (end : ℕ). found n end) p.end

-- and its test
pub sized_back : (text : List ℕ) (at n : ℕ) → 1 ≤ n → n ≤ 64 → begins text at (size_text n) ≡ true → sized text at ≡ defined (algebra_of n [] []) (at + length (size_text n))
unfolding sized after_size tested
sized_back text at n l m e =
    let t : lowest (size_test n ∷ []) ≡ Ok tt = lowest_next (size_test n) [] (size_test_of n l m) ∙ lowest_none in
    rw (size_line_back text at n (omega arith) e, t)

-- the arity of an operation line
arity_back : (text rest : List ℕ) (at s : ℕ) → s ≤ 255 → begins text at (spaced (s ∷ []) ++ (gap_bytes ++ rest)) ≡ true
    → arity text at ≡ found s (at + length (spaced (s ∷ [])) + length gap_bytes)
unfolding arity
arity_back text rest at s m e =
    let number = spaced (s ∷ []) in
    let mid = at + length number in
    then_found spaced_number (λ s. ◌>>◌ gap (done s)) text at s mid (spaced_number_back text at s m (before_gap text number rest at e))
    ∙ then_found gap (λ _. done s) text mid tt (mid + length gap_bytes) (gap_between text number rest at e)

-- an operation that may come behind those of an algebra
pub record MayFollow (a : Algebra) (f : Operation) : Type 0 where
  pub some : 1 ≤ a.size
  pub most : a.size ≤ 64
  pub tests : Fitting a.size (length a.arities) (length a.cells) f.arity
  pub full : length f.table ≡ a.size ^ f.arity
  pub below : NumbersBelow a.size f.table

-- 2, 3 and 4 pass over what fits
fitting_passes : (n operations cells s : ℕ) → Fitting n operations cells s → lowest (operation_tests n operations cells s) ≡ Ok tt
fitting_passes n operations cells s f = sym (passed n operations cells s f.few f.arity (n ^ s) refl f.room)

-- 6 passes over cells below n
cell_test_passes : (n : ℕ) (cells : List ℕ) → NumbersBelow n cells → lowest (cell_test n cells ∷ []) ≡ Ok tt
unfolding cell_test
cell_test_passes n cells h =
    lowest_next (cell_test n cells) [] (not_yes (every (λ c. ltb c n) cells) (every_by (λ c. ltb c n) cells (λ i l. lt→ltb (get_or cells i 0) n (h i l)))) ∙ lowest_none

-- the table of an operation line, and the line's end
last_table_back : (text : List ℕ) (at n s : ℕ) (cells : List ℕ) → 0 < n → length cells ≡ n ^ s → NumbersBelow 256 cells → StandsApart text at (table_text n s cells)
    → begins text (at + length (table_text n s cells)) (ascii "]\n") ≡ true → last_table n s text at ≡ found cells (at + length (table_text n s cells) + 2)
unfolding last_table
last_table_back text at n s cells p l h a e =
    let next = at + length (table_text n s cells) in
    then_found (table n s) (λ cells. ◌>>◌ close (done cells)) text at (take (n ^ s) cells) next (table_back text n p s at cells (omega arith) h a)
    ∙ then_found close (λ _. done (take (n ^ s) cells)) text next tt (next + 2) (close_found text next e)
    ∙ ap (λ (l : List ℕ). found l (next + 2)) (take_all (n ^ s) cells (omega arith))

module _ (text : List ℕ) (at : ℕ) (a : Algebra) (f : Operation) (fits : MayFollow a f) (e : begins text at (operation_text a.size f) ≡ true) where
  -- its parts
  operation_parts : LineParts text at (ascii "[op") (spaced (f.arity ∷ []) ++ (gap_bytes ++ table_text a.size f.arity f.table))
  unfolding operation_text
  operation_parts = line_parts text at (ascii "[op") (spaced (f.arity ∷ []) ++ (gap_bytes ++ table_text a.size f.arity f.table)) e

  -- an operation line begins so
  pub operation_opens : begins text at (ascii "[op") ≡ true
  operation_opens = operation_parts.opening

  -- has bytes
  pub operation_past : at < at + length (operation_text a.size f)
  unfolding operation_text
  operation_past = omega (arith, operation_parts.end)

  -- and is read as the operation
  pub operation_back : operation a text (at + 3) ≡ defined (with_operation a f.arity f.table) (at + length (operation_text a.size f))
  unfolding operation_text operation after_arity after_table tested ascii
  operation_back =
      let n = a.size in
      let s = f.arity in
      let cells = f.table in
      let number = spaced (s ∷ []) in
      let rows = table_text n s cells in
      let p = operation_parts in
      let next = at + 3 + length number + length gap_bytes in
      let end : next + length rows + 2 ≡ at + length (operation_text n f) = ap (λ (k : ℕ). k + 2) (gapped_length text number rows (at + 3)) ∙ p.end in
      let closing : begins text (next + length rows) (ascii "]\n") ≡ true = rw (gapped_length text number rows (at + 3)) p.closing in
      let bytes : NumbersBelow 256 cells = λ i l. omega (arith, fits.below i l, fits.most) in
      rw (
        arity_back text rows (at + 3) s (omega (arith, fits.tests.arity)) p.body.here,
        fitting_passes n (length a.arities) (length a.cells) s fits.tests,
        last_table_back text next n s cells fits.some fits.full bytes (behind_gap text number rows (at + 3) p.body) closing,
        cell_test_passes n cells fits.below,
      ) (ap (λ (k : ℕ). defined (with_operation a s cells) k) end)
