-- What a request is answered with: a line with the values of the answer, the lines of a quotient, or the line of its reason.
use Rattle.std.specs.Prelude.{ℕ, List, [], ◌∷◌, ◌++◌, map, length, replicate, ⊤, Result}
use Rattle.equivalence.specs.Lists.{up_to}
use Rattle.equivalence.specs.Lent.{stretch}
use Rattle.equivalence.specs.Outcome.{written_outcome}
use Rattle.equivalence.specs.declared.Refusal.{Refusal}
use Rattle.algebra.specs.Algebra.{Algebra, algebra_of}
use Rattle.theory.specs.Decompose.{most_factor_space}
use Rattle.congruence.specs.Calls.{generate_call, contained_call, separate_call, quotient_call, decompose_call}
use Rattle.congruence.specs.Outcome.{generated_outcome, divided_outcome, decomposed_outcome}
use Rattle.congruence.specs.Decomposed.{Decomposed}
use Rattle.numberreader.specs.Reading.{ascii}
use Rattle.reader.specs.declared.requests.Asked.{Asked}
use Rattle.reader.specs.declared.requests.Asked.TheVariants.{Generate, Contained, Separate, Decompose, Quotient}
use Rattle.writer.specs.Lines.{spaced, spaced_brackets, line, outcome_line}
use Rattle.tablewriter.specs.Texts.{algebra_text}

-- `[map 0 0 2 3]`
unfoldable pub map_line : Result ⊤ Refusal → List ℕ → List ℕ
map_line a m = outcome_line (written_outcome a) (line (ascii "[map") (spaced m))

-- `[generated 2 [0 1 0 1]]`: merges, then map
unfoldable pub generated_line : Result ℕ Refusal → List ℕ → List ℕ
generated_line a m =
    let o = generated_outcome a in outcome_line o (line (ascii "[generated") (spaced (o.count ∷ []) ++ spaced_brackets (m ∷ [])))

-- `[factors [0 1 0 1] [0 0 2 2]]`
unfoldable pub factors_line : ℕ → Result Decomposed Refusal → List ℕ → List ℕ
factors_line n a bytes =
    let o = decomposed_outcome a in outcome_line o (line (ascii "[factors") (spaced_brackets (map (stretch n bytes) (up_to o.count))))

-- `[size 2]` and `[op 1 [1 0]]`: the lines of the algebra of blocks
unfoldable pub quotient_lines : List ℕ → Result ℕ Refusal → List ℕ → List ℕ
quotient_lines arities a cells = let o = divided_outcome a in outcome_line o (algebra_text (algebra_of o.count arities cells))

-- the answer to what a request asks, with the numbers that it lists: what the service answers, lent just the bytes that it
-- wants, Decompose as many as any algebra over n elements can want, and Quotient as many as the algebra has cells, of which
-- these two leave those past their own 0
unfoldable pub answer : Algebra → Asked → List ℕ → List ℕ
answer a Generate ps = let r = generate_call a ps (replicate a.size 0) in generated_line r.0 r.1
answer a Contained m = let r = contained_call a m (replicate a.size 0) in map_line r.0 r.1
answer a (Separate v w) numbers = let r = separate_call a v w (replicate a.size 0) in map_line r.0 r.1
answer a Decompose numbers = let r = decompose_call a (replicate (most_factor_space a.size) 0) in factors_line a.size r.0 r.1
answer a Quotient m = let r = quotient_call a m (replicate (length a.cells) 0) in quotient_lines a.arities r.0 r.1
