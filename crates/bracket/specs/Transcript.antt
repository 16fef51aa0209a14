-- The whole output as a function of the whole input.
use Rattle.std.specs.Prelude.{ℕ, zero, suc, ◌+◌, Bool, true, false, not, ◌&&◌, List, [], ◌++◌, leb, ltb, length}
use Rattle.equivalence.specs.declared.Refusal.TheVariants.{Text}
use Rattle.algebra.specs.Algebra.{Algebra}
use Rattle.numberreader.specs.Reading.{ascii, Read, found, fault, begins}
use Rattle.reader.specs.Lines.{Progress, defined, refused, sized, operation, Request, request}
use Rattle.writer.specs.Lines.{refused_line}
use Rattle.answers.specs.Answers.{answer}

-- the longest text that is read
abbrev pub text_limit : ℕ
text_limit = 65536

-- where a run stands: at the start of a line, behind the lines that gave this algebra, before or after the first request
pub record State : Type 0 where
  pub at : ℕ
  pub algebra : Algebra
  pub requested : Bool

-- what a line comes to: it writes, and the run goes on from a state, or ends
pub data Step : Type 0 where
  goes : List ℕ → State → Step
  ends : List ℕ → Step

-- a line of the algebra writes nothing; a refusal of one ends the run
unfoldable pub after_line : Progress → Step
after_line (defined a at) = goes [] (record { at = at; algebra = a; requested = false })
after_line (refused r) = ends (refused_line r)

-- a request is answered, also by a refusal, and the run goes on; a faulty line ends it
unfoldable pub after_request : Algebra → Read Request → Step
after_request a (found q at) = goes (answer a q.asked q.numbers) (record { at = at; algebra = a; requested = true })
after_request a fault = ends (refused_line Text)

-- the first line, which is the size line; a text of more than 65,536 bytes is refused before it is read
unfoldable pub first_step : List ℕ → Step
first_step text = elim (ltb text_limit (length text)) [ true ↦ ends (refused_line Text) | false ↦ after_line (sized text 0) ]

-- an operation line, which begins with `[op`
unfoldable pub operation_step : List ℕ → State → Step
operation_step text s = after_line (operation s.algebra text (s.at + 3))

-- any other line
unfoldable pub request_step : List ℕ → State → Step
request_step text s = after_request s.algebra (request text s.at)

-- a line after the first: an operation, while no request has come, or a request
unfoldable pub step : List ℕ → State → Step
step text s =
    elim (not s.requested && begins text s.at (ascii "[op")) [ true ↦ operation_step text s | false ↦ request_step text s ]

-- what a line writes, and what the rest of the run writes after it
unfoldable pub output : Step → (State → List ℕ) → List ℕ
output (goes out s) rest = out ++ rest s
output (ends out) rest = out

-- what the lines from a state on write, to the end of the text or of the run; k is no less than their count
unfoldable pub run : ℕ → List ℕ → State → List ℕ
run zero text s = []
run (suc k) text s = elim (leb (length text) s.at) [ true ↦ [] | false ↦ output (step text s) (run k text) ]

-- the output of the desk program; a text has no more lines than bytes
unfoldable pub transcript : List ℕ → List ℕ
transcript text = output (first_step text) (run (length text) text)
