-- What the desk writes as a quotient can be fed back: the text of an algebra gives that algebra to the requests behind it.
use Rattle.std.specs.Prelude.{ℕ, zero, suc, ◌≤◌, ◌<◌, false, List, [], ◌++◌, ◌≡◌, length}
use Rattle.equivalence.specs.Equivalence.{Map}
use Rattle.algebra.specs.Accepted.{Accepted}
use Rattle.algebra.specs.Algebra.{Algebra}
use Rattle.algebra.specs.Congruence.{Congruence}
use Rattle.quotient.specs.Quotient.{quotient}
use Rattle.numberreader.specs.Reading.{ascii}
use Rattle.reader.specs.declared.requests.Asked.TheVariants.{Decompose, Quotient}
use Rattle.tablewriter.specs.Texts.{algebra_text}
use Rattle.answers.specs.Answers.{answer}
use Rattle.bracket.specs.Transcript.{text_limit, State, run, transcript}
use Rattle.bracket.specs.Fills.{Position, fresh, midway, due, position_after}

-- where a run comes to from a position by so many lines
unfoldable pub lines_on : ℕ → List ℕ → Position → Position
lines_on zero text p = p
lines_on (suc k) text p = lines_on k text (position_after text (due text p))

-- the state at a byte with an algebra, before the first request
abbrev pub before_requests : Algebra → ℕ → State
before_requests a at = record { at = at; algebra = a; requested = false }

-- what holds of an accepted algebra, of its quotients and of its text at the start of an input
pub record FedBack (a : Algebra) (accepted : Accepted a) : Type 0 where
  -- the answer to Quotient with a congruence is the text of the algebra of blocks
  pub answers : (m : Map) → Congruence a m → answer a Quotient m ≡ algebra_text (quotient a m)
  -- a run over the text and more stands, after the size line and the operation lines, at what follows, with that algebra
  pub stands : (rest : List ℕ) → 0 < length rest → length (algebra_text a ++ rest) ≤ text_limit
      → lines_on (suc (length a.arities)) (algebra_text a ++ rest) fresh ≡ midway (before_requests a (length (algebra_text a)))
  -- those lines write nothing: the whole output is what the lines behind them write
  pub writes : (rest : List ℕ) → length (algebra_text a ++ rest) ≤ text_limit
      → transcript (algebra_text a ++ rest) ≡ run (length rest) (algebra_text a ++ rest) (before_requests a (length (algebra_text a)))
  -- with the request to decompose behind the text, the output is the answer for that algebra
  pub decomposes : length (algebra_text a ++ ascii "[decompose]\n") ≤ text_limit → transcript (algebra_text a ++ ascii "[decompose]\n") ≡ answer a Decompose []
