-- Every step of a run goes forward, and the algebra that the run has read is accepted at every line.
use Prim.Native.Nat.{ℕ, ◌+◌, ◌<◌}
use mathlib.Core.Bool.{Bool, true, false, not, ◌&&◌}
use mathlib.Core.List.{List}
use native.Mathlib.Omega.{arith}
use lib.Dec.{ltb}
use lib.ListN.{length}
use Rattle.equivalence.proofs.Tests.{pick}
use Rattle.equivalence.specs.declared.Refusal.TheVariants.{Text}
use Rattle.algebra.specs.Accepted.{Accepted}
use Rattle.algebra.specs.Algebra.{Algebra}
use Rattle.numberreader.specs.Reading.{ascii, Read, found, fault, begins}
use Rattle.reader.specs.Lines.{Progress, defined, refused, sized, operation, Request, request}
use Rattle.reader.proofs.Accepting.{AcceptedBy, sized_accepted, operation_accepted}
use Rattle.reader.proofs.Forward.{Past, Further, operation_further, request_forward}
use Rattle.writer.specs.Lines.{refused_line}
use Rattle.bracket.specs.Transcript.{State, Step, goes, ends, text_limit, after_line, after_request, first_step, operation_step, request_step, step}

-- a step that goes on goes forward
abbrev pub Ahead : ℕ → Step → Type 0
Ahead at (goes piece s) = at < s.at
Ahead at (ends piece) = Unit {0}

line_ahead : (at : ℕ) (p : Progress) → Further (at + 3) p → Ahead at (after_line p)
unfolding after_line
line_ahead at (defined a next) h = omega (arith, h)
line_ahead at (refused r) h = tt

request_ahead : (at : ℕ) (a : Algebra) (r : Read Request) → Past 1 at r → Ahead at (after_request a r)
unfolding after_request
request_ahead at a (found q next) h = omega (arith, h)
request_ahead at a fault h = tt

choice_ahead : (at : ℕ) (b : Bool) (p q : Step) → Ahead at p → Ahead at q → Ahead at (pick b p q)
choice_ahead at true p q h k = h
choice_ahead at false p q h k = k

pub step_ahead : (text : List ℕ) (s : State) → Ahead s.at (step text s)
unfolding step operation_step request_step
step_ahead text s =
    choice_ahead s.at (not s.requested && begins text s.at (ascii "[op")) (operation_step text s) (request_step text s)
    (line_ahead s.at (operation s.algebra text (s.at + 3)) (operation_further s.algebra text (s.at + 3)))
    (request_ahead s.at s.algebra (request text s.at) (request_forward text s.at))

-- the algebra is accepted where the run goes on
abbrev pub AcceptedAfter : Step → Type 0
AcceptedAfter (goes piece s) = Accepted s.algebra
AcceptedAfter (ends piece) = Unit {0}

line_accepted : (p : Progress) → AcceptedBy p → AcceptedAfter (after_line p)
unfolding after_line
line_accepted (defined a next) h = h
line_accepted (refused r) h = tt

request_accepted : (a : Algebra) (r : Read Request) → Accepted a → AcceptedAfter (after_request a r)
unfolding after_request
request_accepted a (found q next) h = h
request_accepted a fault h = tt

choice_accepted : (b : Bool) (p q : Step) → AcceptedAfter p → AcceptedAfter q → AcceptedAfter (pick b p q)
choice_accepted true p q h k = h
choice_accepted false p q h k = k

pub first_accepted : (text : List ℕ) → AcceptedAfter (first_step text)
unfolding first_step
first_accepted text =
    choice_accepted (ltb text_limit (length text)) (ends (refused_line Text)) (after_line (sized text 0)) tt
    (line_accepted (sized text 0) (sized_accepted text 0))

pub step_accepted : (text : List ℕ) (s : State) → Accepted s.algebra → AcceptedAfter (step text s)
unfolding step operation_step request_step
step_accepted text s w =
    choice_accepted (not s.requested && begins text s.at (ascii "[op")) (operation_step text s) (request_step text s)
    (line_accepted (operation s.algebra text (s.at + 3)) (operation_accepted s.algebra text (s.at + 3) w))
    (request_accepted s.algebra (request text s.at) w)
