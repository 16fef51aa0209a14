-- The writer's tests rise by rank; what the reader comes to is a refusal where its answer is one.
use Prim.Native.Nat.{ℕ}
use mathlib.Core.List.{List}
use mathlib.Core.Path.{◌≡◌, ap}
use lib.Dec.{T}
use lib.ListN.{length}
use Rattle.equivalence.specs.Ranks.{rank, rises, RefusalRight}
use Rattle.equivalence.specs.Refusal.{number_of, size_test, space_test}
use Rattle.std.specs.Prelude.{Err}
use Rattle.equivalence.specs.declared.Refusal.{Refusal}
use Rattle.equivalence.proofs.Ranks.{serve_refusal}
use Rattle.algebra.specs.Accepted.{algebra_tests}
use Rattle.algebra.specs.Algebra.{Algebra}
use Rattle.reader.specs.Lines.{Progress, defined, refused}
use Rattle.tablewriter.specs.Texts.{algebra_text}
use Rattle.algebratext.specs.Calls.{write_tests, write_call, algebra_read, cells_read, reading, read_call}
use Rattle.algebratext.specs.Reasons.{TextReasons}

rises_write : (a : Algebra) (room : ℕ) → T (rises (write_tests a room))
unfolding rises rank number_of algebra_tests size_test space_test
rises_write a room = tt

writer_reasons : (a : Algebra) (lent : List ℕ) → RefusalRight (write_call a lent) (write_tests a (length lent)) lent
unfolding write_call
writer_reasons a lent =
    serve_refusal (length (algebra_text a)) (write_tests a (length lent)) (algebra_text a) lent (rises_write a (length lent))

-- what a text comes to, where the answer is a refusal
came_to : (p : Progress) (r : Refusal) → algebra_read p ≡ Err r → p ≡ refused r
unfolding algebra_read
came_to (defined a at) r e = absurd cc
came_to (refused s) r e = let is : s ≡ r = cc in ap refused is

reader_reasons : (text lent : List ℕ) (r : Refusal) → (read_call text lent).0 ≡ Err r
    → (reading text (length lent) ≡ refused r) × (read_call text lent ≡ (Err r, lent))
unfolding read_call algebra_read cells_read
reader_reasons text lent r e =
    let is : reading text (length lent) ≡ refused r = came_to (reading text (length lent)) r e in
    (is, ap (λ (p : Progress). (algebra_read p, cells_read p lent)) is)

pub text_reasons : TextReasons
text_reasons = record { writer = writer_reasons; reader = reader_reasons }
