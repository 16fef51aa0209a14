-- Room for the cells of an algebra, and how many a line's table has.
use Prim.Native.Nat.{ℕ, ◌^◌, ◌≤◌}
use mathlib.Core.List.{List}
use mathlib.Core.Path.{◌≡◌, sym, ◌∙◌}
use native.Mathlib.Omega.{arith}
use lib.ListN.{length}
use Rattle.equivalence.specs.Refusal.{lowest}
use Rattle.equivalence.specs.declared.Refusal.{Refusal}
use Rattle.std.specs.Prelude.{⊤, Result, Ok}
use Rattle.numberreader.specs.Reading.{◌>>◌, done}
use Rattle.tablereader.specs.Tables.{table}
use Rattle.reader.specs.Lines.{close, arity, last_table, operation_tests}
use Rattle.numberreader.specs.InnerPromises.{NumberFound}
use Rattle.tablereader.specs.InnerPromises.{RoomFor}
use Rattle.reader.specs.InnerPromises.{RoomForCells}
use Rattle.numberreader.specs.declared.Number.{Number}
use Rattle.reader.proofs.Judging.{fitting}
use Rattle.tablereader.proofs.Lengths.{Finds, Long, then_finds, after_any, table_long}
use Rattle.tablereader.proofs.RoomLeft.{room_less}

-- where the tests of an operation line pass, there is room for its table
pub room_for_table : (n operations : ℕ) (text : List ℕ) (at : ℕ) (lent : List ℕ) (put : ℕ) → RoomForCells text at lent put → (s : Number) → NumberFound text at (arity text at) s
    → (c : Result ⊤ Refusal) → c ≡ lowest (operation_tests n operations put s.value) → c ≡ Ok tt → RoomFor (n ^ s.value) text s.next lent put
room_for_table n operations text at lent put w s r c ec e =
    room_less w s.next (n ^ s.value) (omega (arith, r.past)) r.within (omega (arith, (fitting n operations put s.value (sym ec ∙ e)).room))

-- storage for 32,768 cells has room for those of any text
pub room_of_cells : (text : List ℕ) (at : ℕ) (cells : List ℕ) (put : ℕ) → at ≤ length text → put ≤ 32768 → 32768 ≤ length cells → RoomForCells text at cells put
room_of_cells text at cells put w p l = record { within = w; start = omega arith; fits = λ k a b. omega arith }

-- the table that ends a line has n^s cells
pub last_table_long : (n s : ℕ) → Finds (Long (n ^ s)) (last_table n s)
unfolding last_table
last_table_long n s =
    then_finds (Long (n ^ s)) (Long (n ^ s)) (table n s) (λ cells. ◌>>◌ close (done cells)) (table_long n s)
    (λ cells h. after_any (Long (n ^ s)) close (λ _. done cells) (λ _ text at. h))
