-- All lines of an accepted algebra are read back, one behind the other, where its text stands at the start of a text.
use Prim.Native.Nat.{ℕ, zero, suc, ◌+◌, ◌^◌, ◌≤◌, ◌<◌}
use mathlib.Core.Bool.{true}
use mathlib.Core.List.{List, [], ◌∷◌, ◌++◌, map, append_assoc, append-nil}
use mathlib.Core.Path.{◌≡◌, ap, ◌∙◌}
use native.Mathlib.Nat.{zero-add, add-zero, suc-add}
use native.Mathlib.Omega.{arith}
use lib.ListN.{length, get_or, take, drop, length-append, length-drop, take-append-drop}
use lib.Seq.{append_snoc, length-take-le, get_or-take}
use Rattle.equivalence.specs.Lists.{concat}
use Rattle.algebra.specs.Accepted.{Accepted}
use Rattle.algebra.specs.Algebra.{Algebra, Operation, algebra_of, cell_count, operations_of, operations}
use Rattle.algebra.proofs.Accepted.{WellFormed, accepted_well_formed}
use Rattle.numberreader.specs.Reading.{ascii, begins}
use Rattle.reader.specs.Lines.{defined, sized, with_operation, operation}
use Rattle.numberreader.proofs.Readers.{within_text}
use Rattle.writer.proofs.Numerals.{first_byte}
use Rattle.tablewriter.specs.Texts.{size_text, operation_text, algebra_text}
use Rattle.tablewriter.proofs.ReadBack.{begins_left, begins_right, begins_here, below_drop}
use Rattle.writer.specs.InnerRoom.{NumbersBelow}
use Rattle.tablewriter.proofs.LinesBack.{sized_back, MayFollow, operation_opens, operation_past, operation_back}

-- an operation line takes an algebra to one with an operation more, and its place to the place behind it
pub record LineRead (text : List ℕ) (a : Algebra) (at : ℕ) (b : Algebra) (next : ℕ) : Type 0 where
  pub opens : begins text at (ascii "[op") ≡ true
  pub value : operation a text (at + 3) ≡ defined b next
  pub within : at < length text
  pub past : at < next

-- so many operation lines, one behind the other
pub data LinesRead (text : List ℕ) : ℕ → Algebra → ℕ → Algebra → ℕ → Type 0 where
  no_line : {a : Algebra} {at : ℕ} → LinesRead text zero a at a at
  line_more : {k : ℕ} {a : Algebra} {at : ℕ} {b : Algebra} {next : ℕ} {c : Algebra} {end : ℕ} → LineRead text a at b next → LinesRead text k b next c end
      → LinesRead text (suc k) a at c end

-- they have no fewer bytes than lines
pub lines_past : {text : List ℕ} {k : ℕ} {a : Algebra} {at : ℕ} {b : Algebra} {end : ℕ} → LinesRead text k a at b end → at + k ≤ end
lines_past no_line = omega arith
lines_past (line_more one others) = omega (arith, lines_past others)

-- where one turn passes each line, as many turns pass all of them
pub lines_turned : {A : Type 0} {text : List ℕ} {k : ℕ} {a : Algebra} {at : ℕ} {b : Algebra} {end : ℕ} (f : ℕ → Algebra → ℕ → A)
    → ((j : ℕ) (a : Algebra) (at : ℕ) (b : Algebra) (next : ℕ) → LineRead text a at b next → f (suc j) a at ≡ f j b next)
    → (j : ℕ) → LinesRead text k a at b end → f (k + j) a at ≡ f j b end
lines_turned f h j (no_line {a = a} {at = at}) = ap (λ (i : ℕ). f i a at) (zero-add j)
lines_turned f h j (line_more {k = k} {a = a} {at = at} {b = b} {next = next} one others) =
    ap (λ (i : ℕ). f i a at) (suc-add k j) ∙ h (k + j) a at b next one ∙ lines_turned f h j others

-- operations that may come behind those of an algebra, by their arities and cells
record Following (a : Algebra) (arities cells : List ℕ) : Type 0 where
  pub some : 1 ≤ a.size
  pub most : a.size ≤ 64
  pub few : length a.arities + length arities ≤ 16
  pub arity : (i : ℕ) → i < length arities → get_or arities i 0 ≤ 3
  pub room : length a.cells + length cells ≤ 32768
  pub full : length cells ≡ cell_count a.size arities
  pub below : NumbersBelow a.size cells

-- those of a well-formed algebra, behind its size line
all_follow : (a : Algebra) → WellFormed a → Following (algebra_of a.size [] []) a.arities a.cells
all_follow a w =
    record {
      some = w.some;
      most = w.most;
      few = omega (arith, w.operations);
      arity = w.arity;
      room = omega (arith, w.room, w.filled);
      full = w.filled;
      below = w.below;
    }

module _ (a : Algebra) (s : ℕ) (arities cells : List ℕ) (w : Following a (s ∷ arities) cells) where
  -- the cells of the first of them
  first_full : length (take (a.size ^ s) cells) ≡ a.size ^ s
  unfolding cell_count
  first_full = length-take-le (a.size ^ s) cells (omega (arith, w.full))

  -- the first of them
  first_fits : MayFollow a (record { arity = s; table = take (a.size ^ s) cells })
  unfolding cell_count
  first_fits =
      record {
        some = w.some;
        most = w.most;
        tests = record { few = omega (arith, w.few); arity = w.arity 0 (omega arith); room = omega (arith, w.room, w.full) };
        full = first_full;
        below = λ i l. rw (get_or-take (a.size ^ s) cells i 0 (omega (arith, first_full))) (w.below i (omega (arith, first_full, w.full)));
      }

  -- the others, behind the first
  others_follow : Following (with_operation a s (take (a.size ^ s) cells)) arities (drop (a.size ^ s) cells)
  unfolding cell_count with_operation
  others_follow =
      record {
        some = w.some;
        most = w.most;
        few = rw length-append (omega (arith, w.few));
        arity = λ i l. w.arity (suc i) (omega arith);
        room = rw (length-append, first_full, length-drop) (omega (arith, w.room, w.full));
        full = rw length-drop (omega (arith, w.full));
        below = below_drop a.size (a.size ^ s) cells w.below;
      }

-- the lines of operations, by their arities and cells
abbrev lines_text : ℕ → List ℕ → List ℕ → List ℕ
lines_text n arities cells = concat (map (operation_text n) (operations_of n arities cells))

-- the line of an operation that fits
line_back : (text : List ℕ) (at : ℕ) (a : Algebra) (f : Operation) → MayFollow a f → begins text at (operation_text a.size f) ≡ true
    → LineRead text a at (with_operation a f.arity f.table) (at + length (operation_text a.size f))
unfolding ascii
line_back text at a f fits e =
    let opens = operation_opens text at a f fits e in
    let byte = first_byte text at 91 (111 ∷ 112 ∷ []) opens in
    record { opens = opens; value = operation_back text at a f fits e; within = within_text text at (omega arith); past = operation_past text at a f fits e }

-- the lines of operations that follow
lines_back : (text : List ℕ) (arities cells : List ℕ) (a : Algebra) (at : ℕ) → Following a arities cells → begins text at (lines_text a.size arities cells) ≡ true
    → LinesRead text (length arities) a at (algebra_of a.size (a.arities ++ arities) (a.cells ++ cells)) (at + length (lines_text a.size arities cells))
unfolding concat operations_of cell_count with_operation
lines_back text [] [] a at w e = rw (append-nil a.arities, append-nil a.cells, add-zero at) no_line
lines_back text [] (v ∷ cells) a at w e = absurd (omega (arith, w.full))
lines_back text (s ∷ arities) cells a at w e =
    let n = a.size in
    let table = take (n ^ s) cells in
    let f : Operation = record { arity = s; table = table } in
    let others = lines_text n arities (drop (n ^ s) cells) in
    let next = at + length (operation_text n f) in
    let sum : next + length others ≡ at + length (operation_text n f ++ others) = omega (arith, length-append (operation_text n f) others) in
    let one = line_back text at a f (first_fits a s arities cells w) (begins_left text (operation_text n f) others at e) in
    let rest =
    lines_back text arities (drop (n ^ s) cells) (with_operation a s table) next (others_follow a s arities cells w)
    (begins_right text (operation_text n f) others at e) in
    line_more one (rw (append_snoc a.arities s arities, append_assoc a.cells table (drop (n ^ s) cells), take-append-drop (n ^ s) cells, sum) at rest)

-- the lines of an algebra at the start of a text are read as that algebra
pub record ReadAtStart (text : List ℕ) (a : Algebra) : Type 0 where
  pub size : sized text 0 ≡ defined (algebra_of a.size [] []) (length (size_text a.size))
  pub lines : LinesRead text (length a.arities) (algebra_of a.size [] []) (length (size_text a.size)) a (length (algebra_text a))

pub algebra_back : (a : Algebra) → Accepted a → (rest : List ℕ) → ReadAtStart (algebra_text a ++ rest) a
unfolding algebra_text operations
algebra_back a accepted rest =
    let w = accepted_well_formed a accepted in
    let text = algebra_text a ++ rest in
    let n = a.size in
    let first = size_text n in
    let others = lines_text n a.arities a.cells in
    let e : begins text 0 (first ++ others) ≡ true = begins_here [] (algebra_text a) rest in
    record {
      size = rw zero-add at (sized_back text 0 n w.some w.most (begins_left text first others 0 e));
      lines =
          rw (← length-append first others) at
          (lines_back text a.arities a.cells (algebra_of n [] []) (length first) (all_follow a w) (rw zero-add at (begins_right text first others 0 e)));
    }
