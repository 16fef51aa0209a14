-- The algebra that lines define is accepted: tables have n^s cells, and what the lines' tests pass is what reasons 1 to 6 leave.
use Prim.Native.Nat.{ℕ, ◌+◌, ◌-◌, ◌^◌, ◌≤◌, ◌<◌}
use mathlib.Core.Bool.{Bool, true, false, not}
use mathlib.Core.List.{List, [], ◌∷◌, ◌++◌}
use mathlib.Core.Path.{◌≡◌, refl, ◌∙◌}
use native.Mathlib.Decide.{dec_lt}
use native.Mathlib.Omega.{arith}
use lib.Dec.{T, eqb, ltb, ltb→lt, lt→ltb}
use lib.ListN.{length, get_or, length-append, get_or-append}
use lib.Seq.{get_or-append-add}
use Rattle.equivalence.specs.Lists.{every}
use Rattle.equivalence.specs.Refusal.{lowest, size_test}
use Rattle.equivalence.specs.declared.Refusal.{Refusal}
use Rattle.std.specs.Prelude.{⊤, Result, Ok, Err}
use Rattle.equivalence.proofs.Refusals.{of_passed}
use Rattle.equivalence.proofs.Tests.{T?, or_left, or_right, eq→eqb}
use Rattle.algebra.specs.Accepted.{Accepted}
use Rattle.algebra.specs.Algebra.{Algebra, algebra_of, cell_count}
use Rattle.algebra.proofs.Accepted.{WellFormed, every_at, accepted_well_formed, well_formed_accepted}
use Rattle.numberreader.specs.Reading.{Read, found, fault}
use Rattle.reader.specs.Lines.{Progress, defined, refused, size_line, tested, after_size, sized, arity, last_table, operation_tests, cell_test, with_operation, after_table, after_arity, operation}
use Rattle.reader.proofs.Judging.{Fitting, fitting}
use Rattle.tablereader.proofs.Lengths.{IfFound, Long}
use Rattle.reader.proofs.CellRoom.{last_table_long}

cells_append : (n : ℕ) (arities : List ℕ) (s : ℕ) → cell_count n (arities ++ (s ∷ [])) ≡ cell_count n arities + n ^ s
unfolding cell_count
cells_append n [] s = omega arith
cells_append n (r ∷ arities) s = rw (cells_append n arities s) (omega arith)

-- what holds of both lists at every index holds of one after the other
append_at : (P : ℕ → Type 0) (xs ys : List ℕ) → ((i : ℕ) → i < length xs → P (get_or xs i 0)) → ((i : ℕ) → i < length ys → P (get_or ys i 0))
    → (i : ℕ) → i < length (xs ++ ys) → P (get_or (xs ++ ys) i 0)
append_at P xs ys p q i h =
    elim (dec_lt i (length xs)) [
      | yes l ↦ rw (get_or-append xs ys 0 i l) (p i l)
      | no l ↦ let k = i - length xs in
          let e : i ≡ length xs + k = omega arith in
          rw (e, get_or-append-add xs ys k 0) (q k (omega (arith, length-append xs ys)))
    ]

yes_not : (b : Bool) → ¬ T b → T (not b)
yes_not true h = h tt
yes_not false h = tt

all_below : (n : ℕ) (cells : List ℕ) → lowest (cell_test n cells ∷ []) ≡ Ok tt → (i : ℕ) → i < length cells → get_or cells i 0 < n
unfolding cell_test
all_below n cells e i l =
    let h = (of_passed _ _ e).0 in
    ltb→lt (get_or cells i 0) n
    (every_at (λ c. ltb c n) cells (elim (T? (every (λ c. ltb c n) cells)) [ yes t ↦ t | no t ↦ absurd (h (yes_not (every (λ c. ltb c n) cells) t)) ]) i l)

-- one operation more
grown : (a : Algebra) (s : ℕ) (cells : List ℕ) → WellFormed a → Fitting a.size (length a.arities) (length a.cells) s → length cells ≡ a.size ^ s
    → ((i : ℕ) → i < length cells → get_or cells i 0 < a.size) → WellFormed (with_operation a s cells)
unfolding with_operation
grown a s cells w f l b =
    let count = cells_append a.size a.arities s in
    record {
      some = w.some;
      most = w.most;
      operations = rw length-append f.few;
      arity = append_at (λ x. x ≤ 3) a.arities (s ∷ []) w.arity (λ i h. let e : i ≡ 0 = omega arith in rw e f.arity);
      room = rw count (omega (arith, w.filled, f.room));
      filled = length-append a.cells cells ∙ omega (arith, w.filled, count);
      below = append_at (λ x. x < a.size) a.cells cells w.below b;
    }

-- a line of the algebra that is not refused gives an accepted algebra
abbrev pub AcceptedBy : Progress → Type 0
AcceptedBy (defined a next) = Accepted a
AcceptedBy (refused r) = Unit {0}

tested_accepted : (c : Result ⊤ Refusal) (p : Progress) → (c ≡ Ok tt → AcceptedBy p) → AcceptedBy (tested c p)
unfolding tested
tested_accepted (Ok x) p h = h refl
tested_accepted (Err r) p h = tt

table_accepted : (a : Algebra) (s : ℕ) (r : Read (List ℕ)) → Accepted a → Fitting a.size (length a.arities) (length a.cells) s → IfFound (Long (a.size ^ s)) r → AcceptedBy (after_table a s r)
unfolding after_table
table_accepted a s (found cells next) w f l =
    tested_accepted (lowest (cell_test a.size cells ∷ [])) (defined (with_operation a s cells) next)
    (λ e. well_formed_accepted (with_operation a s cells) (grown a s cells (accepted_well_formed a w) f l (all_below a.size cells e)))
table_accepted a s fault w f l = tt

arity_accepted : (a : Algebra) (text : List ℕ) (r : Read ℕ) → Accepted a → AcceptedBy (after_arity a text r)
unfolding after_arity
arity_accepted a text (found s next) w =
    tested_accepted (lowest (operation_tests a.size (length a.arities) (length a.cells) s)) (after_table a s (last_table a.size s text next))
    (λ e. table_accepted a s (last_table a.size s text next) w (fitting a.size (length a.arities) (length a.cells) s e) (last_table_long a.size s text next))
arity_accepted a text fault w = tt

bare : (n : ℕ) → lowest (size_test n ∷ []) ≡ Ok tt → WellFormed (algebra_of n [] [])
unfolding size_test cell_count
bare n e =
    let h = (of_passed _ _ e).0 in
    record {
      some = elim (dec_lt 0 n) [ yes l ↦ l | no l ↦ absurd (h (or_left (eqb n 0) (ltb 64 n) (eq→eqb n 0 (omega arith)))) ];
      most = elim (dec_lt 64 n) [ yes l ↦ absurd (h (or_right (eqb n 0) (ltb 64 n) (lt→ltb 64 n l))) | no l ↦ omega arith ];
      operations = omega arith;
      arity = λ i l. absurd (omega arith);
      room = omega arith;
      filled = refl;
      below = λ i l. absurd (omega arith);
    }

size_accepted : (r : Read ℕ) → AcceptedBy (after_size r)
unfolding after_size
size_accepted (found n next) = tested_accepted (lowest (size_test n ∷ [])) (defined (algebra_of n [] []) next) (λ e. well_formed_accepted (algebra_of n [] []) (bare n e))
size_accepted fault = tt

pub sized_accepted : (text : List ℕ) (at : ℕ) → AcceptedBy (sized text at)
unfolding sized
sized_accepted text at = size_accepted (size_line text at)

pub operation_accepted : (a : Algebra) (text : List ℕ) (at : ℕ) → Accepted a → AcceptedBy (operation a text at)
unfolding operation
operation_accepted a text at w = arity_accepted a text (arity text at) w
