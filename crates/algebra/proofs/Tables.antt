-- Where an operation's cells stand in the algebra's cells, and which argument list stands at a place.
use Prim.Native.Nat.{ℕ, zero, suc, ◌+◌, ◌*◌, ◌^◌, ◌≤◌, ◌<◌}
use mathlib.Core.List.Memᴰ.{cases_cons}
use mathlib.Core.List.Memᴰ.{head as here}
use mathlib.Core.List.Memᴰ.{not-nil}
use mathlib.Core.List.Memᴰ.{tail as there}
use mathlib.Core.List.{List, [], ◌∷◌, ◌++◌, Memᴰ as Member}
use mathlib.Core.Logic.{inl, inr}
use mathlib.Core.Path.{◌≡◌, refl, sym, ap, subst, ◌∙◌}
use native.Mathlib.Numerals.{add-one}
use native.Mathlib.Omega.{arith}
use lib.ListN.{length, get_or, take, drop, take-append-drop}
use lib.Seq.{get_or-take, get_or-drop, take-suc, take_all, drop-drop}
use Rattle.algebra.specs.Algebra.{Algebra, Operation, cell_count, operations_of, operations, place, value}
use Rattle.algebra.proofs.Arguments.{Args, place_law}
use Rattle.algebra.proofs.Powers.{power_small}

-- operation j: its cells begin behind those of the operations before it
unfoldable pub operation_at : Algebra → ℕ → Operation
operation_at a j =
    record { arity = get_or a.arities j 0; table = take (a.size ^ get_or a.arities j 0) (drop (cell_count a.size (take j a.arities)) a.cells) }

nth : (n : ℕ) (arities cells : List ℕ) (j : ℕ) → j < length arities
    → Member (record { arity = get_or arities j 0; table = take (n ^ get_or arities j 0) (drop (cell_count n (take j arities)) cells) }) (operations_of n arities cells)
unfolding operations_of cell_count
nth n [] cells j l = absurd (omega arith)
nth n (s ∷ rest) cells zero l = here refl
nth n (s ∷ rest) cells (suc j) l =
    there (rw (drop-drop (cell_count n (take j rest)) (n ^ s) cells) at (nth n rest (drop (n ^ s) cells) j (omega arith)))

pub operation_at_member : (a : Algebra) (j : ℕ) → j < length a.arities → Member (operation_at a j) (operations a)
unfolding operation_at operations
operation_at_member a j l = nth a.size a.arities a.cells j l

every_nth : (n : ℕ) (arities cells : List ℕ) (P : Operation → Type 0)
    → ((j : ℕ) → j < length arities → P (record { arity = get_or arities j 0; table = take (n ^ get_or arities j 0) (drop (cell_count n (take j arities)) cells) }))
    → (f : Operation) → Member f (operations_of n arities cells) → P f
unfolding operations_of cell_count
every_nth n [] cells P h f i = absurd (not-nil i)
every_nth n (s ∷ rest) cells P h f i =
    elim (cases_cons i) [
      | inl e ↦ subst P (sym e) (h 0 (omega arith))
      | inr k ↦ every_nth n rest (drop (n ^ s) cells) P (λ j l. rw (drop-drop (cell_count n (take j rest)) (n ^ s) cells) (h (suc j) (omega arith))) f k
    ]

-- a fact of every operation is a fact of each number of one
pub every_operation : (a : Algebra) (P : Operation → Type 0) → ((j : ℕ) → j < length a.arities → P (operation_at a j)) → (f : Operation) → Member f (operations a) → P f
unfolding operation_at operations
every_operation a P h f i = every_nth a.size a.arities a.cells P h f i

-- the value is the cell at the operation's beginning and the place
pub value_at : (a : Algebra) (j : ℕ) (xs : List ℕ) → Args a.size (get_or a.arities j 0) xs
    → value a.size (operation_at a j) xs ≡ get_or a.cells (cell_count a.size (take j a.arities) + place a.size xs) 0
unfolding value operation_at
value_at a j xs h =
    get_or-take (a.size ^ get_or a.arities j 0) (drop (cell_count a.size (take j a.arities)) a.cells) (place a.size xs) 0 (place_law a.size (get_or a.arities j 0) xs h).0
    ∙ get_or-drop (cell_count a.size (take j a.arities)) a.cells (place a.size xs) 0

-- ---- where the tables begin

cell_count_append : (n : ℕ) (xs ys : List ℕ) → cell_count n (xs ++ ys) ≡ cell_count n xs + cell_count n ys
unfolding cell_count
cell_count_append n [] ys = omega arith
cell_count_append n (x ∷ xs) ys = omega (arith, cell_count_append n xs ys)

one_table : (n s : ℕ) → cell_count n (s ∷ []) ≡ n ^ s
unfolding cell_count
one_table n s = omega arith

-- each table begins where the one before it ends
pub start_next : (n : ℕ) (arities : List ℕ) (j : ℕ) → j < length arities → cell_count n (take (j + 1) arities) ≡ cell_count n (take j arities) + n ^ get_or arities j 0
start_next n arities j l =
    rw (add-one j, take-suc arities j 0 l, cell_count_append n (take j arities) (get_or arities j 0 ∷ []), one_table n (get_or arities j 0)) refl

pub start_first : (n : ℕ) (arities : List ℕ) → cell_count n (take 0 arities) ≡ 0
unfolding cell_count
start_first n arities = refl

pub start_last : (n : ℕ) (arities : List ℕ) (j : ℕ) → length arities ≤ j → cell_count n (take j arities) ≡ cell_count n arities
start_last n arities j l = ap (cell_count n) (take_all j arities l)

-- the sum over the tables below j: with the next, and at the end
pub summed_more : (n : ℕ) (arities : List ℕ) (j : ℕ) {sum p : ℕ} → j < length arities → sum ≡ cell_count n (take j arities) → p ≡ n ^ get_or arities j 0
    → sum + p ≡ cell_count n (take (j + 1) arities)
summed_more n arities j l e g = omega (arith, start_next n arities j l)

pub summed_all : (n : ℕ) (arities : List ℕ) (j : ℕ) {sum : ℕ} → length arities ≤ j → sum ≡ cell_count n (take j arities) → sum ≡ cell_count n arities
summed_all n arities j l e = e ∙ start_last n arities j l

-- a table ends within the cells
pub start_room : (n : ℕ) (arities : List ℕ) (j : ℕ) → j < length arities → cell_count n (take j arities) + n ^ get_or arities j 0 ≤ cell_count n arities
start_room n arities j l =
    let e : cell_count n arities ≡ cell_count n (take (j + 1) arities) + cell_count n (drop (j + 1) arities) =
    ap (cell_count n) (sym (take-append-drop (j + 1) arities)) ∙ cell_count_append n (take (j + 1) arities) (drop (j + 1) arities) in
    omega (arith, start_next n arities j l)

-- powers stay small, and so do the sums over at most 16 tables
module _ (n : ℕ) (arities : List ℕ) (l : n ≤ 64) (h : (i : ℕ) → i < length arities → get_or arities i 0 ≤ 3) where
  pub cell_count_small : (j : ℕ) → j ≤ length arities → cell_count n (take j arities) ≤ 262144 * j
  cell_count_small zero k = omega (arith, start_first n arities)
  cell_count_small (suc j) k =
      rw (← add-one j)
      (omega (arith, start_next n arities j (omega arith), cell_count_small j (omega arith), power_small n (get_or arities j 0) l (h j (omega arith))))

  pub summed_small : (j : ℕ) {sum p : ℕ} → length arities ≤ 16 → j < length arities → sum ≡ cell_count n (take j arities) → p ≡ n ^ get_or arities j 0
      → sum + p ≤ 262144 * 16
  summed_small j most k e g = omega (arith, summed_more n arities j k e g, cell_count_small (j + 1) (omega arith))
