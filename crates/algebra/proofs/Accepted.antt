-- Accepted algebras: none of reasons 1 to 6 applies just where the algebra is well formed; and the tests as `check` makes them.
use Prim.Native.Nat.{ℕ, ◌≤◌, ◌<◌}
use mathlib.Core.Bool.{Bool, true, false, not}
use mathlib.Core.List.{List}
use mathlib.Core.Path.{◌≡◌, sym, subst, ◌∙◌}
use native.Mathlib.Decide.{dec_lt}
use native.Mathlib.Omega.{arith}
use lib.Dec.{T, eqb, leb, ltb, eqb→eq, leb→le, le→leb, ltb→lt, lt→ltb}
use lib.ListN.{length, get_or, drop}
use Rattle.equivalence.specs.Lists.{every}
use Rattle.kernel.specs.InnerLargest.{Largest}
use Rattle.equivalence.specs.Refusal.{Test, lowest, size_test}
use Rattle.equivalence.proofs.Lists.{every_of, of_every, member_at, member_index}
use Rattle.equivalence.proofs.Refusals.{lowest_none, lowest_next, lowest_here, of_passed, size_refused, size_passed, of_size_test, size_test_of, sized_bounds}
use Rattle.equivalence.proofs.Tests.{eq→eqb}
use Rattle.algebra.specs.Accepted.{algebra_tests, Accepted}
use Rattle.algebra.specs.Algebra.{Algebra, algebra_of, cell_count}
use Rattle.equivalence.specs.declared.Refusal.TheVariants.{Size, Operations, Arity, Cells, Length, Cell}
use Rattle.std.specs.Prelude.{Ok, Err}

-- what reasons 1 to 6 leave
pub record WellFormed (a : Algebra) : Type 0 where
  pub some : 1 ≤ a.size
  pub most : a.size ≤ 64
  pub operations : length a.arities ≤ 16
  pub arity : (i : ℕ) → i < length a.arities → get_or a.arities i 0 ≤ 3
  pub room : cell_count a.size a.arities ≤ 32768
  pub filled : length a.cells ≡ cell_count a.size a.arities
  pub below : (i : ℕ) → i < length a.cells → get_or a.cells i 0 < a.size

-- a test of every member, as a test of every index
pub every_at : (p : ℕ → Bool) (l : List ℕ) → T (every p l) → (i : ℕ) → i < length l → T (p (get_or l i 0))
every_at p l t i k = of_every p l t (get_or l i 0) (member_at l i 0 k)

pub every_by : (p : ℕ → Bool) (l : List ℕ) → ((i : ℕ) → i < length l → T (p (get_or l i 0))) → T (every p l)
every_by p l h = every_of p l (λ x m. let r = member_index l x 0 m in subst (λ (z : ℕ). T (p z)) r.2 (h r.0 r.1))

-- a negated test that does not apply, and one that does; a test that holds, negated, does not apply
not_not : (b : Bool) → ¬ T (not b) → T b
not_not true h = tt
not_not false h = absurd (h tt)

yes_not : (b : Bool) → ¬ T b → T (not b)
yes_not true h = h tt
yes_not false h = tt

pub not_yes : (b : Bool) → T b → ¬ T (not b)
not_yes true t h = h
not_yes false t h = t

-- a number that is not above the limit
at_most : (limit k : ℕ) → ¬ T (ltb limit k) → k ≤ limit
at_most limit k h = elim (dec_lt limit k) [ yes l ↦ absurd (h (lt→ltb limit k l)) | no l ↦ omega arith ]

-- every member is at most k, or below it, as a test of every index
module _ (k : ℕ) (l : List ℕ) where
  abbrev Most : Type 0
  Most = (i : ℕ) → i < length l → get_or l i 0 ≤ k

  abbrev Below : Type 0
  Below = (i : ℕ) → i < length l → get_or l i 0 < k

  abbrev most_test : Bool
  most_test = every (λ s. leb s k) l

  abbrev below_test : Bool
  below_test = every (λ c. ltb c k) l

  most_of : Most → T most_test
  most_of h = every_by (λ s. leb s k) l (λ i j. le→leb (get_or l i 0) k (h i j))

  of_most : T most_test → Most
  of_most t i j = leb→le (get_or l i 0) k (every_at (λ s. leb s k) l t i j)

  all_below_of : Below → T below_test
  all_below_of h = every_by (λ c. ltb c k) l (λ i j. lt→ltb (get_or l i 0) k (h i j))

  of_all_below : T below_test → Below
  of_all_below t i j = ltb→lt (get_or l i 0) k (every_at (λ c. ltb c k) l t i j)

-- there are as many cells as the tables need
abbrev full_test : Algebra → Bool
full_test a = eqb (length a.cells) (cell_count a.size a.arities)

pub accepted_well_formed : (a : Algebra) → Accepted a → WellFormed a
unfolding Accepted algebra_tests
accepted_well_formed a e =
    let one = of_passed _ _ e in
    let two = of_passed _ _ one.1 in
    let three = of_passed _ _ two.1 in
    let four = of_passed _ _ three.1 in
    let five = of_passed _ _ four.1 in
    let six = of_passed _ _ five.1 in
    let size = of_size_test a.size one.0 in
    record {
      some = size.0;
      most = size.1;
      operations = at_most 16 (length a.arities) two.0;
      arity = of_most 3 a.arities (not_not (most_test 3 a.arities) three.0);
      room = at_most 32768 (cell_count a.size a.arities) four.0;
      filled = eqb→eq (length a.cells) (cell_count a.size a.arities) (not_not (full_test a) five.0);
      below = of_all_below a.size a.cells (not_not (below_test a.size a.cells) six.0);
    }

-- each test behind the first: where it applies it is the answer, and where it does not the later ones decide
module _ (a : Algebra) where
  operations_failed : 16 < length a.arities → lowest (drop 1 (algebra_tests a)) ≡ Err Operations
  unfolding algebra_tests
  operations_failed h = lowest_here _ _ (lt→ltb 16 (length a.arities) h)

  operations_passed : length a.arities ≤ 16 → lowest (drop 1 (algebra_tests a)) ≡ lowest (drop 2 (algebra_tests a))
  unfolding algebra_tests
  operations_passed h = lowest_next _ _ (λ t. absurd (omega (arith, ltb→lt 16 (length a.arities) t)))

  arity_failed : ¬ Most 3 a.arities → lowest (drop 2 (algebra_tests a)) ≡ Err Arity
  unfolding algebra_tests
  arity_failed h = lowest_here _ _ (yes_not (most_test 3 a.arities) (λ t. h (of_most 3 a.arities t)))

  arity_passed : Most 3 a.arities → lowest (drop 2 (algebra_tests a)) ≡ lowest (drop 3 (algebra_tests a))
  unfolding algebra_tests
  arity_passed h = lowest_next _ _ (not_yes (most_test 3 a.arities) (most_of 3 a.arities h))

  cells_failed : 32768 < cell_count a.size a.arities → lowest (drop 3 (algebra_tests a)) ≡ Err Cells
  unfolding algebra_tests
  cells_failed h = lowest_here _ _ (lt→ltb 32768 (cell_count a.size a.arities) h)

  cells_passed : cell_count a.size a.arities ≤ 32768 → lowest (drop 3 (algebra_tests a)) ≡ lowest (drop 4 (algebra_tests a))
  unfolding algebra_tests
  cells_passed h = lowest_next _ _ (λ t. absurd (omega (arith, ltb→lt 32768 (cell_count a.size a.arities) t)))

  length_failed : ¬ (length a.cells ≡ cell_count a.size a.arities) → lowest (drop 4 (algebra_tests a)) ≡ Err Length
  unfolding algebra_tests
  length_failed h = lowest_here _ _ (yes_not (full_test a) (λ t. h (eqb→eq (length a.cells) (cell_count a.size a.arities) t)))

  length_passed : length a.cells ≡ cell_count a.size a.arities → lowest (drop 4 (algebra_tests a)) ≡ lowest (drop 5 (algebra_tests a))
  unfolding algebra_tests
  length_passed h = lowest_next _ _ (not_yes (full_test a) (eq→eqb (length a.cells) (cell_count a.size a.arities) h))

  cell_failed : ¬ Below a.size a.cells → lowest (drop 5 (algebra_tests a)) ≡ Err Cell
  unfolding algebra_tests
  cell_failed h = lowest_here _ _ (yes_not (below_test a.size a.cells) (λ t. h (of_all_below a.size a.cells t)))

  cell_passed : Below a.size a.cells → lowest (drop 5 (algebra_tests a)) ≡ Ok tt
  unfolding algebra_tests
  cell_passed h = lowest_next _ _ (not_yes (below_test a.size a.cells) (all_below_of a.size a.cells h)) ∙ lowest_none

-- the six tests by what a function finds, in its order: a flag for the size, the largest arity and cell, and how many cells there must be
module _ (n : ℕ) (arities cells : List ℕ) {flag : Bool} (s : flag ≡ not (size_test n).applies) where
  abbrev tests : List Test
  tests = algebra_tests (algebra_of n arities cells)

  pub tests_size : not flag ≡ true → Err Size ≡ lowest tests
  unfolding algebra_tests
  tests_size f = sym (size_refused n _ s f)

  module _ (f : not flag ≡ false) where
    sized_next : lowest tests ≡ lowest (drop 1 tests)
    unfolding algebra_tests
    sized_next = size_passed n _ s f

    pub tests_operations : 16 < length arities → Err Operations ≡ lowest tests
    tests_operations h = sym (sized_next ∙ operations_failed (algebra_of n arities cells) h)

    module _ (h : length arities ≤ 16) {largest : ℕ} (m : Largest (length arities) arities largest) where
      few_next : lowest tests ≡ lowest (drop 2 tests)
      few_next = sized_next ∙ operations_passed (algebra_of n arities cells) h

      pub tests_arity : 3 < largest → Err Arity ≡ lowest tests
      tests_arity k =
          sym (few_next ∙ arity_failed (algebra_of n arities cells) (λ u. absurd (omega (arith, m.least 4 (omega arith) (λ j l. omega (arith, u j l))))))

      module _ (k : largest ≤ 3) {count : ℕ} (e : count ≡ cell_count n arities) where
        arity_next : lowest tests ≡ lowest (drop 3 tests)
        arity_next = few_next ∙ arity_passed (algebra_of n arities cells) (λ i l. omega (arith, m.above i l))

        pub tests_cells : 32768 < count → Err Cells ≡ lowest tests
        tests_cells l = sym (arity_next ∙ cells_failed (algebra_of n arities cells) (omega arith))

        module _ (l : count ≤ 32768) where
          room_next : lowest tests ≡ lowest (drop 4 tests)
          room_next = arity_next ∙ cells_passed (algebra_of n arities cells) (omega arith)

          pub tests_length : (length cells ≡ count → ⊥) → Err Length ≡ lowest tests
          tests_length d = sym (room_next ∙ length_failed (algebra_of n arities cells) (λ g. d (g ∙ sym e)))

          module _ (d : length cells ≡ count) {top : ℕ} (t : Largest (length cells) cells top) where
            filled_next : lowest tests ≡ lowest (drop 5 tests)
            filled_next = room_next ∙ length_passed (algebra_of n arities cells) (d ∙ e)

            pub tests_cell : n ≤ top → Err Cell ≡ lowest tests
            tests_cell g = sym (filled_next ∙ cell_failed (algebra_of n arities cells) (λ u. absurd (omega (arith, t.least n (sized_bounds n s f).0 u))))

            pub tests_none : top < n → Ok tt ≡ lowest tests
            tests_none g = sym (filled_next ∙ cell_passed (algebra_of n arities cells) (λ i j. omega (arith, t.above i j)))

pub well_formed_accepted : (a : Algebra) → WellFormed a → Accepted a
unfolding Accepted algebra_tests
well_formed_accepted a w =
    lowest_next _ _ (size_test_of a.size w.some w.most)
    ∙ operations_passed a w.operations ∙ arity_passed a w.arity ∙ cells_passed a w.room ∙ length_passed a w.filled ∙ cell_passed a w.below
