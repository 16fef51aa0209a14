-- Demands 2 and 3, stated over the definitions that the contracts cite.
use Rattle.std.specs.Prelude.{ℕ, ◌≤◌, ◌<◌, ◌-◌, ◌*◌, ◌≡◌, ◌⊎◌, ◌↔◌, List, [], map, T, length, get_or, Ok, Err}
use mathlib.Core.List.{Memᴰ as Member}
use Rattle.equivalence.specs.Lists.{without, concat}
use Rattle.equivalence.specs.Lent.{stretch, written}
use Rattle.equivalence.specs.Equivalence.{Map, is_map, holds, inside, identity, meet_all, blocks, block_of}
use Rattle.pairorder.specs.Order.{Pair, not_later}
use Rattle.equivalence.specs.declared.Element.{Element}
use Rattle.equivalence.specs.declared.Refusal.TheVariants.{Space}
use Rattle.algebra.specs.Algebra.{Algebra, Operation, operations, arguments, value}
use Rattle.algebra.specs.Congruence.{Congruence}
use Rattle.theory.specs.Extremal.{holds_all}
use Rattle.quotient.specs.Quotient.{quotient}
use Rattle.theory.specs.Decompose.{listed, most_factor_space, common_pair}
use Rattle.theory.specs.Splitting.{Unsplit}
use Rattle.congruence.specs.Calls.{irreducible_answer, quotient_space, quotient_call, algebra_from, decomposed, decompose_call}
use Rattle.decomposition.specs.declared.Decomposed.TheVariants.{Factors, Irreducible}

-- Demand 2, Generate: the congruence holds the given pairs and lies inside every congruence that holds them
pub record LeastCongruence (a : Algebra) (ps : List ℕ) (m : Map) : Type 0 where
  pub congruence : Congruence a m
  pub pairs : T (holds_all ps m)
  pub least : (c : Map) → Congruence a c → T (holds_all ps c) → T (inside a.size m c)

-- Demand 2, Contained: the congruence lies inside the given equivalence and contains every congruence that does
pub record GreatestCongruence (a : Algebra) (e m : Map) : Type 0 where
  pub congruence : Congruence a m
  pub within : T (inside a.size m e)
  pub greatest : (c : Map) → Congruence a c → T (inside a.size c e) → T (inside a.size c m)

-- Demand 2, Meet: the greatest equivalence inside both
pub record MeetRight (n : ℕ) (a b m : Map) : Type 0 where
  pub map : T (is_map n m)
  pub left : T (inside n m a)
  pub right : T (inside n m b)
  pub greatest : (c : Map) → T (inside n c a) → T (inside n c b) → T (inside n c m)

-- Demand 2, Join: the least equivalence that holds both
pub record JoinRight (n : ℕ) (a b m : Map) : Type 0 where
  pub map : T (is_map n m)
  pub left : T (inside n a m)
  pub right : T (inside n b m)
  pub least : (c : Map) → T (is_map n c) → T (inside n a c) → T (inside n b c) → T (inside n m c)

-- operation number i of an algebra
abbrev pub operation_no : Algebra → ℕ → Operation
operation_no a i = get_or (operations a) i (record { arity = 0; table = [] })

-- Demand 2, Quotient: q's elements are the numbers of m's blocks; for each operation of a it has one of the same arity, whose cell at the blocks of any
-- members is the block of the result at those members
pub record QuotientAtMembers (a : Algebra) (m : Map) (q : Algebra) : Type 0 where
  pub size : q.size ≡ blocks a.size m
  pub block : (b : ℕ) → b < q.size → (x : ℕ) × (x < a.size) × (block_of m x ≡ b)
  pub count : length (operations q) ≡ length (operations a)
  pub arity : (i : ℕ) → i < length (operations a) → (operation_no q i).arity ≡ (operation_no a i).arity
  pub cell : (i : ℕ) → i < length (operations a) → (xs : List ℕ) → Member xs (arguments a.size (operation_no a i).arity)
      → value q.size (operation_no q i) (map (block_of m) xs) ≡ block_of m (value a.size (operation_no a i) xs)

-- m holds x and y apart, and every strictly larger congruence joins them
pub record MaximalApart (a : Algebra) (m : Map) (x y : ℕ) : Type 0 where
  pub left : x < a.size
  pub right : y < a.size
  pub apart : ¬ T (holds m x y)
  pub joined : (c : Map) → Congruence a c → T (inside a.size m c) → ¬ (c ≡ m) → T (holds c x y)

-- Separate: the earliest of the congruences that hold v and w apart, and every strictly larger congruence joins them
pub record EarliestCongruence (a : Algebra) (v w : ℕ) (m : Map) : Type 0 where
  pub congruence : Congruence a m
  pub maximal : MaximalApart a m v w
  pub earliest : (c : Map) → Congruence a c → ¬ T (holds c v w) → T (not_later a.size m c)

-- Decompose answers 11, with the common pair
abbrev pub Answers11 : Algebra → Type 0
Answers11 a = decomposed a ≡ irreducible_answer a

-- every congruence but the identity holds the pair
abbrev pub HeldByAll : Algebra → ℕ → ℕ → Type 0
HeldByAll a x y = (c : Map) → Congruence a c → ¬ (c ≡ identity a.size) → T (holds c x y)

-- the pair that 11 carries: 0 0 for n = 1, else the first pair that every congruence but the identity holds
pub record FirstCommonPair (a : Algebra) (p : Pair) : Type 0 where
  pub one : a.size ≡ 1 → p ≡ (0, 0)
  pub order : 2 ≤ a.size → p.0 < p.1
  pub below : 2 ≤ a.size → p.1 < a.size
  pub common : 2 ≤ a.size → HeldByAll a p.0 p.1
  pub first : 2 ≤ a.size → (x y : ℕ) → x < y → y < a.size → HeldByAll a x y → (p.0 < x) ⊎ ((p.0 ≡ x) × (p.1 ≤ y))

-- what the list of factors is: 2 to n - 1 congruences that meet in the identity, none superfluous, each maximal for some pair, each one's quotient drawing 11 in turn
pub record FactorsRight (a : Algebra) (ms : List Map) : Type 0 where
  pub two : 2 ≤ length ms
  pub few : length ms ≤ a.size - 1
  pub congruences : (i : ℕ) → i < length ms → Congruence a (get_or ms i [])
  pub meets : meet_all a.size ms ≡ identity a.size
  pub needed : (i : ℕ) → i < length ms → ¬ (meet_all a.size (without i ms) ≡ identity a.size)
  pub maximal : (i : ℕ) → i < length ms → (x : ℕ) × (y : ℕ) × MaximalApart a (get_or ms i []) x y
  pub irreducible : (i : ℕ) → i < length ms → Answers11 (quotient a (get_or ms i []))

-- Demand 3 of an accepted algebra
pub record FactorTheorem (a : Algebra) : Type 0 where
  pub irreducible : Answers11 a ↔ Unsplit a
  pub pair : Answers11 a → FirstCommonPair a (common_pair a)
  pub otherwise : ¬ Answers11 a → (decomposed a ≡ Factors (length (listed a))) × FactorsRight a (listed a)

-- Decompose of an accepted algebra over the call, whatever is lent: 9 just where it splits and fewer than count × n bytes are lent, 11 with the common
-- pair just where it does not split, else the factors at the start of the lent bytes; (n - 1) × n bytes are always enough
pub record SpaceTheorem (a : Algebra) (lent : List ℕ) : Type 0 where
  pub nine : ((decompose_call a lent).0 ≡ Err Space) ↔ ((¬ Unsplit a) × (length lent < length (listed a) * a.size))
  pub eleven : ((decompose_call a lent).0 ≡ Ok (irreducible_answer a)) ↔ Unsplit a
  pub factors : ¬ Unsplit a → length (listed a) * a.size ≤ length lent → decompose_call a lent ≡ (Ok (Factors (length (listed a))), written (concat (listed a)) lent)
  pub most : most_factor_space a.size ≤ length lent → (decompose_call a lent).0 ≡ Ok (decomposed a)

-- Quotient by m is given, and Decompose on the tables and b that it gave answers 11, whatever it is lent
pub record QuotientAnswers11 (a : Algebra) (m : Map) : Type 0 where
  pub given : (tables : List ℕ) → quotient_space a m ≤ length tables → (quotient_call a m tables).0 ≡ Ok (blocks a.size m)
  pub answers11 : (tables : List ℕ) → quotient_space a m ≤ length tables
      → (b : ℕ) → (quotient_call a m tables).0 ≡ Ok b → (again : List ℕ)
      → (x : Element) × (y : Element) × ((decompose_call (algebra_from b a.arities (quotient_call a m tables).1) again).0 ≡ Ok (Irreducible x y))

-- Demand 3 over the calls: Decompose; for each factor, Quotient of the same algebra by the factor's map as listed, bytes i × n to i × n + n;
-- and Decompose on the tables and b that this gave, with the arities as before: it answers 11; the first two are lent at least what they want, and the
-- last anything
pub record FactorCalls (a : Algebra) (lent : List ℕ) : Type 0 where
  pub answer : (decompose_call a lent).0 ≡ Ok (decomposed a)
  pub maps : (k i : ℕ) → decomposed a ≡ Factors k → i < k → stretch a.size (decompose_call a lent).1 i ≡ get_or (listed a) i []
  pub quotients : (k i : ℕ) → (decompose_call a lent).0 ≡ Ok (Factors k) → i < k → QuotientAnswers11 a (stretch a.size (decompose_call a lent).1 i)
