-- Demands 2 and 3, proved of the definitions that the contracts cite.
use Prim.Native.Nat.{ℕ, ◌≤◌, ◌<◌}
use mathlib.Core.List.{List, [], map}
use mathlib.Core.Logic.{inl, inr, ◌≢◌}
use mathlib.Core.Path.{◌≡◌, refl, ap, ◌∙◌}
use native.Mathlib.Omega.{arith}
use lib.Dec.{T, T_not}
use lib.ListN.{length, get_or, length-map}
use Rattle.equivalence.specs.Equivalence.{Map, is_map, is_identity, meet, join, blocks, block_of}
use Rattle.equivalence.proofs.BlockNumbers.{smallest, smallest_below, block_smallest}
use Rattle.equivalence.specs.Lists.{every, without}
use Rattle.pairorder.specs.Order.{Pair}
use Rattle.equivalence.proofs.Joins.{join_law}
use Rattle.equivalence.proofs.Lists.{member_at, map_at}
use Rattle.equivalence.proofs.Maps.{holds_of, of_holds, is_map_of, of_is_map, inside_of, of_inside}
use Rattle.equivalence.proofs.Meets.{meet_map, of_meet, meet_greatest, meets_of, of_meets}
use Rattle.equivalence.proofs.Tests.{T?}
use Rattle.algebra.specs.Accepted.{Accepted}
use Rattle.algebra.specs.Algebra.{Algebra, Operation, operations, value}
use Rattle.quotient.specs.Quotient.{quotient}
use Rattle.algebra.specs.Congruence.{Congruence}
use Rattle.algebra.proofs.Accepted.{WellFormed, accepted_well_formed}
use Rattle.algebra.proofs.Arguments.{of_arguments}
use Rattle.algebra.proofs.Congruences.{congruence_is, congruence_of}
use Rattle.congruence.specs.Calls.{element}
use Rattle.theory.specs.Certify.{certified}
use Rattle.theory.specs.Decompose.{listed, reducible, common_pair}
use Rattle.theory.specs.Splitting.{Unsplit}
use Rattle.congruence.specs.Demands.{LeastCongruence, GreatestCongruence, MeetRight, JoinRight, operation_no, QuotientAtMembers, MaximalApart}
use Rattle.congruence.specs.Demands.{EarliestCongruence, HeldByAll, FirstCommonPair, FactorsRight, FactorTheorem}
use Rattle.theory.specs.Extremal.{generated, contained, separated}
use Rattle.theory.proofs.Certificates.{listed_certified}
use Rattle.theory.proofs.CommonPair.{Common, FirstCommon, common_pair_law, common_pair_one}
use Rattle.theory.proofs.Factors.{listed_law, two_at_least, unsplit}
use Rattle.congruence.proofs.Decomposing.{decomposed_yes, irreducible_of, of_irreducible, quotient_irreducible}
use Rattle.theory.proofs.GreatestCongruence.{contained_law}
use Rattle.theory.proofs.Above.{Below, generated_law}
use Rattle.theory.proofs.Quotients.{on_blocks, operations_quotient, block_value}
use Rattle.theory.proofs.Separation.{MaximalFor, separated_earliest, separated_law}

-- ---- demand 2

-- Meet is the greatest lower bound
pub meet_right : (n : ℕ) (a b : Map) → MeetRight n a b (meet n a b)
meet_right n a b =
    record {
      map = is_map_of n (meet n a b) (meet_map n a b);
      left = inside_of n (meet n a b) a (λ x y l k e. (of_meet n a b x y l k e).0);
      right = inside_of n (meet n a b) b (λ x y l k e. (of_meet n a b x y l k e).1);
      greatest = λ c p q. inside_of n c (meet n a b) (meet_greatest n a b c (of_inside n c a p) (of_inside n c b q));
    }

-- Join is the least upper bound
pub join_right : (n : ℕ) (a b : Map) → JoinRight n a b (join n a b)
join_right n a b =
    let j = join_law n a b in
    record {
      map = is_map_of n (join n a b) j.map;
      left = inside_of n a (join n a b) j.left;
      right = inside_of n b (join n a b) j.right;
      least = λ c m p q. inside_of n (join n a b) c (j.least c (of_is_map n c m) (of_inside n a c p) (of_inside n b c q));
    }

module _ (a : Algebra) (accepted : Accepted a) where
  -- Generate: it holds the given pairs and lies inside every congruence that holds them
  pub generated_least : (ps : List ℕ) → Below a.size ps → LeastCongruence a ps (generated a ps)
  generated_least ps b =
      let g = generated_law a (accepted_well_formed a accepted) ps b in
      record {
        congruence = congruence_of a (generated a ps) g.cong;
        pairs = g.all;
        least = λ c p h. inside_of a.size (generated a ps) c (g.least c (congruence_is a c p) h);
      }

  -- Contained: it lies inside the given equivalence and contains every congruence that does
  pub contained_greatest : (e : Map) → T (is_map a.size e) → GreatestCongruence a e (contained a e)
  contained_greatest e p =
      let g = contained_law a (accepted_well_formed a accepted) e (of_is_map a.size e p) in
      record {
        congruence = congruence_of a (contained a e) g.cong;
        within = inside_of a.size (contained a e) e g.inside;
        greatest = λ c q h. inside_of a.size c (contained a e) (g.greatest c (congruence_is a c q) (of_inside a.size c e h));
      }

  -- Quotient: which members of the blocks are taken does not matter
  pub quotient_at_members : (m : Map) → Congruence a m → QuotientAtMembers a m (quotient a m)
  unfolding quotient on_blocks
  quotient_at_members m p =
      let w = accepted_well_formed a accepted in
      let q = congruence_is a m p in
      let count : length (operations (quotient a m)) ≡ length (operations a) = ap length (operations_quotient a m) ∙ length-map (operations a) (on_blocks a.size m) in
      let each : (i : ℕ) → i < length (operations a) → operation_no (quotient a m) i ≡ on_blocks a.size m (operation_no a i) =
      λ i l. ap (λ (fs : List Operation). get_or fs i (record { arity = 0; table = [] })) (operations_quotient a m)
      ∙ map_at (on_blocks a.size m) (operations a) i (record { arity = 0; table = [] }) (record { arity = 0; table = [] }) l in
      record {
        size = refl;
        block = λ b l. let s = smallest_below a.size m q.map b l in (smallest a.size m b, s.0, block_smallest a.size m q.map b l);
        count = count;
        arity = λ i l. ap (λ (f : Operation). f.arity) (each i l);
        cell = λ i l xs j. ap (λ (f : Operation). value (blocks a.size m) f (map (block_of m) xs)) (each i l)
            ∙ block_value a w m q (operation_no a i) (member_at (operations a) i (record { arity = 0; table = [] }) l) xs (of_arguments a.size (operation_no a i).arity xs j);
      }

  -- ---- demand 3

  well : WellFormed a
  well = accepted_well_formed a accepted

  maximal_apart : (m : Map) (x y : ℕ) → x < a.size → y < a.size → MaximalFor a m x y → MaximalApart a m x y
  maximal_apart m x y l k p =
      record {
        left = l;
        right = k;
        apart = λ t. p.apart (of_holds m x y t);
        joined = λ c q h n. holds_of c x y (p.joined c (congruence_is a c q) (of_inside a.size m c h) n);
      }

  -- Separate: the earliest congruence that holds v and w apart
  pub separated_right : (v w : ℕ) → v < a.size → w < a.size → v ≢ w → EarliestCongruence a v w (separated a v w)
  separated_right v w l k d =
      let s = separated_earliest a well v w l k d in
      record {
        congruence = congruence_of a (separated a v w) s.cong;
        maximal = maximal_apart (separated a v w) v w l k (separated_law a well v w l k d);
        earliest = λ c p h. s.earliest c (congruence_is a c p) (λ e. h (holds_of c v w e));
      }

  -- the list is right where the algebra is reducible
  pub listed_right : T (reducible a) → FactorsRight a (listed a)
  unfolding reducible
  listed_right t =
      let f = listed_law a well in
      let each : (i : ℕ) → i < length (listed a) → (x : ℕ) × (y : ℕ) × (x < a.size) × (y < a.size) × MaximalFor a (get_or (listed a) i []) x y =
      λ i l. f.maximal (get_or (listed a) i []) (member_at (listed a) i [] l) in
      record {
        two = two_at_least a.size (listed a) f.meets (T_not (every (is_identity a.size) (listed a)) t);
        few = omega (arith, f.few);
        congruences = λ i l. congruence_of a (get_or (listed a) i []) (each i l).4.cong;
        meets = meets_of a.size (listed a) f.meets;
        needed = λ i l e. f.needed i l (of_meets a.size (without i (listed a)) e);
        maximal = λ i l. let p = each i l in (p.0, p.1, maximal_apart (get_or (listed a) i []) p.0 p.1 p.2 p.3 p.4);
        irreducible = λ i l. let p = each i l in quotient_irreducible a well (get_or (listed a) i []) p.4.cong p.0 p.1 p.2 p.3 p.4;
      }

  -- two ways to say that every congruence but the identity holds a pair
  common_of : (x y : ℕ) → Common a x y → HeldByAll a x y
  common_of x y h c p n = holds_of c x y (h c (congruence_is a c p) n)

  of_common : (x y : ℕ) → HeldByAll a x y → Common a x y
  of_common x y h c p n = of_holds c x y (h c (congruence_of a c p) n)

  -- the pair that 11 carries
  pub pair_right : Unsplit a → FirstCommonPair a (common_pair a)
  pair_right none =
      let p : 2 ≤ a.size → FirstCommon a (common_pair a) = λ two. common_pair_law a well two none in
      record {
        one = common_pair_one a well;
        order = λ two. (p two).order;
        below = λ two. (p two).below;
        common = λ two. common_of (common_pair a).0 (common_pair a).1 (p two).shared;
        first = λ two x y l k h. elim ((p two).first x y l k (of_common x y h)) [
          | inl e ↦ inr (ap (λ (q : Pair). q.0) e, omega (arith, ap (λ (q : Pair). q.1) e))
          | inr s ↦ elim s [ inl o ↦ inl o | inr o ↦ inr (o.0, omega (arith, o.1)) ]
        ];
      }

  -- demand 3: 11 if and only if nothing splits the algebra, with the right pair; otherwise the count and the list are right
  pub factor_theorem : FactorTheorem a
  factor_theorem =
      record {
        irreducible = (of_irreducible a well (element (common_pair a).0) (element (common_pair a).1), irreducible_of a well);
        pair = λ e. pair_right (of_irreducible a well (element (common_pair a).0) (element (common_pair a).1) e);
        otherwise = λ n. elim (T? (reducible a)) [
          | yes t ↦ (decomposed_yes a t, listed_right t)
          | no t ↦ absurd (n (irreducible_of a well (unsplit a well t)))
        ];
      }

  -- whatever Decompose lists gets yes from Certify
  pub listed_certified_yes : T (certified a (listed a))
  listed_certified_yes = listed_certified a well
