-- Certify's fourth condition as it is found out: by the number of blocks, or by gathering on the quotient's tables.
use Prim.Native.Nat.{ℕ, ◌≤◌, ◌<◌}
use mathlib.Core.Bool.{Bool, true, false, not}
use mathlib.Core.List.{List}
use mathlib.Core.Path.{◌≡◌, sym, ap, subst, ◌∙◌}
use native.Mathlib.Omega.{arith}
use lib.Dec.{T, not_T, T_not}
use lib.ListN.{length, get_or, take, drop}
use lib.Seq.{take_at}
use Rattle.equivalence.specs.Equivalence.{Map, byte, is_map, blocks}
use Rattle.equivalence.specs.Lists.{any}
use Rattle.equivalence.specs.Lent.{written}
use Rattle.pairorder.specs.Order.{pairs}
use Rattle.kernel.specs.InnerKernel.{names}
use Rattle.equivalence.proofs.Bytes.{names_blocks}
use Rattle.equivalence.proofs.BlockNumbers.{blocks_le}
use Rattle.equivalence.proofs.Maps.{of_is_map}
use Rattle.equivalence.proofs.Tests.{true_is, false_is}
use Rattle.algebra.specs.Algebra.{Algebra, algebra_of, cell_count}
use Rattle.algebra.specs.Accepted.{Accepted}
use Rattle.algebra.specs.Congruence.{Congruence}
use Rattle.algebra.proofs.Accepted.{WellFormed, accepted_well_formed, well_formed_accepted}
use Rattle.algebra.proofs.Congruences.{IsCongruence, congruence_is}
use Rattle.quotient.specs.Quotient.{quotient_cells, quotient}
use Rattle.theory.specs.Certify.{is_maximal_for}
use Rattle.theory.specs.Decompose.{reducible, most_factor_space}
use Rattle.theory.proofs.Factors.{most_factor_space_most}
use Rattle.theory.proofs.Irreducible.{maximal_blocks, two_maximal, maximal_test}
use Rattle.theory.proofs.Quotients.{quotient_cells_length, quotient_well_formed}
use Rattle.gathering.specs.InnerGathering.{GatheredRight}
use Rattle.gathering.specs.declared.gather.Collected.{Collected}
use Rattle.gathering.specs.declared.gather.Collected.TheVariants.{All, Joined}
use Rattle.equivalence.specs.declared.Element.{Element}

-- ---- the quotient in working storage

pub map_long : (n : ℕ) (m : Map) → T (is_map n m) → n ≤ length m
map_long n m t = omega (arith, (of_is_map n m t).long)

module _ {n : ℕ} {arities cells : List ℕ} (accepted : Accepted (algebra_of n arities cells)) {m : Map} (p : Congruence (algebra_of n arities cells) m) where
  abbrev a : Algebra
  a = algebra_of n arities cells

  w : WellFormed a
  w = accepted_well_formed a accepted

  q : IsCongruence a m
  q = congruence_is a m p

  quotient_well : WellFormed (quotient a m)
  quotient_well = quotient_well_formed a w m q

  -- 64 elements at most, and storage for these is enough
  few : blocks n m ≤ 64
  few = omega (arith, w.most, blocks_le n m)

  pub quotient_room : cell_count (blocks n m) arities ≤ 32768
  unfolding quotient
  quotient_room = quotient_well.room

  -- its tables stand first among those lent
  module _ {b : ℕ} (is : b ≡ blocks n m) (tables : List ℕ) {tables' : List ℕ} (new : tables' ≡ written (quotient_cells a m) tables) {count : ℕ} (long : count ≡ cell_count b arities) where
    same : length (quotient_cells a m) ≡ count
    same = quotient_cells_length a m ∙ sym (long ∙ ap (λ (z : ℕ). cell_count z arities) is)

    divided : algebra_of b arities (take count tables') ≡ quotient a m
    unfolding quotient written
    divided =
        let front : take count tables' ≡ quotient_cells a m = ap (take count) new ∙ take_at (quotient_cells a m) (drop (length (quotient_cells a m)) tables) count same in
        rw (is, front)

    pub divided_counted : (b ≤ 64) × (length arities ≤ 16) × ((i : ℕ) → i < length arities → get_or arities i 0 ≤ 3)
    divided_counted = (omega (arith, few), w.operations, w.arity)

    pub divided_fits : count ≤ 32768
    divided_fits = rw (long, is) quotient_room

    -- it is gathered on
    pub divided_accepted : Accepted (algebra_of b arities (take count tables'))
    divided_accepted = subst (λ (z : Algebra). Accepted z) (sym divided) (well_formed_accepted (quotient a m) quotient_well)

    pub divided_meet : b ≤ 64
    divided_meet = omega (arith, few)

    pub divided_gathered : most_factor_space b ≤ 4032
    divided_gathered = most_factor_space_most b divided_meet

    right : (r : Collected) (lent after : List ℕ) → GatheredRight (algebra_of b arities (take count tables')) r lent after → GatheredRight (quotient a m) r lent after
    right r lent after g = subst (λ (z : Algebra). GatheredRight z r lent after) divided g

    -- that ends in a pair, or in all that Decompose gathers
    module _ {r : Collected} (lent after : List ℕ) (g : GatheredRight (algebra_of b arities (take count tables')) r lent after) where
      pub divided_joined : {x y : Element} → r ≡ Joined x y → true ≡ not (reducible (quotient a m))
      divided_joined e = true_is _ (not_T (reducible (quotient a m)) (subst (λ (z : Collected). GatheredRight (quotient a m) z lent after) e (right r lent after g)).0)

      pub divided_all : {k : ℕ} → r ≡ All k → false ≡ not (reducible (quotient a m))
      divided_all e = false_is _ (λ t. T_not (reducible (quotient a m)) t (subst (λ (z : Collected). GatheredRight (quotient a m) z lent after) e (right r lent after g)).0)

  -- ---- the number of blocks decides, or the quotient

  module _ {b : ℕ} (is : b ≡ names n (byte m)) where
    pub one_block : b < 2 → false ≡ any (is_maximal_for a m) (pairs n)
    one_block few = false_is _ (λ t. omega (arith, maximal_blocks a w m q t, names_blocks n m))

    pub two_blocks : 2 ≤ b → b < 3 → true ≡ any (is_maximal_for a m) (pairs n)
    two_blocks some few = true_is _ (two_maximal a w m q (omega (arith, names_blocks n m)))

    pub quotient_decides : 3 ≤ b → {r : Bool} → r ≡ not (reducible (quotient a m)) → r ≡ any (is_maximal_for a m) (pairs n)
    quotient_decides some e = e ∙ maximal_test a w m q (omega (arith, names_blocks n m))

pub more_blocks : (n : ℕ) (m : Map) {b : ℕ} → b ≡ names n (byte m) → 3 ≤ b → 2 ≤ blocks n m
more_blocks n m is some = omega (arith, names_blocks n m)
