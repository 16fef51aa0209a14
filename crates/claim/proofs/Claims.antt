-- What the calls of the claim may rely on and answer, one by one; the loop over the factors (`Calling`); and the claim, that every last call answers 11.
use Prim.Native.Nat.{ℕ, zero, suc, ◌+◌, ◌-◌, ◌*◌, ◌≤◌, ◌<◌}
use mathlib.Core.List.{List, [], ◌∷◌}
use mathlib.Core.Path.{◌≡◌, refl, sym, ap, ◌∙◌}
use native.Mathlib.Nat.{suc-mul, mul-le-mul_right}
use native.Mathlib.Numerals.{add-one}
use native.Mathlib.Omega.{arith}
use lib.ListN.{length, take, drop}
use mir.Syntax.{w64}
use mir.Val.{Fits}
use Rattle.equivalence.specs.Equivalence.{Map, blocks}
use Rattle.equivalence.specs.Lent.{stretch}
use Rattle.equivalence.proofs.BlockNumbers.{blocks_le}
use Rattle.equivalence.proofs.Writing.{written_length}
use Rattle.algebra.specs.Accepted.{Accepted}
use Rattle.algebra.specs.Algebra.{Algebra, algebra_of, cell_count}
use Rattle.algebra.proofs.Accepted.{accepted_well_formed}
use Rattle.congruence.specs.Calls.{quotient_space, quotient_call, algebra_from, decomposed, decompose_call}
use Rattle.congruence.specs.Demands.{QuotientAnswers11, FactorCalls}
use Rattle.congruence.proofs.Calls.{factor_calls_lem}
use Rattle.theory.proofs.Quotients.{quotient_cells_length}
use Rattle.congruence.proofs.Meanings.{quotient_gave, decompose_gave}
use Rattle.congruence.proofs.Reasons.{reasons}
use Rattle.quotient.specs.Quotient.{quotient_cells}
use Rattle.claim.specs.Calls.{factor_count, irreducible_count, last_call, factor_calls, tables_at, last_answer, irreducible_among, CallsMade, LentEnough, EveryLastCall11, Claim, Slice}
use Rattle.claim.specs.InnerPromises.{TablesFit}
use Rattle.equivalence.specs.declared.Refusal.{Refusal}
use Rattle.equivalence.specs.declared.Element.{Element}
use Rattle.std.specs.Prelude.{Result, Ok, Err, IsErrAnd}
use Rattle.congruence.specs.Decomposed.{Decomposed}
use Rattle.congruence.specs.Decomposed.TheVariants.{Factors, Irreducible}
use Rattle.equivalence.proofs.Refusals.{handed_on}
use Rattle.claim.specs.declared.FactorsDecomposed.{FactorsDecomposed}

-- ---- answers by cases

-- an answer that counts a factor is a list of factors
counts_factors : (d : Decomposed) (i : ℕ) → i < factor_count (Ok d) → d ≡ Factors (factor_count (Ok d))
unfolding factor_count
counts_factors (Factors k) i l = refl
counts_factors (Irreducible x y) i l = absurd (omega arith)

pub counted_few : (d : Result Decomposed Refusal) → irreducible_count d ≤ 1
unfolding irreducible_count
counted_few (Ok (Factors k)) = omega arith
counted_few (Ok (Irreducible x y)) = omega arith
counted_few (Err r) = omega arith

irreducible_counted : (d : Result Decomposed Refusal) (x y : Element) → d ≡ Ok (Irreducible x y) → irreducible_count d ≡ 1
unfolding irreducible_count
irreducible_counted d x y e = rw e

-- ---- Quotient

module _ (a : Algebra) (m : Map) (tables : List ℕ) where
  -- the lent tables keep their length
  pub quotient_length : length (quotient_call a m tables).1 ≡ length tables
  quotient_length = by_answer (quotient_call a m tables).0 refl
    where
      by_answer : (d : Result ℕ Refusal) → (quotient_call a m tables).0 ≡ d → length (quotient_call a m tables).1 ≡ length tables
      by_answer (Ok b) e =
          let g = quotient_gave a m tables (quotient_call a m tables).1 b (ap (λ (d : Result ℕ Refusal). (d, (quotient_call a m tables).1)) e) in
          rw (← g.1.1.1.1) (written_length (quotient_cells a m) tables (omega (arith, g.1.1.1.0, quotient_cells_length a m)))
      by_answer (Err r) e = ap length ((reasons.quotient a m tables).unwritten r e)

  -- where b blocks are given, the algebra is accepted, and the tables over b have room
  given_fits : {d : Result ℕ Refusal} {after : List ℕ} {b : ℕ} → (d, after) ≡ quotient_call a m tables → d ≡ Ok b → TablesFit b a.arities after
  given_fits {d} {after} {b} e h =
      let g = quotient_gave a m tables after b (rw h at (sym e)) in
      let w = accepted_well_formed a g.0 in
      let long : length after ≡ length tables = ap (λ (c : Result ℕ Refusal × List ℕ). length c.1) e ∙ quotient_length in
      record {
        most = omega (arith, w.most, blocks_le a.size m, g.1.1.0);
        operations = w.operations;
        arity = w.arity;
        room = rw (long, ← g.1.1.0) g.1.1.1.0;
      }

pub quotient_given : (n : ℕ) (arities cells : List ℕ) (m : Map) (tables : List ℕ) {d : Result ℕ Refusal} {after : List ℕ} {b : ℕ}
    → (d, after) ≡ quotient_call (algebra_of n arities cells) m tables → d ≡ Ok b → TablesFit b arities after
quotient_given n arities cells m tables = given_fits (algebra_of n arities cells) m tables

-- ---- Decompose

length_none : (xs : List ℕ) → length xs ≡ 0 → xs ≡ []
length_none [] e = refl
length_none (x ∷ xs) e = absurd (omega (arith, e))

-- the tables are the first cells, as many as were counted; a slice of no bytes holds nothing
pub front_decomposed : (b : ℕ) (arities tables lent : List ℕ) {count : ℕ} {r : Result Decomposed Refusal} {after : List ℕ} → length lent ≡ 0 → count ≡ cell_count b arities
    → (r, after) ≡ decompose_call (algebra_of b arities (take count tables)) lent → r ≡ (decompose_call (algebra_from b arities tables) []).0
front_decomposed b arities tables lent {count} none same f =
    ap (λ (c : Result Decomposed Refusal × List ℕ). c.0)
    (f ∙ ap (λ (k : ℕ). decompose_call (algebra_of b arities (take k tables)) lent) same ∙ ap (decompose_call (algebra_from b arities tables)) (length_none lent none))

-- the factors that are counted stand in the lent list
factors_fit : (a : Algebra) (lent : List ℕ) → factor_count (decompose_call a lent).0 * a.size ≤ length lent
unfolding factor_count
factors_fit a lent = by_answer (decompose_call a lent).0 refl
  where
    by_answer : (d : Result Decomposed Refusal) → (decompose_call a lent).0 ≡ d → factor_count d * a.size ≤ length lent
    by_answer (Ok (Factors k)) e = (decompose_gave a lent (decompose_call a lent).1 k (ap (λ (d : Result Decomposed Refusal). (d, (decompose_call a lent).1)) e)).1.1.1.0
    by_answer (Ok (Irreducible x y)) e = omega arith
    by_answer (Err r) e = omega arith

-- ---- the calls for one factor

module _ (a : Algebra) (m tables : List ℕ) {d : Result ℕ Refusal} {tables' : List ℕ} (e : (d, tables') ≡ quotient_call a m tables) where
  -- Quotient gives b blocks
  pub calls_given : {b : ℕ} {r : Result Decomposed Refusal} → d ≡ Ok b → r ≡ (decompose_call (algebra_from b a.arities tables') []).0 → (r, tables') ≡ factor_calls a m tables
  unfolding factor_calls last_call
  calls_given f g = rw (← e, f, ← g)

  -- Quotient declines
  pub calls_declined : {r : Refusal} → d ≡ Err r → {given : Result Decomposed Refusal} → IsErrAnd given (λ e. e ≡ r) → (given, tables') ≡ factor_calls a m tables
  unfolding factor_calls last_call
  calls_declined f h = rw (← e, f, handed_on h)

module _ (a : Algebra) (m tables : List ℕ) where
  -- Quotient is given, and its quotient answers 11: the last answer is 11, and the tables keep their length
  factor_answers : QuotientAnswers11 a m → quotient_space a m ≤ length tables
      → ((x : Element) × (y : Element) × ((factor_calls a m tables).0 ≡ Ok (Irreducible x y))) × (length (factor_calls a m tables).1 ≡ length tables)
  factor_answers q room =
      let b : ℕ = blocks a.size m in
      let given : (quotient_call a m tables).0 ≡ Ok b = q.given tables room in
      let calls = calls_given a m tables refl given refl in
      let d = q.answers11 tables room b given [] in
      rw (← calls) ((d.0, d.1, d.2), quotient_length a m tables)

-- ---- the loop over the factors

-- the calls for the factors below number i were made
pub record Calling (a : Algebra) (list : List ℕ) (count : ℕ) (before : List ℕ) (i counted : ℕ) (after : List ℕ) : Type 0 where
  pub room : count * a.size ≤ length list
  pub few : counted ≤ i
  pub answers : counted ≡ irreducible_among a list before i
  pub lent : after ≡ tables_at a list before i
  pub long : length after ≡ length before

pub calling_start : (a : Algebra) (list : List ℕ) (count : ℕ) (before : List ℕ) → count * a.size ≤ length list
    → Calling a list count before 0 0 before
unfolding irreducible_among tables_at
calling_start a list count before room =
    record { room = room; few = omega arith; answers = refl; lent = refl; long = refl }

module _ {a : Algebra} {list : List ℕ} {count : ℕ} {before : List ℕ} {i counted : ℕ} {after : List ℕ}
    (p : Calling a list count before i counted after) where
  -- the next factor's map stands in the list
  pub calling_part : i < count → i * a.size + a.size ≤ length list
  calling_part l = omega (arith, p.room, suc-mul i a.size, mul-le-mul_right a.size l)

  -- what is counted is at most the number of factors
  pub calling_fits : i < count → (r : Result Decomposed Refusal) {one : ℕ} → one ≡ irreducible_count r → Fits w64 count → Fits w64 (counted + one)
  calling_fits l r e h = omega (arith, p.few, counted_few r)

  -- the calls for all of them were made
  pub calling_all : i ≡ count → (counted ≡ irreducible_among a list before count) × (after ≡ tables_at a list before count)
  calling_all e = rw (← e) (p.answers, p.lent)

  -- the calls for the next one
  module _ (l : i < count) {r : Result Decomposed Refusal} {new : List ℕ} (e : (r, new) ≡ factor_calls a (take (i * a.size + a.size - i * a.size) (drop (i * a.size) list)) after) where
    next_calls : (r, new) ≡ factor_calls a (stretch a.size list i) (tables_at a list before i)
    unfolding stretch
    next_calls =
        let wide : i * a.size + a.size - i * a.size ≡ a.size = omega arith in
        e ∙ ap (λ (w : ℕ). factor_calls a (take w (drop (i * a.size) list)) after) wide
        ∙ ap (factor_calls a (stretch a.size list i)) p.lent

    next_answer : r ≡ last_answer a list before i
    unfolding last_answer
    next_answer = ap (λ (c : Result Decomposed Refusal × List ℕ). c.0) next_calls

    next_lent : new ≡ tables_at a list before (suc i)
    unfolding tables_at
    next_lent = ap (λ (c : Result Decomposed Refusal × List ℕ). c.1) next_calls

    pub calling_more : {one : ℕ} → length new ≡ length after → one ≡ irreducible_count r
        → Calling a list count before (i + 1) (counted + one) new
    unfolding irreducible_among
    calling_more {one} t g =
        let more : counted + one ≡ irreducible_among a list before (suc i) =
        ap (λ (k : ℕ). counted + k) (g ∙ ap irreducible_count next_answer)
        ∙ ap (λ (d : ℕ). d + irreducible_count (last_answer a list before i)) p.answers in
        record {
          room = p.room;
          few = omega (arith, p.few, counted_few r, g);
          answers = rw add-one more;
          lent = rw add-one next_lent;
          long = t ∙ p.long;
        }

-- ---- all calls

-- the factors that are counted stand in the list
pub counted_fit : (n : ℕ) (arities cells list : List ℕ) {first : Result Decomposed Refusal} {list' : List ℕ} {count : ℕ}
    → (first, list') ≡ decompose_call (algebra_of n arities cells) list → count ≡ factor_count first → length list' ≡ length list → count * n ≤ length list'
counted_fit n arities cells list e f long =
    rw (f, long, ap (λ (c : Result Decomposed Refusal × List ℕ). c.0) e) (factors_fit (algebra_of n arities cells) list)

-- ---- the claim

module _ (a : Algebra) (list tables : List ℕ) (accepted : Accepted a) (enough : LentEnough a list tables) where
  abbrev after : List ℕ
  after = (decompose_call a list).1

  calls : FactorCalls a list
  calls = factor_calls_lem a accepted list enough.list

  factor_quotient : (i : ℕ) → i < factor_count (Ok (decomposed a)) → QuotientAnswers11 a (stretch a.size after i)
  factor_quotient i l = calls.quotients (factor_count (Ok (decomposed a))) i (calls.answer ∙ ap Ok (counts_factors (decomposed a) i l)) l

  -- before the calls for factor i the tables have their length
  abbrev Kept : ℕ → Type 0
  Kept i = length (tables_at a after tables i) ≡ length tables

  last_answers : (i : ℕ) → i < factor_count (Ok (decomposed a)) → Kept i → ((x : Element) × (y : Element) × (last_answer a after tables i ≡ Ok (Irreducible x y))) × Kept (suc i)
  unfolding tables_at last_answer
  last_answers i l k =
      let d = factor_answers a (stretch a.size after i) (tables_at a after tables i) (factor_quotient i l) (omega (arith, k, enough.tables i l)) in
      (d.0, d.1 ∙ k)

  kept : (i : ℕ) → i ≤ factor_count (Ok (decomposed a)) → Kept i
  unfolding tables_at
  kept zero l = refl
  kept (suc i) l = (last_answers i (omega arith) (kept i (omega arith))).1

  all_irreducible : (i : ℕ) → i ≤ factor_count (Ok (decomposed a)) → irreducible_among a after tables i ≡ i
  unfolding irreducible_among
  all_irreducible zero l = refl
  all_irreducible (suc i) l =
      let d = (last_answers i (omega arith) (kept i (omega arith))).0 in
      omega (arith, all_irreducible i (omega arith), irreducible_counted (last_answer a after tables i) d.0 d.1 d.2)

  -- demand 3: every last call answers 11
  every_last_call_11 : {r : FactorsDecomposed} {list' : List ℕ} → (r.first, list') ≡ decompose_call a list
      → r.irreducible ≡ irreducible_among a list' tables (factor_count r.first) → EveryLastCall11 a list tables r
  every_last_call_11 {r} {list'} e counted =
      let first : r.first ≡ Ok (decomposed a) = ap (λ (c : Result Decomposed Refusal × List ℕ). c.0) e ∙ calls.answer in
      let written : list' ≡ after = ap (λ (c : Result Decomposed Refusal × List ℕ). c.1) e in
      let few : factor_count r.first ≡ factor_count (Ok (decomposed a)) = ap factor_count first in
      record {
        first = first;
        each = λ i l. (last_answers i (omega (arith, few)) (kept i (omega (arith, few)))).0;
        all = counted ∙ ap (λ (l : List ℕ). irreducible_among a l tables (factor_count r.first)) written
            ∙ all_irreducible (factor_count r.first) (omega (arith, few));
      }

-- ---- all calls: they were made, and the claim holds of them

module _ (a : Algebra) (list tables : Slice) {first : Result Decomposed Refusal} {count counted : ℕ}
    (e : (first, list.exit.now) ≡ decompose_call a list.entry.now) (f : count ≡ factor_count first)
    (g : counted ≡ irreducible_among a list.exit.now tables.entry.now count)
    (h : tables.exit.now ≡ tables_at a list.exit.now tables.entry.now count) where
  pub calls_made : CallsMade a list tables (record { first = first; irreducible = counted })
  calls_made = record { first = e; counted = rw (← f) g; rest = rw (← f) h }

  pub claimed : Claim a list tables (record { first = first; irreducible = counted })
  claimed accepted enough = every_last_call_11 a list.entry.now tables.entry.now accepted enough calls_made.first calls_made.counted
