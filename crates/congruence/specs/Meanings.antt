-- Demand 2 over the calls: what an answer that is no refusal, and the lent bytes after it, mean. And Certify over Decompose's list.
use Rattle.std.specs.Prelude.{ℕ, ◌+◌, ◌*◌, List, ◌≡◌, take, drop, true, Ok}
use Rattle.lattice.specs.Calls.{meet_call, join_call}
use Rattle.equivalence.specs.Equivalence.{Map, blocks}
use Rattle.algebra.specs.Algebra.{Algebra, cell_count}
use Rattle.algebra.specs.Congruence.{Congruence}
use Rattle.congruence.specs.Calls.{generate_call, contained_call, separate_call, quotient_call, algebra_from, decompose_call, certify_call}
use Rattle.congruence.specs.Demands.{LeastCongruence, GreatestCongruence, EarliestCongruence, MeetRight, JoinRight, QuotientAtMembers}
use Rattle.decomposition.specs.declared.Decomposed.TheVariants.{Factors}

-- every lent byte past the first k keeps its value
abbrev pub KeptPast : ℕ → List ℕ → List ℕ → Type 0
KeptPast k lent out = drop k out ≡ drop k lent

-- the first n bytes are a map of which P holds, and every byte past them keeps its value
pub record WroteMap (n : ℕ) (P : Map → Type 0) (lent out : List ℕ) : Type 0 where
  pub means : P (take n out)
  pub kept : KeptPast n lent out

-- the quotient that b and the tables in the lent bytes make, with the arities as before
abbrev pub quotient_in : Algebra → ℕ → List ℕ → Algebra
quotient_in a b out = algebra_from b a.arities out

-- what Quotient gave: the map is a congruence, and b and the tables are the quotient by it
pub record WroteQuotient (a : Algebra) (m : Map) (b : ℕ) (lent out : List ℕ) : Type 0 where
  pub congruence : Congruence a m
  pub means : QuotientAtMembers a m (quotient_in a b out)
  pub kept : KeptPast (cell_count b a.arities) lent out

-- Demand 2 over the calls, whatever they are handed
pub record Meanings : Type 0 where
  pub generate : (a : Algebra) (ps lent out : List ℕ) (k : ℕ) → generate_call a ps lent ≡ (Ok k, out) → WroteMap a.size (LeastCongruence a ps) lent out
  pub merges : (a : Algebra) (ps lent out : List ℕ) (k : ℕ) → generate_call a ps lent ≡ (Ok k, out) → k + blocks a.size (take a.size out) ≡ a.size
  pub contained : (a : Algebra) (e : Map) (lent out : List ℕ) → contained_call a e lent ≡ (Ok tt, out) → WroteMap a.size (GreatestCongruence a e) lent out
  pub separate : (a : Algebra) (v w : ℕ) (lent out : List ℕ) → separate_call a v w lent ≡ (Ok tt, out) → WroteMap a.size (EarliestCongruence a v w) lent out
  pub meet : (n : ℕ) (a b : Map) (lent out : List ℕ) → meet_call n a b lent ≡ (Ok tt, out) → WroteMap n (MeetRight n a b) lent out
  pub join : (n : ℕ) (a b : Map) (lent out : List ℕ) → join_call n a b lent ≡ (Ok tt, out) → WroteMap n (JoinRight n a b) lent out
  pub quotient : (a : Algebra) (m : Map) (lent out : List ℕ) (b : ℕ) → quotient_call a m lent ≡ (Ok b, out) → WroteQuotient a m b lent out
  -- whatever Decompose lists gets yes from Certify
  pub certify : (a : Algebra) (lent out : List ℕ) (k : ℕ) → decompose_call a lent ≡ (Ok (Factors k), out) → certify_call a (take (k * a.size) out) ≡ Ok true
