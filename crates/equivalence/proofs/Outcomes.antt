-- An answer is known by its outcome: success, refusal and 11 differ, and `written_outcome` is injective.
use Prim.Native.Nat.{ℕ}
use mathlib.Core.Bool.{not, ◌&&◌}
use mathlib.Core.Path.{◌≡◌, refl, sym, ap}
use lib.Dec.{T, eqb}
use Rattle.equivalence.specs.Outcome.{Outcome, success, refusal, written_outcome, Injective}
use Rattle.equivalence.specs.Refusal.{number_of}
use Rattle.equivalence.proofs.Ranks.{number_of_injective}
use Rattle.equivalence.proofs.Tests.{left, right}
use Rattle.equivalence.specs.declared.Refusal.{Refusal}
use Rattle.equivalence.specs.declared.Refusal.TheVariants.{Size, Operations, Arity, Cells, Length, Cell, Range, NotMap, Space, Equal, NotCongruence, Tally, Text, UnknownName, PointsFull}
use Rattle.std.specs.Prelude.{Ok, Err}

-- ---- success, refusal and 11 differ

number_apart : (r : Refusal) → T (not (eqb (number_of r) 0) && not (eqb (number_of r) 11))
unfolding number_of
number_apart Size = tt
number_apart Operations = tt
number_apart Arity = tt
number_apart Cells = tt
number_apart Length = tt
number_apart Cell = tt
number_apart Range = tt
number_apart NotMap = tt
number_apart Space = tt
number_apart Equal = tt
number_apart NotCongruence = tt
number_apart Tally = tt
number_apart Text = tt
number_apart UnknownName = tt
number_apart PointsFull = tt

module _ (r : Refusal) where
  number_some : ¬ (number_of r ≡ 0)
  number_some e = absurd (rw e at (left (not (eqb (number_of r) 0)) (not (eqb (number_of r) 11)) (number_apart r)))

  pub number_not_11 : ¬ (number_of r ≡ 11)
  number_not_11 e = absurd (rw e at (right (not (eqb (number_of r) 0)) (not (eqb (number_of r) 11)) (number_apart r)))

pub refusal_injective : Injective refusal
unfolding refusal
refusal_injective r s e = number_of_injective r s (ap (λ (o : Outcome). o.reason) e)

pub success_apart : (k : ℕ) (r : Refusal) → ¬ (success k ≡ refusal r)
unfolding success refusal
success_apart k r e = number_some r (sym (ap (λ (o : Outcome). o.reason) e))

pub success_injective : Injective success
unfolding success
success_injective j k e = ap (λ (o : Outcome). o.count) e

-- ---- the answer of a call that only writes

pub written_outcome_injective : Injective written_outcome
unfolding written_outcome
written_outcome_injective (Ok x) (Ok y) e = refl
written_outcome_injective (Ok x) (Err r) e = absurd (success_apart 0 r e)
written_outcome_injective (Err r) (Ok x) e = absurd (success_apart 0 r (sym e))
written_outcome_injective (Err r) (Err s) e = ap Err (refusal_injective r s e)
