-- The definitions of what the tests call, by their cases: the part that Prefer hands back, and a call that writes.
use Prim.Native.Nat.{ℕ}
use mathlib.Core.Bool.{Bool, true, false}
use mathlib.Core.List.{List}
use mathlib.Core.Path.{◌≡◌, refl, sym, ap, ◌∙◌}
use denote.Ref.{Bor}
use Rattle.equivalence.specs.Outcome.{Outcome, packed}
use Rattle.pairorder.specs.Calls.{earlier_of, Preferred}
use Rattle.pairorder.specs.Order.{not_later}
use Rattle.equivalence.specs.Refusal.{prefer_check, answered}
use Rattle.equivalence.specs.declared.Refusal.{Refusal}
use Rattle.std.specs.Prelude.{⊤, Result, Ok, Err}
use Rattle.equivalence.proofs.Refusals.{err_never}
use Rattle.equivalence.proofs.Tests.{pick}
use Rattle.probe.specs.Calls.{preferred}

-- ---- Prefer

now_pick : (b : Bool) (x y : Bor (List ℕ)) → (pick b x y).now ≡ pick b x.now y.now
now_pick true x y = refl
now_pick false x y = refl

module _ (n : ℕ) (a b : Bor (List ℕ)) where
  earlier_now : (earlier_of n a.now b.now a b).now ≡ earlier_of n a.now b.now a.now b.now
  unfolding earlier_of
  earlier_now = now_pick (not_later n a.now b.now) a b

  preferred_by : (r : Bor (List ℕ)) → Preferred n a b r → (c : Result ⊤ Refusal) → prefer_check n a.now b.now ≡ c → r.now ≡ preferred n a.now b.now
  unfolding preferred answered
  preferred_by r p (Ok x) e = rw e (ap (λ x. x.now) (p.own e) ∙ earlier_now)
  preferred_by r p (Err reason) e = rw e (p.empty (λ f. err_never (sym e ∙ f))).0

  pub preferred_now : (r : Bor (List ℕ)) → Preferred n a b r → r.now ≡ preferred n a.now b.now
  preferred_now r p = preferred_by r p (prefer_check n a.now b.now) refl

-- ---- a call that writes: the number of its answer, and the bytes that it leaves

pub call_number : {A : Type 0} (outcome : A → Outcome) (call : A × List ℕ) {r : A} {number : ℕ} {after : List ℕ} → (r, after) ≡ call
    → number ≡ packed (outcome r) → (number ≡ packed (outcome call.0)) × (after ≡ call.1)
call_number {A} outcome call e f = (f ∙ ap (λ (p : A × List ℕ). packed (outcome p.0)) e, ap (λ (p : A × List ℕ). p.1) e)
