-- Laws of tests: what a test that holds says, and a choice by a test.
use Prim.Native.Nat.{ℕ}
use mathlib.Core.Bool.{Bool, true, false, not, ◌&&◌, ◌||◌}
use mathlib.Core.Logic.{◌⊎◌, inl, inr}
use mathlib.Core.Path.{◌≡◌, refl, sym, subst}
use lib.Dec.{T, eqb, eqb_refl}

pub T? : (b : Bool) → Dec (T b)
T? true = yes tt
T? false = no (λ h. h)

pub both : (a b : Bool) → T a → T b → T (a && b)
both true b s t = t
both false b s t = s

pub left : (a b : Bool) → T (a && b) → T a
left true b t = tt
left false b t = t

pub right : (a b : Bool) → T (a && b) → T b
right true b t = t
right false b t = absurd t

pub implies : (a b : Bool) → (T a → T b) → T (not a || b)
implies true b f = f tt
implies false b f = tt

pub implied : (a b : Bool) → T (not a || b) → T a → T b
implied true b t s = t
implied false b t s = absurd s

pub or_left : (a b : Bool) → T a → T (a || b)
or_left true b t = tt
or_left false b t = absurd t

pub or_right : (a b : Bool) → T b → T (a || b)
or_right true b t = tt
or_right false b t = t

pub or_cases : (a b : Bool) → T (a || b) → T a ⊎ T b
or_cases true b t = inl tt
or_cases false b t = inr t

pub eq→eqb : (m n : ℕ) → m ≡ n → T (eqb m n)
eq→eqb m n e = subst (λ (k : ℕ). T (eqb m k)) e (eqb_refl m)

module _ {ℓ} {A : Type ℓ} where
  -- `elim b [ true ↦ x | false ↦ y ]`, where the test is decided
  abbrev pub pick : Bool → A → A → A
  pick b x y = elim b [ true ↦ x | false ↦ y ]

  pub pick_yes : (b : Bool) (x y : A) → T b → pick b x y ≡ x
  pick_yes true x y t = refl
  pick_yes false x y t = absurd t

  pub pick_no : (b : Bool) (x y : A) → ¬ T b → pick b x y ≡ y
  pick_no true x y t = absurd (t tt)
  pick_no false x y t = refl

-- a flag that a function answers: what it says, and what it must be
pub T_of : {b : Bool} → b ≡ true → T b
T_of e = subst T (sym e) tt

pub not_T_of : {b : Bool} → b ≡ false → ¬ T b
not_T_of e t = subst T e t

pub true_is : (b : Bool) → T b → true ≡ b
true_is true t = refl
true_is false t = absurd t

pub false_is : (b : Bool) → ¬ T b → false ≡ b
false_is true t = absurd (t tt)
false_is false t = refl

pub and_true : {a b : Bool} → a ≡ true → b ≡ (a && b)
and_true {a} {b} e = rw e refl

-- flags that hold together are one
pub same_flags : (a b : Bool) → (T a → T b) → (T b → T a) → a ≡ b
same_flags true b f g = true_is b (f tt)
same_flags false b f g = false_is b (λ t. g t)
