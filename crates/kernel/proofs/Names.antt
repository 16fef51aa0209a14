-- The number of names, which is the number of blocks of a canonical function: at most n, n for the identity alone, one where
-- every name is 0, more where more elements are names.
use Prim.Native.Nat.{ℕ, zero, suc, ◌≤◌, ◌<◌}
use mathlib.Core.Bool.{Bool, true, false}
use mathlib.Core.Path.{◌≡◌, refl, sym, ap}
use native.Mathlib.Decide.{ℕ_discrete}
use native.Mathlib.Omega.{arith}
use lib.Dec.{eqb}
use borrow.Author.Tests.{eq-eqb, ne_eqb}
use Rattle.kernel.specs.InnerKernel.{Canonical, Within, bit, names}
use Rattle.kernel.proofs.Kernels.{names_positive}

pub bit_most : (b : Bool) → bit b ≤ 1
bit_most true = omega arith
bit_most false = omega arith

pub names_most : (n : ℕ) (f : ℕ → ℕ) → names n f ≤ n
unfolding names
names_most zero f = omega arith
names_most (suc n) f = omega (arith, names_most n f, bit_most (eqb (f n) n))

pub names_full : (n : ℕ) (f : ℕ → ℕ) → names n f ≡ n → (x : ℕ) → x < n → f x ≡ x
unfolding names
names_full zero f e x l = absurd (omega arith)
names_full (suc n) f e x l =
    elim (ℕ_discrete (f n) n) [
      | yes p ↦ elim (ℕ_discrete x n) [
        | yes q ↦ rw q p
        | no q ↦ names_full n f (omega (arith, names_most n f, bit_most (eqb (f n) n))) x (omega arith)
      ]
      | no p ↦ absurd (omega (arith, names_most n f, ap bit (ne_eqb (f n) n p)))
    ]

bit_more : (f f' : ℕ → ℕ) (x : ℕ) → (f x ≡ x → f' x ≡ x) → bit (eqb (f x) x) ≤ bit (eqb (f' x) x)
bit_more f f' x h =
    elim (ℕ_discrete (f x) x) [
      | yes p ↦ omega (arith, bit_most (eqb (f x) x), ap bit (eq-eqb (f' x) x (h p)))
      | no p ↦ omega (arith, ap bit (ne_eqb (f x) x p))
    ]

-- where f' keeps the names of f it has as many at least
names_more : (n : ℕ) (f f' : ℕ → ℕ) → ((x : ℕ) → x < n → f x ≡ x → f' x ≡ x) → names n f ≤ names n f'
unfolding names
names_more zero f f' h = omega arith
names_more (suc n) f f' h = omega (arith, names_more n f f' (λ x l. h x (omega arith)), bit_more f f' n (h n (omega arith)))

-- and more where it has another
pub names_another : (n : ℕ) (f f' : ℕ → ℕ) → ((x : ℕ) → x < n → f x ≡ x → f' x ≡ x) → (w : ℕ) → w < n → f' w ≡ w → (f w ≡ w → ⊥) → names n f < names n f'
unfolding names
names_another zero f f' h w l p q = absurd (omega arith)
names_another (suc n) f f' h w l p q =
    elim (ℕ_discrete w n) [
      | yes e ↦
          let s : bit (eqb (f n) n) ≡ 0 = ap bit (ne_eqb (f n) n (rw e at q)) in
          let t : bit (eqb (f' n) n) ≡ 1 = ap bit (eq-eqb (f' n) n (rw e at p)) in
          omega (arith, names_more n f f' (λ x k. h x (omega arith)))
      | no e ↦ omega (arith, names_another n f f' (λ x k. h x (omega arith)) w (omega arith) p q, bit_more f f' n (h n (omega arith)))
    ]

-- a single name is 0
pub names_one : (n : ℕ) (f : ℕ → ℕ) → Canonical n f → names n f ≡ 1 → (x : ℕ) → x < n → f x ≡ 0
names_one n f c e x l =
    elim (ℕ_discrete (f x) 0) [
      | yes p ↦ p
      | no p ↦
          let k : f x < n = omega (arith, c.below x l) in
          let zero-named : (y : ℕ) → y < n → 0 ≡ y → f y ≡ y = λ y ly q. omega (arith, c.below y ly) in
          absurd (omega (
            arith,
            names_another n (λ y. 0) f zero-named (f x) k (c.named x l) (λ q. p (sym q)),
            names_positive n (λ y. 0) (omega arith) (record { below = λ y ly. omega arith; named = λ y ly. refl }),
          ))
    ]

-- ---- names of two functions, one of which joins more

-- a name in a larger equivalence was one in the smaller
pub name_back : {n : ℕ} {f f' : ℕ → ℕ} → Canonical n f → Canonical n f' → Within n f f' → (y : ℕ) → y < n → f' y ≡ y → f y ≡ y
name_back {n} {f} {f'} c d w y l e =
    let s : f y < n = omega (arith, c.below y l) in
    let t : f' (f y) ≡ f' y = w (f y) y s l (c.named y l) in
    omega (arith, c.below y l, d.below (f y) s)
