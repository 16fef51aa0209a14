-- Powers up to the third, and that they stay small.
use Prim.Native.Nat.{ℕ, ◌*◌, ◌^◌, ◌≤◌}
use mathlib.Core.Path.{◌≡◌, ap, ◌∙◌}
use native.Mathlib.Nat.{pow-zero, pow-suc, one-mul, mul-le-mul, pow-le-pow_left, pow-le-pow_right}
use native.Mathlib.Omega.{arith}

pub power_one : (n : ℕ) → n ^ 1 ≡ n
power_one n = pow-suc n 0 ∙ ap (λ (k : ℕ). k * n) (pow-zero n) ∙ one-mul n

pub power_two : (n : ℕ) → n ^ 2 ≡ n * n
power_two n = pow-suc n 1 ∙ ap (λ (k : ℕ). k * n) (power_one n)

pub power_three : (n : ℕ) → n ^ 3 ≡ n * n * n
power_three n = pow-suc n 2 ∙ ap (λ (k : ℕ). k * n) (power_two n)

pub square_most : (n : ℕ) → n ≤ 64 → n * n ≤ 4096
square_most n l = mul-le-mul l l

-- powers of n stay small
pub power_small : (n i : ℕ) → n ≤ 64 → i ≤ 3 → n ^ i ≤ 262144
power_small n i l li =
    let a : 64 ^ i ≤ 64 ^ 3 = pow-le-pow_right (omega arith) li in
    omega (arith, pow-le-pow_left l i)
