-- Inner vocabulary: no contract of a service and no theorem cites this file.
-- The sums by which a map is tested.
use Rattle.std.specs.Prelude.{ℕ, zero, suc, ◌+◌, ltb}
use Rattle.kernel.specs.InnerKernel.{bit}

-- the sum of the first n values
unfoldable pub sum : ℕ → (ℕ → ℕ) → ℕ
sum zero f = 0
sum (suc n) f = sum n f + f n

-- 1 where the value at x is above x, 0 where it is not
unfoldable pub exceeding : (ℕ → ℕ) → ℕ → ℕ
exceeding f x = bit (ltb x (f x))
