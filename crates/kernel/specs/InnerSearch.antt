-- Inner vocabulary: no contract of a service and no theorem cites this file.
-- The search for the foremost element: the smallest value among the elements that pass a test, and of equal values the first.
use Rattle.std.specs.Prelude.{ℕ, Bool, true, false, ◌&&◌, ◌||◌, eqb, ltb}

-- the foremost so far, where y comes after `at`: y where it passes and its value is smaller, else `at`; 0 stands for none
unfoldable pub foremost : ℕ → ℕ → ℕ → ℕ → Bool → ℕ
foremost at value y new passes = elim (passes && (eqb at 0 || ltb new value)) [ true ↦ y | false ↦ at ]
