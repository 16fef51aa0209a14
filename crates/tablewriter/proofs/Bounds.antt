-- How long the text of an algebra can be: four bytes for each cell, and 218 besides.
use Prim.Native.Nat.{ℕ, zero, suc, ◌+◌, ◌*◌, ◌^◌, ◌≤◌, ◌<◌}
use mathlib.Core.List.{List, [], ◌∷◌}
use native.Mathlib.Decide.{ℕ_discrete}
use native.Mathlib.Nat.{mul-add, mul_left_comm, mul-le-mul, mul_comm, pow-zero, pow-succ'}
use native.Mathlib.Omega.{arith}
use lib.ListN.{length, get_or, take}
use lib.Seq.{length-take-le}
use Rattle.writer.specs.InnerRoom.{NumbersBelow}
use Rattle.algebra.specs.Algebra.{algebra_of, cell_count}
use Rattle.tablewriter.specs.Texts.{algebra_text}
use Rattle.tablewriter.specs.InnerFits.{TablesThere}
use Rattle.tablewriter.specs.InnerLengths.{frame, frames}
use Rattle.tablewriter.proofs.TextLengths.{text_length}
use Rattle.tablewriter.proofs.Counting.{digits_few, figures_few}

-- brackets and gaps, over three elements or more, over two and over one
frame_many : (n s : ℕ) → 3 ≤ n → frame n s + 2 ≤ 2 * n ^ s
unfolding frame
frame_many n zero h = omega (arith, pow-zero n)
frame_many n (suc s) h =
    let p : n * (frame n s + 2) ≤ n * (2 * n ^ s) = mul-le-mul {n₂ = n} {m₂ = 2 * n ^ s} (omega arith) (frame_many n s h) in
    omega (arith, mul-add n (frame n s) 2, mul_left_comm n 2 (n ^ s), pow-succ' n s, mul_comm n 2)

frame_two : (s : ℕ) → s ≤ 3 → frame 2 s ≤ 2 * 2 ^ s + 5
unfolding frame
frame_two zero h = omega arith
frame_two (suc zero) h = omega arith
frame_two (suc (suc zero)) h = omega arith
frame_two (suc (suc (suc zero))) h = omega arith
frame_two (suc (suc (suc (suc s)))) h = absurd (omega arith)

frame_one : (s : ℕ) → s ≤ 3 → frame 1 s ≤ 2 * 1 ^ s + 5
unfolding frame
frame_one zero h = omega arith
frame_one (suc zero) h = omega arith
frame_one (suc (suc zero)) h = omega arith
frame_one (suc (suc (suc zero))) h = omega arith
frame_one (suc (suc (suc (suc s)))) h = absurd (omega arith)

frame_bound : (n s : ℕ) → 0 < n → s ≤ 3 → frame n s ≤ 2 * n ^ s + 5
frame_bound n s h l =
    elim (ℕ_discrete n 1) [
      | yes e ↦ rw e (frame_one s l)
      | no e ↦ elim (ℕ_discrete n 2) [
        | yes g ↦ rw g (frame_two s l)
        | no g ↦ omega (arith, frame_many n s (omega arith))
      ]
    ]

frames_bound : (n : ℕ) → 0 < n → (arities : List ℕ) → ((j : ℕ) → j < length arities → get_or arities j 0 ≤ 3) → frames n arities ≤ 2 * cell_count n arities + 13 * length arities
unfolding frames cell_count
frames_bound n h [] a = omega arith
frames_bound n h (s ∷ rest) a =
    omega (arith, frame_bound n s h (a 0 (omega arith)), frames_bound n h rest (λ j l. a (suc j) (omega arith)))

-- the text of tables whose cells have two digits at most
pub text_bound : (n : ℕ) (arities cells : List ℕ) → TablesThere n arities cells → NumbersBelow 100 (take (cell_count n arities) cells)
    → length (algebra_text (algebra_of n arities cells)) ≤ 4 * cell_count n arities + 218
text_bound n arities cells t short =
    let front = take (cell_count n arities) cells in
    omega (
      arith,
      text_length n t.some arities cells t,
      digits_few n (omega (arith, t.most)),
      frames_bound n t.some arities t.arity,
      figures_few front short,
      length-take-le (cell_count n arities) cells t.there,
      t.few,
    )
