-- The nine numbers of a bench together: what was lost earlier, and the eight tallies. They are summed as unbounded numbers; no code forms the sum.
use Rattle.std.specs.Prelude.{ℕ, zero, suc, ◌+◌, true, false, List, [], ◌∷◌, ◌≡◌, length, Ok}
use mathlib.Core.List.{Memᴰ as Member}
use Rattle.sheet.specs.Sheet.{map_on}
use Rattle.bench.specs.Calls.{add_call}
use Rattle.benchsheets.specs.State.{sheet_of, blocks_lost}
use Rattle.benchsheets.specs.declared.Bench.{Bench}
use Rattle.conversion.specs.Conversion.{convert_v3_call}
use Rattle.oldbenches.specs.declared.BenchV3.{BenchV3}
use Rattle.history.specs.Histories.{Call, Start, Add, Clear, Set, Return, Forget, called, is_done, after}

-- the tallies of sheets 0 to k - 1 together
unfoldable pub tallies : ℕ → Bench → ℕ
tallies zero b = 0
tallies (suc k) b = tallies k b + (sheet_of b k).tally

-- the nine numbers together
unfoldable pub nine : Bench → ℕ
nine b = b.earlier + tallies 8 b

-- the blocks that a call on a bench costs: an accepted Add those that its sheet's map has fewer after it, and every other call none
unfoldable pub lost_by : Call → Bench → ℕ
lost_by (Start n) b = 0
lost_by (Add a k x y) b =
    elim (is_done (add_call b a k x y).answer) [
      | true ↦ blocks_lost b.n (map_on b.n (sheet_of b k)) (map_on b.n (sheet_of (add_call b a k x y).bench k))
      | false ↦ 0
    ]
lost_by (Clear k) b = 0
lost_by (Set k name) b = 0
lost_by (Return k name) b = 0
lost_by (Forget k name) b = 0

-- the blocks that a list of calls costs, each on the bench that the one before it gave back
unfoldable pub lost_along : List Call → Bench → ℕ
lost_along [] b = 0
lost_along (c ∷ rest) b = lost_by c b + lost_along rest (called c b).bench

-- no Start is in the list
abbrev pub Startless : List Call → Type 0
Startless calls = (n : ℕ) → ¬ Member (Start n) calls

-- the bench after a list of calls
abbrev pub bench_after : Bench → List Call → Bench
bench_after b calls = (after (record { made = []; bench = b }) calls).bench

-- what the nine say after calls on a bench that was converted: the earlier number is the old total, and the nine are it and the blocks lost since
pub record SumRight (old : BenchV3) (calls : List Call) : Type 0 where
  pub earlier : (bench_after (convert_v3_call old).bench calls).earlier ≡ old.tally
  pub sum : nine (bench_after (convert_v3_call old).bench calls) ≡ old.tally + lost_along calls (convert_v3_call old).bench

-- the theorem: so it is after every accepted conversion of an old bench of eight sheets, and every list of calls without a Start
abbrev pub SumTheorem : Type 0
SumTheorem = (old : BenchV3) → length old.sheets ≡ 8 → (convert_v3_call old).answer ≡ Ok tt → (calls : List Call) → Startless calls → SumRight old calls
