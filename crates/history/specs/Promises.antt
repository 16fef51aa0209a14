-- What a call leaves as it was, and what an accepted one gives.
use Rattle.std.specs.Prelude.{ℕ, ◌+◌, ◌≤◌, ◌<◌, true, false, not, ◌&&◌, ◌||◌, List, map, ◌≡◌, T, length, drop, replicate, Ok, Err}
use Rattle.equivalence.specs.Equivalence.{Map, byte, holds, inside, identity}
use Rattle.equivalence.specs.declared.Refusal.{Refusal}
use Rattle.algebra.specs.Algebra.{Algebra}
use Rattle.algebra.specs.Congruence.{Congruence}
use Rattle.sheet.specs.Points.{same_name, is_held, map_under}
use Rattle.sheet.specs.Sheet.{map_on, zero_point}
use Rattle.bench.specs.Calls.{start_call, add_call, clear_call, set_call, return_call, forget_call}
use Rattle.oldbenches.specs.OldKinds.{zero_bench_v2, convert_v1_call, unpointed, zero_bench_v3, convert_v2_call}
use Rattle.conversion.specs.Conversion.{untallied, map_alone, convert_v3_call}
use Rattle.benchsheets.specs.State.{zero_bench, sheet_of, blocks_lost}
use Rattle.benchsheets.specs.declared.Bench.{Bench}
use Rattle.bench.specs.declared.Benched.{Benched}
use Rattle.oldbenches.specs.declared.BenchV1.{BenchV1}
use Rattle.oldbenches.specs.declared.BenchV2.{BenchV2}
use Rattle.oldbenches.specs.declared.BenchV3.{BenchV3}

-- a call on sheet k left everything but that sheet: n, what was lost earlier, how many sheets there are, and the other sheets
pub record OnlySheet (k : ℕ) (b after : Bench) : Type 0 where
  pub size : after.n ≡ b.n
  pub earlier : after.earlier ≡ b.earlier
  pub count : length after.sheets ≡ length b.sheets
  pub others : (j : ℕ) → ¬ (j ≡ k) → sheet_of after j ≡ sheet_of b j

-- and of that sheet everything but its map and its tally: every byte past n, and the points with their places
pub record OnlyMap (k : ℕ) (b after : Bench) : Type 0 where
  pub sheet : OnlySheet k b after
  pub past : (j : ℕ) → drop b.n (sheet_of after j).map ≡ drop b.n (sheet_of b j).map
  pub held : (j : ℕ) → (sheet_of after j).count ≡ (sheet_of b j).count
  pub points : (j : ℕ) → (sheet_of after j).points ≡ (sheet_of b j).points

-- or everything but its points: every byte of its map, and its tally
pub record OnlyPoints (k : ℕ) (b after : Bench) : Type 0 where
  pub sheet : OnlySheet k b after
  pub maps : (j : ℕ) → (sheet_of after j).map ≡ (sheet_of b j).map
  pub tallies : (j : ℕ) → (sheet_of after j).tally ≡ (sheet_of b j).tally

-- Demand 2, Add: the congruence holds the old map and the pair and lies inside every congruence that does
pub record LeastExtension (a : Algebra) (old : Map) (x y : ℕ) (new : Map) : Type 0 where
  pub congruence : Congruence a new
  pub larger : T (inside a.size old new)
  pub pair : T (holds new x y)
  pub least : (c : Map) → Congruence a c → T (inside a.size old c) → T (holds c x y) → T (inside a.size new c)

-- a refused call gives the bench as it came
abbrev pub Unaltered : Bench → Benched Bench → Type 0
Unaltered b r = (reason : Refusal) → r.answer ≡ Err reason → r.bench ≡ b

-- Start. Accepted: the bench is over n, every sheet has the identity, zeros past it and no points. Refused: a bench of zeros. Either way the nine
-- numbers are 0
pub record StartPromise (n : ℕ) : Type 0 where
  pub size : (start_call n).answer ≡ Ok tt → (start_call n).bench.n ≡ n
  pub maps : (start_call n).answer ≡ Ok tt → (k : ℕ) → k < 8 → map_on n (sheet_of (start_call n).bench k) ≡ identity n
  pub zeros : (start_call n).answer ≡ Ok tt → (k : ℕ) → k < 8 → (x : ℕ) → n ≤ x → byte (sheet_of (start_call n).bench k).map x ≡ 0
  pub unpointed : (k : ℕ) → k < 8 → ((sheet_of (start_call n).bench k).count ≡ 0) × ((sheet_of (start_call n).bench k).points ≡ replicate 8 zero_point)
  pub tallies : (k : ℕ) → k < 8 → (sheet_of (start_call n).bench k).tally ≡ 0
  pub earlier : (start_call n).bench.earlier ≡ 0
  pub refused : (reason : Refusal) → (start_call n).answer ≡ Err reason → (start_call n).bench ≡ zero_bench

-- Add on any bench of eight sheets
pub record AddPromise (b : Bench) (a : Algebra) (k x y : ℕ) : Type 0 where
  pub refused : Unaltered b (add_call b a k x y)
  pub only : OnlyMap k b (add_call b a k x y).bench
  pub least : (add_call b a k x y).answer ≡ Ok tt → LeastExtension a (map_on b.n (sheet_of b k)) x y (map_on b.n (sheet_of (add_call b a k x y).bench k))
  pub tally : (add_call b a k x y).answer ≡ Ok tt
      → (sheet_of (add_call b a k x y).bench k).tally
      ≡ (sheet_of b k).tally + blocks_lost b.n (map_on b.n (sheet_of b k)) (map_on b.n (sheet_of (add_call b a k x y).bench k))

-- Clear on any bench of eight sheets
pub record ClearPromise (b : Bench) (k : ℕ) : Type 0 where
  pub refused : Unaltered b (clear_call b k)
  pub only : OnlyMap k b (clear_call b k).bench
  pub map : (clear_call b k).answer ≡ Ok tt → map_on b.n (sheet_of (clear_call b k).bench k) ≡ identity b.n
  pub tally : (sheet_of (clear_call b k).bench k).tally ≡ (sheet_of b k).tally

-- Set on any bench of eight sheets with eight places each. Accepted: the name is held beside those that were, with the sheet's map under it, and under
-- the others what was there
pub record SetPromise (b : Bench) (k : ℕ) (name : List ℕ) : Type 0 where
  pub refused : Unaltered b (set_call b k name)
  pub only : OnlyPoints k b (set_call b k name).bench
  pub names : (set_call b k name).answer ≡ Ok tt → (other : List ℕ) → is_held other (sheet_of (set_call b k name).bench k) ≡ (same_name other name || is_held other (sheet_of b k))
  pub stored : (set_call b k name).answer ≡ Ok tt → (other : List ℕ) → T (is_held other (sheet_of (set_call b k name).bench k))
      → map_under b.n other (sheet_of (set_call b k name).bench k)
      ≡ elim (same_name other name) [ true ↦ map_on b.n (sheet_of b k) | false ↦ map_under b.n other (sheet_of b k) ]

-- Return on any bench of eight sheets. Accepted: the sheet has the map that is stored under the name
pub record ReturnPromise (b : Bench) (k : ℕ) (name : List ℕ) : Type 0 where
  pub refused : Unaltered b (return_call b k name)
  pub only : OnlyMap k b (return_call b k name).bench
  pub map : (return_call b k name).answer ≡ Ok tt → map_on b.n (sheet_of (return_call b k name).bench k) ≡ map_under b.n name (sheet_of b k)
  pub tally : (sheet_of (return_call b k name).bench k).tally ≡ (sheet_of b k).tally

-- Forget on any bench of eight sheets with eight places each. Accepted: the others are held, and under them is what was there
pub record ForgetPromise (b : Bench) (k : ℕ) (name : List ℕ) : Type 0 where
  pub refused : Unaltered b (forget_call b k name)
  pub only : OnlyPoints k b (forget_call b k name).bench
  pub names : (forget_call b k name).answer ≡ Ok tt → (other : List ℕ)
      → is_held other (sheet_of (forget_call b k name).bench k) ≡ (not (same_name other name) && is_held other (sheet_of b k))
  pub stored : (forget_call b k name).answer ≡ Ok tt → (other : List ℕ) → T (is_held other (sheet_of (forget_call b k name).bench k))
      → map_under b.n other (sheet_of (forget_call b k name).bench k) ≡ map_under b.n other (sheet_of b k)

-- Conversion of the first kind. Accepted: n, the tally as a number and every byte of every sheet are the old bench's. Refused: a bench of zeros. It
-- answers as Clear does, of whichever of the eight sheets, on a bench with the old one's n and maps, and no points
pub record ConvertV1Promise (old : BenchV1) : Type 0 where
  pub size : (convert_v1_call old).answer ≡ Ok tt → (convert_v1_call old).bench.n ≡ old.n
  pub tally : (convert_v1_call old).answer ≡ Ok tt → (convert_v1_call old).bench.tally ≡ old.tally
  pub sheets : (convert_v1_call old).answer ≡ Ok tt → (convert_v1_call old).bench.sheets ≡ old.sheets
  pub refused : (reason : Refusal) → (convert_v1_call old).answer ≡ Err reason → (convert_v1_call old).bench ≡ zero_bench_v2
  pub as_clear : (b : Bench) → b.n ≡ old.n → b.sheets ≡ map map_alone old.sheets → (k : ℕ) → k < 8 → (convert_v1_call old).answer ≡ (clear_call b k).answer

-- Conversion of the second kind. Accepted: n, the tally and every byte of every map are the old bench's, and no sheet has points. Refused: a bench of
-- zeros. It answers as Clear does
pub record ConvertV2Promise (old : BenchV2) : Type 0 where
  pub size : (convert_v2_call old).answer ≡ Ok tt → (convert_v2_call old).bench.n ≡ old.n
  pub tally : (convert_v2_call old).answer ≡ Ok tt → (convert_v2_call old).bench.tally ≡ old.tally
  pub sheets : (convert_v2_call old).answer ≡ Ok tt → (convert_v2_call old).bench.sheets ≡ map unpointed old.sheets
  pub refused : (reason : Refusal) → (convert_v2_call old).answer ≡ Err reason → (convert_v2_call old).bench ≡ zero_bench_v3
  pub as_clear : (b : Bench) → b.n ≡ old.n → b.sheets ≡ map map_alone old.sheets → (k : ℕ) → k < 8 → (convert_v2_call old).answer ≡ (clear_call b k).answer

-- Conversion of the third kind. Accepted: n is the old bench's, so is every byte of every map and of every point with its place; the old total was lost
-- earlier, and every tally is 0. Refused: a bench of zeros. It answers as Clear does, points included
pub record ConvertV3Promise (old : BenchV3) : Type 0 where
  pub size : (convert_v3_call old).answer ≡ Ok tt → (convert_v3_call old).bench.n ≡ old.n
  pub earlier : (convert_v3_call old).answer ≡ Ok tt → (convert_v3_call old).bench.earlier ≡ old.tally
  pub sheets : (convert_v3_call old).answer ≡ Ok tt → (convert_v3_call old).bench.sheets ≡ map untallied old.sheets
  pub refused : (reason : Refusal) → (convert_v3_call old).answer ≡ Err reason → (convert_v3_call old).bench ≡ zero_bench
  pub as_clear : (b : Bench) → b.n ≡ old.n → b.sheets ≡ map untallied old.sheets → (k : ℕ) → k < 8 → (convert_v3_call old).answer ≡ (clear_call b k).answer
