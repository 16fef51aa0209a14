-- Histories: calls made one after the other, each on the bench that the call before it gave back; and what is on the bench after them, read off
-- the calls and their answers alone.
use Rattle.std.specs.Prelude.{ℕ, ◌+◌, ◌<◌, Bool, true, false, not, ◌&&◌, ◌||◌, List, [], ◌∷◌, ◌≡◌, T, eqb, ⊤, Result, Ok, Err}
use mathlib.Core.List.{Memᴰ as Member}
use Rattle.equivalence.specs.Equivalence.{Map, identity}
use Rattle.equivalence.specs.Refusal.{lowest}
use Rattle.equivalence.specs.declared.Refusal.{Refusal}
use Rattle.algebra.specs.Algebra.{Algebra}
use Rattle.theory.specs.Extremal.{extended}
use Rattle.sheet.specs.Points.{same_name, is_held, map_under}
use Rattle.sheet.specs.Sheet.{map_on}
use Rattle.sheet.specs.declared.Sheet.{Sheet}
use Rattle.benchtests.specs.Tests.{start_tests}
use Rattle.bench.specs.Calls.{start_call, add_call, clear_call, set_call, return_call, forget_call}
use Rattle.history.specs.Promises.{LeastExtension}
use Rattle.benchsheets.specs.State.{sheet_of, blocks_lost}
use Rattle.benchsheets.specs.declared.Bench.{Bench}
use Rattle.bench.specs.declared.Benched.{Benched}

-- a call: Start n; Add of an algebra, a sheet and a pair; Clear of a sheet; Set, Return and Forget of a sheet and a name
pub data Call : Type 0 where
  Start : ℕ → Call
  Add : Algebra → ℕ → ℕ → ℕ → Call
  Clear : ℕ → Call
  Set : ℕ → List ℕ → Call
  Return : ℕ → List ℕ → Call
  Forget : ℕ → List ℕ → Call

-- what a call on a bench gives
unfoldable pub called : Call → Bench → Benched Bench
called (Start n) b = start_call n
called (Add a k x y) b = add_call b a k x y
called (Clear k) b = clear_call b k
called (Set k name) b = set_call b k name
called (Return k name) b = return_call b k name
called (Forget k name) b = forget_call b k name

-- a call that was made, and whether it was accepted
pub record Made : Type 0 where
  pub call : Call
  pub accepted : Bool

-- the calls made so far, the latest first, and the bench that the latest gave back
pub record History : Type 0 where
  pub made : List Made
  pub bench : Bench

-- the call was not refused
unfoldable pub is_done : Result ⊤ Refusal → Bool
is_done (Ok x) = true
is_done (Err r) = false

-- one call more, on the bench that the one before it gave back
unfoldable pub next : History → Call → History
next h c =
    record {
      made = record { call = c; accepted = is_done (called c h.bench).answer } ∷ h.made;
      bench = (called c h.bench).bench;
    }

-- a list of calls more, in their order
unfoldable pub after : History → List Call → History
after h [] = h
after h (c ∷ rest) = after (next h c) rest

-- what the calls say of a sheet: the n of the latest Start; the map; how many blocks the sheet lost since that Start; which names are known, those whose
-- latest Set or Forget since is a Set; and the map that was on the sheet when a name was last set since
pub record SheetState : Type 0 where
  pub n : ℕ
  pub map : Map
  pub lost : ℕ
  pub known : List ℕ → Bool
  pub stored : List ℕ → Map

-- the state with another map, and more blocks lost
unfoldable pub remapped : Map → ℕ → SheetState → SheetState
remapped m more s = record { n = s.n; map = m; lost = s.lost + more; known = s.known; stored = s.stored }

-- the state `new` where the call names this sheet, `old` where it names another
unfoldable pub where_named : ℕ → ℕ → SheetState → SheetState → SheetState
where_named j k new old = elim (eqb j k) [ true ↦ new | false ↦ old ]

-- what an accepted call does to sheet k. Start: the identity, nothing is lost, and no name is known. Add to it: the least congruence of the call's
-- algebra that holds the map and the pair; the blocks that this has fewer are lost. Clear of it: the identity. Set: the map is stored under the name.
-- Return: the map that was on the sheet when the name was last set. Forget: the name is known no more. But for Add and Start, what is lost stays so
unfoldable pub on_sheet : ℕ → Call → SheetState → SheetState
on_sheet k (Start n) s = record { n = n; map = identity n; lost = 0; known = λ name. false; stored = λ name. [] }
on_sheet k (Add a j x y) s = let new : Map = extended a s.map x y in where_named j k (remapped new (blocks_lost s.n s.map new) s) s
on_sheet k (Clear j) s = where_named j k (remapped (identity s.n) 0 s) s
on_sheet k (Set j name) s =
    where_named j k
    (record {
      n = s.n;
      map = s.map;
      lost = s.lost;
      known = λ other. same_name other name || s.known other;
      stored = λ other. elim (same_name other name) [ true ↦ s.map | false ↦ s.stored other ];
    })
    s
on_sheet k (Return j name) s = where_named j k (remapped (s.stored name) 0 s) s
on_sheet k (Forget j name) s =
    where_named j k
    (record { n = s.n; map = s.map; lost = s.lost; known = λ other. not (same_name other name) && s.known other; stored = s.stored })
    s

-- what the calls made, the latest first, say of sheet k: a refused one does nothing
unfoldable pub sheet_after : ℕ → List Made → SheetState
sheet_after k [] = record { n = 0; map = []; lost = 0; known = λ name. false; stored = λ name. [] }
sheet_after k (m ∷ before) = elim m.accepted [ true ↦ on_sheet k m.call (sheet_after k before) | false ↦ sheet_after k before ]

-- each accepted Add's map is the least congruence of its algebra that holds its sheet's map before it and its pair
unfoldable pub EachLeast : List Made → Type 0
EachLeast [] = Unit {0}
EachLeast (m ∷ before) =
    ((a : Algebra) (k x y : ℕ) → m ≡ record { call = Add a k x y; accepted = true }
    → LeastExtension a (sheet_after k before).map x y (sheet_after k (m ∷ before)).map)
    × EachLeast before

-- a sheet over n is what a state says: its map, its tally, which names it holds, and the map under each that it holds
pub record SheetRight (n : ℕ) (s : Sheet) (said : SheetState) : Type 0 where
  pub size : n ≡ said.n
  pub map : map_on n s ≡ said.map
  pub tally : s.tally ≡ said.lost
  pub known : (name : List ℕ) → is_held name s ≡ said.known name
  pub stored : (name : List ℕ) → T (is_held name s) → map_under n name s ≡ said.stored name

-- the bench is what the calls and their answers say: over the n of the latest Start, each sheet with its map, its tally and its points; and nothing was
-- lost earlier
pub record BenchRight (h : History) : Type 0 where
  pub sheets : (k : ℕ) → k < 8 → SheetRight h.bench.n (sheet_of h.bench k) (sheet_after k h.made)
  pub earlier : h.bench.earlier ≡ 0
  pub least : EachLeast h.made

-- every Start in the list is accepted
abbrev pub StartsAccepted : List Call → Type 0
StartsAccepted calls = (n : ℕ) → Member (Start n) calls → lowest (start_tests n) ≡ Ok tt

-- the theorem: after every list of calls that begins with a Start, on whatever bench, and in which every Start is accepted, the bench is right
abbrev pub HistoryTheorem : Type 0
HistoryTheorem =
    (b : Bench) (n : ℕ) (rest : List Call) → StartsAccepted (Start n ∷ rest) → BenchRight (after (record { made = []; bench = b }) (Start n ∷ rest))
