-- Clear and the calls of points as a whole: each is accepted, with what its tests leave, or refused; and what an accepted one does to its sheet.
use Prim.Native.Nat.{ℕ, ◌<◌}
use mathlib.Core.Bool.{not, ◌&&◌, ◌||◌}
use mathlib.Core.List.{List}
use mathlib.Core.Logic.{◌⊎◌}
use mathlib.Core.Path.{◌≡◌}
use native.Mathlib.Omega.{arith}
use lib.Dec.{T}
use lib.ListN.{length}
use Rattle.equivalence.specs.Equivalence.{identity}
use Rattle.equivalence.proofs.Maps.{identity_map}
use Rattle.equivalence.proofs.Tests.{pick}
use Rattle.equivalence.specs.declared.Refusal.{Refusal}
use Rattle.sheet.specs.Points.{same_name, is_held, is_full_for, map_under, with_point, without_point}
use Rattle.sheet.specs.Sheet.{map_on}
use Rattle.sheet.proofs.Faults.{Faultless}
use Rattle.sheet.proofs.Storing.{place_room, under_length, set_names, set_stored, forget_names, forget_stored}
use Rattle.benchtests.specs.Tests.{clear_tests, set_tests, known_tests}
use Rattle.bench.specs.Calls.{clear_call, set_call, return_call, forget_call}
use Rattle.benchsheets.specs.State.{sheet_of, with_sheet, with_map}
use Rattle.history.proofs.Adding.{with_map_map}
use Rattle.benchsheets.proofs.BenchSheets.{with_sheet_same}
use Rattle.benchtests.proofs.Testing.{Clearable, clear_passed, set_passed, known_passed}
use Rattle.bench.proofs.Calling.{done_with, refused, call_cases}
use Rattle.benchsheets.specs.declared.Bench.{Bench}
use Rattle.bench.specs.declared.Benched.{Benched}

-- a call gave `after`, with what its tests left, or was refused
abbrev pub Cases : Type 0 → Benched Bench → Bench → Bench → Type 0
Cases Left r after b = (Left × (r ≡ done_with after)) ⊎ ((reason : Refusal) × (r ≡ refused reason b))

-- what Set's tests leave, and what Return's and Forget's do
abbrev pub Settable : Bench → ℕ → List ℕ → Type 0
Settable b k name = Clearable b k × (¬ T (is_full_for name (sheet_of b k)))

abbrev pub Known : Bench → ℕ → List ℕ → Type 0
Known b k name = Clearable b k × T (is_held name (sheet_of b k))

-- the benches after accepted calls
module _ (b : Bench) (k : ℕ) where
  abbrev pub after_clear : Bench
  after_clear = with_map b k (identity b.n)

  pub clear_cases : Cases (Clearable b k) (clear_call b k) after_clear b
  unfolding clear_call
  clear_cases = call_cases (clear_tests b k) after_clear b (clear_passed b k)

  module _ (name : List ℕ) where
    abbrev pub after_set : Bench
    after_set = with_sheet b k (with_point name (sheet_of b k))

    abbrev pub after_return : Bench
    after_return = with_map b k (map_under b.n name (sheet_of b k))

    abbrev pub after_forget : Bench
    after_forget = with_sheet b k (without_point name (sheet_of b k))

    pub set_cases : Cases (Settable b k name) (set_call b k name) after_set b
    unfolding set_call
    set_cases = call_cases (set_tests b k name) after_set b (set_passed b k name)

    pub return_cases : Cases (Known b k name) (return_call b k name) after_return b
    unfolding return_call
    return_cases = call_cases (known_tests b k name) after_return b (known_passed b k name)

    pub forget_cases : Cases (Known b k name) (forget_call b k name) after_forget b
    unfolding forget_call
    forget_cases = call_cases (known_tests b k name) after_forget b (known_passed b k name)

-- sheet k afterwards
module _ (b : Bench) (k : ℕ) (eight : length b.sheets ≡ 8) where
  there : Clearable b k → k < length b.sheets
  there p = omega (arith, eight, p.sheet)

  pub faultless_there : Clearable b k → Faultless b.n (sheet_of b k)
  faultless_there p = p.faultless.sheets k (there p)

  pub cleared_map : Clearable b k → map_on b.n (sheet_of (after_clear b k) k) ≡ identity b.n
  cleared_map p = with_map_map b k (identity b.n) (there p) (identity_map b.n).long

  module _ (name : List ℕ) where
    pub stored_length : Known b k name → length (map_under b.n name (sheet_of b k)) ≡ b.n
    stored_length p = under_length b.n name (sheet_of b k) (faultless_there p.0) p.1

    pub returned_map : Known b k name → map_on b.n (sheet_of (after_return b k name) k) ≡ map_under b.n name (sheet_of b k)
    returned_map p = with_map_map b k (map_under b.n name (sheet_of b k)) (there p.0) (stored_length p)

    pub set_sheet : Settable b k name → sheet_of (after_set b k name) k ≡ with_point name (sheet_of b k)
    set_sheet p = with_sheet_same b k _ (there p.0)

    pub forget_sheet : Known b k name → sheet_of (after_forget b k name) k ≡ without_point name (sheet_of b k)
    forget_sheet p = with_sheet_same b k _ (there p.0)

    -- its points, where it has eight places
    module _ (places : length (sheet_of b k).points ≡ 8) (other : List ℕ) where
      module _ (p : Settable b k name) where
        room : Faultless b.n (sheet_of b k)
        room = faultless_there p.0

        pub set_held : is_held other (with_point name (sheet_of b k)) ≡ (same_name other name || is_held other (sheet_of b k))
        set_held = set_names name (sheet_of b k) places (place_room name (sheet_of b k) room.few p.1) other

        pub set_under : T (is_held other (with_point name (sheet_of b k)))
            → map_under b.n other (with_point name (sheet_of b k)) ≡ pick (same_name other name) (map_on b.n (sheet_of b k)) (map_under b.n other (sheet_of b k))
        set_under = set_stored name (sheet_of b k) places (place_room name (sheet_of b k) room.few p.1) b.n room.apart other

      module _ (p : Known b k name) where
        rest : Faultless b.n (sheet_of b k)
        rest = faultless_there p.0

        pub forget_held : is_held other (without_point name (sheet_of b k)) ≡ (not (same_name other name) && is_held other (sheet_of b k))
        forget_held = forget_names name (sheet_of b k) places rest.few rest.apart p.1 other

        pub forget_under : T (is_held other (without_point name (sheet_of b k))) → map_under b.n other (without_point name (sheet_of b k)) ≡ map_under b.n other (sheet_of b k)
        forget_under = forget_stored name (sheet_of b k) places rest.few rest.apart p.1 b.n other
