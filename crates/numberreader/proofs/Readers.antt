-- Readers one after another: what the first finds decides what the second is asked.
use Prim.Native.Nat.{ℕ, ◌+◌, ◌<◌}
use Prim.Native.Char.{Char, code}
use mathlib.Core.Bool.{true, false}
use mathlib.Core.List.{List, [], ◌++◌, append_assoc}
use mathlib.Core.Path.{◌≡◌, refl, ap, sym, ◌∙◌}
use native.Mathlib.Decide.{dec_lt}
use native.Mathlib.Omega.{arith}
use borrow.Author.Tests.{eq-eqb, ne_eqb}
use lib.ListN.{length, get_or-eq_default}
use Rattle.numberreader.specs.Reading.{Read, Reader, found, fault, byte_at, onward, ◌>>=◌, ◌>>◌, mark, gap, branch, behind, begins, opened}
use Rattle.numberreader.specs.InnerPromises.{GapFound}

-- past the end no byte but 0 stands
pub within_text : (text : List ℕ) (at : ℕ) → 0 < byte_at text at → at < length text
within_text text at h =
    elim (dec_lt at (length text)) [
      | yes l ↦ l
      | no l ↦ absurd (omega (arith, get_or-eq_default text 0 {n = at} (omega arith)))
    ]

module _ {A B : Type 0} (first : Reader A) (next : A → Reader B) (text : List ℕ) (at : ℕ) where
  pub then_found : (a : A) (after : ℕ) → first text at ≡ found a after → ◌>>=◌ first next text at ≡ next a text after
  unfolding ◌>>=◌ onward
  then_found a after e = rw e

  pub then_fault : first text at ≡ fault → ◌>>=◌ first next text at ≡ fault
  unfolding ◌>>=◌ onward
  then_fault e = rw e

-- a list in front of what a reader found
abbrev pub before : List ℕ → Read (List ℕ) → Read (List ℕ)
before xs r = onward (λ ys next. found (xs ++ ys) next) r

pub before_none : (r : Read (List ℕ)) → r ≡ before [] r
unfolding onward
before_none (found ys next) = refl
before_none fault = refl

pub before_twice : (xs ys : List ℕ) (r : Read (List ℕ)) → before xs (before ys r) ≡ before (xs ++ ys) r
unfolding onward
before_twice xs ys (found zs next) = ap (λ (l : List ℕ). found l next) (sym (append_assoc xs ys zs))
before_twice xs ys fault = refl

pub before_found : (xs ys : List ℕ) (end : ℕ) (r : Read (List ℕ)) → r ≡ found ys end → before xs r ≡ found (xs ++ ys) end
unfolding onward
before_found xs ys end r e = rw e

pub before_fault : (xs : List ℕ) (r : Read (List ℕ)) → r ≡ fault → before xs r ≡ fault
unfolding onward
before_fault xs r e = rw e

module _ (c : Char) (text : List ℕ) (at : ℕ) where
  pub mark_found : byte_at text at ≡ code c → mark c text at ≡ found tt (at + 1)
  unfolding mark
  mark_found e = simp (mark, eq-eqb (byte_at text at) (code c) e)

  pub mark_fault : (byte_at text at ≡ code c → ⊥) → mark c text at ≡ fault
  unfolding mark
  mark_fault e = simp (mark, ne_eqb (byte_at text at) (code c) e)

  -- a byte and then more
  pub marked : {B : Type 0} (next : Reader B) → byte_at text at ≡ code c → ◌>>◌ (mark c) next text at ≡ next text (at + 1)
  marked next e = then_found (mark c) (λ _. next) text at tt (at + 1) (mark_found e)

  pub unmarked : {B : Type 0} (next : Reader B) → (byte_at text at ≡ code c → ⊥) → ◌>>◌ (mark c) next text at ≡ fault
  unmarked next e = then_fault (mark c) (λ _. next) text at (mark_fault e)

module _ {A B : Type 0} (first : Reader A) (body other : Reader B) (text : List ℕ) (at : ℕ) where
  pub behind_found : (a : A) (after : ℕ) → first text at ≡ found a after → behind first body other text at ≡ body text after
  unfolding behind branch
  behind_found a after e = rw e

  pub behind_fault : first text at ≡ fault → behind first body other text at ≡ other text at
  unfolding behind branch
  behind_fault e = rw e

-- what stands between two items is one byte
module _ (text : List ℕ) (at b : ℕ) (eb : b ≡ byte_at text at) where
  pub gap_here : b ≡ 32 → GapFound text at (at + 1)
  unfolding gap
  gap_here h =
      record { value = mark_found " " text at (sym eb ∙ h); within = omega (arith, within_text text at (omega arith)); past = omega arith }

  pub no_gap : (b ≡ 32 → ⊥) → gap text at ≡ fault
  unfolding gap
  no_gap h = mark_fault " " text at (λ g. h (eb ∙ g))

-- a gap and then more
module _ {B : Type 0} (next : Reader B) (text : List ℕ) (at : ℕ) where
  pub gapped : (end : ℕ) → GapFound text at end → ◌>>◌ gap next text at ≡ next text end
  gapped end g = then_found gap (λ _. next) text at tt end g.value

  pub ungapped : gap text at ≡ fault → ◌>>◌ gap next text at ≡ fault
  ungapped g = then_fault gap (λ _. next) text at g

module _ {A : Type 0} (word : List ℕ) (body other : Reader A) (text : List ℕ) (at : ℕ) where
  pub opened_body : begins text at word ≡ true → opened word body other text at ≡ body text (at + length word)
  unfolding opened
  opened_body e = simp (opened, e)

  pub opened_other : begins text at word ≡ false → opened word body other text at ≡ other text at
  unfolding opened
  opened_other e = simp (opened, e)
