-- Words: how far the bytes of a word stand in a text.
use Prim.Native.Nat.{ℕ, suc, ◌+◌, ◌≤◌, ◌<◌}
use mathlib.Core.Bool.{Bool, true, false, ◌&&◌}
use mathlib.Core.List.{List, [], ◌∷◌}
use mathlib.Core.Path.{◌≡◌, refl, sym, ◌∙◌}
use native.Mathlib.Nat.{add-zero}
use native.Mathlib.Numerals.{add-one}
use native.Mathlib.Omega.{arith}
use borrow.Author.Tests.{eq-eqb, ne_eqb, eqb-true}
use lib.Dec.{T, eqb, ltb, ltb→lt}
use lib.ListN.{length, get_or, drop, drop_of_length-le}
use lib.Seq.{drop-cons}
use Rattle.equivalence.specs.Lists.{every}
use Rattle.equivalence.proofs.Tests.{left, right}
use Rattle.numberreader.specs.Reading.{byte_at, begins}
use Rattle.numberreader.proofs.Readers.{within_text}

-- the first i bytes of the word stand there
pub record Matched (text : List ℕ) (at : ℕ) (word : List ℕ) (i : ℕ) : Type 0 where
  pub rest : begins text at word ≡ begins text (at + i) (drop i word)

module _ (text : List ℕ) (at : ℕ) (word : List ℕ) where
  pub matched_none : Matched text at word 0
  matched_none = record { rest = rw add-zero }

  module _ (i : ℕ) (m : Matched text at word i) where
    step : i < length word → begins text (at + i) (drop i word) ≡ (eqb (byte_at text (at + i)) (get_or word i 0) && begins text (at + (i + 1)) (drop (i + 1) word))
    unfolding begins
    step h = let e : at + i + 1 ≡ at + suc i = omega arith in rw (drop-cons word i 0 h, add-one i, e)

    pub matched_more : (b : ℕ) → i < length word → b ≡ byte_at text (at + i) → b ≡ get_or word i 0 → Matched text at word (i + 1)
    matched_more b h e k =
        record { rest = m.rest ∙ step h ∙ simp (eq-eqb (byte_at text (at + i)) (get_or word i 0) (sym e ∙ k)) }

    pub matched_not : (b : ℕ) → i < length word → b ≡ byte_at text (at + i) → (b ≡ get_or word i 0 → ⊥) → false ≡ begins text at word
    matched_not b h e k =
        sym (m.rest ∙ step h ∙ simp (ne_eqb (byte_at text (at + i)) (get_or word i 0) (λ g. k (e ∙ g))))

    pub matched_all : length word ≤ i → true ≡ begins text at word
    unfolding begins
    matched_all h = sym (m.rest ∙ rw (drop_of_length-le word {i = i} h))

pub and_left : (a b : Bool) → (a && b) ≡ true → a ≡ true
and_left true b e = refl
and_left false b e = e

pub and_right : (a b : Bool) → (a && b) ≡ true → b ≡ true
and_right true b e = e
and_right false b e = let z : ◌≡◌ {A = ℕ} 0 1 = cc in absurd (omega arith)

-- a word without byte 0 that stands in the text ends within it
pub begins_within : (text : List ℕ) (word : List ℕ) (at : ℕ) → T (every (ltb 0) word) → at ≤ length text → begins text at word ≡ true → at + length word ≤ length text
unfolding begins every
begins_within text [] at t w e = omega arith
begins_within text (b ∷ word) at t w e =
    let here : byte_at text at ≡ b = eqb-true (byte_at text at) b (and_left (eqb (byte_at text at) b) (begins text (at + 1) word) e) in
    let some : 0 < b = ltb→lt 0 b (left (ltb 0 b) (every (ltb 0) word) t) in
    let l = within_text text at (omega arith) in
    omega (arith, begins_within text word (at + 1) (right (ltb 0 b) (every (ltb 0) word) t) (omega arith) (and_right (eqb (byte_at text at) b) (begins text (at + 1) word) e))
