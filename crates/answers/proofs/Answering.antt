-- Answers as lines: each case of a service's answer, and the zero bytes that a service is lent.
use Prim.Native.Nat.{ℕ, zero, suc, ◌+◌, ◌-◌, ◌*◌, ◌≤◌, ◌<◌}
use mathlib.Core.List.{List, [], ◌∷◌, ◌++◌, map}
use mathlib.Core.Path.{◌≡◌, refl, ap, sym, ◌∙◌}
use native.Mathlib.Nat.{le_of_suc-le-suc, mul-le-mul, mul-le-mul_right}
use native.Mathlib.Omega.{arith}
use lib.ListN.{length, take, replicate, length-replicate}
use Rattle.equivalence.specs.Lists.{up_to}
use Rattle.equivalence.specs.Lent.{stretch}
use Rattle.equivalence.specs.Outcome.{success, written_outcome}
use Rattle.equivalence.specs.declared.Element.{Element}
use Rattle.equivalence.specs.declared.Refusal.{Refusal}
use Rattle.std.specs.Prelude.{⊤, Result, Ok, Err}
use Rattle.algebra.specs.Algebra.{Algebra, algebra_of}
use Rattle.algebra.proofs.Accepted.{accepted_well_formed}
use Rattle.congruence.specs.Calls.{generate_call, contained_call, separate_call, decompose_call}
use Rattle.congruence.specs.Outcome.{generated_outcome, decomposed_outcome}
use Rattle.theory.specs.Decompose.{most_factor_space}
use Rattle.theory.proofs.Factors.{listed_law}
use Rattle.congruence.proofs.Meanings.{decompose_gave}
use Rattle.congruence.specs.Decomposed.{Decomposed}
use Rattle.congruence.specs.Decomposed.TheVariants.{Factors, Irreducible}
use Rattle.numberreader.specs.Reading.{ascii}
use Rattle.writer.specs.Lines.{spaced, spaced_brackets, line, refused_numbers, outcome_line, refused_line}
use Rattle.writer.specs.InnerRoom.{FactorsRoom}
use Rattle.writer.proofs.Spacing.{outcome_refused}
use Rattle.answers.specs.Answers.{map_line, generated_line, factors_line, answer}
use Rattle.tablereader.specs.Laying.{Laid}
use Rattle.answers.specs.InnerPromises.{LineFits, MapFits, FactorsFit, Zeros}
use Rattle.reader.specs.declared.requests.Asked.{Asked}
use Rattle.reader.specs.declared.requests.Asked.TheVariants.{Generate, Contained, Separate, Decompose}

-- all factors together have 63 × 64 bytes at most
pub factors_short : (n : ℕ) → n ≤ 64 → most_factor_space n ≤ 4032
factors_short n h = mul-le-mul {n₂ = 63} {m₂ = 64} (omega arith) h

-- the first of many zeros
take_zeros : (k m : ℕ) → k ≤ m → take {A = ℕ} k (replicate m 0) ≡ replicate k 0
take_zeros zero m h = refl
take_zeros (suc k) zero h = absurd (omega arith)
take_zeros (suc k) (suc m) h = ap (λ (l : List ℕ). 0 ∷ l) (take_zeros k m (le_of_suc-le-suc h))

module _ (k n cells : ℕ) (space out : List ℕ) (z : Zeros k n cells space out) where
  space_long : length space ≡ k
  space_long = ap length z.zeros ∙ length-replicate {A = ℕ} k 0

  part_zeros : (i : ℕ) → i ≤ k → Zeros i n cells (take i space) out
  part_zeros i h = record { zeros = rw z.zeros (take_zeros i k h); fits = z.fits }

module _ (n cells : ℕ) (space out : List ℕ) (z : Zeros 4032 n cells space out) where
  pub map_part : n ≤ length space
  map_part = omega (arith, space_long 4032 n cells space out z, z.fits.most)

  pub factors_part : most_factor_space n ≤ length space
  factors_part = omega (arith, space_long 4032 n cells space out z, factors_short n z.fits.most)

  pub map_zeros : Zeros n n cells (take n space) out
  map_zeros = part_zeros 4032 n cells space out z n (omega (arith, z.fits.most))

  pub factors_zeros : Zeros (most_factor_space n) n cells (take (most_factor_space n) space) out
  factors_zeros = part_zeros 4032 n cells space out z (most_factor_space n) (factors_short n z.fits.most)

  pub fits_alone : LineFits n cells out
  fits_alone = z.fits

-- the first of as many zeros as cells can be
pub cells_zeros : (n cells : ℕ) (out : List ℕ) → LineFits n cells out → Zeros cells n cells (take cells (replicate 32768 0)) out
cells_zeros n cells out f = record { zeros = take_zeros cells 32768 f.fit; fits = f }

-- a service that was lent n bytes gives n bytes back
pub map_fits : (n cells : ℕ) (lent map out : List ℕ) → Zeros n n cells lent out → length map ≡ length lent → MapFits map out
map_fits n cells lent map out z e =
    let l : length map ≡ n = e ∙ ap length z.zeros ∙ length-replicate n 0 in
    record { some = omega (arith, z.fits.some); line = omega (arith, z.fits.line) }

module _ (lent map out : List ℕ) (end : ℕ) where
  pub line_of_merges : (g : Result ℕ Refusal) (k : ℕ) → g ≡ Ok k
      → Laid lent 0 (line (ascii "[generated") (spaced (k ∷ []) ++ spaced_brackets (map ∷ []))) out end → Laid lent 0 (generated_line g map) out end
  unfolding generated_line generated_outcome success outcome_line
  line_of_merges g k e l = rw e l

  pub line_of_generate_refused : (g : Result ℕ Refusal) (r : Refusal) → g ≡ Err r → Laid lent 0 (refused_line r) out end
      → Laid lent 0 (generated_line g map) out end
  unfolding generated_line generated_outcome
  line_of_generate_refused g r e l = rw (e, outcome_refused) l

  pub line_of_done : (g : Result ⊤ Refusal) → g ≡ Ok tt → Laid lent 0 (line (ascii "[map") (spaced map)) out end → Laid lent 0 (map_line g map) out end
  unfolding map_line written_outcome success outcome_line
  line_of_done g e l = rw e l

  pub line_of_write_refused : (g : Result ⊤ Refusal) (r : Refusal) → g ≡ Err r → Laid lent 0 (refused_line r) out end → Laid lent 0 (map_line g map) out end
  unfolding map_line written_outcome
  line_of_write_refused g r e l = rw (e, outcome_refused) l

module _ (answer : Result Decomposed Refusal) (n : ℕ) (factors lent : List ℕ) (f : FactorsFit answer n factors lent) where
  pub factors_room : (d : Decomposed) (k : ℕ) → answer ≡ Ok d → d ≡ Factors k → FactorsRoom n k factors lent
  factors_room d k e g =
      let l : k < n = f.few k (rw g at e) in
      let p : k * (4 * n + 2) ≤ n * 258 = mul-le-mul {n₂ = n} {m₂ = 258} (omega arith) (omega (arith, f.most)) in
      let q : k * n ≤ most_factor_space n = mul-le-mul_right {m = k} {n = n - 1} n (omega arith) in
      record { some = f.some; line = omega (arith, f.line); list = rw f.list q }

  module _ (out : List ℕ) (end : ℕ) where
    pub line_of_factors : (d : Decomposed) (k : ℕ) → answer ≡ Ok d → d ≡ Factors k → Laid lent 0 (line (ascii "[factors") (spaced_brackets (map (stretch n factors) (up_to k)))) out end
        → Laid lent 0 (factors_line n answer factors) out end
    unfolding factors_line decomposed_outcome success outcome_line
    line_of_factors d k e g l = rw (e, g) l

    pub line_of_irreducible : (d : Decomposed) (x y : Element) → answer ≡ Ok d → d ≡ Irreducible x y → Laid lent 0 (line (ascii "[refused") (spaced (11 ∷ x.0 ∷ y.0 ∷ []))) out end
        → Laid lent 0 (factors_line n answer factors) out end
    unfolding factors_line decomposed_outcome outcome_line refused_numbers
    line_of_irreducible d x y e g l = rw (e, g) l

    pub line_of_decompose_refused : (r : Refusal) → answer ≡ Err r → Laid lent 0 (refused_line r) out end
        → Laid lent 0 (factors_line n answer factors) out end
    unfolding factors_line decomposed_outcome
    line_of_decompose_refused r e l = rw (e, outcome_refused) l

-- Decompose gives fewer factors than there are elements
pub factors_few : (a : Algebra) (lent map : List ℕ) (d : Result Decomposed Refusal) → (d, map) ≡ decompose_call a lent → (k : ℕ) → d ≡ Ok (Factors k) → k < a.size
factors_few a lent map d e k g =
    let h = decompose_gave a lent map k (rw g at (sym e)) in
    omega (arith, h.1.1.0, (listed_law a (accepted_well_formed a h.0)).few)

-- the calls, lent zeros
module _ (n : ℕ) (arities cells before map lent out : List ℕ) (end : ℕ) (z : Zeros n n (length cells) before lent) where
  pub generate_answered : (ps : List ℕ) (g : Result ℕ Refusal) → (g, map) ≡ generate_call (algebra_of n arities cells) ps before
      → Laid lent 0 (generated_line g map) out end → Laid lent 0 (answer (algebra_of n arities cells) Generate ps) out end
  unfolding answer
  generate_answered ps g e l = rw (← z.zeros, ← e) l

  pub contained_answered : (m : List ℕ) (g : Result ⊤ Refusal) → (g, map) ≡ contained_call (algebra_of n arities cells) m before
      → Laid lent 0 (map_line g map) out end → Laid lent 0 (answer (algebra_of n arities cells) Contained m) out end
  unfolding answer
  contained_answered m g e l = rw (← z.zeros, ← e) l

  pub separate_answered : (v w : ℕ) (g : Result ⊤ Refusal) → (g, map) ≡ separate_call (algebra_of n arities cells) v w before
      → Laid lent 0 (map_line g map) out end → Laid lent 0 (answer (algebra_of n arities cells) (Separate v w) []) out end
  unfolding answer
  separate_answered v w g e l = rw (← z.zeros, ← e) l

-- Decompose, lent zeros
pub factors_fit : (n : ℕ) (arities cells before factors out : List ℕ) (d : Result Decomposed Refusal) → Zeros (most_factor_space n) n (length cells) before out → length factors ≡ length before
    → (d, factors) ≡ decompose_call (algebra_of n arities cells) before → FactorsFit d n factors out
factors_fit n arities cells before factors out d z e g =
    record {
      some = z.fits.some;
      most = z.fits.most;
      line = omega (arith, z.fits.line);
      list = e ∙ ap length z.zeros ∙ length-replicate (most_factor_space n) 0;
      few = λ k h. factors_few (algebra_of n arities cells) before factors d g k h;
    }

pub decompose_answered : (n : ℕ) (arities cells before factors lent out : List ℕ) (end : ℕ) (d : Result Decomposed Refusal) → Zeros (most_factor_space n) n (length cells) before lent
    → (d, factors) ≡ decompose_call (algebra_of n arities cells) before → Laid lent 0 (factors_line n d factors) out end
    → Laid lent 0 (answer (algebra_of n arities cells) Decompose []) out end
unfolding answer
decompose_answered n arities cells before factors lent out end d z e l = rw (← z.zeros, ← e) l

-- what is asked, by its case
pub answered_as : (a : Algebra) (xs lent out : List ℕ) (end : ℕ) (asked kind : Asked) → asked ≡ kind → Laid lent 0 (answer a kind xs) out end
    → Laid lent 0 (answer a asked xs) out end
answered_as a xs lent out end asked kind e l = rw e l
