-- The walk over all operations: what holds before the first, and what one operation more adds.
use Prim.Native.Nat.{ℕ, zero, suc, ◌+◌, ◌^◌, ◌≤◌, ◌<◌}
use mathlib.Core.Path.{◌≡◌, refl, sym, ap, ◌∙◌}
use mathlib.Core.List.{List, [], ◌∷◌}
use native.Mathlib.Numerals.{add-one}
use native.Mathlib.Omega.{arith}
use lib.ListN.{length, get_or, take, length-append}
use Rattle.algebra.specs.Algebra.{cell_count}
use Rattle.quotient.specs.InnerTables.{concat_up_to, Source, divided, SourceRight, Fits, divided_at, AllFit}
use Rattle.equivalence.specs.Lent.{laid}
use Rattle.quotient.proofs.Walks.{concat_up_to_none, concat_up_to_more, divided_long, TablesLaid, tables_laid_start, tables_laid_more}

pub cell_count_none : (n : ℕ) (arities : List ℕ) → cell_count n (take 0 arities) ≡ 0
unfolding cell_count
cell_count_none n [] = refl
cell_count_none n (s ∷ rest) = refl

pub cell_count_more : (n : ℕ) (arities : List ℕ) (j : ℕ) → j < length arities → cell_count n (take (suc j) arities) ≡ cell_count n (take j arities) + n ^ get_or arities j 0
unfolding cell_count
cell_count_more n [] j l = absurd (omega arith)
cell_count_more n (s ∷ rest) zero l = omega arith
cell_count_more n (s ∷ rest) (suc j) l = omega (arith, cell_count_more n rest j (omega arith))

pub cell_count_part : (n : ℕ) (arities : List ℕ) (j : ℕ) → cell_count n (take j arities) ≤ cell_count n arities
unfolding cell_count
cell_count_part n [] zero = omega arith
cell_count_part n [] (suc j) = omega arith
cell_count_part n (s ∷ rest) zero = omega arith
cell_count_part n (s ∷ rest) (suc j) = omega (arith, cell_count_part n rest j)

concat_up_to_count : (q : Source) (arities : List ℕ) (j : ℕ) → j ≤ length arities → length (concat_up_to (divided_at q arities) j) ≡ cell_count (length q.names) (take j arities)
concat_up_to_count q arities zero l = ap length (concat_up_to_none (divided_at q arities)) ∙ sym (cell_count_none (length q.names) arities)
concat_up_to_count q arities (suc j) l =
    rw (concat_up_to_more (divided_at q arities) j, length-append (concat_up_to (divided_at q arities) j) (divided_at q arities j))
    (omega (arith, concat_up_to_count q arities j (omega arith), divided_long q (get_or arities j 0) (cell_count q.size (take j arities)), cell_count_more (length q.names) arities j l))

-- the first j operations are divided: the next one's table begins at `from`, and its quotient's at `to`
pub record Divided (q : Source) (arities lent out : List ℕ) (j from to : ℕ) : Type 0 where
  pub sound : SourceRight q
  pub fits : AllFit q arities lent
  pub upto : j ≤ length arities
  pub start : from ≡ cell_count q.size (take j arities)
  pub laid : TablesLaid (divided_at q arities) lent 0 out j to

pub divided_start : {q : Source} {arities lent : List ℕ} → SourceRight q → AllFit q arities lent → Divided q arities lent lent 0 0 0
divided_start {q} {arities} {lent} ok f = record { sound = ok; fits = f; upto = omega arith; start = sym (cell_count_none q.size arities); laid = tables_laid_start (divided_at q arities) lent 0 }

module _ {q : Source} {arities lent out : List ℕ} {j from to : ℕ} (r : Divided q arities lent out j from to) (l : j < length arities) where
  pub divided_fits : Fits q (get_or arities j 0) from out to
  divided_fits = record {
    source = omega (arith, r.start, r.fits.source, cell_count_more q.size arities j l, cell_count_part q.size arities (suc j));
    target = let b = length q.names in
        omega (arith, r.laid.place, r.laid.long, concat_up_to_count q arities j r.upto, r.fits.target, cell_count_more b arities j l, cell_count_part b arities (suc j));
  }

  pub divided_more : (out' : List ℕ) (w v : ℕ) → out' ≡ laid out to (divided q (get_or arities j 0) from) → w ≡ q.size ^ get_or arities j 0 → v ≡ length q.names ^ get_or arities j 0
      → Divided q arities lent out' (j + 1) (from + w) (to + v)
  divided_more out' w v e d h =
      let long : length (divided_at q arities j) ≡ v = divided_long q (get_or arities j 0) (cell_count q.size (take j arities)) ∙ sym h in
      record {
        sound = r.sound;
        fits = r.fits;
        upto = omega arith;
        start = rw (add-one j, cell_count_more q.size arities j l) (omega (arith, r.start));
        laid = rw (← long)
            (tables_laid_more out' r.laid (omega (arith, long, divided_fits.target, r.laid.long)) (e ∙ ap (λ (z : ℕ). laid out to (divided q (get_or arities j 0) z)) r.start));
      }

pub divided_all : {q : Source} {arities lent out : List ℕ} {j from to : ℕ} → Divided q arities lent out j from to → length arities ≤ j
    → out ≡ laid lent 0 (concat_up_to (divided_at q arities) (length arities))
divided_all {q} {arities} {lent} r l = r.laid.laid ∙ ap (λ (i : ℕ). laid lent 0 (concat_up_to (divided_at q arities) i)) (omega (arith, r.upto))
