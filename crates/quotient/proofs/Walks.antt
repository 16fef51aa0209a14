-- Stretches laid one after the other, and the walk over the blocks of a first argument: what holds before the first block, what one
-- block more adds, and that all of them make the table.
use Prim.Native.Nat.{ℕ, zero, suc, ◌+◌, ◌*◌, ◌^◌, ◌≤◌, ◌<◌}
use mathlib.Core.Path.{◌≡◌, refl, sym, ap, ◌∙◌}
use mathlib.Core.List.{List, [], ◌∷◌, ◌++◌, map, append-nil, map-append}
use native.Mathlib.Numerals.{add-one}
use native.Mathlib.Nat.{pow-zero, pow-succ', suc-mul, mul-one, mul-le-mul_right}
use native.Mathlib.Omega.{arith}
use lib.ListN.{length, length-append}
use Rattle.algebra.proofs.Powers.{power_one}
use Rattle.equivalence.specs.Equivalence.{byte}
use Rattle.equivalence.specs.Lists.{up_to, concat}
use Rattle.equivalence.specs.Lent.{laid}
use Rattle.equivalence.proofs.Laying.{laid_nothing, laid_length, laid_laid}
use Rattle.equivalence.proofs.Stretches.{concat_append, stretches}
use Rattle.quotient.specs.InnerTables.{concat_up_to, cell_divided, row_divided, Source, divided, SourceRight, Fits, RowFits}

-- ---- stretches g 0, g 1 and so on, laid from `to` on

pub concat_up_to_none : (g : ℕ → List ℕ) → concat_up_to g 0 ≡ []
unfolding concat_up_to up_to concat
concat_up_to_none g = refl

pub concat_up_to_more : (g : ℕ → List ℕ) (k : ℕ) → concat_up_to g (suc k) ≡ concat_up_to g k ++ g k
unfolding concat_up_to up_to concat
concat_up_to_more g k = rw (map-append g (up_to k) (k ∷ []), concat_append (map g (up_to k)) (g k ∷ []), append-nil (g k))

-- k stretches are laid, the next begins at `at`, and the lent bytes are as many as they were
pub record TablesLaid (g : ℕ → List ℕ) (lent : List ℕ) (to : ℕ) (out : List ℕ) (k at : ℕ) : Type 0 where
  pub place : at ≡ to + length (concat_up_to g k)
  pub long : length out ≡ length lent
  pub laid : out ≡ laid lent to (concat_up_to g k)

pub tables_laid_start : (g : ℕ → List ℕ) (lent : List ℕ) (to : ℕ) → TablesLaid g lent to lent 0 to
tables_laid_start g lent to = record {
  place = rw (concat_up_to_none g) (omega arith);
  long = refl;
  laid = rw (concat_up_to_none g) (sym (laid_nothing lent to));
}

pub tables_laid_more : {g : ℕ → List ℕ} {lent : List ℕ} {to : ℕ} {out : List ℕ} {k at : ℕ} (out' : List ℕ) → TablesLaid g lent to out k at → at + length (g k) ≤ length lent
    → out' ≡ laid out at (g k) → TablesLaid g lent to out' (k + 1) (at + length (g k))
tables_laid_more {g} {lent} {to} {out} {k} {at} out' s h e =
    let more : concat_up_to g (k + 1) ≡ concat_up_to g k ++ g k = ap (concat_up_to g) (add-one k) ∙ concat_up_to_more g k in
    record {
      place = rw more (omega (arith, s.place, length-append (concat_up_to g k) (g k)));
      long = ap length e ∙ laid_length out at (g k) (omega (arith, s.long)) ∙ s.long;
      laid = rw more (e ∙ rw (s.laid, s.place) (laid_laid lent to (concat_up_to g k) (g k) (omega (arith, s.place))));
    }

-- ---- the walk over the blocks of a first argument

pub divided_long : (q : Source) (s from : ℕ) → length (divided q s from) ≡ length q.names ^ s
unfolding divided concat_up_to
divided_long q zero from = sym (pow-zero (length q.names))
divided_long q (suc s) from =
    stretches (λ k. divided q s (from + byte q.names k * q.size ^ s)) (length q.names ^ s) (λ k. divided_long q s (from + byte q.names k * q.size ^ s)) (length q.names)
    ∙ sym (pow-succ' (length q.names) s)

-- the table with block k as its first argument
abbrev pub inner : Source → ℕ → ℕ → ℕ → List ℕ
inner q s from k = divided q s (from + byte q.names k * q.size ^ s)

-- a table of arity s + 1 whose first argument has gone through k blocks: w cells of the source and v of the target belong to each
pub record Walked (q : Source) (s w v from : ℕ) (lent : List ℕ) (to : ℕ) (out : List ℕ) (k at : ℕ) : Type 0 where
  pub sound : SourceRight q
  pub fits : Fits q (suc s) from lent to
  pub wide : w ≡ q.size ^ s
  pub tall : v ≡ length q.names ^ s
  pub upto : k ≤ length q.names
  pub laid : TablesLaid (inner q s from) lent to out k at

pub walked_start : {q : Source} {s w v from : ℕ} {lent : List ℕ} {to at : ℕ} → SourceRight q → Fits q (suc s) from lent to → w ≡ q.size ^ s → v ≡ length q.names ^ s → at ≡ to
    → Walked q s w v from lent to lent 0 at
walked_start {q} {s} {w} {v} {from} {lent} {to} ok f e d h =
    rw h record { sound = ok; fits = f; wide = e; tall = d; upto = omega arith; laid = tables_laid_start (inner q s from) lent to }

module _ {q : Source} {s w v from : ℕ} {lent : List ℕ} {to : ℕ} {out : List ℕ} {k at : ℕ} (r : Walked q s w v from lent to out k at) where
  -- the next inner table lies within the cells, and its quotient's within the lent bytes
  pub walked_fits : (start : ℕ) → k < length q.names → start ≡ from + byte q.names k * w → Fits q s start out at
  unfolding concat_up_to
  walked_fits start l e =
      let long : length (concat (map (inner q s from) (up_to k))) ≡ k * length q.names ^ s =
      stretches (inner q s from) (length q.names ^ s) (λ i. divided_long q s (from + byte q.names i * q.size ^ s)) k in
      let i : start ≡ from + byte q.names k * q.size ^ s = e ∙ ap (λ (z : ℕ). from + byte q.names k * z) r.wide in
      record {
        source = omega (arith, r.fits.source, pow-succ' q.size s, suc-mul (byte q.names k) (q.size ^ s), mul-le-mul_right (q.size ^ s) (r.sound.first k l));
        target = omega (arith, r.fits.target, r.laid.place, r.laid.long, pow-succ' (length q.names) s, suc-mul k (length q.names ^ s), mul-le-mul_right (length q.names ^ s) l);
      }

  pub walked_more : (start : ℕ) (out' : List ℕ) {at' : ℕ} → k < length q.names → start ≡ from + byte q.names k * w → out' ≡ laid out at (divided q s start) → at' ≡ at + v
      → Walked q s w v from lent to out' (k + 1) at'
  walked_more start out' l e h next =
      let long : length (inner q s from k) ≡ v = divided_long q s (from + byte q.names k * q.size ^ s) ∙ sym r.tall in
      let i : start ≡ from + byte q.names k * q.size ^ s = e ∙ ap (λ (z : ℕ). from + byte q.names k * z) r.wide in
      rw next record {
        sound = r.sound;
        fits = r.fits;
        wide = r.wide;
        tall = r.tall;
        upto = omega arith;
        laid = rw (← long) (tables_laid_more out' r.laid (omega (arith, long, r.tall, (walked_fits start l e).target, r.laid.long)) (h ∙ ap (λ (z : ℕ). laid out at (divided q s z)) i));
      }

  pub walked_all : length q.names ≤ k → out ≡ laid lent to (divided q (suc s) from)
  unfolding divided
  walked_all l = let e : k ≡ length q.names = omega (arith, r.upto) in r.laid.laid ∙ ap (λ (i : ℕ). laid lent to (concat_up_to (inner q s from) i)) e

-- ---- a row

-- a row whose argument has gone through k blocks
pub record RowWalked (cells numbers names : List ℕ) (from : ℕ) (lent : List ℕ) (to : ℕ) (out : List ℕ) (k at : ℕ) : Type 0 where
  pub fits : RowFits cells numbers names from lent to
  pub upto : k ≤ length names
  pub place : at ≡ to + k
  pub laid : TablesLaid (λ i. cell_divided cells numbers (from + byte names i)) lent to out k at

pub row_start_lem : {cells numbers names : List ℕ} {from : ℕ} {lent : List ℕ} {to at : ℕ} → RowFits cells numbers names from lent to → at ≡ to
    → RowWalked cells numbers names from lent to lent 0 at
row_start_lem {cells} {numbers} {names} {from} {lent} {to} f h =
    rw h record { fits = f; upto = omega arith; place = omega arith; laid = tables_laid_start (λ i. cell_divided cells numbers (from + byte names i)) lent to }

module _ {cells numbers names : List ℕ} {from : ℕ} {lent : List ℕ} {to : ℕ} {out : List ℕ} {k at : ℕ}
    (r : RowWalked cells numbers names from lent to out k at) where
  pub row_more : (out' : List ℕ) {at' : ℕ} → k < length names → out' ≡ laid out at (cell_divided cells numbers (from + byte names k)) → at' ≡ at + 1
      → RowWalked cells numbers names from lent to out' (k + 1) at'
  row_more out' l e next = rw next record {
    fits = r.fits;
    upto = omega arith;
    place = omega (arith, r.place);
    laid = tables_laid_more out' r.laid (omega (arith, r.fits.target, r.place)) e;
  }

  pub row_all : length names ≤ k → out ≡ laid lent to (row_divided cells numbers names from)
  row_all l =
      r.laid.laid
      ∙ ap (λ (i : ℕ). laid lent to (concat_up_to (λ j. cell_divided cells numbers (from + byte names j)) i)) (omega (arith, r.upto))

-- a row is a table of arity 1
row_divided_lem : (q : Source) (from : ℕ) → row_divided q.cells q.numbers q.names from ≡ divided q 1 from
unfolding divided
row_divided_lem q from = simp (pow-zero, mul-one)

pub laid_row : (q : Source) (from : ℕ) (lent : List ℕ) (to : ℕ) (out : List ℕ) → out ≡ laid lent to (row_divided q.cells q.numbers q.names from)
    → out ≡ laid lent to (divided q 1 from)
laid_row q from lent to out e = e ∙ ap (laid lent to) (row_divided_lem q from)

pub fits_row : {q : Source} {from : ℕ} {lent : List ℕ} {to : ℕ} → SourceRight q → Fits q 1 from lent to → RowFits q.cells q.numbers q.names from lent to
fits_row {q} {from} ok f =
    let below : (k : ℕ) → k < length q.names → from + byte q.names k < length q.cells = λ k l. omega (arith, f.source, power_one q.size, ok.first k l) in
    record {
      cell = below;
      number = λ k l. omega (arith, ok.cell (from + byte q.names k) (below k l), ok.numbers);
      target = omega (arith, f.target, power_one (length q.names));
    }

-- a cell is a table of arity 0
pub fits_cell : {q : Source} {from : ℕ} {lent : List ℕ} {to : ℕ} → SourceRight q → Fits q 0 from lent to
    → (from < length q.cells) × ((byte q.cells from < length q.numbers) × (to < length lent))
fits_cell {q} {from} ok f =
    let l : from < length q.cells = omega (arith, f.source, pow-zero q.size) in
    (l, (omega (arith, ok.cell from l, ok.numbers), omega (arith, f.target, pow-zero (length q.names))))

-- ---- a table of an arity that is known

module _ {q : Source} {s from : ℕ} {lent : List ℕ} {to : ℕ} where
  pub fits_of_none : s ≡ 0 → SourceRight q → Fits q s from lent to → (from < length q.cells) × ((byte q.cells from < length q.numbers) × (to < length lent))
  fits_of_none e ok f = fits_cell ok (rw e at f)

  pub fits_of_one : s ≡ 1 → SourceRight q → Fits q s from lent to → RowFits q.cells q.numbers q.names from lent to
  fits_of_one e ok f = fits_row ok (rw e at f)

  pub fits_of : (k : ℕ) → s ≡ k → Fits q s from lent to → Fits q k from lent to
  fits_of k e f = rw e at f

module _ (q : Source) (s from : ℕ) (lent : List ℕ) (to : ℕ) (out : List ℕ) where
  pub laid_of_none : s ≡ 0 → out ≡ laid lent to (cell_divided q.cells q.numbers from) → out ≡ laid lent to (divided q s from)
  unfolding divided
  laid_of_none e h = rw e h

  pub laid_of_one : s ≡ 1 → out ≡ laid lent to (row_divided q.cells q.numbers q.names from) → out ≡ laid lent to (divided q s from)
  laid_of_one e h = rw e (laid_row q from lent to out h)

  pub laid_of : (k : ℕ) → s ≡ k → out ≡ laid lent to (divided q k from) → out ≡ laid lent to (divided q s from)
  laid_of k e h = rw e h
