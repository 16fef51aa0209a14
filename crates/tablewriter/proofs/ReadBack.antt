-- What is written of an algebra is read back: words that stand in a text, and tables.
use Prim.Native.Nat.{ℕ, zero, suc, ◌+◌, ◌*◌, ◌^◌, ◌≤◌, ◌<◌}
use mathlib.Core.Bool.{true}
use mathlib.Core.List.{List, [], ◌∷◌, ◌++◌}
use mathlib.Core.Path.{◌≡◌, refl, ap, ◌∙◌}
use native.Mathlib.Nat.{add-zero, one-mul, suc-mul, pow-zero, pow-succ'}
use native.Mathlib.Omega.{arith}
use borrow.Author.Tests.{eq-eqb}
use lib.ListN.{length, get_or, take, drop, length-append, length-drop}
use lib.Seq.{get_or-append_seam, append_snoc, get_or-drop, take-add}
use Rattle.writer.specs.InnerRoom.{NumbersBelow}
use Rattle.numberreader.specs.Reading.{ascii, found, Reader, byte_at, ◌>>=◌, ◌>>◌, done, gap, begins}
use Rattle.numberreader.specs.Numbers.{digit_at, number}
use Rattle.tablereader.specs.Tables.{cell, parted, bracket, table}
use Rattle.numberreader.proofs.Readers.{then_found, mark_found}
use Rattle.numberreader.proofs.Digits.{digit_below, digit_above}
use Rattle.tablereader.proofs.Storing.{bracket_closed}
use Rattle.writer.specs.Numerals.{decimal}
use Rattle.writer.specs.Lines.{gap_bytes}
use Rattle.writer.proofs.Numerals.{first_byte, later_bytes, stands_number}
use Rattle.tablewriter.specs.Texts.{parted_texts, table_text}

-- of two words that stand one behind the other, the first
pub begins_left : (text u v : List ℕ) (at : ℕ) → begins text at (u ++ v) ≡ true → begins text at u ≡ true
unfolding begins
begins_left text [] v at e = refl
begins_left text (b ∷ u) v at e =
    simp (eq-eqb (byte_at text at) b (first_byte text at b (u ++ v) e), begins_left text u v (at + 1) (later_bytes text at b (u ++ v) e))

-- and the second
pub begins_right : (text u v : List ℕ) (at : ℕ) → begins text at (u ++ v) ≡ true → begins text (at + length u) v ≡ true
begins_right text [] v at e = rw add-zero e
begins_right text (b ∷ u) v at e =
    let s : at + suc (length u) ≡ at + 1 + length u = omega arith in
    rw s (begins_right text u v (at + 1) (later_bytes text at b (u ++ v) e))

-- a word stands where it was put
pub begins_here : (pre word post : List ℕ) → begins (pre ++ (word ++ post)) (length pre) word ≡ true
unfolding begins
begins_here pre [] post = refl
begins_here pre (b ∷ word) post =
    let s : length (pre ++ (b ∷ [])) ≡ length pre + 1 = length-append pre (b ∷ []) in
    let later : begins (pre ++ (b ∷ (word ++ post))) (length pre + 1) word ≡ true = rw (append_snoc pre b (word ++ post), s) at (begins_here (pre ++ (b ∷ [])) word post) in
    simp (eq-eqb (byte_at (pre ++ (b ∷ (word ++ post))) (length pre)) b (get_or-append_seam pre b (word ++ post) 0), later)

-- a word stands there, and no digit behind it
pub record StandsApart (text : List ℕ) (at : ℕ) (word : List ℕ) : Type 0 where
  pub here : begins text at word ≡ true
  pub end : 9 < digit_at text (at + length word)

-- what is written between two items is read as a gap
pub gap_back : (text : List ℕ) (at : ℕ) → begins text at gap_bytes ≡ true → gap text at ≡ found tt (at + length gap_bytes)
unfolding gap gap_bytes ascii
gap_back text at e = mark_found " " text at (first_byte text at 32 [] e)

-- one word, a gap and another word
module _ (text u v : List ℕ) (at : ℕ) where
  pub gapped_length : at + length u + length gap_bytes + length v ≡ at + length (u ++ (gap_bytes ++ v))
  gapped_length = omega (arith, length-append u (gap_bytes ++ v), length-append gap_bytes v)

  pub gap_between : begins text at (u ++ (gap_bytes ++ v)) ≡ true → gap text (at + length u) ≡ found tt (at + length u + length gap_bytes)
  gap_between e = gap_back text (at + length u) (begins_left text gap_bytes v (at + length u) (begins_right text u (gap_bytes ++ v) at e))

  -- the first word stands apart
  pub before_gap : begins text at (u ++ (gap_bytes ++ v)) ≡ true → StandsApart text at u
  unfolding gap_bytes ascii
  before_gap e =
      let b : byte_at text (at + length u) ≡ 32 = first_byte text (at + length u) 32 v (begins_right text u (32 ∷ v) at e) in
      record { here = begins_left text u (32 ∷ v) at e; end = omega (arith, digit_below text (at + length u) (omega arith)) }

  -- and where no digit stands behind both, so does the second
  pub behind_gap : StandsApart text at (u ++ (gap_bytes ++ v)) → StandsApart text (at + length u + length gap_bytes) v
  behind_gap a =
      record {
        here = begins_right text gap_bytes v (at + length u) (begins_right text u (gap_bytes ++ v) at a.here);
        end = rw gapped_length a.end;
      }

-- before a closing bracket a word stands apart
pub before_close : (text word rest : List ℕ) (at : ℕ) → begins text at (word ++ (93 ∷ rest)) ≡ true → StandsApart text at word
before_close text word rest at e =
    let b : byte_at text (at + length word) ≡ 93 = first_byte text (at + length word) 93 rest (begins_right text word (93 ∷ rest) at e) in
    record { here = begins_left text word (93 ∷ rest) at e; end = omega (arith, digit_above text (at + length word) (omega arith)) }

pub below_drop : (n k : ℕ) (l : List ℕ) → NumbersBelow n l → NumbersBelow n (drop k l)
below_drop n k l h i j = rw (get_or-drop k l i 0) (h (k + i) (omega (arith, length-drop k l)))

-- what is written of cells that are bytes, with no digit behind it, is read as the first w of them
abbrev pub ReadsBack : List ℕ → Reader (List ℕ) → (List ℕ → List ℕ) → ℕ → Type 0
ReadsBack text item write w =
    (at : ℕ) (cells : List ℕ) → w ≤ length cells → NumbersBelow 256 cells → StandsApart text at (write cells) → item text at ≡ found (take w cells) (at + length (write cells))

-- one cell
cell_back : (text : List ℕ) → ReadsBack text cell (λ cells. decimal (get_or cells 0 0)) 1
unfolding cell
cell_back text at [] w h a = absurd (omega arith)
cell_back text at (v ∷ cells) w h a =
    then_found number (λ v. done (v ∷ [])) text at v (at + length (decimal v)) (stands_number text at v (omega (arith, h 0 (omega arith))) a.here a.end)

-- one list, a gap, and another list
gapped_lists : (first second : Reader (List ℕ)) (text : List ℕ) (at : ℕ) (xs ys : List ℕ) (mid next end : ℕ) → first text at ≡ found xs mid → gap text mid ≡ found tt next
    → second text next ≡ found ys end → ◌>>=◌ first (λ xs. ◌>>◌ gap (◌>>=◌ second (λ ys. done (xs ++ ys)))) text at ≡ found (xs ++ ys) end
gapped_lists first second text at xs ys mid next end e g f =
    then_found first (λ xs. ◌>>◌ gap (◌>>=◌ second (λ ys. done (xs ++ ys)))) text at xs mid e
    ∙ then_found gap (λ _. ◌>>=◌ second (λ ys. done (xs ++ ys))) text mid tt next g
    ∙ then_found second (λ ys. done (xs ++ ys)) text next ys end f

module _ (text : List ℕ) (item : Reader (List ℕ)) (write : List ℕ → List ℕ) (w : ℕ) (one : ReadsBack text item write w) where
  -- items parted by gaps
  parted_back : (k : ℕ) → ReadsBack text (parted item (suc k)) (parted_texts write w (suc k)) (suc k * w)
  unfolding parted parted_texts
  parted_back zero at cells l h a = rw one-mul (one at cells (rw one-mul at l) h a)
  parted_back (suc k) at cells l h a =
      let u = write cells in
      let v = parted_texts write w (suc k) (drop w cells) in
      let sum : suc (suc k) * w ≡ w + suc k * w = suc-mul (suc k) w ∙ omega arith in
      let mid = at + length u in
      let next = mid + length gap_bytes in
      let first = one at cells (omega arith) h (before_gap text u v at a.here) in
      let others = parted_back k next (drop w cells) (omega (arith, length-drop w cells)) (below_drop 256 w cells h) (behind_gap text u v at a) in
      rw (sum, take-add w (suc k * w) cells, ← gapped_length text u v at)
      (gapped_lists item (parted item (suc k)) text at (take w cells) (take (suc k * w) (drop w cells)) mid next (next + length v)
      first (gap_between text u v at a.here) others)

  -- a bracket of items
  bracket_back : (k : ℕ) → 0 < k → ReadsBack text (bracket item k) (λ cells. ascii "[" ++ (parted_texts write w k cells ++ ascii "]")) (k * w)
  unfolding ascii
  bracket_back zero p at cells l h a = absurd (omega arith)
  bracket_back (suc k) p at cells l h a =
      let v = parted_texts write w (suc k) cells in
      let inner = later_bytes text at 91 (v ++ (93 ∷ [])) a.here in
      let next = at + 1 + length v in
      let items = parted_back k (at + 1) cells l h (before_close text v [] (at + 1) inner) in
      let closing = first_byte text next 93 [] (begins_right text v (93 ∷ []) (at + 1) inner) in
      bracket_closed item (suc k) text at (first_byte text at 91 (v ++ (93 ∷ [])) a.here) (take (suc k * w) cells) next items closing
      ∙ ap (λ (end : ℕ). found (take (suc k * w) cells) end) (omega (arith, length-append v (93 ∷ [])))

-- a table
pub table_back : (text : List ℕ) (n : ℕ) → 0 < n → (s : ℕ) → ReadsBack text (table n s) (table_text n s) (n ^ s)
unfolding table table_text
table_back text n p zero = rw (pow-zero n) (cell_back text)
table_back text n p (suc s) = rw (pow-succ' n s) (bracket_back text (table n s) (table_text n s) (n ^ s) (table_back text n p s) n p)
