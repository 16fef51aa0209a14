-- Readers never go back: what is found ends no earlier than it begins, and a line of the algebra or a request ends after it begins.
use Prim.Native.Nat.{ℕ, zero, suc, ◌+◌, ◌≤◌, ◌<◌}
use Prim.Native.Char.{Char, code}
use mathlib.Core.Bool.{Bool, true, false}
use mathlib.Core.List.{List, [], ◌∷◌, ◌++◌}
use mathlib.Core.Path.{subst}
use native.Mathlib.Omega.{arith}
use lib.Dec.{eqb, ltb}
use lib.ListN.{length}
use Rattle.equivalence.proofs.Tests.{pick}
use Rattle.equivalence.specs.Refusal.{lowest}
use Rattle.equivalence.specs.declared.Refusal.{Refusal}
use Rattle.std.specs.Prelude.{⊤, Result, Ok, Err}
use Rattle.algebra.specs.Algebra.{Algebra}
use Rattle.numberreader.specs.Reading.{ascii, Read, found, fault, Reader, byte_at, onward, ◌>>=◌, ◌>>◌, done, failed, mark, gap, branch, behind, begins, opened}
use Rattle.numberreader.specs.Numbers.{digit_at, three_at, number}
use Rattle.tablereader.specs.Tables.{cell, parted, bracket, table, pair, items_up_to, items}
use Rattle.reader.specs.Lines.{Progress, defined, refused, close, spaced_number, tested, arity, last_table, cell_test, operation_tests, with_operation}
use Rattle.reader.specs.Lines.{after_table, after_arity, operation, request_of, separating, items_to_end, asks_with, two_numbers, request}
use Rattle.reader.specs.InnerPromises.{Requested}
use Rattle.reader.specs.declared.requests.Asked.{Asked}
use Rattle.reader.specs.declared.requests.Asked.TheVariants.{Generate, Contained, Decompose, Quotient}
use Rattle.reader.specs.declared.requests.RequestLine.{RequestLine}

-- where something is found, it is found k bytes further at least
abbrev pub Past : {A : Type 0} → ℕ → ℕ → Read A → Type 0
Past k at (found a next) = at + k ≤ next
Past k at fault = Unit {0}

-- a reader goes k bytes forward at least
abbrev Forward : {A : Type 0} → ℕ → Reader A → Type 0
Forward k r = (text : List ℕ) (at : ℕ) → Past k at (r text at)

past_later : {A : Type 0} (i j k at next : ℕ) (r : Read A) → at + j ≤ next → i ≤ j + k → Past k next r → Past i at r
past_later i j k at next (found a end) p l h = omega arith
past_later i j k at next fault p l h = tt

-- one reader after another, neither of which goes back
onward_past : {A B : Type 0} (at : ℕ) (r : Read A) (f : A → ℕ → Read B) → Past 0 at r → ((a : A) (next : ℕ) → Past 0 next (f a next)) → Past 0 at (onward f r)
unfolding onward
onward_past at (found a next) f p q = past_later 0 0 0 at next (f a next) p (omega arith) (q a next)
onward_past at fault f p q = tt

both_forward : {A B : Type 0} (m : Reader A) (f : A → Reader B) → Forward 0 m → ((a : A) → Forward 0 (f a)) → Forward 0 (◌>>=◌ m f)
unfolding ◌>>=◌
both_forward m f p q text at = onward_past at (m text at) (λ a after. f a text after) (p text at) (λ a next. q a text next)

done_forward : {A : Type 0} (a : A) → Forward 0 (done a)
done_forward a text at = omega arith

choice_past : {A : Type 0} (k at : ℕ) (b : Bool) (r s : Read A) → Past k at r → Past k at s → Past k at (pick b r s)
choice_past k at true r s p q = p
choice_past k at false r s p q = q

mark_forward : (c : Char) → Forward 0 (mark c)
unfolding mark
mark_forward c text at = choice_past 0 at (eqb (byte_at text at) (code c)) (found tt (at + 1)) fault (omega arith) tt

opened_forward : {A : Type 0} (word : List ℕ) (body other : Reader A) (k : ℕ) → k ≤ length word → Forward 0 body → Forward k other → Forward k (opened word body other)
unfolding opened
opened_forward word body other k l p q text at =
    choice_past k at (begins text at word) (body text (at + length word)) (other text at)
    (past_later k (length word) 0 at (at + length word) (body text (at + length word)) (omega arith) (omega arith) (p text (at + length word))) (q text at)

behind_past : {A B : Type 0} (at : ℕ) (r : Read A) (body : ℕ → Read B) (other : Read B) → Past 0 at r → ((next : ℕ) → Past 0 next (body next)) → Past 0 at other
    → Past 0 at (branch body other r)
unfolding branch
behind_past at (found a next) body other p q o = past_later 0 0 0 at next (body next) p (omega arith) (q next)
behind_past at fault body other p q o = o

behind_forward : {A B : Type 0} (first : Reader A) (body other : Reader B) → Forward 0 first → Forward 0 body → Forward 0 other → Forward 0 (behind first body other)
unfolding behind
behind_forward first body other p q o text at = behind_past at (first text at) (body text) (other text at) (p text at) (q text) (o text at)

le_self_add : (at k : ℕ) → at + 0 ≤ at + k
le_self_add at k = omega arith

number_forward : Forward 0 number
unfolding number
number_forward text at =
    choice_past 0 at (ltb 9 (digit_at text at)) _ _ tt
    (choice_past 0 at (eqb (digit_at text at) 0) _ _ (le_self_add at 1)
    (choice_past 0 at (ltb 9 (digit_at text (at + 1))) _ _ (le_self_add at 1)
    (choice_past 0 at (ltb 9 (digit_at text (at + 2))) _ _ (le_self_add at 2)
    (choice_past 0 at (ltb 255 (three_at text at)) _ _ tt (le_self_add at 3)))))

-- items and tables
cell_forward : Forward 0 cell
unfolding cell
cell_forward = both_forward number (λ v. done (v ∷ [])) number_forward (λ v. done_forward (v ∷ []))

-- a byte, and then a reader
marked_forward : {A : Type 0} (c : Char) (next : Reader A) → Forward 0 next → Forward 0 (◌>>◌ (mark c) next)
marked_forward c next p = both_forward (mark c) (λ _. next) (mark_forward c) (λ _. p)

-- a gap, and then a reader
gap_forward : Forward 0 gap
unfolding gap
gap_forward = mark_forward " "

gapped_forward : {A : Type 0} (next : Reader A) → Forward 0 next → Forward 0 (◌>>◌ gap next)
gapped_forward next p = both_forward gap (λ _. next) gap_forward (λ _. p)

parted_forward : (item : Reader (List ℕ)) → Forward 0 item → (k : ℕ) → Forward 0 (parted item k)
unfolding parted
parted_forward item p zero = λ text at. tt
parted_forward item p (suc zero) = p
parted_forward item p (suc (suc k)) =
    both_forward item (λ xs. ◌>>◌ gap (◌>>=◌ (parted item (suc k)) (λ ys. done (xs ++ ys)))) p
    (λ xs. gapped_forward (◌>>=◌ (parted item (suc k)) (λ ys. done (xs ++ ys)))
    (both_forward (parted item (suc k)) (λ ys. done (xs ++ ys)) (parted_forward item p (suc k)) (λ ys. done_forward (xs ++ ys))))

bracket_forward : (item : Reader (List ℕ)) → Forward 0 item → (k : ℕ) → Forward 0 (bracket item k)
unfolding bracket
bracket_forward item p k =
    marked_forward "[" (◌>>=◌ (parted item k) (λ xs. ◌>>◌ (mark "]") (done xs)))
    (both_forward (parted item k) (λ xs. ◌>>◌ (mark "]") (done xs)) (parted_forward item p k) (λ xs. marked_forward "]" (done xs) (done_forward xs)))

table_forward : (n s : ℕ) → Forward 0 (table n s)
unfolding table
table_forward n zero = cell_forward
table_forward n (suc s) = bracket_forward (table n s) (table_forward n s) n

pair_forward : Forward 0 pair
unfolding pair
pair_forward = bracket_forward cell cell_forward 2

items_up_to_forward : (item : Reader (List ℕ)) → Forward 0 item → (k : ℕ) → Forward 0 (items_up_to k item)
unfolding items_up_to
items_up_to_forward item p zero = done_forward {A = List ℕ} []
items_up_to_forward item p (suc k) =
    behind_forward gap (◌>>=◌ item (λ xs. ◌>>=◌ (items_up_to k item) (λ ys. done (xs ++ ys)))) (done []) gap_forward
    (both_forward item (λ xs. ◌>>=◌ (items_up_to k item) (λ ys. done (xs ++ ys))) p
    (λ xs. both_forward (items_up_to k item) (λ ys. done (xs ++ ys)) (items_up_to_forward item p k) (λ ys. done_forward (xs ++ ys))))
    (done_forward {A = List ℕ} [])

items_forward : (item : Reader (List ℕ)) → Forward 0 item → Forward 0 (items item)
unfolding items
items_forward item p text at = items_up_to_forward item p (length text) text at

-- lines
close_forward : Forward 0 close
unfolding close
close_forward = marked_forward "]" (mark "\n") (mark_forward "\n")

-- the end of the line, and then a reader
closed_forward : {A : Type 0} (next : Reader A) → Forward 0 next → Forward 0 (◌>>◌ close next)
closed_forward next p = both_forward close (λ _. next) close_forward (λ _. p)

spaced_number_forward : Forward 0 spaced_number
unfolding spaced_number
spaced_number_forward = gapped_forward number number_forward

arity_forward : Forward 0 arity
unfolding arity
arity_forward =
    both_forward spaced_number (λ s. ◌>>◌ gap (done s)) spaced_number_forward (λ s. gapped_forward (done s) (done_forward s))

last_table_forward : (n s : ℕ) → Forward 0 (last_table n s)
unfolding last_table
last_table_forward n s = both_forward (table n s) (λ cells. ◌>>◌ close (done cells)) (table_forward n s) (λ cells. closed_forward (done cells) (done_forward cells))

items_to_end_forward : (item : Reader (List ℕ)) → Forward 0 item → Forward 0 (items_to_end item)
unfolding items_to_end
items_to_end_forward item p = both_forward (items item) (λ xs. ◌>>◌ close (done xs)) (items_forward item p) (λ xs. closed_forward (done xs) (done_forward xs))

asks_forward : (asked : Asked) (item : Reader (List ℕ)) → Forward 0 item → Forward 0 (asks_with asked item)
unfolding asks_with
asks_forward asked item p =
    both_forward (items_to_end item) (λ xs. done (request_of asked xs)) (items_to_end_forward item p) (λ xs. done_forward (request_of asked xs))

two_numbers_forward : Forward 0 two_numbers
unfolding two_numbers
two_numbers_forward =
    both_forward spaced_number (λ v. ◌>>=◌ spaced_number (λ w. ◌>>◌ close (done (separating v w)))) spaced_number_forward
    (λ v. both_forward spaced_number (λ w. ◌>>◌ close (done (separating v w))) spaced_number_forward
    (λ w. closed_forward (done (separating v w)) (done_forward (separating v w))))

-- a request goes forward
pub request_forward : Forward 1 request
unfolding request ascii
request_forward =
    opened_forward (ascii "[generate") (asks_with Generate pair) _ 1 (omega arith) (asks_forward Generate pair pair_forward)
    (opened_forward (ascii "[contained") (asks_with Contained cell) _ 1 (omega arith) (asks_forward Contained cell cell_forward)
    (opened_forward (ascii "[separate") two_numbers _ 1 (omega arith) two_numbers_forward
    (opened_forward (ascii "[decompose]\n") (done (request_of Decompose [])) _ 1 (omega arith) (done_forward (request_of Decompose []))
    (opened_forward (ascii "[quotient") (asks_with Quotient cell) failed 1 (omega arith) (asks_forward Quotient cell cell_forward) (λ text at. tt)))))

-- so a request line that was read takes a byte at least
pub requested_past : (text : List ℕ) (at : ℕ) (lent : List ℕ) (put : ℕ) (after : List ℕ) (r : RequestLine) → Requested text at lent put (request text at) after r → at < r.next
requested_past text at lent put after r q =
    let p : at + 1 ≤ r.next = subst (λ d. Past 1 at d) q.value (request_forward text at) in
    omega arith

-- a line of the algebra goes forward
abbrev pub Further : ℕ → Progress → Type 0
Further at (defined a next) = at ≤ next
Further at (refused r) = Unit {0}

tested_further : (at : ℕ) (c : Result ⊤ Refusal) (p : Progress) → Further at p → Further at (tested c p)
unfolding tested
tested_further at (Ok x) p h = h
tested_further at (Err r) p h = tt

table_further : (at next : ℕ) (a : Algebra) (s : ℕ) (r : Read (List ℕ)) → at ≤ next → Past 0 next r → Further at (after_table a s r)
unfolding after_table
table_further at next a s (found cells end) l h = tested_further at (lowest (cell_test a.size cells ∷ [])) (defined (with_operation a s cells) end) (omega (arith, h))
table_further at next a s fault l h = tt

arity_further : (at : ℕ) (a : Algebra) (text : List ℕ) (r : Read ℕ) → Past 0 at r → Further at (after_arity a text r)
unfolding after_arity
arity_further at a text (found s next) h =
    tested_further at (lowest (operation_tests a.size (length a.arities) (length a.cells) s)) (after_table a s (last_table a.size s text next))
    (table_further at next a s (last_table a.size s text next) (omega (arith, h)) (last_table_forward a.size s text next))
arity_further at a text fault h = tt

pub operation_further : (a : Algebra) (text : List ℕ) (at : ℕ) → Further at (operation a text at)
unfolding operation
operation_further a text at = arity_further at a text (arity text at) (arity_forward text at)
