-- What readers find, and how long it is: a table of arity s has n^s cells.
use Prim.Native.Nat.{ℕ, zero, suc, ◌*◌, ◌^◌}
use mathlib.Core.List.{List, [], ◌∷◌, ◌++◌}
use mathlib.Core.Path.{◌≡◌, refl, ◌∙◌}
use native.Mathlib.Nat.{one-mul, suc-mul, pow-zero, pow-succ'}
use native.Mathlib.Omega.{arith}
use lib.ListN.{length, length-append}
use Rattle.numberreader.specs.Reading.{Read, found, fault, Reader, onward, ◌>>=◌, ◌>>◌, done, mark, gap}
use Rattle.numberreader.specs.Numbers.{number}
use Rattle.tablereader.specs.Tables.{cell, parted, bracket, table}

-- what is found has a property
abbrev pub IfFound : {A : Type 0} → (A → Type 0) → Read A → Type 0
IfFound P (found a next) = P a
IfFound P fault = Unit {0}

-- a reader finds what has a property
abbrev pub Finds : {A : Type 0} → (A → Type 0) → Reader A → Type 0
Finds P r = (text : List ℕ) (at : ℕ) → IfFound P (r text at)

onward_found : {A B : Type 0} (P : A → Type 0) (Q : B → Type 0) (r : Read A) (f : A → ℕ → Read B) → IfFound P r → ((a : A) (next : ℕ) → P a → IfFound Q (f a next)) → IfFound Q (onward f r)
unfolding onward
onward_found P Q (found a next) f p q = q a next p
onward_found P Q fault f p q = tt

module _ {A B : Type 0} (P : A → Type 0) (Q : B → Type 0) (m : Reader A) (f : A → Reader B) where
  pub then_finds : Finds P m → ((a : A) → P a → Finds Q (f a)) → Finds Q (◌>>=◌ m f)
  unfolding ◌>>=◌
  then_finds p q text at = onward_found P Q (m text at) (λ a after. f a text after) (p text at) (λ a next h. q a h text next)

anything : {A : Type 0} (r : Read A) → IfFound (λ _. Unit {0}) r
anything (found a next) = tt
anything fault = tt

-- a reader, after one of which nothing is asked
pub after_any : {A B : Type 0} (Q : B → Type 0) (m : Reader A) (f : A → Reader B) → ((a : A) → Finds Q (f a)) → Finds Q (◌>>=◌ m f)
after_any Q m f q = then_finds (λ _. Unit {0}) Q m f (λ text at. anything (m text at)) (λ a h. q a)

-- lists of k numbers
abbrev pub Long : ℕ → List ℕ → Type 0
Long k xs = length xs ≡ k

-- a cell is one number
pub cell_long : Finds (Long 1) cell
unfolding cell
cell_long = after_any (Long 1) number (λ v. done (v ∷ [])) (λ v text at. refl)

parted_long : (item : Reader (List ℕ)) (w : ℕ) → Finds (Long w) item → (k : ℕ) → Finds (Long (k * w)) (parted item k)
unfolding parted
parted_long item w p zero = λ text at. tt
parted_long item w p (suc zero) = λ text at. longer (item text at) (p text at)
  where
    longer : (r : Read (List ℕ)) → IfFound (Long w) r → IfFound (Long (1 * w)) r
    longer (found xs next) h = rw one-mul h
    longer fault h = tt
parted_long item w p (suc (suc k)) =
    then_finds (Long w) (Long (suc (suc k) * w)) item (λ xs. ◌>>◌ gap (◌>>=◌ (parted item (suc k)) (λ ys. done (xs ++ ys)))) p
    (λ xs h. after_any (Long (suc (suc k) * w)) gap (λ _. ◌>>=◌ (parted item (suc k)) (λ ys. done (xs ++ ys)))
    (λ _. then_finds (Long (suc k * w)) (Long (suc (suc k) * w)) (parted item (suc k)) (λ ys. done (xs ++ ys)) (parted_long item w p (suc k))
    (λ ys l text at. length-append xs ys ∙ omega (arith, h, l, suc-mul (suc k) w))))

bracket_long : (item : Reader (List ℕ)) (w : ℕ) → Finds (Long w) item → (k : ℕ) → Finds (Long (k * w)) (bracket item k)
unfolding bracket
bracket_long item w p k =
    after_any (Long (k * w)) (mark "[") (λ _. ◌>>=◌ (parted item k) (λ xs. ◌>>◌ (mark "]") (done xs)))
    (λ _. then_finds (Long (k * w)) (Long (k * w)) (parted item k) (λ xs. ◌>>◌ (mark "]") (done xs)) (parted_long item w p k)
    (λ xs h. after_any (Long (k * w)) (mark "]") (λ _. done xs) (λ _ text at. h)))

-- a table of arity s has n^s cells
pub table_long : (n s : ℕ) → Finds (Long (n ^ s)) (table n s)
unfolding table
table_long n zero = rw (pow-zero n) cell_long
table_long n (suc s) = rw (pow-succ' n s) (bracket_long (table n s) (n ^ s) (table_long n s) n)
