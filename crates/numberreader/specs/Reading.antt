-- Reading: a reader stands at a place of a text and comes to a value and the place after it, or to a fault.
use Rattle.std.specs.Prelude.{ℕ, ◌+◌, Bool, true, false, ◌&&◌, List, [], ◌∷◌, eqb, length, get_or}
use Prim.Native.Char.{Char, code}
use Prim.Native.String.{String, [] as []ˢ, ◌∷◌ as ◌∷ˢ◌}

-- the bytes of an ASCII text
unfoldable pub ascii : String → List ℕ
ascii []ˢ = []
ascii (c ∷ˢ rest) = code c ∷ ascii rest

-- what a reader comes to
pub data Read (A : Type 0) : Type 0 where
  found : A → ℕ → Read A
  fault : Read A

-- a reader of A: from a text and a place in it
abbrev pub Reader : Type 0 → Type 0
Reader A = List ℕ → ℕ → Read A

-- the byte at a place; past the end 0, which no form has
abbrev pub byte_at : List ℕ → ℕ → ℕ
byte_at text at = get_or text at 0

-- goes on from what was found; a fault stays a fault
unfoldable pub onward : {A B : Type 0} → (A → ℕ → Read B) → Read A → Read B
onward next (found a at) = next a at
onward next fault = fault

-- one reader, and a second that may depend on what the first found
unfoldable pub ◌>>=◌ : {A B : Type 0} → Reader A → (A → Reader B) → Reader B
◌>>=◌ first next = λ text at. onward (λ a after. next a text after) (first text at)

-- one reader, and then a second
abbrev pub ◌>>◌ : {A B : Type 0} → Reader A → Reader B → Reader B
◌>>◌ first next = ◌>>=◌ first (λ _. next)

-- reads nothing and finds a
abbrev pub done : {A : Type 0} → A → Reader A
done a = λ text at. found a at

-- finds nothing
abbrev pub failed : {A : Type 0} → Reader A
failed = λ text at. fault

-- the byte of a character
unfoldable pub mark : Char → Reader (Unit {0})
mark c = λ text at. elim (eqb (byte_at text at) (code c)) [ true ↦ found tt (at + 1) | false ↦ fault ]

-- what stands between two items: one space
unfoldable pub gap : Reader (Unit {0})
gap = mark " "

-- goes on from the place behind what was found; where nothing was found, something else
unfoldable pub branch : {A B : Type 0} → (ℕ → Read B) → Read B → Read A → Read B
branch next other (found a at) = next at
branch next other fault = other

-- one reader behind what a first one finds, and where that finds nothing another in its place
unfoldable pub behind : {A B : Type 0} → Reader A → Reader B → Reader B → Reader B
behind first body other = λ text at. branch (body text) (other text at) (first text at)

-- the bytes of a word stand from a place on
unfoldable pub begins : List ℕ → ℕ → List ℕ → Bool
begins text at [] = true
begins text at (b ∷ rest) = eqb (byte_at text at) b && begins text (at + 1) rest

-- one reader behind the word where that stands, else another
unfoldable pub opened : {A : Type 0} → List ℕ → Reader A → Reader A → Reader A
opened word body other = λ text at. elim (begins text at word) [ true ↦ body text (at + length word) | false ↦ other text at ]
