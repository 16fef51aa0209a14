-- Equivalences on the elements 0 to n - 1. A map writes one as n bytes: each element's byte is the smallest member of its block.
use Rattle.std.specs.Prelude.{ℕ, zero, suc, Bool, true, not, ◌&&◌, ◌||◌, List, [], ◌∷◌, ◌++◌, map, eqb, leb, length, get_or}
use Rattle.equivalence.specs.Lists.{up_to, every, keep, first, concat}

-- the bytes of an equivalence
abbrev pub Map : Type 0
Map = List ℕ

-- the byte of element x
abbrev pub byte : Map → ℕ → ℕ
byte m x = get_or m x 0

-- m writes an equivalence on n elements: every byte is at most its own index and names an element whose byte is itself
unfoldable pub is_map : ℕ → Map → Bool
is_map n m = eqb (length m) n && every (λ x. leb (byte m x) x && eqb (byte m (byte m x)) (byte m x)) (up_to n)

-- m holds the pair, or joins x and y: they are in one block
unfoldable pub holds : Map → ℕ → ℕ → Bool
holds m x y = eqb (byte m x) (byte m y)

-- a lies inside b: every pair that a holds, b holds
unfoldable pub inside : ℕ → Map → Map → Bool
inside n a b = every (λ x. every (λ y. not (holds a x y) || holds b x y) (up_to n)) (up_to n)

-- the smallest members of the blocks, in order
unfoldable pub names_of : ℕ → Map → List ℕ
names_of n m = keep (λ x. eqb (byte m x) x) (up_to n)

-- how many blocks there are
unfoldable pub blocks : ℕ → Map → ℕ
blocks n m = length (names_of n m)

-- the number of x's block, blocks numbered from 0 by smallest member: how many blocks begin below the smallest member of x's
unfoldable pub block_of : Map → ℕ → ℕ
block_of m x = blocks (byte m x) m

-- the map of the equivalence that a test states
unfoldable pub map_of : ℕ → (ℕ → ℕ → Bool) → Map
map_of n related = map (λ x. first (related x) x (up_to n)) (up_to n)

-- the equivalence with n blocks
unfoldable pub identity : ℕ → Map
identity n = map_of n eqb

-- the equivalence with one block, document 01's *all*
unfoldable pub whole : ℕ → Map
whole n = map_of n (λ x y. true)

-- a and b hold the same pairs
unfoldable pub same : ℕ → Map → Map → Bool
same n a b = inside n a b && inside n b a

-- m holds no pair of different elements
unfoldable pub is_identity : ℕ → Map → Bool
is_identity n m = same n m (identity n)

-- the equivalence that holds just the pairs held by both
unfoldable pub meet : ℕ → Map → Map → Map
meet n a b = map_of n (λ x y. holds a x y && holds b x y)

-- the equivalence in which the list meets; the empty list meets in `whole`
unfoldable pub meet_all : ℕ → List Map → Map
meet_all n [] = whole n
meet_all n (m ∷ rest) = meet n m (meet_all n rest)

-- every map over n elements: element n joins a block of a map over those before it, or stands alone
unfoldable pub maps : ℕ → List Map
maps zero = [] ∷ []
maps (suc n) = concat (map (λ m. map (λ r. m ++ (r ∷ [])) (names_of n m ++ (n ∷ []))) (maps n))

-- the member that stands in the order to every member: by inclusion the least, by its reverse the greatest
unfoldable pub best : (Map → Map → Bool) → List Map → Map
best order ms = first (λ m. every (order m) ms) [] ms

-- the least equivalence that holds what a holds and what b holds
unfoldable pub join : ℕ → Map → Map → Map
join n a b = best (inside n) (keep (λ e. inside n a e && inside n b e) (maps n))
