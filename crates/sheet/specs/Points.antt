-- The points of a sheet: which are held, which are right, and what Set and Forget make of them.
use Rattle.std.specs.Prelude.{ℕ, suc, ◌-◌, Bool, true, false, not, ◌&&◌, List, [], ◌∷◌, eqb, leb, take, get_or, set}
use Rattle.equivalence.specs.Equivalence.{Map, is_map}
use Rattle.equivalence.specs.Lists.{up_to, every, any, first}
use Rattle.sheet.specs.Sheet.{map_on, no_point}
use Rattle.sheet.specs.declared.Point.{Point}
use Rattle.sheet.specs.declared.Sheet.{Sheet}

-- two names have the same bytes
unfoldable pub same_name : List ℕ → List ℕ → Bool
same_name [] [] = true
same_name [] (y ∷ ys) = false
same_name (x ∷ xs) [] = false
same_name (x ∷ xs) (y ∷ ys) = eqb x y && same_name xs ys

-- the point in place i
unfoldable pub point_in : List Point → ℕ → Point
point_in places i = get_or places i no_point

-- place i has the name
unfoldable pub is_named : List ℕ → List Point → ℕ → Bool
is_named name places i = same_name (point_in places i).name name

-- one of the places 0 to k - 1 has the name
unfoldable pub is_named_below : List ℕ → List Point → ℕ → Bool
is_named_below name places k = any (is_named name places) (up_to k)

-- the first of the places 0 to k - 1 that has the name; k where none has
unfoldable pub first_named : List ℕ → List Point → ℕ → ℕ
first_named name places k = first (is_named name places) k (up_to k)

-- the sheet holds a point of this name: the places 0 to count - 1 hold its points
unfoldable pub is_held : List ℕ → Sheet → Bool
is_held name s = is_named_below name s.points s.count

-- the name is new, and the sheet holds eight points
unfoldable pub is_full_for : List ℕ → Sheet → Bool
is_full_for name s = not (is_held name s) && eqb s.count 8

-- the place of the point of this name; where none is held, the first that is free
unfoldable pub place_named : List ℕ → Sheet → ℕ
place_named name s = first_named name s.points s.count

-- the map over n that is stored under a name
unfoldable pub map_under : ℕ → List ℕ → Sheet → Map
map_under n name s = take n (point_in s.points (place_named name s)).map

-- the point in place i has a map over n, and a name that no place before it has
unfoldable pub is_point : ℕ → List Point → ℕ → Bool
is_point n places i = is_map n (take n (point_in places i).map) && not (is_named_below (point_in places i).name places i)

-- a sheet without fault: a map over n, at most eight points, and each is one
unfoldable pub is_faultless : ℕ → Sheet → Bool
is_faultless n s = is_map n (map_on n s) && (leb s.count 8 && every (is_point n s.points) (up_to s.count))

-- the sheet with its map stored under a name: in the place of that name, or in the first free one, which is then held
unfoldable pub with_point : List ℕ → Sheet → Sheet
with_point name s =
    record {
      map = s.map;
      tally = s.tally;
      count = elim (is_held name s) [ true ↦ s.count | false ↦ suc s.count ];
      points = set s.points (place_named name s) (record { name = name; map = s.map });
    }

-- the sheet without the point of a name: the last held point comes into its place
unfoldable pub without_point : List ℕ → Sheet → Sheet
without_point name s =
    record {
      map = s.map;
      tally = s.tally;
      count = s.count - 1;
      points = set s.points (place_named name s) (point_in s.points (s.count - 1));
    }
