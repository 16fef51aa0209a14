-- Parts of a bench's image: numbers, maps and points as bytes, the bytes one after the other; and that bytes show what they were written of.
use Rattle.std.specs.Prelude.{ℕ, zero, suc, ◌+◌, ◌*◌, ◌/◌, ◌%◌, ◌<◌, List, [], ◌∷◌, ◌++◌, map, ◌≡◌, length, get_or, take, drop}
use Rattle.equivalence.specs.Equivalence.{Map}
use Rattle.equivalence.specs.Lists.{up_to, concat}
use Rattle.sheet.specs.declared.Point.{Point}

-- a number in k bytes, the lowest byte first
unfoldable pub little : ℕ → ℕ → List ℕ
little zero x = []
little (suc k) x = x % 256 ∷ little k (x / 256)

-- the number that bytes show, the lowest byte first
unfoldable pub little_in : List ℕ → ℕ
little_in [] = 0
little_in (b ∷ rest) = b + 256 * little_in rest

-- the k bytes from byte `from` on
unfoldable pub part : ℕ → ℕ → List ℕ → List ℕ
part from k l = take k (drop from l)

-- ---- points as bytes

-- a point: its name, then its map; 72 bytes
unfoldable pub point_bytes : Point → List ℕ
point_bytes p = p.name ++ p.map

-- the points of a sheet: how many it holds in one byte, then its places; 577 bytes
unfoldable pub points_bytes : ℕ → List Point → List ℕ
points_bytes count places = little 1 count ++ concat (map point_bytes places)

-- ---- what bytes show

-- the map of sheet s: an image begins with the maps, 64 bytes each
unfoldable pub map_in : List ℕ → ℕ → Map
map_in image s = part (s * 64) 64 image

-- the point in the place from byte `from` on
unfoldable pub place_in : List ℕ → ℕ → Point
place_in image from = record { name = part from 8 image; map = part (from + 8) 64 image }

-- the eight places from byte `from` on
unfoldable pub places_in : List ℕ → ℕ → List Point
places_in image from = map (λ i. place_in image (from + i * 72)) (up_to 8)

-- ---- what can be shown

-- eight lists of w bytes
pub record Eight (w : ℕ) (lists : List (List ℕ)) : Type 0 where
  pub count : length lists ≡ 8
  pub full : (i : ℕ) → i < 8 → length (get_or lists i []) ≡ w

-- a count that fits a byte, and eight places with a name of eight bytes and a map of 64
pub record PointsShowable (held : ℕ) (places : List Point) : Type 0 where
  pub count : held < 256
  pub names : Eight 8 (map (λ p. p.name) places)
  pub maps : Eight 64 (map (λ p. p.map) places)
