-- What bytes show: parts of lists, eight parts of one length, and the points of a sheet behind their count.
use Prim.Native.Nat.{ℕ, zero, suc, ◌+◌, ◌*◌, ◌≤◌, ◌<◌}
use mathlib.Core.List.{List, [], ◌∷◌, ◌++◌, map, append_assoc, append-nil}
use mathlib.Core.Path.{◌≡◌, refl, sym, ap, ◌∙◌}
use native.Mathlib.Nat.{suc-mul}
use native.Mathlib.Omega.{arith}
use lib.ListN.{length, get_or, take, drop, length-append, length-map}
use lib.Seq.{take_at, take-take, drop_at, drop-drop, ext_get_or}
use Rattle.sheet.specs.Sheet.{no_point}
use Rattle.sheet.specs.declared.Point.{Point}
use Rattle.equivalence.specs.Lent.{stretch}
use Rattle.equivalence.specs.Lists.{up_to, concat}
use Rattle.equivalence.proofs.Lists.{map_at, table_at}
use Rattle.equivalence.proofs.Stretches.{stretch_concat}
use Rattle.imagepart.specs.Parts.{little, little_in, part, point_bytes, points_bytes, place_in, places_in, Eight, PointsShowable}
use Rattle.imagepart.proofs.Copies.{table_length}
use Rattle.imagepart.proofs.Littles.{little_length, little_in_little}

-- ---- parts of lists

front_part : (k from w : ℕ) (l : List ℕ) → from + k ≤ w → take k (drop from (take w l)) ≡ take k (drop from l)
front_part k zero w l h = take-take k w l (omega arith)
front_part k (suc from) zero l h = absurd (omega arith)
front_part k (suc from) (suc w) [] h = refl
front_part k (suc from) (suc w) (x ∷ l) h = front_part k from w l (omega arith)

-- a part of a part
part_part : (at w from k to : ℕ) (l : List ℕ) → to ≡ at + from → from + k ≤ w → part to k l ≡ part from k (part at w l)
unfolding part
part_part at w from k to l e h = rw (e, front_part k from w (drop at l) h, drop-drop from at l)

pub part_mid : (front mid rest : List ℕ) (at k : ℕ) → length front ≡ at → length mid ≡ k → part at k (front ++ mid ++ rest) ≡ mid
unfolding part
part_mid front mid rest at k e f = rw (append_assoc front mid rest, drop_at front (mid ++ rest) at e) (take_at mid rest k f)

part_last : (front mid : List ℕ) (at k : ℕ) → length front ≡ at → length mid ≡ k → part at k (front ++ mid) ≡ mid
part_last front mid at k e f = ap (part at k) (sym (append-nil (front ++ mid))) ∙ part_mid front mid [] at k e f

-- eight lists of w bytes
module _ (w : ℕ) where
  concat_length : (lists : List (List ℕ)) → ((i : ℕ) → i < length lists → length (get_or lists i []) ≡ w) → length (concat lists) ≡ length lists * w
  unfolding concat
  concat_length [] h = omega arith
  concat_length (l ∷ lists) h =
      rw (length-append l (concat lists), suc-mul (length lists) w)
      (omega (arith, concat_length lists (λ i o. h (suc i) (omega arith)), h 0 (omega arith)))

  pub eight_length : (lists : List (List ℕ)) → Eight w lists → length (concat lists) ≡ 8 * w
  eight_length lists h = rw h.count at (concat_length lists (λ i o. h.full i (omega (arith, h.count))))

  -- the i-th of them, behind a front
  pub eight_at : (front : List ℕ) (lists : List (List ℕ)) (rest : List ℕ) (from at i : ℕ) → length front ≡ at → from ≡ at + i * w → Eight w lists → i < 8
      → part from w (front ++ concat lists ++ rest) ≡ get_or lists i []
  unfolding part stretch
  eight_at front lists rest from at i e f h l =
      rw (f, append_assoc front (concat lists) rest, ← drop-drop (i * w) at (front ++ (concat lists ++ rest)), drop_at front (concat lists ++ rest) at e)
      (stretch_concat w lists rest (λ j o. h.full j (omega (arith, h.count))) i (omega (arith, h.count)))

  -- of eight elements
  module _ {A : Type 0} (f : A → List ℕ) (l : List A) (d : A) where
    pub eight_of_lem : length l ≡ 8 → ((i : ℕ) → i < 8 → length (f (get_or l i d)) ≡ w) → Eight w (map f l)
    eight_of_lem e h =
        record { count = length-map l f ∙ e; full = λ i o. rw (map_at f l i d [] (omega arith)) (h i o) }

    pub eight_count : Eight w (map f l) → length l ≡ 8
    eight_count h = sym (length-map l f) ∙ h.count

    eight_full : Eight w (map f l) → (i : ℕ) → i < 8 → length (f (get_or l i d)) ≡ w
    eight_full h i o = rw (map_at f l i d [] (omega (arith, eight_count h))) at (h.full i o)

-- a table of eight elements is a list of eight
pub table_is : {A : Type 0} (g : ℕ → A) (l : List A) (d : A) → length l ≡ 8 → ((i : ℕ) → i < 8 → g i ≡ get_or l i d) → map g (up_to 8) ≡ l
table_is g l d e h =
    ext_get_or d (map g (up_to 8)) l (table_length g ∙ sym e)
    (λ i o. let j : i < 8 = omega (arith, table_length g) in table_at g 8 i d j ∙ h i j)

-- ---- the points

point_shown : (image : List ℕ) (from : ℕ) (p : Point) → length p.name ≡ 8 → length p.map ≡ 64 → part from 72 image ≡ point_bytes p → place_in image from ≡ p
unfolding place_in point_bytes
point_shown image from p e f h =
    let name : part from 8 image ≡ p.name = part_part from 72 0 8 from image (omega arith) (omega arith) ∙ ap (part 0 8) h ∙ part_mid [] p.name p.map 0 8 refl e in
    let map : part (from + 8) 64 image ≡ p.map =
    part_part from 72 8 64 (from + 8) image refl (omega arith) ∙ ap (part 8 64) h ∙ part_last p.name p.map 8 64 e f in
    rw (name, map) refl

module _ (held : ℕ) (places : List Point) (h : PointsShowable held places) where
  names_full : (i : ℕ) → i < 8 → length (get_or places i no_point).name ≡ 8
  names_full = eight_full 8 (λ p. p.name) places no_point h.names

  maps_full : (i : ℕ) → i < 8 → length (get_or places i no_point).map ≡ 64
  maps_full = eight_full 64 (λ p. p.map) places no_point h.maps

  places_eight : length places ≡ 8
  places_eight = eight_count 8 (λ p. p.name) places no_point h.names

  places_full : Eight 72 (map point_bytes places)
  unfolding point_bytes
  places_full =
      eight_of_lem 72 point_bytes places no_point places_eight
      (λ i l. omega (arith, length-append (get_or places i no_point).name (get_or places i no_point).map, names_full i l, maps_full i l))

  pub points_long : length (points_bytes held places) ≡ 577
  unfolding points_bytes
  points_long =
      omega (arith, length-append (little 1 held) (concat (map point_bytes places)), little_length 1 held, eight_length 72 (map point_bytes places) places_full)

  module _ (image : List ℕ) (from : ℕ) (e : part from 577 image ≡ points_bytes held places) where
    pub count_shown : little_in (part from 1 image) ≡ held
    unfolding points_bytes
    count_shown =
        ap little_in (part_part from 577 0 1 from image (omega arith) (omega arith) ∙ ap (part 0 1) e
        ∙ part_mid [] (little 1 held) (concat (map point_bytes places)) 0 1 refl (little_length 1 held))
        ∙ little_in_little 1 held h.count

    place_shown : (i : ℕ) → i < 8 → place_in image (from + 1 + i * 72) ≡ get_or places i no_point
    unfolding points_bytes
    place_shown i l =
        let bytes : List ℕ = concat (map point_bytes places) in
        let place : part (1 + i * 72) 72 (little 1 held ++ bytes) ≡ point_bytes (get_or places i no_point) =
        ap (part (1 + i * 72) 72) (sym (append-nil (little 1 held ++ bytes)))
        ∙ eight_at 72 (little 1 held) (map point_bytes places) [] (1 + i * 72) 1 i (little_length 1 held) refl places_full l
        ∙ map_at point_bytes places i no_point [] (omega (arith, places_eight)) in
        point_shown image (from + 1 + i * 72) (get_or places i no_point) (names_full i l) (maps_full i l)
        (part_part from 577 (1 + i * 72) 72 (from + 1 + i * 72) image (omega arith) (omega arith) ∙ ap (part (1 + i * 72) 72) e ∙ place)

    pub places_shown : places_in image (from + 1) ≡ places
    unfolding places_in
    places_shown = table_is (λ i. place_in image (from + 1 + i * 72)) places no_point places_eight place_shown
