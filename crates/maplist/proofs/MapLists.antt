-- Lists of maps in a slice: slices that begin with a map, what a map_list holds at each number, stretches laid one after the other, and meets of
-- parts of a list.
use Prim.Native.Nat.{ℕ, suc, ◌+◌, ◌-◌, ◌*◌, ◌≤◌, ◌<◌}
use mathlib.Core.Bool.{Bool}
use mathlib.Core.List.Memᴰ.{head as here}
use mathlib.Core.List.Memᴰ.{tail as there}
use mathlib.Core.List.{List, [], ◌∷◌, ◌++◌, append_assoc, append-nil, Memᴰ as Member}
use mathlib.Core.List.Memᴰ.{append_cases}
use mathlib.Core.List.Memᴰ.{append_left}
use mathlib.Core.List.Memᴰ.{append_right}
use mathlib.Core.Logic.{inl, inr}
use mathlib.Core.Path.{◌≡◌, refl, sym, ap, subst, ◌∙◌}
use native.Mathlib.Nat.{suc-mul, mul-le-mul_right}
use native.Mathlib.Omega.{arith}
use lib.ListN.{length, get_or, take, drop, length-map, length-append, get_or-append, replicate, length-replicate}
use Rattle.std.proofs.lemmas.List.{get_or-replicate}
use lib.Seq.{get_or-take, ext_get_or, length-take-le, drop-drop, take_at, drop_at, drop-cons}
use Rattle.equivalence.specs.Equivalence.{Map, byte, holds, whole, is_identity, meet, meet_all}
use Rattle.kernel.specs.InnerKernel.{Canonical}
use Rattle.equivalence.specs.Lists.{up_to, first, concat}
use Rattle.equivalence.specs.Lent.{stretch, written, laid}
use Rattle.pairorder.specs.Order.{Pair, pairs, first_held}
use Rattle.equivalence.proofs.Lists.{first_yes, first_no, up_to_length, table_at}
use Rattle.equivalence.proofs.Maps.{IsMap, of_is_map, map_ext, whole_map, whole_holds, is_identity_of, of_is_identity}
use Rattle.equivalence.proofs.Meets.{meet_map, meet_holds, of_meet, meet_alike, meet_all_map, meet_all_holds, of_meet_all}
use Rattle.pairorder.proofs.Pairs.{of_pairs}
use Rattle.equivalence.proofs.Stretches.{concat_append, stretch_concat}
use Rattle.equivalence.proofs.Tests.{T?, true_is, false_is}
use Rattle.maplist.specs.InnerMapLists.{map_list, MapsListed}
use Rattle.equivalence.proofs.Laying.{laid_laid, rest_whole}
use borrow.Rule.Slice.PartMut.{put_mid}

-- ---- slices that begin with the same n bytes: a map, and a slice that begins with it

pub record Begins (n : ℕ) (a b : List ℕ) : Type 0 where
  pub same : (x : ℕ) → x < n → byte a x ≡ byte b x

-- two tests that say the same of every member find the same
first_same : (p q : Pair → Bool) (d : Pair) (l : List Pair) → ((r : Pair) → Member r l → p r ≡ q r) → first p d l ≡ first q d l
unfolding first
first_same p q d [] h = refl
first_same p q d (r ∷ l) h =
    let e : p r ≡ q r = h r (here refl) in
    let rest : first p d l ≡ first q d l = first_same p q d l (λ s i. h s (there i)) in
    elim (T? (p r)) [
      | yes t ↦ first_yes p d r l t ∙ sym (first_yes q d r l (rw e at t))
      | no t ↦ first_no p d r l t ∙ rest ∙ sym (first_no q d r l (λ s. t (rw e s)))
    ]

module _ {n : ℕ} where
  pub begins_sym : {a b : List ℕ} → Begins n a b → Begins n b a
  begins_sym g = record { same = λ x l. sym (g.same x l) }

  pub begins_is : {a b c : List ℕ} → Begins n a b → b ≡ c → Begins n a c
  begins_is {a} g e = subst (λ (m : List ℕ). Begins n a m) e g

  pub begins_refl : {a b : List ℕ} → a ≡ b → Begins n a b
  begins_refl e = record { same = λ x l. ap (λ (m : List ℕ). byte m x) e }

  pub begins_take : (a : List ℕ) → Begins n (take n a) a
  begins_take a = record { same = λ x l. get_or-take n a x 0 l }

  pub begins_written : {after : List ℕ} (m lent : List ℕ) → after ≡ written m lent → IsMap n m → Begins n after m
  unfolding written
  begins_written m lent e p = record { same = λ x l. rw e (get_or-append m (drop (length m) lent) 0 x (omega (arith, p.long))) }

  pub begins_canonical : {a m : List ℕ} → Begins n a m → IsMap n m → Canonical n (byte a)
  begins_canonical {a} {m} g p =
      record {
        below = λ x l. rw (g.same x l) (p.low x l);
        named = λ x l. let k : byte m x < n = omega (arith, p.low x l) in rw (g.same x l, g.same (byte m x) k) (p.named x l);
      }

  pub begins_meet : {a a' b b' : List ℕ} → Begins n a a' → Begins n b b' → meet n a b ≡ meet n a' b'
  begins_meet {a} {a'} {b} {b'} g h = meet_alike n a a' b b' g.same h.same

  pub begins_is_identity : {a b : List ℕ} → Begins n a b → is_identity n a ≡ is_identity n b
  begins_is_identity {a} {b} g =
      elim (T? (is_identity n b)) [
        | yes t ↦ sym (true_is (is_identity n a) (is_identity_of n a (λ x y l k e. of_is_identity n b t x y l k (sym (g.same x l) ∙ e ∙ g.same y k)))) ∙ true_is (is_identity n b) t
        | no t ↦ sym (false_is (is_identity n a) (λ s. t (is_identity_of n b (λ x y l k e. of_is_identity n a s x y l k (g.same x l ∙ e ∙ sym (g.same y k)))))) ∙ false_is (is_identity n b) t
      ]

  holds_begins : {a b : List ℕ} → Begins n a b → (x y : ℕ) → x < n → y < n → holds a x y ≡ holds b x y
  unfolding holds
  holds_begins g x y l k = rw (g.same x l, g.same y k)

  pub begins_first_held : {a b : List ℕ} → Begins n a b → first_held n a ≡ first_held n b
  unfolding first_held
  begins_first_held {a} {b} g =
      first_same (λ p. holds a p.0 p.1) (λ p. holds b p.0 p.1) (0, 0) (pairs n)
      (λ p i. let q = of_pairs n p i in holds_begins g p.0 p.1 (omega (arith, q.0, q.1)) q.1)

-- ---- meets of parts of a list

pub meet_comm : (n : ℕ) (a b : Map) → meet n a b ≡ meet n b a
meet_comm n a b =
    map_ext n (meet n a b) (meet n b a) (meet_map n a b) (meet_map n b a)
    (λ x y l k e. let r = of_meet n a b x y l k e in meet_holds n b a x y l k r.1 r.0)
    (λ x y l k e. let r = of_meet n b a x y l k e in meet_holds n a b x y l k r.1 r.0)

pub meet_all_append : (n : ℕ) (ms ns : List Map) → meet_all n (ms ++ ns) ≡ meet n (meet_all n ms) (meet_all n ns)
meet_all_append n ms ns =
    map_ext n (meet_all n (ms ++ ns)) (meet n (meet_all n ms) (meet_all n ns)) (meet_all_map n (ms ++ ns)) (meet_map n (meet_all n ms) (meet_all n ns))
    (λ x y l k e. let h = of_meet_all n (ms ++ ns) x y l k e in
    meet_holds n (meet_all n ms) (meet_all n ns) x y l k (meet_all_holds n ms x y l k (λ m i. h m (append_left ns i))) (meet_all_holds n ns x y l k (λ m i. h m (append_right ms i))))
    (λ x y l k e. let r = of_meet n (meet_all n ms) (meet_all n ns) x y l k e in
    meet_all_holds n (ms ++ ns) x y l k (λ m i. elim (append_cases ms i) [ inl j ↦ of_meet_all n ms x y l k r.0 m j | inr j ↦ of_meet_all n ns x y l k r.1 m j ]))

-- one map more behind a list
pub meet_all_snoc : (n : ℕ) (ms : List Map) (m : Map) → meet_all n (ms ++ (m ∷ [])) ≡ meet n (meet_all n ms) m
unfolding meet_all
meet_all_snoc n ms m =
    meet_all_append n ms (m ∷ [])
    ∙ map_ext n (meet n (meet_all n ms) (meet n m (whole n))) (meet n (meet_all n ms) m) (meet_map n (meet_all n ms) (meet n m (whole n))) (meet_map n (meet_all n ms) m)
    (λ x y l k e. let r = of_meet n (meet_all n ms) (meet n m (whole n)) x y l k e in meet_holds n (meet_all n ms) m x y l k r.0 (of_meet n m (whole n) x y l k r.1).0)
    (λ x y l k e. let r = of_meet n (meet_all n ms) m x y l k e in
    meet_holds n (meet_all n ms) (meet n m (whole n)) x y l k r.0 (meet_holds n m (whole n) x y l k r.1 (whole_holds n x y l k)))

pub whole_at : (n x : ℕ) → x < n → byte (whole n) x ≡ 0
whole_at n x l = let w = whole_map n in omega (arith, whole_holds n x 0 l (omega arith), w.low 0 (omega arith))

-- n zeros, written
pub zeros_written : (n : ℕ) (lent : List ℕ) {zeros : List ℕ} → zeros ≡ replicate n 0 → zeros ++ drop n lent ≡ written (whole n) lent
unfolding written
zeros_written n lent e =
    let w = whole_map n in
    let same : replicate n 0 ≡ whole n =
    ext_get_or 0 (replicate n 0) (whole n) (length-replicate n 0 ∙ sym w.long)
    (λ x l. let k : x < n = omega (arith, length-replicate {A = ℕ}) in get_or-replicate n x 0 0 k ∙ sym (whole_at n x k)) in
    rw (e, same, w.long)

-- ---- what a map_list holds

pub map_list_length : (n k : ℕ) (bytes : List ℕ) → length (map_list n k bytes) ≡ k
unfolding map_list
map_list_length n k bytes = length-map (up_to k) (stretch n bytes) ∙ up_to_length k

pub map_list_at : (n k : ℕ) (bytes : List ℕ) (i : ℕ) → i < k → get_or (map_list n k bytes) i [] ≡ stretch n bytes i
unfolding map_list
map_list_at n k bytes i l = table_at (stretch n bytes) k i [] l

-- the map_list from number i on begins with map i
pub map_list_from : (n k : ℕ) (bytes : List ℕ) (i : ℕ) → i < k → drop i (map_list n k bytes) ≡ stretch n bytes i ∷ drop (suc i) (map_list n k bytes)
map_list_from n k bytes i l =
    rw (drop-cons (map_list n k bytes) i [] (omega (arith, map_list_length n k bytes)), map_list_at n k bytes i l)

-- maps of n bytes, laid one after the other, are listed
pub map_list_concat : (n : ℕ) (ms : List Map) (rest : List ℕ) → ((i : ℕ) → i < length ms → length (get_or ms i []) ≡ n) → map_list n (length ms) (concat ms ++ rest) ≡ ms
map_list_concat n ms rest h =
    ext_get_or [] (map_list n (length ms) (concat ms ++ rest)) ms (map_list_length n (length ms) (concat ms ++ rest))
    (λ i l. let k : i < length ms = omega (arith, map_list_length n (length ms) (concat ms ++ rest)) in
    map_list_at n (length ms) (concat ms ++ rest) i k ∙ stretch_concat n ms rest h i k)

module _ {n k : ℕ} {bytes : List ℕ} (p : MapsListed n k bytes) where
  pub listed_map : (i : ℕ) → i < k → IsMap n (stretch n bytes i)
  listed_map i l = of_is_map n (stretch n bytes i) (p.each i l)

  -- a map of the list has room
  pub listed_room : (i : ℕ) → i < k → i * n + n ≤ length bytes
  listed_room i l = omega (arith, p.room, suc-mul i n, mul-le-mul_right n l)

  -- what begins with map i
  pub listed_begins : (i : ℕ) → Begins n (drop (i * n) bytes) (stretch n bytes i)
  unfolding stretch
  listed_begins i = begins_sym (begins_take (drop (i * n) bytes))

-- ---- stretches laid

-- the part of a slice from `at` on
abbrev pub onwards : ℕ → List ℕ → List ℕ
onwards at l = take (length l - at) (drop at l)

-- as many bytes put in the place of n
pub copied_laid : (at n : ℕ) (lent m : List ℕ) → length m ≡ n → put_mid at (at + n - at) lent m ≡ laid lent at m
unfolding laid written
copied_laid at n lent m e = let k : at + n - at ≡ length m = omega arith in rw k

-- a map met with the one at `at` of a list, and then put in that place of another
pub met_onwards : (n at : ℕ) (maps met : List ℕ) {met' : List ℕ} → met' ≡ written (meet n met (onwards at maps)) met → met' ≡ written (meet n met (drop at maps)) met
met_onwards n at maps met e = e ∙ ap (λ (b : List ℕ). written (meet n met b) met) (rest_whole at maps)

pub met_laid : (n at : ℕ) (maps met suffixes : List ℕ) {met' copied : List ℕ} → met' ≡ written (meet n met (onwards at maps)) met → copied ≡ take n met'
    → put_mid at (at + n - at) suffixes copied ≡ laid suffixes at (meet n met (drop at maps))
unfolding written
met_laid n at maps met suffixes e f =
    let m : Map = meet n met (drop at maps) in
    let long : length m ≡ n = (meet_map n met (drop at maps)).long in
    let first : take n (written m met) ≡ m = take_at m (drop (length m) met) n long in
    rw (f, met_onwards n at maps met e, first) (copied_laid at n suffixes m long)

pub onwards_canonical : {n : ℕ} (at : ℕ) (l : List ℕ) → Canonical n (byte (drop at l)) → Canonical n (byte (onwards at l))
onwards_canonical at l c = rw (rest_whole at l) c

-- a map laid is that stretch
pub laid_stretch : (n i : ℕ) (lent m : List ℕ) → length m ≡ n → i * n + n ≤ length lent → stretch n (laid lent (i * n) m) i ≡ m
unfolding stretch laid written
laid_stretch n i lent m e h =
    rw (drop_at (take (i * n) lent) (m ++ drop (length m) (drop (i * n) lent)) (i * n) (length-take-le (i * n) lent (omega arith)))
    (take_at m (drop (length m) (drop (i * n) lent)) n e)

-- and the stretches behind it stay
pub laid_later : (n i j : ℕ) (lent m : List ℕ) → length m ≡ n → i * n + n ≤ length lent → i < j → stretch n (laid lent (i * n) m) j ≡ stretch n lent j
unfolding stretch laid written
laid_later n i j lent m e h l =
    let w : length (take (i * n) lent ++ m) ≡ i * n + n = length-append (take (i * n) lent) m ∙ omega (arith, length-take-le (i * n) lent (omega arith)) in
    let far : j * n ≡ (i * n + n) + (j * n - (i * n + n)) = omega (arith, suc-mul i n, mul-le-mul_right n l) in
    let back : List ℕ = drop (length m) (drop (i * n) lent) in
    ap (take n)
    (ap (λ (l : List ℕ). drop (j * n) l) (sym (append_assoc (take (i * n) lent) m back))
    ∙ ap (λ (z : ℕ). drop z ((take (i * n) lent ++ m) ++ back)) far
    ∙ sym (drop-drop (j * n - (i * n + n)) (i * n + n) ((take (i * n) lent ++ m) ++ back))
    ∙ ap (drop (j * n - (i * n + n))) (drop_at (take (i * n) lent ++ m) back (i * n + n) w ∙ drop-drop (length m) (i * n) lent ∙ ap (λ (z : ℕ). drop (i * n + z) lent) e)
    ∙ drop-drop (j * n - (i * n + n)) (i * n + n) lent
    ∙ ap (λ (z : ℕ). drop z lent) (sym far))

-- one map more behind those written
pub laid_snoc : (ms : List Map) (m lent : List ℕ) (at : ℕ) → at ≡ length (concat ms) → length (concat ms) ≤ length lent
    → laid (written (concat ms) lent) at m ≡ written (concat (ms ++ (m ∷ []))) lent
unfolding concat laid
laid_snoc ms m lent at e h =
    let none : 0 + length (concat ms) ≡ length (concat ms) = omega arith in
    rw (e, concat_append ms (m ∷ []), append-nil m) (rw none at (laid_laid lent 0 (concat ms) m (omega arith)))

pub concat_length : (n : ℕ) (ms : List Map) → ((m : Map) → Member m ms → length m ≡ n) → length (concat ms) ≡ length ms * n
unfolding concat
concat_length n [] h = omega arith
concat_length n (m ∷ ms) h =
    rw (length-append m (concat ms), h m (here refl), concat_length n ms (λ c i. h c (there i))) (omega (arith, suc-mul (length ms) n))
