-- Decompose's two loops: what `gathered` gathers and `pruned` leaves, and that the list is as demand 3 says.
use Prim.Native.Nat.{ℕ, zero, suc, ◌+◌, ◌-◌, ◌*◌, ◌≤◌, ◌<◌}
use mathlib.Core.Bool.{true}
use mathlib.Core.List.Memᴰ.{append_left}
use mathlib.Core.List.{List, [], ◌∷◌, ◌++◌, append_assoc, append-nil}
use mathlib.Core.List.Memᴰ.{head as here}
use mathlib.Core.List.Memᴰ.{not-nil}
use mathlib.Core.List.Memᴰ.{tail as there}
use mathlib.Core.List.{Memᴰ as Member}
use mathlib.Core.List.Memᴰ.{cases_cons}
use mathlib.Core.List.Memᴰ.{eq_of_singleton}
use mathlib.Core.Logic.{inl, inr, ◌≢◌}
use mathlib.Core.Path.{◌≡◌, refl, sym, ap, subst, ◌∙◌}
use native.Mathlib.Decide.{dec_lt, ℕ_discrete}
use native.Mathlib.Nat.{mul-le-mul_right}
use native.Mathlib.Omega.{arith}
use lib.Dec.{T, T_not, not_T}
use lib.ListN.{length, get_or, take, drop, length-append, drop_of_length-le}
use lib.Seq.{take-append-le, take-append_seam, drop-append-le}
use Rattle.equivalence.specs.Equivalence.{Map, byte, blocks, identity, whole, is_identity, meet, meet_all}
use Rattle.equivalence.specs.Lists.{every, without}
use Rattle.pairorder.specs.Order.{first_held}
use Rattle.equivalence.proofs.BlockNumbers.{blocks_le, blocks_some, blocks_more}
use Rattle.equivalence.proofs.Lists.{every_of, of_every, member_at, member_index, member_insert, other_member}
use Rattle.equivalence.proofs.Maps.{Holds, IsMap, Discrete, identity_discrete, discrete_identity, whole_map, whole_holds, is_identity_of, of_is_identity}
use Rattle.equivalence.proofs.Meets.{meet_map, meet_holds, of_meet, meet_all_map, AllHold, Meets, meets_of, of_meets, meets_more}
use Rattle.pairorder.proofs.Pairs.{of_pairs, first_held_law}
use Rattle.equivalence.proofs.Tests.{T?, both, pick_yes, pick_no}
use Rattle.algebra.specs.Algebra.{Algebra}
use Rattle.algebra.proofs.Accepted.{WellFormed}
use Rattle.algebra.proofs.Congruences.{congruence_is, congruence_of}
use Rattle.theory.specs.Decompose.{added, gathered, pruned, listed, reducible, factor_space, most_factor_space}
use Rattle.theory.specs.Splitting.{Splitting, Unsplit}
use Rattle.theory.proofs.Separation.{MaximalFor, separated_law}

-- ms refines the meet d so far to the identity
pub record Gathered (a : Algebra) (d : Map) (ms : List Map) : Type 0 where
  pub each : (m : Map) → Member m ms → (x : ℕ) × (y : ℕ) × (x < a.size) × (y < a.size) × MaximalFor a m x y
  pub short : length ms + blocks a.size d ≤ a.size
  pub meets : (x y : ℕ) → x < a.size → y < a.size → Holds d x y → AllHold ms x y → x ≡ y

module _ (a : Algebra) (c : WellFormed a) where
  pub added_law : (d : Map) → ¬ Discrete a.size d → (x : ℕ) × (y : ℕ) × (x < a.size) × (y < a.size) × Holds d x y × MaximalFor a (added a d) x y
  unfolding added
  added_law d f =
      let r = first_held_law a.size d f in
      let q = of_pairs a.size (first_held a.size d) r.0 in
      let l : (first_held a.size d).0 < a.size = omega (arith, q.0, q.1) in
      let g : (first_held a.size d).0 ≢ (first_held a.size d).1 = omega (arith, q.0) in
      ((first_held a.size d).0, (first_held a.size d).1, l, q.1, r.1, separated_law a c (first_held a.size d).0 (first_held a.size d).1 l q.1 g)

  add : (d : Map) (ms : List Map) → IsMap a.size d → ¬ Discrete a.size d
      → ((blocks a.size d < blocks a.size (meet a.size d (added a d))) → Gathered a (meet a.size d (added a d)) ms) → Gathered a d (added a d ∷ ms)
  add d ms p f rec =
      let q = added_law d f in
      let m : Map = meet a.size d (added a d) in
      let b : blocks a.size d < blocks a.size m =
      blocks_more a.size d m p (meet_map a.size d (added a d)) (λ x y l k e. (of_meet a.size d (added a d) x y l k e).0) q.0 q.1 q.2 q.3 q.4
      (λ e. q.5.apart (of_meet a.size d (added a d) q.0 q.1 q.2 q.3 e).1) in
      let r = rec b in
      record {
        each = λ s i. elim (cases_cons i) [ inl e ↦ rw e (q.0, q.1, q.2, q.3, q.5) | inr j ↦ r.each s j ];
        short = omega (arith, r.short);
        meets = λ x y l k e g. r.meets x y l k (meet_holds a.size d (added a d) x y l k e (g (added a d) (here refl))) (λ s i. g s (there i));
      }

  pub gathered_law : (k : ℕ) (d : Map) → IsMap a.size d → a.size < k + blocks a.size d → Gathered a d (gathered k a d)
  unfolding gathered
  gathered_law zero d p h = absurd (omega (arith, blocks_le a.size d))
  gathered_law (suc k) d p h =
      elim (T? (is_identity a.size d)) [
        | yes t ↦ rw (pick_yes (is_identity a.size d) [] (added a d ∷ gathered k a (meet a.size d (added a d))) t)
            (record { each = λ m i. absurd (not-nil i); short = omega (arith, blocks_le a.size d); meets = λ x y l j e g. of_is_identity a.size d t x y l j e })
        | no t ↦ rw (pick_no (is_identity a.size d) [] (added a d ∷ gathered k a (meet a.size d (added a d))) t)
            (add d (gathered k a (meet a.size d (added a d))) p (λ f. t (is_identity_of a.size d f))
            (λ g. gathered_law k (meet a.size d (added a d)) (meet_map a.size d (added a d)) (omega arith)))
      ]

pub record Pruned (n : ℕ) (given ms : List Map) : Type 0 where
  pub member : (m : Map) → Member m ms → Member m given
  pub short : length ms ≤ length given
  pub meets : Meets n ms
  pub needed : (i : ℕ) → i < length ms → ¬ Meets n (without i ms)

without_last : (kept rest : List Map) (m : Map) → without (length kept) (kept ++ (m ∷ [])) ++ rest ≡ kept ++ rest
without_last kept rest m =
    rw (take-append_seam kept (m ∷ []), drop_of_length-le (kept ++ (m ∷ [])) {i = suc (length kept)} (omega (arith, length-append kept (m ∷ []))), append-nil kept)

without_old : (kept rest : List Map) (m : Map) (i : ℕ) → i < length kept → without i (kept ++ (m ∷ [])) ++ rest ≡ without i kept ++ (m ∷ rest)
without_old kept rest m i h =
    rw (take-append-le i kept (m ∷ []) (omega arith), drop-append-le (suc i) kept (m ∷ []) h, ← append_assoc (take i kept) (drop (suc i) kept) (m ∷ []))
    (append_assoc (take i kept ++ drop (suc i) kept) (m ∷ []) rest)

pub pruned_law : (n : ℕ) (kept rest : List Map) → Meets n (kept ++ rest) → ((i : ℕ) → i < length kept → ¬ Meets n (without i kept ++ rest)) → Pruned n (kept ++ rest) (pruned n kept rest)
unfolding pruned
pruned_law n kept [] h g =
    record {
      member = λ m i. append_left [] i;
      short = omega (arith, length-append kept []);
      meets = subst (λ (l : List Map). Meets n l) (append-nil kept) h;
      needed = λ i l k. g i l (subst (λ (l : List Map). Meets n l) (sym (append-nil (without i kept))) k);
    }
pruned_law n kept (m ∷ rest) h g =
    elim (T? (is_identity n (meet_all n (kept ++ rest)))) [
      | yes t ↦ rw (pick_yes (is_identity n (meet_all n (kept ++ rest))) (pruned n kept rest) (pruned n (kept ++ (m ∷ [])) rest) t)
          (let all : Map = meet_all n (kept ++ rest) in
          let less : Meets n (kept ++ rest) =
          of_meets n (kept ++ rest) (discrete_identity n all (meet_all_map n (kept ++ rest)) (of_is_identity n all t)) in
          let r = pruned_law n kept rest less
          (λ i l k. g i l (meets_more n (without i kept ++ rest) (without i kept ++ (m ∷ rest)) (member_insert (without i kept) rest m) k)) in
          record {
            member = λ c i. member_insert kept rest m c (r.member c i);
            short = omega (arith, r.short, length-append kept rest, length-append kept (m ∷ rest));
            meets = r.meets;
            needed = r.needed;
          })
      | no t ↦ rw (pick_no (is_identity n (meet_all n (kept ++ rest))) (pruned n kept rest) (pruned n (kept ++ (m ∷ [])) rest) t)
          (subst (λ (l : List Map). Pruned n l (pruned n (kept ++ (m ∷ [])) rest)) (append_assoc kept (m ∷ []) rest)
          (pruned_law n (kept ++ (m ∷ [])) rest (subst (λ (l : List Map). Meets n l) (sym (append_assoc kept (m ∷ []) rest)) h)
          (λ i l k. elim (dec_lt i (length kept)) [
            | yes j ↦ g i j (subst (λ (l : List Map). Meets n l) (without_old kept rest m i j) k)
            | no j ↦ let e : i ≡ length kept = omega (arith, length-append kept (m ∷ [])) in
                t (is_identity_of n (meet_all n (kept ++ rest))
                (subst (λ (z : Map). Discrete n z) (sym (meets_of n (kept ++ rest) (subst (λ (l : List Map). Meets n l) (without_last kept rest m) (rw e at k))))
                (identity_discrete n)))
          ])))
    ]

pub record FactorList (a : Algebra) (ms : List Map) : Type 0 where
  pub maximal : (m : Map) → Member m ms → (x : ℕ) × (y : ℕ) × (x < a.size) × (y < a.size) × MaximalFor a m x y
  pub few : length ms < a.size
  pub meets : Meets a.size ms
  pub needed : (i : ℕ) → i < length ms → ¬ Meets a.size (without i ms)

pub listed_law : (a : Algebra) → WellFormed a → FactorList a (listed a)
unfolding listed
listed_law a c =
    let w : 1 ≤ blocks a.size (whole a.size) = blocks_some a.size (whole a.size) c.some (whole_map a.size) in
    let g = gathered_law a c a.size (whole a.size) (whole_map a.size) (omega arith) in
    let p = pruned_law a.size [] (gathered a.size a (whole a.size))
    (λ x y l k h. g.meets x y l k (whole_holds a.size x y l k) h) (λ i l. absurd (omega arith)) in
    record { maximal = λ m i. g.each m (p.member m i); few = omega (arith, g.short, p.short); meets = p.meets; needed = p.needed }

pub identity_alone : (a : Algebra) (ms : List Map) → FactorList a ms → (m : Map) → Member m ms → Discrete a.size m → T (every (is_identity a.size) ms)
identity_alone a ms f m i h =
    every_of (is_identity a.size) ms
    (λ c j. let p = member_index ms m [] i in
    let q = member_index ms c [] j in
    elim (ℕ_discrete p.0 q.0) [
      | yes e ↦ is_identity_of a.size c (subst (λ (z : Map). Discrete a.size z) (sym p.2 ∙ ap (λ (k : ℕ). get_or ms k []) e ∙ q.2) h)
      | no d ↦ absurd (f.needed q.0 q.1
          (λ x y l k g. h x y l k (g m (subst (λ (z : Map). Member z (without q.0 ms)) p.2 (other_member ms p.0 q.0 p.1 d)))))
    ])

pub two_at_least : (n : ℕ) (ms : List Map) → Meets n ms → ¬ T (every (is_identity n) ms) → 2 ≤ length ms
unfolding every
two_at_least n [] h f = absurd (f tt)
two_at_least n (m ∷ []) h f =
    absurd (f (both (is_identity n m) true (is_identity_of n m (λ x y l k e. h x y l k (λ c i. rw (eq_of_singleton i) e))) tt))
two_at_least n (m ∷ c ∷ ms) h f = omega arith

module _ (a : Algebra) (c : WellFormed a) where
  pub split : T (reducible a) → Splitting a (listed a)
  unfolding reducible
  split t =
      let f = listed_law a c in
      record {
        some = omega (arith, two_at_least a.size (listed a) f.meets (T_not (every (is_identity a.size) (listed a)) t));
        each = λ i l. let r = f.maximal (get_or (listed a) i []) (member_at (listed a) i [] l) in (
          congruence_of a (get_or (listed a) i []) r.4.cong,
          λ e. T_not (every (is_identity a.size) (listed a)) t
              (identity_alone a (listed a) f (get_or (listed a) i []) (member_at (listed a) i [] l) (subst (λ (z : Map). Discrete a.size z) (sym e) (identity_discrete a.size))),
        );
        meets = meets_of a.size (listed a) f.meets;
      }

  pub unsplit : ¬ T (reducible a) → (ms : List Map) → ¬ Splitting a ms
  unfolding reducible
  unsplit t ms s = go (listed a) (listed_law a c) (λ m i. of_is_identity a.size m (of_every (is_identity a.size) (listed a) all m i))
    where
      all : T (every (is_identity a.size) (listed a))
      all = elim (T? (every (is_identity a.size) (listed a))) [ yes h ↦ h | no h ↦ absurd (t (not_T (every (is_identity a.size) (listed a)) h)) ]

      go : (l : List Map) → FactorList a l → ((m : Map) → Member m l → Discrete a.size m) → ⊥
      go [] f h =
          let e = s.each 0 s.some in
          e.1 (discrete_identity a.size (get_or ms 0 []) (congruence_is a (get_or ms 0 []) e.0).map (λ x y l k g. f.meets x y l k (λ m i. absurd (not-nil i))))
      go (m ∷ l) f h =
          let p = f.maximal m (here refl) in
          let fine : Discrete a.size m = h m (here refl) in
          let is : m ≡ identity a.size = discrete_identity a.size m p.4.cong.map fine in
          p.4.apart
          (ap (byte m)
          (of_meets a.size ms s.meets p.0 p.1 p.2 p.3
          (λ d i. let r = member_index ms d [] i in
          let e = s.each r.0 r.1 in
          subst (λ (z : Map). Holds z p.0 p.1) r.2
          (p.4.joined (get_or ms r.0 []) (congruence_is a (get_or ms r.0 []) e.0) (λ x y l k g. ap (byte (get_or ms r.0 [])) (fine x y l k g)) (λ g. e.1 (g ∙ is))))))

  -- reducible: some list splits the algebra
  pub reducible_splits : T (reducible a) → ¬ Unsplit a
  reducible_splits t u = u (listed a) (split t)

  pub splits_reducible : ¬ Unsplit a → T (reducible a)
  splits_reducible s = elim (T? (reducible a)) [ yes t ↦ t | no t ↦ absurd (s (unsplit t)) ]

pub gathered_end : (k : ℕ) (a : Algebra) (d : Map) → Discrete a.size d → gathered k a d ≡ []
unfolding gathered
gathered_end zero a d f = refl
gathered_end (suc k) a d f = pick_yes (is_identity a.size d) [] (added a d ∷ gathered k a (meet a.size d (added a d))) (is_identity_of a.size d f)

pub gathered_step : (k : ℕ) (a : Algebra) (d : Map) → ¬ Discrete a.size d → gathered (suc k) a d ≡ added a d ∷ gathered k a (meet a.size d (added a d))
unfolding gathered
gathered_step k a d f = pick_no (is_identity a.size d) [] (added a d ∷ gathered k a (meet a.size d (added a d))) (λ t. f (of_is_identity a.size d t))

pub pruned_drop : (n : ℕ) (kept rest : List Map) (m : Map) → Meets n (kept ++ rest) → pruned n kept (m ∷ rest) ≡ pruned n kept rest
unfolding pruned
pruned_drop n kept rest m h =
    pick_yes (is_identity n (meet_all n (kept ++ rest))) (pruned n kept rest) (pruned n (kept ++ (m ∷ [])) rest)
    (is_identity_of n (meet_all n (kept ++ rest)) (subst (λ (z : Map). Discrete n z) (sym (meets_of n (kept ++ rest) h)) (identity_discrete n)))

pub pruned_keep : (n : ℕ) (kept rest : List Map) (m : Map) → ¬ Meets n (kept ++ rest) → pruned n kept (m ∷ rest) ≡ pruned n (kept ++ (m ∷ [])) rest
unfolding pruned
pruned_keep n kept rest m h =
    pick_no (is_identity n (meet_all n (kept ++ rest))) (pruned n kept rest) (pruned n (kept ++ (m ∷ [])) rest)
    (λ t. h (of_meets n (kept ++ rest) (discrete_identity n (meet_all n (kept ++ rest)) (meet_all_map n (kept ++ rest)) (of_is_identity n (meet_all n (kept ++ rest)) t))))

-- every listed map has n bytes
pub listed_long : (a : Algebra) → WellFormed a → (i : ℕ) → i < length (listed a) → length (get_or (listed a) i []) ≡ a.size
listed_long a c i l = ((listed_law a c).maximal (get_or (listed a) i []) (member_at (listed a) i [] l)).4.cong.map.long

-- ---- what Decompose wants of space

-- 63 maps over 64 elements are space for any algebra
pub most_factor_space_most : (n : ℕ) → n ≤ 64 → most_factor_space n ≤ 4032
most_factor_space_most n most = let few : n - 1 ≤ 63 = omega arith in omega (arith, mul-le-mul_right n few)

module _ (a : Algebra) where
  pub factor_space_yes : T (reducible a) → factor_space a ≡ length (listed a) * a.size
  unfolding factor_space
  factor_space_yes t = pick_yes (reducible a) (length (listed a) * a.size) 0 t

  pub factor_space_no : ¬ T (reducible a) → factor_space a ≡ 0
  unfolding factor_space
  factor_space_no t = pick_no (reducible a) (length (listed a) * a.size) 0 t

  -- n - 1 maps are space enough
  pub factor_space_most : WellFormed a → factor_space a ≤ most_factor_space a.size
  factor_space_most c =
      elim (T? (reducible a)) [
        | yes t ↦ let few : length (listed a) ≤ a.size - 1 = omega (arith, (listed_law a c).few) in omega (arith, factor_space_yes t, mul-le-mul_right a.size few)
        | no t ↦ omega (arith, factor_space_no t)
      ]
