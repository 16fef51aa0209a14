-- Decompose's first loop: the laws that start `Gathering`, hand it over from one loop to the other, keep it and end it; why gathering may stop as soon as Separate gives
-- the identity: the algebra is irreducible, and the pair is the one that 11 carries; and the laws of a step's two calls.
use Prim.Native.Nat.{ℕ, suc, ◌+◌, ◌-◌, ◌*◌, ◌≤◌, ◌<◌}
use mathlib.Core.Bool.{Bool, true, false}
use mathlib.Core.List.Memᴰ.{eq_of_singleton}
use mathlib.Core.List.Memᴰ.{not-nil}
use mathlib.Core.List.{List, [], ◌∷◌, ◌++◌, Memᴰ as Member}
use mathlib.Core.List.Memᴰ.{append_cases}
use mathlib.Core.List.{append_assoc, append-nil}
use mathlib.Core.Logic.{inl, inr, ◌≢◌}
use mathlib.Core.Path.{◌≡◌, refl, sym, ap, subst, ◌∙◌}
use native.Mathlib.Nat.{suc-mul, mul-le-mul_right}
use native.Mathlib.Numerals.{add-one}
use native.Mathlib.Omega.{arith}
use lib.Dec.{T}
use lib.ListN.{length, take, drop, length-append, length-drop}
use lib.Seq.{take_at, drop_at, drop-drop, length-take-le}
use borrow.Rule.Slice.PartMut.{put_mid, mid_of}
use Rattle.kernel.specs.InnerKernel.{Canonical}
use Rattle.equivalence.specs.Equivalence.{Map, byte, blocks, whole, is_identity, meet, meet_all}
use Rattle.equivalence.specs.Lists.{concat}
use Rattle.pairorder.specs.Order.{Pair, first_held}
use Rattle.equivalence.specs.Lent.{written, laid}
use Rattle.equivalence.proofs.BlockNumbers.{blocks_le, blocks_some, blocks_more}
use Rattle.equivalence.proofs.Laying.{laid_from, rest_whole}
use Rattle.equivalence.proofs.Maps.{Holds, IsMap, Discrete, identity_discrete, whole_map, is_identity_of, of_is_identity}
use Rattle.equivalence.proofs.Meets.{meet_map, of_meet, meet_all_map, meet_all_holds}
use Rattle.pairorder.proofs.Pairs.{of_pairs, first_held_law, first_held_first}
use Rattle.equivalence.proofs.Stretches.{concat_append}
use Rattle.equivalence.proofs.Tests.{T_of, not_T_of}
use Rattle.equivalence.proofs.Writing.{written_length}
use Rattle.algebra.specs.Algebra.{Algebra}
use Rattle.algebra.specs.Accepted.{Accepted}
use Rattle.algebra.proofs.Accepted.{WellFormed, accepted_well_formed}
use Rattle.algebra.proofs.Congruences.{IsCongruence, congruence_is, congruence_of}
use Rattle.theory.specs.Decompose.{added, gathered, listed, most_factor_space, reducible, common_pair}
use Rattle.theory.specs.Splitting.{Splitting}
use Rattle.theory.specs.Extremal.{separated}
use Rattle.theory.proofs.CommonPair.{Common, common_pair_law, refuse_when, unsplit_when, reducible_when}
use Rattle.theory.proofs.Factors.{added_law, split, gathered_end, gathered_step}
use Rattle.theory.proofs.Separation.{separated_law, lex_asym}
use Rattle.maplist.proofs.MapLists.{Begins, begins_is, begins_sym, begins_take, begins_written, begins_canonical, begins_meet, begins_is_identity, begins_first_held}
use Rattle.maplist.proofs.MapLists.{meet_all_snoc, onwards, onwards_canonical, laid_snoc, concat_length}
use Rattle.gathering.specs.InnerGathering.{Gathering, Unmet, Wanted, Separated, Meetable, Met, pair_found, GatheredRight}
use Rattle.gathering.specs.declared.gather.Collected.{Collected}
use Rattle.gathering.specs.declared.gather.Collected.TheVariants.{All, Joined}

-- ---- a step's calls

-- the first pair of a map that is not the identity
pub first_below : {n : ℕ} {met : List ℕ} {v w : ℕ} → Unmet n met → ◌≡◌ {A = Pair} (v, w) (first_held n met) → (v < w) × (w < n)
first_below {n} {met} u e =
    subst (λ (p : Pair). (p.0 < p.1) × (p.1 < n)) (sym e)
    (of_pairs n (first_held n met) (first_held_law n met (λ f. not_T_of u.going (is_identity_of n met f))).0)

-- its two elements are bytes
pub pair_bytes : {n : ℕ} {met : List ℕ} {v w : ℕ} → Unmet n met → ◌≡◌ {A = Pair} (v, w) (first_held n met) → (v < 64) × (w < 64)
pair_bytes u e = let b = first_below u e in (omega (arith, b.0, b.1, u.most), omega (arith, b.1, u.most))

pub pair_found_lem : (n : ℕ) (met : List ℕ) {v w : ℕ} → ◌≡◌ {A = Pair} (v, w) (first_held n met) → pair_found (v, w) ≡ pair_found (first_held n met)
pair_found_lem n met e = ap pair_found e

-- what Separate is asked for, and where its answer goes
module _ {a : Algebra} {at : ℕ} {met bytes : List ℕ} (want : Wanted a at met bytes) {v w : ℕ} (pair : ◌≡◌ {A = Pair} (v, w) (first_held a.size met)) where
  pub wanted_pair : Accepted a × ((v < a.size) × ((w < a.size) × ((v ≡ w → ⊥) × (a.size ≤ length (onwards at bytes)))))
  wanted_pair =
      let b = first_below want.unmet pair in (
        want.accepted,
        (omega (arith, b.0, b.1), (b.1, (omega (arith, b.0), rw (rest_whole at bytes, length-drop at bytes) (omega (arith, want.fits))))),
      )

  pub wanted_laid : {part : List ℕ} → part ≡ written (separated a v w) (mid_of at (length bytes - at) bytes) → Separated a at met bytes (put_mid at (length bytes - at) bytes part)
  unfolding added
  wanted_laid e =
      ap (put_mid at (length bytes - at) bytes) (e ∙ ap (λ (p : Pair). written (separated a p.0 p.1) (mid_of at (length bytes - at) bytes)) pair)
      ∙ laid_from at bytes (added a met) (omega (arith, want.fits))

-- what is met
module _ {n at : ℕ} {bytes table met : List ℕ} (m : Meetable n at bytes table met) where
  pub meetable_new : (n ≤ length (onwards at bytes)) × Canonical n (byte (onwards at bytes))
  meetable_new = (rw (rest_whole at bytes, length-drop at bytes) (omega (arith, m.fits)), onwards_canonical at bytes m.new)

  pub meetable_both : (n ≤ 64) × ((n ≤ length (onwards at bytes)) × ((4096 ≤ length table) × ((n ≤ length met) × (Canonical n (byte (onwards at bytes)) × Canonical n (byte met)))))
  meetable_both = (m.most, (meetable_new.0, (m.pairs, (m.enough, (meetable_new.1, m.old)))))

pub met_stop : {n : ℕ} (at : ℕ) (bytes met : List ℕ) {r : Bool} → r ≡ is_identity n (onwards at bytes) → r ≡ true → Met n at bytes met true met
met_stop {n} at bytes met e t =
    record { identity = sym t ∙ e ∙ ap (is_identity n) (rest_whole at bytes); stays = λ z. refl; meets = λ z. absurd (not_T_of z tt) }

pub met_more : {n : ℕ} (at : ℕ) (bytes met : List ℕ) {r : Bool} {met' : List ℕ} → r ≡ is_identity n (onwards at bytes) → r ≡ false
    → met' ≡ written (meet n met (onwards at bytes)) met → Met n at bytes met false met'
met_more {n} at bytes met e t f =
    record {
      identity = sym t ∙ e ∙ ap (is_identity n) (rest_whole at bytes);
      stays = λ z. absurd (T_of z);
      meets = λ z. f ∙ ap (λ (l : List ℕ). written (meet n met l) met) (rest_whole at bytes);
    }

-- ---- the loops

pub begins_added : (a : Algebra) {b d : Map} → Begins a.size b d → added a b ≡ added a d
unfolding added
begins_added a g = ap (λ (q : Pair). separated a q.0 q.1) (begins_first_held g)

pub gathering_start : {a : Algebra} → Accepted a → 2 ≤ a.size → (lent met : List ℕ) {met' : List ℕ} → most_factor_space a.size ≤ length lent → a.size ≤ length met
    → met' ≡ written (whole a.size) met → Gathering a lent 0 met' lent
unfolding written concat meet_all
gathering_start {a} accepted two lent met room enough e =
    let n : ℕ = a.size in
    let w : 1 ≤ blocks n (whole n) = blocks_some n (whole n) (accepted_well_formed a accepted).some (whole_map n) in
    let all : n - 0 ≡ n = omega arith in
    record {
      accepted = accepted;
      two = two;
      room = room;
      enough = rw (e, written_length (whole n) met (omega (arith, (whole_map n).long))) enough;
      found = [];
      number = refl;
      few = omega arith;
      most = (accepted_well_formed a accepted).most;
      small = omega arith;
      each = λ m i. absurd (not-nil i);
      meets = rw e (take_at (whole n) (drop (length (whole n)) met) n (whole_map n).long);
      more = rw all;
      fuel = omega arith;
      laid = refl;
      long = refl;
    }

-- bytes written over some of them
written_over : (one two lent : List ℕ) → written (one ++ two) (written one lent) ≡ written (one ++ two) lent
unfolding written
written_over one two lent =
    let over : List ℕ → List ℕ = λ l. drop (length one + length two) l in
    let behind : over (one ++ drop (length one) lent) ≡ over lent =
    sym (drop-drop (length two) (length one) (one ++ drop (length one) lent)) ∙ ap (drop (length two)) (drop_at one (drop (length one) lent) (length one) refl)
    ∙ drop-drop (length two) (length one) lent in
    rw (length-append one two, behind)

module _ {a : Algebra} {lent : List ℕ} {k : ℕ} {met bytes : List ℕ} (g : Gathering a lent k met bytes) where
  -- where the next one goes
  abbrev at : ℕ
  at = k * a.size

  c : WellFormed a
  c = accepted_well_formed a g.accepted

  abbrev d : Map
  d = meet_all a.size g.found

  map : IsMap a.size d
  map = meet_all_map a.size g.found

  begins : Begins a.size met d
  begins = begins_is (begins_sym (begins_take met)) g.meets

  pub gathering_canonical : (a.size ≤ length met) × Canonical a.size (byte met)
  gathering_canonical = (g.enough, begins_canonical begins map)

  proper : (m : Map) → Member m g.found → IsCongruence a m × ¬ Discrete a.size m
  proper m i = (congruence_is a m (g.each m i).0, λ f. (g.each m i).1 (is_identity_of a.size m f))

  -- the bytes that are written
  end : k * a.size ≡ length (concat g.found)
  end = ap (λ (i : ℕ). i * a.size) (sym g.number) ∙ sym (concat_length a.size g.found (λ m i. (proper m i).0.map.long))

  fits : k * a.size ≤ length lent
  fits = let h : k ≤ a.size - 1 = omega (arith, g.few) in omega (arith, g.room, mul-le-mul_right a.size h)

  -- handed over: what is gathered might as well have been laid over itself, and what is then found is right for the bytes that were lent first
  pub gathering_here : Gathering a bytes k met bytes
  gathering_here =
      record {
        accepted = g.accepted;
        two = g.two;
        room = rw g.long g.room;
        enough = g.enough;
        found = g.found;
        number = g.number;
        few = g.few;
        most = g.most;
        small = g.small;
        each = g.each;
        meets = g.meets;
        more = g.more;
        fuel = g.fuel;
        laid = g.laid ∙ sym (rw append-nil at (written_over (concat g.found) [] lent)) ∙ ap (written (concat g.found)) (sym g.laid);
        long = refl;
      }

  all_over : (all : List Map) → all ≡ g.found ++ gathered (a.size - k) a d → written (concat all) bytes ≡ written (concat all) lent
  all_over all e =
      let rest : List Map = gathered (a.size - k) a d in
      rw (e, concat_append g.found rest, g.laid) (written_over (concat g.found) (concat rest) lent)

  pub gathered_on : (r : Collected) (after : List ℕ) → GatheredRight a r bytes after → GatheredRight a r lent after
  gathered_on (All j) after h = (h.0, h.1, h.2 ∙ all_over (gathered a.size a (whole a.size)) g.more)
  gathered_on (Joined x y) after h = h

  -- the meet is the identity: all are gathered
  pub gathering_all : {b : Bool} → b ≡ is_identity a.size met → b ≡ true → GatheredRight a (All k) lent bytes
  gathering_all {b} same t =
      let f : Discrete a.size d = of_is_identity a.size d (rw (begins_is_identity begins) at (T_of (sym same ∙ t))) in
      let e : g.found ≡ gathered a.size a (whole a.size) =
      sym (g.more ∙ ap (λ (l : List Map). g.found ++ l) (gathered_end (a.size - k) a d f) ∙ append-nil g.found) in (
        reducible_when a c g.two (λ m i. (proper m (subst (λ (l : List Map). Member m l) (sym e) i)).1),
        sym g.number ∙ ap length e,
        g.laid ∙ ap (λ (l : List Map). written (concat l) lent) e,
      )

  -- Separate gives the identity for the first pair of the meet: every other congruence holds that pair, and the meet holds every pair that they all hold
  module _ (f : ¬ Discrete a.size d) (is : Discrete a.size (added a d)) where
    p : Pair
    p = first_held a.size d

    order : (p.0 < p.1) × (p.1 < a.size)
    unfolding p
    order = of_pairs a.size (first_held a.size d) (first_held_law a.size d f).0

    shared : Common a p.0 p.1
    unfolding p added
    shared =
        let l : p.0 < a.size = omega (arith, order.0, order.1) in
        let z : p.0 ≢ p.1 = omega (arith, order.0) in
        refuse_when a c (separated a p.0 p.1) p.0 p.1 l order.1 (separated_law a c p.0 p.1 l order.1 z) is

    unsplit_here : (ms : List Map) → ¬ Splitting a ms
    unsplit_here = unsplit_when a c p.0 p.1 (omega (arith, order.0, order.1)) order.1 (omega (arith, order.0)) shared

    stop_irreducible : ¬ T (reducible a)
    stop_irreducible t = unsplit_here (listed a) (split a c t)

    stop_pair : common_pair a ≡ first_held a.size d
    unfolding p
    stop_pair =
        let q = common_pair_law a c g.two unsplit_here in
        let held : Holds d (common_pair a).0 (common_pair a).1 =
        meet_all_holds a.size g.found (common_pair a).0 (common_pair a).1 (omega (arith, q.order, q.below)) q.below
        (λ m i. q.shared m (proper m i).0 (λ e. (proper m i).1 (subst (λ (z : Map). Discrete a.size z) (sym e) (identity_discrete a.size)))) in
        elim (q.first p.0 p.1 order.0 order.1 shared) [
          | inl e ↦ e
          | inr b ↦ elim (first_held_first a.size d (common_pair a).0 (common_pair a).1 q.order q.below held) [
            | inl e ↦ sym e
            | inr o ↦ absurd (lex_asym (common_pair a) p b o)
          ]
        ]

  -- the meet is not the identity yet
  module _ {b : Bool} (same : b ≡ is_identity a.size met) (t : b ≡ false) where
    going : is_identity a.size met ≡ false
    going = sym same ∙ t

    discrete : ¬ Discrete a.size d
    discrete f = not_T_of going (rw (begins_is_identity begins) (is_identity_of a.size d f))

    finer : blocks a.size d < blocks a.size (meet a.size d (added a d))
    finer =
        let n : ℕ = a.size in
        let q = added_law a c d discrete in
        blocks_more n d (meet n d (added a d)) map (meet_map n d (added a d)) (λ x y l i e. (of_meet n d (added a d) x y l i e).0) q.0 q.1 q.2 q.3 q.4
        (λ e. q.5.apart (of_meet n d (added a d) q.0 q.1 q.2 q.3 e).1)

    -- so there is room for one more
    short : k + 1 ≤ a.size - 1
    short = omega (arith, g.fuel, blocks_le a.size (meet a.size d (added a d)), finer)

    behind : at + a.size ≤ length bytes
    behind = omega (arith, g.room, g.long, mul-le-mul_right a.size short, suc-mul k a.size, ap (λ (z : ℕ). z * a.size) (add-one k))

    next_small : at + a.size ≤ 4032
    next_small =
        let h : k + 1 ≤ 63 = omega (arith, short, g.most) in
        omega (arith, mul-le-mul_right a.size h, suc-mul k a.size, ap (λ (z : ℕ). z * a.size) (add-one k), g.most)

    unmet : Unmet a.size met
    unmet = record { some = c.some; most = g.most; enough = g.enough; canonical = gathering_canonical.1; going = going }

    pub gathering_wanted : Wanted a at met bytes
    gathering_wanted = record { accepted = g.accepted; unmet = unmet; fits = behind }

    module _ {bytes' : List ℕ} (s : Separated a at met bytes bytes') where
      new_map : IsMap a.size (added a met)
      new_map = (added_law a c met (λ f. not_T_of going (is_identity_of a.size met f))).5.cong.map

      new_begins : Begins a.size (drop at bytes') (added a met)
      unfolding laid
      new_begins =
          begins_written (added a met) (drop at bytes)
          (ap (drop at) s ∙ drop_at (take at bytes) (written (added a met) (drop at bytes)) at (length-take-le at bytes (omega (arith, behind)))) new_map

      long : length bytes' ≡ length bytes
      unfolding laid
      long =
          rw (s, length-append (take at bytes) (written (added a met) (drop at bytes)), written_length (added a met) (drop at bytes) (omega (arith, new_map.long, length-drop at bytes, behind)))
          (omega (arith, length-take-le at bytes (omega (arith, behind)), length-drop at bytes, behind))

      pub gathering_meetable : {table : List ℕ} → 4096 ≤ length table → Meetable a.size at bytes' table met
      gathering_meetable h =
          record {
            most = g.most;
            fits = omega (arith, long, behind);
            pairs = h;
            enough = g.enough;
            new = begins_canonical new_begins new_map;
            old = gathering_canonical.1;
          }

      module _ {stop : Bool} {met' : List ℕ} (p : Met a.size at bytes' met stop met') where
        is_identity_lem : stop ≡ is_identity a.size (added a d)
        is_identity_lem = p.identity ∙ begins_is_identity new_begins ∙ ap (is_identity a.size) (begins_added a begins)

        -- one congruence more
        pub gathering_more : stop ≡ false → Gathering a lent (k + 1) met' bytes'
        unfolding written
        gathering_more e =
            let n : ℕ = a.size in
            let new : added a met ≡ added a d = begins_added a begins in
            let i : ¬ T (is_identity n (added a d)) = not_T_of (sym is_identity_lem ∙ e) in
            let both : meet n met (drop at bytes') ≡ meet n d (added a d) = begins_meet begins (begins_is new_begins new) in
            let met_all : meet_all n (g.found ++ (added a d ∷ [])) ≡ meet n d (added a d) = meet_all_snoc n g.found (added a d) in
            let one : n - k ≡ suc (n - (k + 1)) = omega (arith, g.few) in
            let m : IsMap n (meet n met (drop at bytes')) = meet_map n met (drop at bytes') in
            record {
              accepted = g.accepted;
              two = g.two;
              room = g.room;
              enough = rw (p.meets e, written_length (meet n met (drop at bytes')) met (omega (arith, m.long, g.enough))) g.enough;
              found = g.found ++ (added a d ∷ []);
              number = rw (length-append g.found (added a d ∷ []), g.number) refl;
              few = omega (arith, short);
              most = g.most;
              small = omega (arith, next_small, suc-mul k n, ap (λ (z : ℕ). z * n) (add-one k));
              each = λ s j. elim (append_cases g.found j) [
                | inl h ↦ g.each s h
                | inr h ↦ rw (eq_of_singleton h) (congruence_of a (added a d) (added_law a c d discrete).5.cong, i)
              ];
              meets = ap (take n) (p.meets e) ∙ take_at (meet n met (drop at bytes')) (drop (length (meet n met (drop at bytes'))) met) n m.long ∙ both ∙ sym met_all;
              more = g.more ∙ ap (λ (i : ℕ). g.found ++ gathered i a d) one ∙ ap (λ (l : List Map). g.found ++ l) (gathered_step (n - (k + 1)) a d discrete)
                  ∙ sym (append_assoc g.found (added a d ∷ []) (gathered (n - (k + 1)) a (meet n d (added a d))))
                  ∙ ap (λ (z : Map). (g.found ++ (added a d ∷ [])) ++ gathered (n - (k + 1)) a z) (sym met_all);
              fuel = rw met_all (omega (arith, g.fuel, finer));
              laid = s ∙ ap (laid bytes at) new ∙ ap (λ (z : List ℕ). laid z at (added a d)) g.laid ∙ laid_snoc g.found (added a d) lent at end (omega (arith, end, fits));
              long = long ∙ g.long;
            }

        -- the identity: the meet is as it was
        module _ (e : stop ≡ true) where
          pub gathering_unmet : Unmet a.size met'
          gathering_unmet = rw (p.stays e) unmet

          pub gathering_stop : {r : Collected} (after : List ℕ) → r ≡ pair_found (first_held a.size met') → GatheredRight a r lent after
          gathering_stop after f =
              let is : Discrete a.size (added a d) = of_is_identity a.size (added a d) (T_of (sym is_identity_lem ∙ e)) in
              rw (f, p.stays e) (stop_irreducible discrete is, stop_pair discrete is ∙ sym (begins_first_held begins))
