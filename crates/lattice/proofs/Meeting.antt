-- The pass that finds a meet: a table keeps, at the place of an element's two names, the first element that has them (`Seen`). Laws of the
-- pass (`Entering`), where what is found is the byte of the meet, and of a map met in place (`Meeting`): they start each, keep it and end it.
use Prim.Native.Nat.{ℕ, ◌+◌, ◌*◌, ◌≤◌, ◌<◌}
use mathlib.Core.List.{List}
use mathlib.Core.Path.{◌≡◌, refl, sym, ap, ◌∙◌}
use native.Mathlib.Decide.{dec_lt, ℕ_discrete}
use native.Mathlib.Omega.{arith}
use lib.ListN.{length, set, length-set}
use lib.Seq.{get_or-set_same, get_or-set_other}
use borrow.Author.Tests.{lt-ltb, le-ltb}
use Rattle.equivalence.specs.Equivalence.{Map, byte, meet}
use Rattle.lattice.specs.InnerMeeting.{Begun, Entered}
use Rattle.equivalence.specs.Lent.{written}
use Rattle.kernel.specs.InnerKernel.{Canonical, Filled, seen_or}
use Rattle.kernel.proofs.Kernels.{filled_none, filled_more, filled_all}
use Rattle.equivalence.proofs.Maps.{Holds}
use Rattle.equivalence.proofs.Meets.{meet_map, meet_holds, of_meet, meet_byte, meet_alike}
use Rattle.equivalence.proofs.Writing.{filled_written, written_new, written_old}

pub seen_or_yes : (seen x : ℕ) → seen < 64 → seen_or seen x ≡ seen
unfolding seen_or
seen_or_yes seen x l = rw (lt-ltb seen 64 l, seen_or)

pub seen_or_no : (seen x : ℕ) → 64 ≤ seen → seen_or seen x ≡ x
unfolding seen_or
seen_or_no seen x l = rw (le-ltb seen 64 l, seen_or)

-- ---- the elements seen

-- where the table keeps the elements with x's two names
abbrev pub placed : Map → Map → ℕ → ℕ
placed a b x = byte b x * 64 + byte a x

-- the elements below i are entered, and the rows of the names below j are begun
pub record Seen (n i j : ℕ) (a b : Map) (table : List ℕ) : Type 0 where
  pub first : (x : ℕ) → x < i → byte table (placed a b x) ≡ byte (meet n a b) x
  pub known : (x : ℕ) → x < n → byte b x < j → byte table (placed a b x) < 64
      → (byte table (placed a b x) < i) × (placed a b (byte table (placed a b x)) ≡ placed a b x)

pub seen_none : (n : ℕ) (a b : Map) (table : List ℕ) → Seen n 0 0 a b table
seen_none n a b table = record { first = λ x l. absurd (omega arith); known = λ x l k. absurd (omega arith) }

module _ (n : ℕ) (a b : Map) (small : n ≤ 64) (ca : Canonical n (byte a)) (cb : Canonical n (byte b)) where
  placed_below : (x : ℕ) → x < n → placed a b x < 4096
  placed_below x l = omega (arith, ca.below x l, cb.below x l)

  -- in the row of x's name
  placed_row : (x i : ℕ) → x < n → byte b x < i → placed a b x < i * 64
  placed_row x i l k = omega (arith, ca.below x l)

  placed_same : (x y : ℕ) → x < n → y < n → placed a b x ≡ placed a b y → Holds a x y × Holds b x y
  placed_same x y l k e =
      let p = ca.below x l in
      let q = ca.below y k in
      (omega arith, omega arith)

  meet_placed : (x y : ℕ) → x < n → y < n → placed a b x ≡ placed a b y → Holds (meet n a b) x y
  meet_placed x y l k e = let r = placed_same x y l k e in meet_holds n a b x y l k r.0 r.1

  module _ (i : ℕ) (l : i < n) where
    -- the row of i's name is begun: it is cleared by i, or a smaller element is the name
    seen_begun : {table begun : List ℕ} → Begun i (byte b i) table begun → Seen n i i a b table → Seen n i (i + 1) a b begun
    seen_begun {table} {begun} g s =
        record {
          first = λ x h. same x (omega arith) (omega (arith, cb.below x (omega arith))) ∙ s.first x h;
          known = λ x h k t. elim (ℕ_discrete (byte b x) i) [
            | yes e ↦ let own : byte b i ≡ i = ap (byte b) (sym e) ∙ cb.named x h ∙ e in
                let new : byte begun (placed a b x) ≡ 64 = rw e (g.none own (byte a x) (omega (arith, ca.below x h))) in
                absurd (omega arith)
            | no e ↦ let f : byte begun (placed a b x) ≡ byte table (placed a b x) = same x h (omega arith) in
                rw f (s.known x h (omega arith) (omega arith))
          ];
        }
      where
        same : (x : ℕ) → x < n → byte b x < i → byte begun (placed a b x) ≡ byte table (placed a b x)
        same x h k = g.kept (placed a b x) (placed_row x i h k)

    module _ {table : List ℕ} (s : Seen n i (i + 1) a b table) where
      seen_is : seen_or (byte table (placed a b i)) i ≡ byte (meet n a b) i
      seen_is =
          elim (dec_lt (byte table (placed a b i)) 64) [
            | yes k ↦ let r = s.known i l (omega (arith, cb.below i l)) k in
                let v : ℕ = byte table (placed a b i) in
                let e : v ≡ byte (meet n a b) v = ap (byte table) (sym r.1) ∙ s.first v r.0 in
                seen_or_yes v i k ∙ e ∙ meet_placed v i (omega (arith, r.0)) l r.1
            | no k ↦ seen_or_no (byte table (placed a b i)) i (omega arith)
                ∙ sym (meet_byte n a b i i l l refl refl (λ z j e f. k
                (let same : placed a b z ≡ placed a b i = omega arith in
                let q : byte table (placed a b i) ≡ byte (meet n a b) z = ap (byte table) (sym same) ∙ s.first z j in
                omega (arith, (meet_map n a b).low z (omega arith)))))
          ]

      seen_more : (v : ℕ) → v ≡ byte (meet n a b) i → 4096 ≤ length table → Seen n (i + 1) (i + 1) a b (set table (placed a b i) v)
      seen_more v e long =
          record {
            first = λ x h. elim (ℕ_discrete (placed a b x) (placed a b i)) [
              | yes p ↦ rw p (new ∙ sym (meet_placed x i (omega arith) l p))
              | no p ↦ old x p ∙ s.first x (other x h p)
            ];
            known = λ x h j k. elim (ℕ_discrete (placed a b x) (placed a b i)) [
              | yes p ↦ rw (p, new) (omega (arith, (meet_map n a b).low i l), again)
              | no p ↦ let f : byte (set table (placed a b i) v) (placed a b x) ≡ byte table (placed a b x) = old x p in
                  let r = s.known x h j (omega arith) in
                  rw f (omega (arith, r.0), r.1)
            ];
          }
        where
          new : byte (set table (placed a b i) v) (placed a b i) ≡ byte (meet n a b) i
          new = get_or-set_same table (placed a b i) v 0 (omega (arith, placed_below i l)) ∙ e

          old : (x : ℕ) → (placed a b x ≡ placed a b i → ⊥) → byte (set table (placed a b i) v) (placed a b x) ≡ byte table (placed a b x)
          old x p = get_or-set_other table (placed a b i) (placed a b x) v 0 p

          other : (x : ℕ) → x < i + 1 → (placed a b x ≡ placed a b i → ⊥) → x < i
          other x h p = elim (ℕ_discrete x i) [ yes q ↦ absurd (p (ap (placed a b) q)) | no q ↦ omega arith ]

          again : placed a b (byte (meet n a b) i) ≡ placed a b i
          again =
              let m = meet_map n a b in
              let r = of_meet n a b (byte (meet n a b) i) i (omega (arith, m.low i l)) l (m.named i l) in
              omega (arith, r.0, r.1)

-- a pass over two maps that enters their elements: those below i are entered
pub record Entering (n i : ℕ) (a b table : List ℕ) : Type 0 where
  pub small : n ≤ 64
  pub first : Canonical n (byte a)
  pub second : Canonical n (byte b)
  pub size : 4096 ≤ length table
  pub upto : i ≤ n
  pub seen : Seen n i i a b table

pub entering_none : {n : ℕ} {a b table : List ℕ} → n ≤ 64 → Canonical n (byte a) → Canonical n (byte b) → 4096 ≤ length table → Entering n 0 a b table
entering_none {n} {a} {b} {table} small ca cb size =
    record { small = small; first = ca; second = cb; size = size; upto = omega arith; seen = seen_none n a b table }

module _ {n i : ℕ} {a b table : List ℕ} (s : Entering n i a b table) (l : i < n) where
  -- what entering the next one asks for
  pub entering_names : (i < 64) × (byte a i ≤ i) × (byte b i ≤ i)
  entering_names = (omega (arith, s.small), s.first.below i l, s.second.below i l)

  module _ {v : ℕ} {table' : List ℕ} (t : Entered i (byte a i) (byte b i) table v table') where
    next : Seen n i (i + 1) a b t.begun
    next = seen_begun n a b s.small s.first s.second i l t.row s.seen

    -- the element found is the byte of the meet
    pub entering_is : v ≡ byte (meet n a b) i
    entering_is = t.is ∙ seen_is n a b s.small s.first s.second i l next

    pub entering_more : Entering n (i + 1) a b table'
    entering_more =
        record {
          small = s.small;
          first = s.first;
          second = s.second;
          size = rw t.after (simp length-set t.long);
          upto = omega arith;
          seen = rw t.after (seen_more n a b s.small s.first s.second i l next v entering_is t.long);
        }

-- ---- a map met in place

-- a becomes its meet with b: the first i bytes of m are the meet's, the others still a's
pub record Meeting (n i : ℕ) (a b table m : List ℕ) : Type 0 where
  pub entering : Entering n i a b table
  pub room : n ≤ length a
  pub long : length m ≡ length a
  pub done : Filled i (byte (meet n a b)) (byte a) (byte m)

pub meeting_none : {n : ℕ} {a b table : List ℕ} → n ≤ 64 → n ≤ length a → 4096 ≤ length table → Canonical n (byte a) → Canonical n (byte b) → Meeting n 0 a b table a
meeting_none small room size ca cb = record { entering = entering_none small ca cb size; room = room; long = refl; done = filled_none _ _ }

module _ {n i : ℕ} {a b table m : List ℕ} (t : Meeting n i a b table m) where
  module _ (l : i < n) where
    -- the byte that is read is still a's
    this : byte m i ≡ byte a i
    this = t.done.rest i (omega arith)

    pub meeting_names : (i < 64) × (byte m i ≤ i) × (byte b i ≤ i)
    meeting_names = rw this (entering_names t.entering l)

    pub meeting_more : {v : ℕ} {table' : List ℕ} → Entered i (byte m i) (byte b i) table v table' → Meeting n (i + 1) a b table' (set m i v)
    meeting_more {v} {table'} e =
        let f : Entered i (byte a i) (byte b i) table v table' = rw this at e in
        record {
          entering = entering_more t.entering l f;
          room = t.room;
          long = simp length-set t.long;
          done = filled_more m v (omega (arith, t.room, t.long)) (entering_is t.entering l f) t.done;
        }

  pub meeting_all : n ≤ i → m ≡ written (meet n a b) a
  meeting_all l = filled_written n (meet n a b) a m (meet_map n a b).long t.room t.long (filled_all t.entering.upto l t.done)

-- the meet of b and what was copied there
pub copied_met : {n : ℕ} (a b lent copied : List ℕ) {after : List ℕ} → n ≤ length lent → length copied ≡ length lent → length after ≡ length copied
    → Filled n (byte a) (byte lent) (byte copied) → after ≡ written (meet n copied b) copied → after ≡ written (meet n a b) lent
copied_met {n} a b lent copied {after} room long same r e =
    let m = meet_map n copied b in
    let is : meet n copied b ≡ meet n a b = meet_alike n copied a b b (λ x l. r.first x l) (λ x l. refl) in
    filled_written n (meet n a b) lent after (meet_map n a b).long room (same ∙ long)
    record {
      first = λ x l. ap (λ (c : List ℕ). byte c x) e ∙ written_new (meet n copied b) copied (omega (arith, m.long)) x (omega (arith, m.long)) ∙ ap (λ (c : List ℕ). byte c x) is;
      rest = λ x l. ap (λ (c : List ℕ). byte c x) e ∙ written_old (meet n copied b) copied (omega (arith, m.long)) x (omega (arith, m.long)) ∙ r.rest x l;
    }
