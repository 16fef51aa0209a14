-- One line: which maps it keeps, and what it splits a map into. Several lines: splits one after the other are one split.
use Prim.Native.Nat.{ℕ, ◌+◌, ◌-◌, ◌≤◌, ◌<◌}
use mathlib.Core.Bool.{Bool, true, false}
use mathlib.Core.List.{List, ◌++◌}
use mathlib.Core.Path.{◌≡◌, refl, sym, ap, subst, ◌∙◌}
use native.Mathlib.Decide.{dec_lt, ℕ_discrete}
use native.Mathlib.Omega.{arith}
use lib.Dec.{T}
use lib.ListN.{length, take, set, get_or-append}
use lib.Seq.{get_or-set_same, get_or-set_other, get_or-take, length-take-le}
use borrow.Author.Count.{below_more}
use Rattle.equivalence.specs.Equivalence.{Map, byte}
use Rattle.kernel.specs.InnerKernel.{Canonical, Within, KeptPast, names, Listed}
use Rattle.refinement.specs.InnerSplitting.{Elements, Parted, Broken, Keeps, KeepsOn, Breaks, Alike, MapLent, LineLent, MapSplit, LineParted, LineSplit, Only, Every, Sifted, Split, Never}
use Rattle.translation.specs.InnerLines.{line_at}
use Rattle.kernel.proofs.Names.{names_another, names_most}

pub never : {A : Type 0} → false ≡ true → A
never e = absurd (subst T (sym e) tt)

-- ---- a line that keeps a map

pub keeps_by_first : (n : ℕ) (t f : ℕ → ℕ) → KeepsOn (λ x. x < n) t f → Keeps n t f
keeps_by_first n t f h x y lx ly e = h x lx ∙ ap (λ (z : ℕ). f (t z)) e ∙ sym (h y ly)

-- every line keeps the smallest members where they are
pub names_kept : {L : ℕ → Type 0} (t f : ℕ → ℕ) → ((x : ℕ) → L x → f x ≡ x) → KeepsOn L t f
names_kept t f h x l = ap (λ (z : ℕ). f (t z)) (sym (h x l))

-- ---- a line that splits a block of a map

module _ {n : ℕ} {In : ℕ → Type 0} {t f f' : ℕ → ℕ} (c : Canonical n f) (s : (x : ℕ) → x < n → Alike t f In x (f' x)) where
  -- what is alike has one name
  alike_most : (x y : ℕ) → x < n → y < n → f x ≡ f y → (In (f x) → f (t x) ≡ f (t y)) → f' y ≤ f' x
  alike_most x y lx ly p q =
      elim (dec_lt (f' x) (f' y)) [
        | yes l ↦ absurd ((s y ly).first (f' x) l ((s x lx).before ∙ p) (λ e. (s x lx).after (subst In (sym p) e) ∙ q (subst In (sym p) e)))
        | no l ↦ omega arith
      ]

  alike_same : (x y : ℕ) → x < n → y < n → f x ≡ f y → (In (f x) → f (t x) ≡ f (t y)) → f' x ≡ f' y
  alike_same x y lx ly p q = omega (arith, alike_most x y lx ly p q, alike_most y x ly lx (sym p) (λ e. sym (q (subst In (sym p) e))))

  alike_canonical : Canonical n f'
  alike_canonical = record {
    below = λ x l. (s x l).low;
    named = λ x l. alike_same (f' x) x (omega (arith, (s x l).low)) l (s x l).before (λ e. (s x l).after (subst In (s x l).before e));
  }

  alike_within : Within n f' f
  alike_within x y lx ly e = sym (s x lx).before ∙ ap f e ∙ (s y ly).before

  alike_greatest : ((x : ℕ) → x < n → t x < n) → (g : ℕ → ℕ) → Keeps n t g → Within n g f → Within n g f'
  alike_greatest b g k w x y lx ly e = alike_same x y lx ly (w x y lx ly e) (λ p. w (t x) (t y) (b x lx) (b y ly) (k x y lx ly e))

  alike_names : (x : ℕ) → x < n → f x ≡ x → f' x ≡ x
  alike_names x l e =
      let k : f' x ≤ x = (s x l).low in
      omega (arith, c.below (f' x) (omega arith), (s x l).before)

  -- an element of a block that is split, not alike to its smallest member, gives a name more
  alike_more : (x : ℕ) → x < n → In (f x) → Breaks t f x → names n f < names n f'
  alike_more x l e h =
      names_another n f f' alike_names (f' x) (omega (arith, (s x l).low)) (alike_canonical.named x l)
      (λ p. h (sym ((s x l).after e) ∙ ap (λ (z : ℕ). f (t z)) (sym p ∙ (s x l).before)))

-- ---- splits

pub split_none : {n : ℕ} {Good Done : (ℕ → ℕ) → Type 0} {m : Map} → Canonical n (byte m) → Done (byte m) → Split n Good Done m m
split_none c d = record {
  canonical = c;
  within = λ x y lx ly p. p;
  greatest = λ g good w. w;
  rest = λ x l. refl;
  more = omega arith;
  still = λ p. refl;
  done = λ p. d;
}

-- blocks are split along a line that breaks in one of them
split_alike : {n : ℕ} (In : ℕ → Type 0) {t : ℕ → ℕ} {m m' : Map} (x : ℕ) → x < n → In (byte m x) → Breaks t (byte m) x → Canonical n (byte m) → ((y : ℕ) → y < n → t y < n)
    → ((y : ℕ) → y < n → Alike t (byte m) In y (byte m' y)) → KeptPast n (byte m) (byte m') → Split n (Keeps n t) Never m m'
split_alike In x l e h c k s o =
    let w = alike_more c s x l e h in
    record {
      canonical = alike_canonical c s;
      within = alike_within c s;
      greatest = alike_greatest c s k;
      rest = o;
      more = omega arith;
      still = λ p. absurd (omega arith);
      done = λ p. omega arith;
    }

pub line_again : {n : ℕ} {m m' cells : Map} {base stride : ℕ} → LineLent n m cells base stride → MapLent n m' cells → LineLent n m' cells base stride
line_again p q = record { map = q; line = p.line }

-- a map that was split is lent again
pub lent_again : {n : ℕ} {m m' cells : Map} → MapLent n m cells → length m' ≡ length m → Canonical n (byte m') → MapLent n m' cells
lent_again p e c = record { some = p.some; small = p.small; room = omega (arith, p.room); canonical = c; below = p.below }

module _ {n : ℕ} {m m' cells : Map} {base stride x : ℕ} (p : LineLent n m cells base stride) (l : x < n) (h : Breaks (line_at cells base stride) (byte m) x) (e : length m' ≡ length m) (o : KeptPast n (byte m) (byte m')) where
  alike_split : (In : ℕ → Type 0) → In (byte m x) → ((y : ℕ) → y < n → Alike (line_at cells base stride) (byte m) In y (byte m' y)) → LineParted n cells base stride m m'
  alike_split In i s =
      let k = split_alike In x l i h p.map.canonical (λ y ly. p.map.below _ (p.line.inside y ly)) s o in
      record { parted = record { split = k; map = lent_again p.map e k.canonical } }

  -- the block of x is split
  pub block_split : ((y : ℕ) → y < n → Alike (line_at cells base stride) (byte m) (Only (byte m x)) y (byte m' y)) → LineParted n cells base stride m m'
  unfolding Only
  block_split s = alike_split (Only (byte m x)) refl s

  -- all blocks are split
  pub blocks_split : ((y : ℕ) → y < n → Alike (line_at cells base stride) (byte m) Every y (byte m' y)) → LineParted n cells base stride m m'
  unfolding Every
  blocks_split s = alike_split Every tt s

-- where nothing may be done there is a block more
pub split_rises : {n : ℕ} {Good : (ℕ → ℕ) → Type 0} {m m' : Map} → Split n Good Never m m' → names n (byte m) < names n (byte m')
split_rises {n} {m = m} {m'} s =
    elim (ℕ_discrete (names n (byte m')) (names n (byte m))) [
      | yes e ↦ absurd (s.done e)
      | no e ↦ omega (arith, s.more)
    ]

-- so the blocks that may still come are fewer
pub rises_less : {n : ℕ} {Good : (ℕ → ℕ) → Type 0} {m m' : Map} → Split n Good Never m m' → n - names n (byte m') < n - names n (byte m)
rises_less {n} {m = m} {m'} s = omega (arith, split_rises s, names_most n (byte m'))

-- one split after another
pub split_more : {n : ℕ} {Good Good' Done Done' Both : (ℕ → ℕ) → Type 0} {m₀ m m' : Map} → ((g : ℕ → ℕ) → Good g → Good' g)
    → ((g : ℕ → ℕ) → Done g → Done' g → Both g) → Split n Good Done m₀ m → Split n Good' Done' m m' → Split n Good Both m₀ m'
split_more {n} {Done = Done} {m₀ = m₀} {m} {m'} also both s u =
    record {
      canonical = u.canonical;
      within = λ x y lx ly p. s.within x y lx ly (u.within x y lx ly p);
      greatest = λ g good w. u.greatest g (also g good) (s.greatest g good w);
      rest = λ x l. u.rest x l ∙ s.rest x l;
      more = omega (arith, s.more, u.more);
      still = λ e. u.still (there e) ∙ s.still (here e);
      done = λ e. both _ (subst (λ (z : Map). Done (byte z)) (sym (u.still (there e))) (s.done (here e))) (u.done (there e));
    }
  where
    here : names n (byte m') ≡ names n (byte m₀) → names n (byte m) ≡ names n (byte m₀)
    here e = omega (arith, s.more, u.more)

    there : names n (byte m') ≡ names n (byte m₀) → names n (byte m') ≡ names n (byte m)
    there e = omega (arith, s.more, u.more)

-- what is asked and what is done may be said otherwise
pub split_said : {n : ℕ} {Good Good' Done Done' : (ℕ → ℕ) → Type 0} {m m' : Map} → ((g : ℕ → ℕ) → Good' g → Good g) → (Done (byte m') → Done' (byte m'))
    → Split n Good Done m m' → Split n Good' Done' m m'
split_said ask h s = record {
  canonical = s.canonical;
  within = s.within;
  greatest = λ g good. s.greatest g (ask g good);
  rest = s.rest;
  more = s.more;
  still = s.still;
  done = λ e. h (s.done e);
}

-- a loop that has split along those below i splits along i
pub split_next : {n i : ℕ} {Good Good' : (ℕ → ℕ) → Type 0} {Q : ℕ → (ℕ → ℕ) → Type 0} {m₀ m m' : Map} → ((g : ℕ → ℕ) → Good g → Good' g) → Split n Good (λ g. (j : ℕ) → j < i → Q j g) m₀ m
    → Split n Good' (Q i) m m' → Split n Good (λ g. (j : ℕ) → j < i + 1 → Q j g) m₀ m'
split_next {i = i} {Q = Q} also s u = split_more also (λ g h d. below_more (λ (j : ℕ). Q j g) i h d) s u

-- a loop that has passed the indices below i passes i
pub range_more : {i start : ℕ} (P : ℕ → Type 0) → ((k : ℕ) → start ≤ k → k < i → P k) → P i → (k : ℕ) → start ≤ k → k < i + 1 → P k
range_more {i} P h p k l m =
    elim (ℕ_discrete k i) [
      | yes e ↦ rw e p
      | no e ↦ h k l (omega arith)
    ]

-- what was asked of every index is said of every listed element
pub by_index : (list : List ℕ) (count : ℕ) (Q : ℕ → Type 0) → ((i : ℕ) → i < count → Q (byte list i)) → (x : ℕ) → Listed list count x → Q x
by_index list count Q h x k = subst Q k.1.1 (h k.0 k.1.0)

-- a loop that writes at each index what P asks of it
pub each_written : {i v : ℕ} (P : ℕ → ℕ → Type 0) (m : Map) → i < length m → ((x : ℕ) → x < i → P x (byte m x)) → P i v → (x : ℕ) → x < i + 1 → P x (byte (set m i v) x)
each_written {i} {v} P m l h p x k =
    elim (ℕ_discrete x i) [
      | yes e ↦ rw (e, get_or-set_same m i v 0 l) p
      | no e ↦ rw (get_or-set_other m i x v 0 e) (h x (omega arith))
    ]

-- what was written is copied
pub alike_copied : {n : ℕ} {t f : ℕ → ℕ} {In : ℕ → Type 0} (next : List ℕ) {new : List ℕ} (rest : List ℕ) → n ≤ length next → new ≡ take n next → ((x : ℕ) → x < n → Alike t f In x (byte next x))
    → (x : ℕ) → x < n → Alike t f In x (byte (new ++ rest) x)
alike_copied {n} next {new} rest r e h x l =
    let long : length new ≡ n = rw e (length-take-le n next r) in
    let same : byte new x ≡ byte next x = rw e (get_or-take n next x 0 l) in
    rw (get_or-append new rest 0 x (omega arith), same) (h x l)

-- what is done may be said otherwise of a lent map
pub map_said : {n : ℕ} {cells : List ℕ} {Good Done Done' : (ℕ → ℕ) → Type 0} {m m' : Map} → (Done (byte m') → Done' (byte m')) → MapSplit n cells Good Done m m' → MapSplit n cells Good Done' m m'
map_said h s = record { split = split_said (λ g good. good) h s.split; map = s.map }

pub map_none : {n : ℕ} {cells : List ℕ} {Good Done : (ℕ → ℕ) → Type 0} {m : Map} → MapLent n m cells → Done (byte m) → MapSplit n cells Good Done m m
map_none p d = record { split = split_none p.canonical d; map = p }

-- ---- a search along a list

-- the elements of a list from `start` to i are kept
pub record Passed (t f : ℕ → ℕ) (list : List ℕ) (count start i : ℕ) : Type 0 where
  pub after : start ≤ i
  pub most : i ≤ count
  pub kept : (k : ℕ) → start ≤ k → k < i → f (t (byte list k)) ≡ f (t (f (byte list k)))

module _ {t f : ℕ → ℕ} {list : List ℕ} {count start : ℕ} where
  pub passed_none : start ≤ count → Passed t f list count start start
  passed_none l = record { after = omega arith; most = l; kept = λ k p q. absurd (omega arith) }

  module _ {i : ℕ} {b : Bool} (s : Passed t f list count start i) where
    pub passed_more : i < count → Parted (f (t (byte list i))) (f (t (f (byte list i)))) b → b ≡ false → Passed t f list count start (i + 1)
    passed_more l p e = record {
      after = omega (arith, s.after);
      most = omega arith;
      kept = range_more (λ (k : ℕ). f (t (byte list k)) ≡ f (t (f (byte list k)))) s.kept (p.no e);
    }

  pub passed_all : {i : ℕ} → Passed t f list count start i → count ≤ i → Broken t f list count start count
  passed_all s l = record { after = omega (arith, s.after, s.most); most = omega arith; kept = λ k p q. s.kept k p (omega arith); found = λ q. absurd (omega arith) }

-- ---- splits along one line, wherever it breaks

-- the line breaks at the element at k, and m₀ was split along it if that is not the first
pub record Along (n : ℕ) (cells : List ℕ) (base stride : ℕ) (list : List ℕ) (count start k : ℕ) (m₀ m : Map) : Type 0 where
  pub after : start ≤ k
  pub most : k < count
  pub breaks : Breaks (line_at cells base stride) (byte m) (byte list k)
  pub lent : LineLent n m cells base stride
  pub split : Split n (Keeps n (line_at cells base stride)) (λ g. k ≡ start) m₀ m

module _ {n : ℕ} {cells : List ℕ} {base stride : ℕ} {list : List ℕ} {count start : ℕ} where
  module _ {k : ℕ} {m₀ m m' : Map} (s : Along n cells base stride list count start k m₀ m) (u : LineParted n cells base stride m m') where
    pub along_done : LineParted n cells base stride m₀ m'
    along_done = record { parted = record { split = split_more (λ g good. good) (λ g d e. e) s.split u.parted.split; map = u.parted.map } }

    pub along_more : {r : ℕ} → (r < count) × Broken (line_at cells base stride) (byte m') list count (k + 1) r → Along n cells base stride list count start r m₀ m'
    along_more b = record {
      after = omega (arith, s.after, b.1.after);
      most = b.0;
      breaks = b.1.found b.0;
      lent = line_again s.lent u.parted.map;
      split = split_said (λ g good. good) (λ e. absurd e) (split_more (λ g good. good) (λ g d e. e) s.split u.parted.split);
    }

-- nothing was sifted
pub sifted_none : {f : ℕ → ℕ} {list : List ℕ} {count : ℕ} → count ≤ length list → Sifted f list count list count
sifted_none r = record { fewer = omega arith; room = r; old = λ i l. (i, (l, refl)); all = λ x k h. k }

-- a line that keeps what is listed splits nothing
pub line_kept : {n : ℕ} {cells : List ℕ} {base stride : ℕ} {m : Map} {list : List ℕ} {count : ℕ} → LineLent n m cells base stride → Elements n list count
    → Broken (line_at cells base stride) (byte m) list count 0 count → LineSplit n cells base stride m m list count list count
line_kept {cells = cells} {base} {stride} {m} {list} {count} p e b = record {
  split = map_none p.map (by_index list count (λ (x : ℕ). byte m (line_at cells base stride x) ≡ byte m (line_at cells base stride (byte m x))) (λ k l. b.kept k (omega arith) (omega arith)));
  sifted = sifted_none e.room;
}

-- the blocks that may still come are fewer
pub parted_less : {n : ℕ} {cells : List ℕ} {base stride : ℕ} {m m' : Map} → LineParted n cells base stride m m' → n - names n (byte m') < n - names n (byte m)
parted_less u = rises_less u.parted.split

-- a listed element is one
pub listed_below : {n count i : ℕ} {list : List ℕ} → Elements n list count → i < count → byte list i < n
listed_below {i = i} e l = e.below i l
