-- Maps: what the tests say (`IsMap`, `Holds`, `Inside`), inclusion as a partial order, the map of a test, the identity and `whole`.
use Prim.Native.Nat.{ℕ, ◌≤◌, ◌<◌}
use mathlib.Core.Bool.{Bool, true, not, ◌&&◌, ◌||◌}
use mathlib.Core.Path.{◌≡◌, refl, sym, ap, subst, ◌∙◌}
use native.Mathlib.Nat.{le_antisymm}
use native.Mathlib.Omega.{arith}
use lib.Dec.{T, eqb, leb, eqb→eq, eqb_refl, leb→le, le→leb}
use lib.ListN.{length, length-map}
use lib.Seq.{ext_get_or}
use Rattle.equivalence.specs.Equivalence.{Map, byte, is_map, holds, inside, map_of, identity, whole, same, is_identity}
use Rattle.equivalence.specs.Lists.{up_to, every, first}
use Rattle.equivalence.proofs.Lists.{first_found, up_to_length, member_up_to, below_of, of_below, table_at, first_least, first_is}
use Rattle.equivalence.proofs.Tests.{both, left, right, implies, implied, eq→eqb}

-- m holds x and y: the tests' meaning
abbrev pub Holds : Map → ℕ → ℕ → Type 0
Holds m x y = byte m x ≡ byte m y

pub holds_of : (m : Map) (x y : ℕ) → Holds m x y → T (holds m x y)
unfolding holds
holds_of m x y e = eq→eqb (byte m x) (byte m y) e

pub of_holds : (m : Map) (x y : ℕ) → T (holds m x y) → Holds m x y
unfolding holds
of_holds m x y t = eqb→eq (byte m x) (byte m y) t

pub record IsMap (n : ℕ) (m : Map) : Type 0 where
  pub long : length m ≡ n
  pub low : (x : ℕ) → x < n → byte m x ≤ x
  pub named : (x : ℕ) → x < n → byte m (byte m x) ≡ byte m x

pub is_map_of : (n : ℕ) (m : Map) → IsMap n m → T (is_map n m)
unfolding is_map
is_map_of n m h =
    both (eqb (length m) n) _ (eq→eqb (length m) n h.long)
    (below_of n (λ x. leb (byte m x) x && eqb (byte m (byte m x)) (byte m x))
    (λ x l. both (leb (byte m x) x) _ (le→leb _ _ (h.low x l)) (eq→eqb _ _ (h.named x l))))

pub of_is_map : (n : ℕ) (m : Map) → T (is_map n m) → IsMap n m
unfolding is_map
of_is_map n m t =
    let each : (x : ℕ) → x < n → T (leb (byte m x) x && eqb (byte m (byte m x)) (byte m x))
    = of_below n (λ x. leb (byte m x) x && eqb (byte m (byte m x)) (byte m x)) (right (eqb (length m) n) _ t) in
    record {
      long = eqb→eq (length m) n (left (eqb (length m) n) _ t);
      low = λ x l. leb→le _ _ (left (leb (byte m x) x) (eqb (byte m (byte m x)) (byte m x)) (each x l));
      named = λ x l. eqb→eq _ _ (right (leb (byte m x) x) (eqb (byte m (byte m x)) (byte m x)) (each x l));
    }

-- every pair of elements that a holds, b holds
abbrev pub Inside : ℕ → Map → Map → Type 0
Inside n a b = (x y : ℕ) → x < n → y < n → Holds a x y → Holds b x y

pub inside_of : (n : ℕ) (a b : Map) → Inside n a b → T (inside n a b)
unfolding inside
inside_of n a b h =
    below_of n (λ x. every (λ y. not (holds a x y) || holds b x y) (up_to n))
    (λ x l. below_of n (λ y. not (holds a x y) || holds b x y)
    (λ y k. implies (holds a x y) (holds b x y) (λ t. holds_of b x y (h x y l k (of_holds a x y t)))))

pub of_inside : (n : ℕ) (a b : Map) → T (inside n a b) → Inside n a b
unfolding inside
of_inside n a b t x y l k e =
    of_holds b x y
    (implied (holds a x y) (holds b x y)
    (of_below n (λ y. not (holds a x y) || holds b x y) (of_below n (λ x. every (λ y. not (holds a x y) || holds b x y) (up_to n)) t x l) y k)
    (holds_of a x y e))

pub low_inside : (n : ℕ) (a b : Map) → IsMap n a → IsMap n b → Inside n a b → (x : ℕ) → x < n → byte b x ≤ byte a x
low_inside n a b p q h x l =
    let k : byte a x < n = omega (arith, p.low x l) in
    omega (arith, q.low (byte a x) k, h x (byte a x) l k (sym (p.named x l)))

pub map_ext : (n : ℕ) (a b : Map) → IsMap n a → IsMap n b → Inside n a b → Inside n b a → a ≡ b
map_ext n a b p q h k =
    ext_get_or 0 a b (p.long ∙ sym q.long)
    (λ x l. let i : x < n = omega (arith, p.long) in le_antisymm (low_inside n b a q p k x i) (low_inside n a b p q h x i))

pub record IsEquivalence (n : ℕ) (related : ℕ → ℕ → Bool) : Type 0 where
  pub same : (x : ℕ) → x < n → T (related x x)
  pub swap : (x y : ℕ) → x < n → y < n → T (related x y) → T (related y x)
  pub chain : (x y z : ℕ) → x < n → y < n → z < n → T (related x y) → T (related y z) → T (related x z)

module _ (n : ℕ) (related : ℕ → ℕ → Bool) where
  map_of_at : (x : ℕ) → x < n → byte (map_of n related) x ≡ first (related x) x (up_to n)
  unfolding map_of
  map_of_at x l = table_at (λ x. first (related x) x (up_to n)) n x 0 l

  long : length (map_of n related) ≡ n
  unfolding map_of
  long = length-map (up_to n) (λ x. first (related x) x (up_to n)) ∙ up_to_length n

  module _ (q : IsEquivalence n related) where
    low : (x : ℕ) → x < n → byte (map_of n related) x ≤ x
    low x l = rw (map_of_at x l) (first_least (related x) x n x l (q.same x l))

    linked : (x : ℕ) → x < n → T (related x (byte (map_of n related) x))
    linked x l = rw (map_of_at x l) (first_found (related x) x (up_to n) x (member_up_to n x l) (q.same x l)).1

    least : (x y : ℕ) → x < n → y < n → T (related x y) → byte (map_of n related) x ≤ y
    least x y l k t = rw (map_of_at x l) (first_least (related x) x n y k t)

    half : (x y : ℕ) → x < n → y < n → T (related x y) → byte (map_of n related) x ≤ byte (map_of n related) y
    half x y l k t =
        let b : byte (map_of n related) y < n = omega (arith, low y k) in
        least x (byte (map_of n related) y) l b (q.chain x y (byte (map_of n related) y) l k b t (linked y k))

    pub map_of_holds : (x y : ℕ) → x < n → y < n → T (related x y) → Holds (map_of n related) x y
    map_of_holds x y l k t = le_antisymm (half x y l k t) (half y x k l (q.swap x y l k t))

    pub of_map_of : (x y : ℕ) → x < n → y < n → Holds (map_of n related) x y → T (related x y)
    of_map_of x y l k e =
        let b : byte (map_of n related) y < n = omega (arith, low y k) in
        q.chain x (byte (map_of n related) y) y l b k (subst (λ (z : ℕ). T (related x z)) e (linked x l)) (q.swap y (byte (map_of n related) y) k b (linked y k))

    pub map_of_map : IsMap n (map_of n related)
    map_of_map =
        record {
          long = long;
          low = low;
          named = λ x l. let b : byte (map_of n related) x < n = omega (arith, low x l) in
              map_of_holds (byte (map_of n related) x) x b l (q.swap x (byte (map_of n related) x) l b (linked x l));
        }

-- the byte of x, as a search from 0 upwards finds it
pub map_of_byte : (n : ℕ) (related : ℕ → ℕ → Bool) (x y : ℕ) → x < n → y < n → T (related x y) → ((z : ℕ) → z < y → ¬ T (related x z)) → byte (map_of n related) x ≡ y
map_of_byte n related x y l k t f = map_of_at n related x l ∙ first_is (related x) x n y k t f

-- a map that holds just the related pairs is the map of the test
pub map_of_is : (n : ℕ) (related : ℕ → ℕ → Bool) (m : Map) → IsMap n m → ((x y : ℕ) → x < n → y < n → T (related x y) → Holds m x y)
    → ((x y : ℕ) → x < n → y < n → Holds m x y → T (related x y)) → map_of n related ≡ m
map_of_is n related m p f g =
    map_ext n (map_of n related) m (map_of_map n related q) p (λ x y l k e. f x y l k (of_map_of n related q x y l k e)) (λ x y l k e. map_of_holds n related q x y l k (g x y l k e))
  where
    q : IsEquivalence n related
    q = record {
      same = λ x l. g x x l l refl;
      swap = λ x y l k t. g y x k l (sym (f x y l k t));
      chain = λ x y z l k j t s. g x z l j (f x y l k t ∙ f y z k j s);
    }

eqb_equiv : (n : ℕ) → IsEquivalence n eqb
eqb_equiv n =
    record {
      same = λ x l. eqb_refl x;
      swap = λ x y l k t. eq→eqb y x (sym (eqb→eq x y t));
      chain = λ x y z l k j t s. eq→eqb x z (eqb→eq x y t ∙ eqb→eq y z s);
    }

pub identity_map : (n : ℕ) → IsMap n (identity n)
unfolding identity
identity_map n = map_of_map n eqb (eqb_equiv n)

-- m holds no two elements
abbrev pub Discrete : ℕ → Map → Type 0
Discrete n m = (x y : ℕ) → x < n → y < n → Holds m x y → x ≡ y

pub identity_discrete : (n : ℕ) → Discrete n (identity n)
unfolding identity
identity_discrete n x y l k e = eqb→eq x y (of_map_of n eqb (eqb_equiv n) x y l k e)

pub discrete_identity : (n : ℕ) (m : Map) → IsMap n m → Discrete n m → m ≡ identity n
discrete_identity n m p f =
    map_ext n m (identity n) p (identity_map n) (λ x y l k e. ap (byte (identity n)) (f x y l k e)) (λ x y l k e. ap (byte m) (identity_discrete n x y l k e))

true_equiv : (n : ℕ) → IsEquivalence n (λ x y. true)
true_equiv n = record { same = λ x l. tt; swap = λ x y l k t. tt; chain = λ x y z l k j t s. tt }

pub whole_map : (n : ℕ) → IsMap n (whole n)
unfolding whole
whole_map n = map_of_map n (λ x y. true) (true_equiv n)

pub whole_holds : (n x y : ℕ) → x < n → y < n → Holds (whole n) x y
unfolding whole
whole_holds n x y l k = map_of_holds n (λ x y. true) (true_equiv n) x y l k tt

pub is_identity_of : (n : ℕ) (m : Map) → Discrete n m → T (is_identity n m)
unfolding is_identity same
is_identity_of n m f =
    both (inside n m (identity n)) (inside n (identity n) m)
    (inside_of n m (identity n) (λ x y l k e. ap (byte (identity n)) (f x y l k e)))
    (inside_of n (identity n) m (λ x y l k e. ap (byte m) (identity_discrete n x y l k e)))

pub of_is_identity : (n : ℕ) (m : Map) → T (is_identity n m) → Discrete n m
unfolding is_identity same
of_is_identity n m t x y l k e =
    identity_discrete n x y l k (of_inside n m (identity n) (left (inside n m (identity n)) (inside n (identity n) m) t) x y l k e)

pub identity_at : (n x : ℕ) → x < n → byte (identity n) x ≡ x
identity_at n x l =
    let p = identity_map n in
    identity_discrete n (byte (identity n) x) x (omega (arith, p.low x l)) l (p.named x l)
