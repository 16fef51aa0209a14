-- Argument lists, and where each stands in the order of places.
use Prim.Native.Nat.{ℕ, zero, suc, ◌^◌, ◌<◌}
use mathlib.Core.List.Memᴰ.{eq_of_singleton}
use mathlib.Core.List.Memᴰ.{head as here}
use mathlib.Core.List.Memᴰ.{map as member-map}
use mathlib.Core.List.Memᴰ.{of_map}
use mathlib.Core.List.{List, [], ◌∷◌, map, Memᴰ as Member}
use mathlib.Core.Path.{◌≡◌, refl, sym, ap, subst, ◌∙◌}
use native.Mathlib.Decide.{ℕ_discrete}
use native.Mathlib.Nat.{pow-zero, pow-suc, suc-mul, mul-le-mul_right}
use native.Mathlib.Omega.{arith}
use lib.ListN.{length, get_or, set, length-set, length-map}
use lib.Seq.{get_or-set_same, get_or-set_other}
use Rattle.equivalence.specs.Lists.{up_to}
use Rattle.equivalence.proofs.Lists.{member_concat, of_concat, member_up_to, of_up_to, map_at}
use Rattle.equivalence.proofs.Stretches.{stretches, stretch_at}
use Rattle.algebra.specs.Algebra.{arguments, place}

pub record Args (n s : ℕ) (xs : List ℕ) : Type 0 where
  pub long : length xs ≡ s
  pub below : (i : ℕ) → i < s → get_or xs i 0 < n

pub arguments_of : (n s : ℕ) (xs : List ℕ) → Args n s xs → Member xs (arguments n s)
unfolding arguments
arguments_of n zero [] h = here refl
arguments_of n zero (x ∷ xs) h = absurd (omega (arith, h.long))
arguments_of n (suc s) [] h = absurd (omega (arith, h.long))
arguments_of n (suc s) (x ∷ xs) h =
    member_concat (map (λ x. map (λ t. x ∷ t) (arguments n s)) (up_to n)) (map (λ t. x ∷ t) (arguments n s)) (x ∷ xs)
    (member-map (λ x. map (λ t. x ∷ t) (arguments n s)) (member_up_to n x (h.below 0 (omega arith))))
    (member-map (λ t. x ∷ t) (arguments_of n s xs (record { long = omega (arith, h.long); below = λ i l. h.below (suc i) (omega arith) })))

pub of_arguments : (n s : ℕ) (xs : List ℕ) → Member xs (arguments n s) → Args n s xs
unfolding arguments
of_arguments n zero xs m = rw (eq_of_singleton m) (record { long = refl; below = λ i l. absurd (omega arith) })
of_arguments n (suc s) xs m =
    let p = of_concat (map (λ x. map (λ t. x ∷ t) (arguments n s)) (up_to n)) xs m in
    let u = of_map (λ x. map (λ t. x ∷ t) (arguments n s)) (up_to n) p.1 in
    let v = of_map (λ t. u.0 ∷ t) (arguments n s) (subst (λ (l : List (List ℕ)). Member xs l) (sym u.2) p.2) in
    subst (λ (l : List ℕ). Args n (suc s) l) v.2 (cons u.0 v.0 (of_up_to n u.0 u.1) (of_arguments n s v.0 v.1))
  where
    cons : (x : ℕ) (t : List ℕ) → x < n → Args n s t → Args n (suc s) (x ∷ t)
    cons x t l h = record { long = ap suc h.long; below = each }
      where
        each : (i : ℕ) → i < suc s → get_or (x ∷ t) i 0 < n
        each zero k = l
        each (suc i) k = h.below i (omega arith)

pub args_set : (n s : ℕ) (xs : List ℕ) → Args n s xs → (i y : ℕ) → y < n → Args n s (set xs i y)
args_set n s xs h i y l =
    record {
      long = length-set xs i y ∙ h.long;
      below = λ j k. elim (ℕ_discrete j i) [
        | yes e ↦ rw (e, get_or-set_same xs i y 0 (omega (arith, h.long))) l
        | no g ↦ rw (get_or-set_other xs i j y 0 g) (h.below j k)
      ];
    }

pub arguments_long : (n s : ℕ) → length (arguments n s) ≡ n ^ s
unfolding arguments
arguments_long n zero = sym (pow-zero n)
arguments_long n (suc s) =
    stretches (λ x. map (λ t. x ∷ t) (arguments n s)) (n ^ s) (λ x. length-map (arguments n s) (λ t. x ∷ t) ∙ arguments_long n s) n ∙ omega (arith, pow-suc n s)

pub place_law : (n s : ℕ) (xs : List ℕ) → Args n s xs → (place n xs < n ^ s) × (get_or (arguments n s) (place n xs) [] ≡ xs)
unfolding arguments place
place_law n zero [] h = (omega (arith, pow-zero n), refl)
place_law n zero (x ∷ xs) h = absurd (omega (arith, h.long))
place_law n (suc s) [] h = absurd (omega (arith, h.long))
place_law n (suc s) (x ∷ xs) h =
    let r = place_law n s xs (record { long = omega (arith, h.long); below = λ i l. h.below (suc i) (omega arith) }) in
    let e : length xs ≡ s = omega (arith, h.long) in
    let l : x < n = h.below 0 (omega arith) in
    rw e (
      omega (arith, r.0, pow-suc n s, suc-mul x (n ^ s), mul-le-mul_right (n ^ s) l),
      stretch_at (λ x. map (λ t. x ∷ t) (arguments n s)) (n ^ s) (λ x. length-map (arguments n s) (λ t. x ∷ t) ∙ arguments_long n s) n x (place n xs) [] l r.0
          ∙ map_at (λ t. x ∷ t) (arguments n s) (place n xs) [] [] (omega (arith, r.0, arguments_long n s))
          ∙ ap (λ (t : List ℕ). x ∷ t) r.1,
    )

-- a function that takes elements below n to elements below k takes argument lists to argument lists
pub args_map : (n k s : ℕ) (g : ℕ → ℕ) → ((x : ℕ) → x < n → g x < k) → (xs : List ℕ) → Args n s xs → Args k s (map g xs)
args_map n k s g h xs p =
    record {
      long = length-map xs g ∙ p.long;
      below = λ i l. rw (map_at g xs i 0 0 (omega (arith, p.long))) (h (get_or xs i 0) (p.below i l));
    }
