-- Lists of one length laid one after the other: how long they are together, and what stands where.
use Prim.Native.Nat.{ℕ, zero, suc, ◌+◌, ◌*◌, ◌<◌}
use mathlib.Core.List.{List, [], ◌∷◌, ◌++◌, map, append_assoc, append-nil, map-append}
use mathlib.Core.Path.{◌≡◌, refl, sym, ◌∙◌}
use native.Mathlib.Decide.{dec_lt}
use native.Mathlib.Nat.{suc-mul, mul-le-mul_right}
use native.Mathlib.Omega.{arith}
use lib.ListN.{length, get_or, length-append, get_or-append}
use lib.Seq.{drop-drop, get_or-append-add, take_at, drop_at}
use Rattle.equivalence.specs.Lists.{up_to, concat}
use Rattle.equivalence.specs.Lent.{stretch}

pub concat_append {ℓ} : {A : Type ℓ} (k l : List (List A)) → concat (k ++ l) ≡ concat k ++ concat l
unfolding concat
concat_append [] l = refl
concat_append (x ∷ k) l = rw (concat_append k l) (sym (append_assoc x (concat k) (concat l)))

-- stretches of one length w, one for each of 0 to n - 1
module _ {ℓ} {A : Type ℓ} (g : ℕ → List A) (w : ℕ) (wide : (x : ℕ) → length (g x) ≡ w) where
  stretch_last : (n : ℕ) → concat (map g (up_to (suc n))) ≡ concat (map g (up_to n)) ++ g n
  unfolding concat up_to
  stretch_last n = rw (map-append g (up_to n) (n ∷ []), concat_append (map g (up_to n)) (g n ∷ []), append-nil (g n))

  pub stretches : (n : ℕ) → length (concat (map g (up_to n))) ≡ n * w
  unfolding concat up_to
  stretches zero = omega arith
  stretches (suc n) = rw (stretch_last n, length-append (concat (map g (up_to n))) (g n)) (omega (arith, stretches n, wide n, suc-mul n w))

  pub stretch_at : (n x k : ℕ) (d : A) → x < n → k < w → get_or (concat (map g (up_to n))) (x * w + k) d ≡ get_or (g x) k d
  stretch_at zero x k d l j = absurd (omega arith)
  stretch_at (suc n) x k d l j =
      rw (stretch_last n)
      (elim (dec_lt x n) [
        | yes i ↦ get_or-append (concat (map g (up_to n))) (g n) d (x * w + k) (omega (arith, stretches n, suc-mul x w, mul-le-mul_right w i)) ∙ stretch_at n x k d i j
        | no i ↦ let e : x ≡ n = omega arith in
            rw (e, ← stretches n) (get_or-append-add (concat (map g (up_to n))) (g n) k d)
      ])

-- of lists of length n laid one after the other, stretch i is the i-th
pub stretch_concat : (n : ℕ) (ls : List (List ℕ)) (rest : List ℕ) → ((i : ℕ) → i < length ls → length (get_or ls i []) ≡ n) → (i : ℕ) → i < length ls
    → stretch n (concat ls ++ rest) i ≡ get_or ls i []
unfolding stretch concat
stretch_concat n [] rest h i l = absurd (omega arith)
stretch_concat n (x ∷ ls) rest h zero l =
    let e : 0 * n ≡ 0 = omega arith in
    rw (e, append_assoc x (concat ls) rest) (take_at x (concat ls ++ rest) n (h 0 (omega arith)))
stretch_concat n (x ∷ ls) rest h (suc i) l =
    let e : suc i * n ≡ n + i * n = omega (arith, suc-mul i n) in
    let k : length x ≡ n = h 0 (omega arith) in
    rw (e, append_assoc x (concat ls) rest, ← drop-drop (i * n) n (x ++ (concat ls ++ rest)), drop_at x (concat ls ++ rest) n k)
    (stretch_concat n ls rest (λ j o. h (suc j) (omega arith)) i (omega arith))
