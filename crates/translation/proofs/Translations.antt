-- A map is a congruence just where its bytes are compatible with every translation.
use Prim.Native.Nat.{ℕ, zero, suc, ◌+◌, ◌-◌, ◌<◌}
use mathlib.Core.List.{List, [], ◌∷◌, ◌++◌}
use mathlib.Core.Path.{◌≡◌, refl, sym, ap, subst, ◌∙◌}
use native.Mathlib.Decide.{dec_lt}
use native.Mathlib.Omega.{arith}
use lib.ListN.{length, get_or, take, drop, set, length-take, length-append, take-append-drop, length-drop}
use lib.Seq.{get_or-append_seam, set-append_seam, drop-cons, set_split}
use Rattle.equivalence.specs.Equivalence.{Map, byte}
use Rattle.equivalence.proofs.Maps.{Holds, IsMap}
use Rattle.algebra.specs.Algebra.{Algebra, place, value}
use Rattle.translation.specs.InnerTranslations.{AllBelow, table_start, result, Compatible}
use Rattle.algebra.proofs.Accepted.{WellFormed}
use Rattle.algebra.proofs.Arguments.{Args}
use Rattle.algebra.proofs.Congruences.{OneByOne, IsCongruence, respects_one, congruence_by_one, cells_below}
use Rattle.algebra.proofs.Tables.{operation_at, operation_at_member, every_operation, value_at}

-- a result is an element, whatever the arguments
pub result_below : (a : Algebra) → WellFormed a → (j : ℕ) (xs : List ℕ) → result a j xs < a.size
unfolding result
result_below a w j xs = cells_below a w (table_start a j + place a.size xs)

-- a list whose members are below n, as an argument list, and back
pub args_below : (n s : ℕ) (xs : List ℕ) → Args n s xs → AllBelow n xs
args_below n s [] h = tt
args_below n zero (x ∷ xs) h = absurd (omega (arith, h.long))
args_below n (suc s) (x ∷ xs) h =
    (h.below 0 (omega arith), args_below n s xs (record { long = omega (arith, h.long); below = λ i l. h.below (suc i) (omega arith) }))

pub below_args : (n : ℕ) (xs : List ℕ) → AllBelow n xs → Args n (length xs) xs
below_args n [] h = record { long = refl; below = λ i l. absurd (omega arith) }
below_args n (x ∷ xs) h =
    let r = below_args n xs h.1 in
    record {
      long = refl;
      below = λ i l. elim (dec_lt 0 i) [
        | yes k ↦ let e : i ≡ suc (i - 1) = omega arith in rw e (r.below (i - 1) (omega arith))
        | no k ↦ let e : i ≡ 0 = omega arith in rw e h.0
      ];
    }

append_below : (n : ℕ) (xs ys : List ℕ) → AllBelow n xs → AllBelow n ys → AllBelow n (xs ++ ys)
append_below n [] ys h k = k
append_below n (x ∷ xs) ys h k = (h.0, append_below n xs ys h.1 k)

below_append : (n : ℕ) (xs ys : List ℕ) → AllBelow n (xs ++ ys) → AllBelow n xs × AllBelow n ys
below_append n [] ys h = (tt, h)
below_append n (x ∷ xs) ys h = let r = below_append n xs ys h.1 in ((h.0, r.0), r.1)

-- an argument list around one argument
pub args_around : (n s x : ℕ) (pre post : List ℕ) → length pre + 1 + length post ≡ s → x < n → AllBelow n pre → AllBelow n post → Args n s (pre ++ (x ∷ post))
args_around n s x pre post e l h k =
    let z : length (pre ++ (x ∷ post)) ≡ s = length-append pre (x ∷ post) ∙ omega arith in
    rw z at (below_args n (pre ++ (x ∷ post)) (append_below n pre (x ∷ post) h (l, k)))

-- the value of operation j is the cell that `result` reads
pub value_result : (a : Algebra) (j : ℕ) (xs : List ℕ) → Args a.size (get_or a.arities j 0) xs → value a.size (operation_at a j) xs ≡ result a j xs
unfolding result
value_result a j xs h = value_at a j xs h

arity_at : (a : Algebra) (j : ℕ) → (operation_at a j).arity ≡ get_or a.arities j 0
unfolding operation_at
arity_at a j = refl

pub congruence_compatible : (a : Algebra) → WellFormed a → (m : Map) → IsCongruence a m → Compatible a (byte m)
congruence_compatible a w m c x y lx ly e j l pre post s h k =
    let n = a.size in
    let f = operation_at a j in
    let xs = pre ++ (x ∷ post) in
    let t : set xs (length pre) y ≡ pre ++ (y ∷ post) = set-append_seam pre x post y in
    let ax : Args n (get_or a.arities j 0) xs = args_around n (get_or a.arities j 0) x pre post s lx h k in
    let ay : Args n (get_or a.arities j 0) (pre ++ (y ∷ post)) = args_around n (get_or a.arities j 0) y pre post s ly h k in
    let r : Holds m (value n f xs) (value n f (set xs (length pre) y)) =
    respects_one a w m c f (operation_at_member a j l) xs (rw (arity_at a j) ax) (length pre) y (rw (arity_at a j) (omega arith)) ly (rw (get_or-append_seam pre x post 0) e) in
    ap (byte m) (sym (value_result a j xs ax)) ∙ r ∙ ap (λ (z : List ℕ). byte m (value n f z)) t ∙ ap (byte m) (value_result a j (pre ++ (y ∷ post)) ay)

around : (xs : List ℕ) (i : ℕ) → i < length xs → xs ≡ take i xs ++ (get_or xs i 0 ∷ drop (suc i) xs)
around xs i l = sym (take-append-drop i xs) ∙ ap (λ (z : List ℕ). take i xs ++ z) (drop-cons xs i 0 l)

pub compatible_congruence : (a : Algebra) → WellFormed a → (m : Map) → IsMap a.size m → Compatible a (byte m) → IsCongruence a m
compatible_congruence a w m p c =
    congruence_by_one a w m p (every_operation a (OneByOne a.size m) (λ j l xs h i y li ly e.
    let n = a.size in
    let g : Args n (get_or a.arities j 0) xs = rw (arity_at a j) at h in
    let k : i < length xs = omega (arith, h.long) in
    let pre = take i xs in
    let post = drop (suc i) xs in
    let b = below_append n pre (get_or xs i 0 ∷ post) (subst (λ (z : List ℕ). AllBelow n z) (around xs i k) (args_below n (get_or a.arities j 0) xs g)) in
    let s : length pre + 1 + length post ≡ get_or a.arities j 0 = rw (length-take i xs, length-drop (suc i) xs) (omega (arith, g.long)) in
    let ay : Args n (get_or a.arities j 0) (pre ++ (y ∷ post)) = args_around n (get_or a.arities j 0) y pre post s ly b.0 b.1.1 in
    let t : set xs i y ≡ pre ++ (y ∷ post) = set_split xs i y k in
    ap (byte m) (value_result a j xs g) ∙ ap (λ (z : List ℕ). byte m (result a j z)) (around xs i k)
    ∙ c (get_or xs i 0) y (h.below i li) ly e j l pre post s b.0 b.1.1
    ∙ ap (byte m) (sym (value_result a j (pre ++ (y ∷ post)) ay)) ∙ ap (λ (z : List ℕ). byte m (value n (operation_at a j) z)) (sym t)))

-- the identity holds no pair, and so is compatible with every operation
pub identity_compatible : (a : Algebra) (f : ℕ → ℕ) → ((x : ℕ) → x < a.size → f x ≡ x) → Compatible a f
identity_compatible a f e x y lx ly q j l pre post s b c = ap (λ (z : ℕ). f (result a j (pre ++ (z ∷ post)))) (sym (e x lx) ∙ q ∙ e y ly)
