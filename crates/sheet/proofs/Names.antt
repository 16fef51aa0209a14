-- Names have the same bytes if and only if they are equal.
use Prim.Native.Nat.{ℕ}
use mathlib.Core.List.{List, [], ◌∷◌}
use mathlib.Core.Path.{◌≡◌, refl, ap, subst, ◌∙◌}
use lib.Dec.{T, eqb, eqb→eq, eqb_refl}
use Rattle.equivalence.proofs.Tests.{both, left, right}
use Rattle.sheet.specs.Points.{same_name}

pub of_same_name : (a b : List ℕ) → T (same_name a b) → a ≡ b
unfolding same_name
of_same_name [] [] t = refl
of_same_name [] (y ∷ ys) t = absurd t
of_same_name (x ∷ xs) [] t = absurd t
of_same_name (x ∷ xs) (y ∷ ys) t =
    ap (λ (z : ℕ). z ∷ xs) (eqb→eq x y (left (eqb x y) (same_name xs ys) t)) ∙ ap (λ (l : List ℕ). y ∷ l) (of_same_name xs ys (right (eqb x y) (same_name xs ys) t))

same_name_self : (a : List ℕ) → T (same_name a a)
unfolding same_name
same_name_self [] = tt
same_name_self (x ∷ xs) = both (eqb x x) (same_name xs xs) (eqb_refl x) (same_name_self xs)

pub same_name_of : (a b : List ℕ) → a ≡ b → T (same_name a b)
same_name_of a b e = subst (λ (z : List ℕ). T (same_name a z)) e (same_name_self a)
