-- Finite searches over lists, by tests.
use Rattle.std.specs.Prelude.{ℕ, zero, suc, Bool, true, false, ◌&&◌, ◌||◌, List, [], ◌∷◌, ◌++◌, take, drop}

-- 0 to n - 1
unfoldable pub up_to : ℕ → List ℕ
up_to zero = []
up_to (suc n) = up_to n ++ (n ∷ [])

-- the test holds of every member
unfoldable pub every {ℓ} : {A : Type ℓ} → (A → Bool) → List A → Bool
every p [] = true
every p (a ∷ rest) = p a && every p rest

-- the test holds of some member
unfoldable pub any {ℓ} : {A : Type ℓ} → (A → Bool) → List A → Bool
any p [] = false
any p (a ∷ rest) = p a || any p rest

-- the members that pass the test, in order
unfoldable pub keep {ℓ} : {A : Type ℓ} → (A → Bool) → List A → List A
keep p [] = []
keep p (a ∷ rest) = elim (p a) [ true ↦ a ∷ keep p rest | false ↦ keep p rest ]

-- the first member that passes the test, or d where none does
unfoldable pub first {ℓ} : {A : Type ℓ} → (A → Bool) → A → List A → A
first p d [] = d
first p d (a ∷ rest) = elim (p a) [ true ↦ a | false ↦ first p d rest ]

-- the lists one after the other
unfoldable pub concat {ℓ} : {A : Type ℓ} → List (List A) → List A
concat [] = []
concat (l ∷ rest) = l ++ concat rest

-- the list without its member number i
abbrev pub without {ℓ} : {A : Type ℓ} → ℕ → List A → List A
without i l = take i l ++ drop (suc i) l
