-- The lowest reason that applies: it passes just where no test applies; lists of tests one after the other; what each test says.
use Prim.Native.Nat.{ℕ, ◌≤◌, ◌<◌}
use mathlib.Core.Bool.{Bool, true, false, not}
use mathlib.Core.List.{List, [], ◌∷◌, ◌++◌}
use mathlib.Core.Logic.{inl, inr}
use mathlib.Core.Path.{◌≡◌, refl, sym, ap, ◌∙◌}
use native.Mathlib.Decide.{dec_lt, ℕ_discrete}
use native.Mathlib.Omega.{arith}
use lib.Dec.{T, eqb, ltb, not_T, eqb→eq, ltb→lt, lt→ltb}
use Rattle.equivalence.specs.Equivalence.{Map, is_map}
use Rattle.equivalence.specs.Refusal.{Test, lowest, size_test, map_test, space_test, answered, serve}
use Rattle.equivalence.specs.Lent.{written, lent_after}
use Rattle.equivalence.proofs.Maps.{IsMap, of_is_map}
use Rattle.equivalence.proofs.Tests.{T?, or_left, or_right, or_cases, eq→eqb, pick_yes, pick_no, T_of, not_T_of}
use Rattle.equivalence.specs.declared.Refusal.{Refusal}
use Rattle.equivalence.specs.declared.Refusal.TheVariants.{Size, NotMap, Space}
use borrow.Author.Tests.{not-true, not-false}
use Rattle.std.proofs.lemmas.Result.{err_from_is_err_and}
use Rattle.std.specs.Prelude.{⊤, Result, Ok, Err, IsErrAnd, is_err}

-- an answer is no refusal, and refusals are equal only where their reasons are
pub ok_never : {A : Type 0} {x : A} {r : Refusal} → Ok x ≡ Err r → ⊥
ok_never e = cc

pub err_never : {A : Type 0} {x : A} {r : Refusal} → Err r ≡ Ok x → ⊥
err_never e = cc

pub same_reason : {A : Type 0} {r s : Refusal} → ◌≡◌ {A = Result A Refusal} (Err r) (Err s) → r ≡ s
same_reason e = cc

pub same_answer : {A : Type 0} {x y : A} → ◌≡◌ {A = Result A Refusal} (Ok x) (Ok y) → x ≡ y
same_answer e = cc

-- what `?` hands on where a call declines: the same reason
pub handed_on : {A : Type 0} {r : Refusal} {answer : Result A Refusal} → IsErrAnd answer (λ e. e ≡ r) → answer ≡ Err r
handed_on {A} {r} {answer} h = let p = err_from_is_err_and answer h in p.1 ∙ ap Err p.2

-- what `is_err` says of what tests found
pub passed_of : {check : Result ⊤ Refusal} {flag : Bool} → flag ≡ is_err check → flag ≡ false → check ≡ Ok tt
passed_of {check} {flag} e f = at check (sym e ∙ f)
  where
    at : (c : Result ⊤ Refusal) → is_err c ≡ false → c ≡ Ok tt
    at (Ok x) g = refl
    at (Err r) g = cc

pub declined_of : {check : Result ⊤ Refusal} {flag : Bool} → flag ≡ is_err check → flag ≡ true → ¬ (check ≡ Ok tt)
declined_of e f g = let h : true ≡ false = sym f ∙ e ∙ ap is_err g in cc

-- no tests, no reason
pub lowest_none : lowest [] ≡ Ok tt
unfolding lowest
lowest_none = refl

-- a test that does not apply is passed over
pub lowest_next : (t : Test) (rest : List Test) → ¬ T t.applies → lowest (t ∷ rest) ≡ lowest rest
unfolding lowest
lowest_next t rest h = pick_no t.applies (Err t.reason) (lowest rest) h

-- a test that applies is the answer
pub lowest_here : (t : Test) (rest : List Test) → T t.applies → lowest (t ∷ rest) ≡ Err t.reason
unfolding lowest
lowest_here t rest h = pick_yes t.applies (Err t.reason) (lowest rest) h

-- where all pass, the first does not apply and the rest pass
pub of_passed : (t : Test) (rest : List Test) → lowest (t ∷ rest) ≡ Ok tt → (¬ T t.applies) × (lowest rest ≡ Ok tt)
of_passed t rest e =
    elim (T? t.applies) [
      | yes h ↦ absurd (err_never (sym (lowest_here t rest h) ∙ e))
      | no h ↦ (h, sym (lowest_next t rest h) ∙ e)
    ]

-- tests that pass are passed over
pub lowest_append : (ts rest : List Test) → lowest ts ≡ Ok tt → lowest (ts ++ rest) ≡ lowest rest
lowest_append [] rest e = refl
lowest_append (t ∷ ts) rest e =
    let p = of_passed t ts e in lowest_next t (ts ++ rest) p.0 ∙ lowest_append ts rest p.1

-- a reason found among the first tests is the answer
pub lowest_failed : (ts rest : List Test) (r : Refusal) → lowest ts ≡ Err r → lowest (ts ++ rest) ≡ Err r
unfolding lowest
lowest_failed [] rest r e = absurd (ok_never e)
lowest_failed (t ∷ ts) rest r e =
    elim (T? t.applies) [
      | yes h ↦ lowest_here t (ts ++ rest) h ∙ sym (lowest_here t ts h) ∙ e
      | no h ↦ lowest_next t (ts ++ rest) h ∙ lowest_failed ts rest r (sym (lowest_next t ts h) ∙ e)
    ]

-- where two lists of tests pass one after the other, both pass
pub passed_append : (ts rest : List Test) → lowest (ts ++ rest) ≡ Ok tt → (lowest ts ≡ Ok tt) × (lowest rest ≡ Ok tt)
passed_append [] rest e = (lowest_none, e)
passed_append (t ∷ ts) rest e =
    let p = of_passed t (ts ++ rest) e in
    let r = passed_append ts rest p.1 in
    (lowest_next t ts p.0 ∙ r.0, r.1)

-- a call whose tests pass
pub serve_passed : {A : Type 0} (tests : List Test) (answer : A) (new lent : List ℕ) → lowest tests ≡ Ok tt
    → serve tests answer new lent ≡ (Ok answer, written new lent)
unfolding serve answered lent_after
serve_passed tests answer new lent e = rw e

-- a call that a test declines
pub serve_failed : {A : Type 0} (tests : List Test) (answer : A) (new lent : List ℕ) (r : Refusal) → lowest tests ≡ Err r
    → serve tests answer new lent ≡ (Err r, lent)
unfolding serve answered lent_after
serve_failed tests answer new lent r e = rw e

-- ---- the tests of this crate: where one applies, or is passed over, by the flag that a function answers; and what a test that does not apply says

pub size_refused : (n : ℕ) (rest : List Test) {r : Bool} → r ≡ not (size_test n).applies → not r ≡ true → lowest (size_test n ∷ rest) ≡ Err Size
unfolding size_test
size_refused n rest {r} e f = lowest_here (size_test n) rest (T_of (not-false (size_test n).applies (sym e ∙ not-true r f)))

pub size_passed : (n : ℕ) (rest : List Test) {r : Bool} → r ≡ not (size_test n).applies → not r ≡ false → lowest (size_test n ∷ rest) ≡ lowest rest
size_passed n rest {r} e f = lowest_next (size_test n) rest (not_T_of (not-true (size_test n).applies (sym e ∙ not-false r f)))

pub of_size_test : (n : ℕ) → ¬ T (size_test n).applies → (1 ≤ n) × (n ≤ 64)
unfolding size_test
of_size_test n t = (
  elim (ℕ_discrete n 0) [ yes e ↦ absurd (t (or_left (eqb n 0) _ (eq→eqb n 0 e))) | no e ↦ omega arith ],
  elim (dec_lt 64 n) [ yes l ↦ absurd (t (or_right (eqb n 0) _ (lt→ltb 64 n l))) | no l ↦ omega arith ],
)

-- a size that a flag passes
pub sized_bounds : (n : ℕ) {r : Bool} → r ≡ not (size_test n).applies → not r ≡ false → (1 ≤ n) × (n ≤ 64)
sized_bounds n {r} e f = of_size_test n (not_T_of (not-true (size_test n).applies (sym e ∙ not-false r f)))

pub sized_most : (n : ℕ) {r : Bool} → r ≡ not (size_test n).applies → not r ≡ false → n ≤ 64
sized_most n e f = (sized_bounds n e f).1

pub size_test_of : (n : ℕ) → 1 ≤ n → n ≤ 64 → ¬ T (size_test n).applies
unfolding size_test
size_test_of n l k t =
    elim (or_cases (eqb n 0) (ltb 64 n) t) [ inl s ↦ absurd (omega (arith, eqb→eq n 0 s)) | inr s ↦ absurd (omega (arith, ltb→lt 64 n s)) ]

pub map_refused : (n : ℕ) (m : Map) (rest : List Test) {r : Bool} → r ≡ is_map n m → not r ≡ true → lowest (map_test n m ∷ rest) ≡ Err NotMap
unfolding map_test
map_refused n m rest {r} e f = lowest_here (map_test n m) rest (T_of (ap not (sym e) ∙ f))

pub map_passed : (n : ℕ) (m : Map) (rest : List Test) {r : Bool} → r ≡ is_map n m → not r ≡ false → lowest (map_test n m ∷ rest) ≡ lowest rest
unfolding map_test
map_passed n m rest {r} e f = lowest_next (map_test n m) rest (not_T_of (ap not (sym e) ∙ f))

pub of_map_test : (n : ℕ) (m : Map) → ¬ T (map_test n m).applies → IsMap n m
unfolding map_test
of_map_test n m t = elim (T? (is_map n m)) [ yes s ↦ of_is_map n m s | no s ↦ absurd (t (not_T (is_map n m) s)) ]

pub space_refused : (wanted lent : ℕ) (rest : List Test) → lent < wanted → lowest (space_test wanted lent ∷ rest) ≡ Err Space
unfolding space_test
space_refused wanted lent rest l = lowest_here (space_test wanted lent) rest (lt→ltb lent wanted l)

pub space_passed : (wanted lent : ℕ) (rest : List Test) → wanted ≤ lent → lowest (space_test wanted lent ∷ rest) ≡ lowest rest
unfolding space_test
space_passed wanted lent rest l = lowest_next (space_test wanted lent) rest (λ t. omega (arith, ltb→lt lent wanted t))

pub of_space_test : (wanted lent : ℕ) → ¬ T (space_test wanted lent).applies → wanted ≤ lent
unfolding space_test
of_space_test wanted lent t = elim (dec_lt lent wanted) [ yes l ↦ absurd (t (lt→ltb lent wanted l)) | no l ↦ omega arith ]
