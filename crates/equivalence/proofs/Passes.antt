-- Passes over a slice or over 0 to n - 1: what `all` gives is `every` of Lists.
use Rattle.std.proofs.Common.{◌≡◌, ℕ, ◌<◌, Bool, true, false, ◌&&◌, List, [], ◌∷◌, refl, sym, ap, ◌∙◌, arith}
use Rattle.std.specs.Prelude.{Option, MatchOption}
use Rattle.std.specs.List.{list_all, range_with_len, FoldsTo}
use Rattle.std.specs.Fn.{Called}
use Rattle.std.specs.Iterator.{YieldsThen}
use Rattle.std.specs.declared.ops.Range.{Range}
use Rattle.std.proofs.iter.Yields.{nat_range_steps, fronts}
use Rattle.std.specs.Slice.Iter.{iter_rest}
use Rattle.std.specs.declared.slice.Iter.{Iter}
use Rattle.std.proofs.lemmas.Iterator.{YieldsList-from_slice, YieldsList-from_range}
use Rattle.std.proofs.lemmas.Iterator.Search.{all_from_yields_List}
use Rattle.std.proofs.lemmas.List.FromFn.{length-range_with_len, get_or-range_with_len}
use denote.Param.Members.{Mut}
use denote.Ref.{Bor}
use lib.Seq.{ext_get_or}
use Rattle.equivalence.specs.Lists.{up_to, every}
use Rattle.equivalence.proofs.Lists.{up_to_length, up_to_at}

pub every_list : {A : Type 0} (test : A → Bool) (xs : List A) → list_all test xs ≡ every test xs
unfolding every
every_list test [] = refl
every_list test (x ∷ xs) = ap (λ (b : Bool). test x && b) (every_list test xs)

pub range_up_to : (n : ℕ) → range_with_len 0 n ≡ up_to n
range_up_to n =
    ext_get_or 0 (range_with_len 0 n) (up_to n) (length-range_with_len 0 n ∙ sym (up_to_length n))
    (λ x l. let k : x < n = omega (arith, length-range_with_len 0 n) in
    get_or-range_with_len 0 n x 0 k ∙ omega (arith, up_to_at n x k))

-- what an `all` ran, and what it gave
abbrev pub RanAll : {S A F : Type 0} (steps : S → Option A → S → Type 0) (g : Mut F (A × Unit {0}) Bool) (s u : S) (f : F) (r : Bool) → Type 0
RanAll {S} {A} {F} steps g s u f r =
    (xs : List A) × (o : Option A) × (j : F) × YieldsThen steps s xs o u × FoldsTo (λ p x q. Called g p (x, tt) true q) f xs j
    × MatchOption o (r ≡ true) (λ x. (r ≡ false) × ((h : F) × Called g j (x, tt) false h))

-- `(0..n).all(..)`, where the closure computes the test
pub all_up_to : {F : Type 0} {g : Mut F (ℕ × Unit {0}) Bool} {s u : Range ℕ} {f : F} {r : Bool} (test : ℕ → Bool) (n : ℕ)
    → RanAll nat_range_steps g s u f r → s ≡ record { start = 0; end = n } → ((x : ℕ) (b : Bool) (q : F) → Called g f (x, tt) b q → (q ≡ f) × (b ≡ test x))
    → r ≡ every test (up_to n)
all_up_to {r = r} test n ran e step =
    all_from_yields_List test _ _ r ran (YieldsList-from_range 0 n n e (omega arith)) step ∙ every_list test (range_with_len 0 n) ∙ ap (every test) (range_up_to n)

-- `xs.iter().all(..)`
pub all_of_slice : {F : Type 0} {g : Mut F (Bor ℕ × Unit {0}) Bool} {s u : Iter ℕ} {f : F} {r : Bool} (test : ℕ → Bool) (xs : List ℕ)
    → RanAll fronts g s u f r → iter_rest s ≡ xs → ((x : Bor ℕ) (b : Bool) (q : F) → Called g f (x, tt) b q → (q ≡ f) × (b ≡ test x.now))
    → r ≡ every test xs
all_of_slice {r = r} test xs ran e step =
    all_from_yields_List test _ _ r ran (YieldsList-from_slice xs e) step ∙ every_list test xs
