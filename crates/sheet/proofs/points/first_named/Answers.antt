-- `sheet::points::first_named` meets its contract, by what the search found.
use Prim.Native.Nat.{ℕ}
use mathlib.Core.Bool.{true, false}
use mathlib.Core.List.{List}
use mathlib.Core.Path.{◌≡◌, refl, sym, ◌∙◌}
use lib.Dec.{eqb}
use borrow.Author.Rules.{rules}
use Rattle.std.specs.Cmp.Lexicographic.{pointwise}
use Rattle.std.proofs.lemmas.Bool.{false≢true}
use Rattle.std.proofs.lemmas.Bool.Decides.{Decides-eqb}
use Rattle.std.proofs.lemmas.Slice.Eq.{slice_eq-Decides}
use Rattle.std.proofs.lemmas.Iterator.{IsFirst-from_position, YieldsList-from_slice}
use Rattle.sheet.proofs.Places.{first_found_named}
use Rattle.sheet.proofs.points.first_named.Goals as goal

pub returns : goal.returns
returns c = let a = c.args in
    let same : (x : List ℕ) → pointwise eqb x a.name ≡ true → x ≡ a.name = λ x. (slice_eq-Decides Decides-eqb x a.name _ refl).0 in
    let unlike : (x : List ℕ) → pointwise eqb x a.name ≡ false → ¬ (x ≡ a.name) = λ x f e. false≢true (sym f ∙ (slice_eq-Decides Decides-eqb x a.name _ refl).1 e) in
    let found = IsFirst-from_position _ _ _ (λ p. p.name ≡ a.name) (λ p. ¬ (p.name ≡ a.name)) c.position.ensures.ran (YieldsList-from_slice a.points.now cc) (λ x q k. search (rules, same)) (λ x q k. search (rules, unlike)) in
    rw c.unwrap_or.ensures (first_found_named a.name a.points.now c.position.result found)
