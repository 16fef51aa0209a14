-- The head of the reader's answer byte by byte.
use Prim.Native.Nat.{ℕ}
use mathlib.Core.List.{List, [], ◌∷◌, ◌++◌, append-nil}
use mathlib.Core.Path.{◌≡◌, ap, ◌∙◌}
use native.Mathlib.Omega.{arith}
use lib.ListN.{length, drop_of_length-le}
use Rattle.std.specs.Prelude.{Ok}
use Rattle.equivalence.specs.Lent.{written, laid}
use Rattle.tablereader.specs.Laying.{Laid}
use Rattle.tablereader.proofs.Laying.{laid_more}
use Rattle.algebratext.specs.declared.AlgebraRead.{AlgebraRead}
use Rattle.head.specs.Head.{head_of}

-- the head: two bytes, and the arities behind them
pub head_written : (r : AlgebraRead) (head : List ℕ) → length head ≡ 18 → length r.arities ≡ 16 → (one : List ℕ) (second : ℕ) → Laid head 0 (r.size ∷ []) one second
    → (two : List ℕ) (third : ℕ) → Laid one second (r.operations ∷ []) two third → (after : List ℕ) (end : ℕ) → Laid two third r.arities after end → after ≡ head_of (Ok r)
unfolding head_of laid written
head_written r head long sixteen one second p two third q after end t =
    let l : Laid head 0 (head_of (Ok r)) after end =
    laid_more head 0 (r.size ∷ []) one second (r.operations ∷ r.arities) after end p
    (laid_more one second (r.operations ∷ []) two third r.arities after end q t) in
    l.bytes ∙ ap (λ (x : List ℕ). head_of (Ok r) ++ x) (drop_of_length-le head {i = length (head_of (Ok r))} (omega arith)) ∙ append-nil (head_of (Ok r))
