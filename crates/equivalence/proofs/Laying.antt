-- Bytes laid in lent ones from a place on: none, one, as many as before, by a callee that was lent the rest, some behind others.
use Prim.Native.Nat.{ℕ, ◌+◌, ◌-◌, ◌≤◌, ◌<◌}
use mathlib.Core.Path.{◌≡◌, sym, ap, ◌∙◌}
use mathlib.Core.List.{List, [], ◌∷◌, ◌++◌, append_assoc, append-nil}
use native.Mathlib.Numerals.{add-one}
use native.Mathlib.Omega.{arith}
use lib.ListN.{length, take, drop, set, length-append, length-take, length-drop, take-append-drop, drop_of_length-le}
use borrow.Rule.Slice.PartMut.{put_mid, mid_of}
use lib.Seq.{take_all, take_at, drop_at, drop-drop, length-take-le, set_split}
use Rattle.equivalence.specs.Lent.{written, laid}

-- the three parts: what stands before, the new bytes, what stands behind them
pub laid_parts : (lent : List ℕ) (at : ℕ) (new : List ℕ) → laid lent at new ≡ take at lent ++ (new ++ drop (at + length new) lent)
unfolding laid written
laid_parts lent at new = ap (λ (back : List ℕ). take at lent ++ (new ++ back)) (drop-drop (length new) at lent)

-- nothing laid
pub laid_nothing : (lent : List ℕ) (at : ℕ) → laid lent at [] ≡ lent
unfolding laid written
laid_nothing lent at = take-append-drop at lent

-- one byte laid is a store
pub laid_byte : (lent : List ℕ) (at v : ℕ) → at < length lent → set lent at v ≡ laid lent at (v ∷ [])
unfolding laid written
laid_byte lent at v l = set_split lent at v l ∙ ap (λ (r : List ℕ). take at lent ++ (v ∷ r)) (sym (drop-drop 1 at lent ∙ ap (λ (k : ℕ). drop k lent) (add-one at)))

-- as many bytes as before
pub laid_length : (lent : List ℕ) (at : ℕ) (new : List ℕ) → at + length new ≤ length lent → length (laid lent at new) ≡ length lent
unfolding laid written
laid_length lent at new h = simp (length-append, length-take, length-drop) (omega arith)

-- the part of a slice from `at` on is the rest
pub rest_whole : (at : ℕ) (l : List ℕ) → take (length l - at) (drop at l) ≡ drop at l
rest_whole at l = take_all (length l - at) (drop at l) (omega (arith, length-drop at l))

-- what a callee that was lent that part wrote at its start is laid there
pub laid_from : (at : ℕ) (lent new : List ℕ) → at ≤ length lent
    → put_mid at (length lent - at) lent (written new (mid_of at (length lent - at) lent)) ≡ laid lent at new
unfolding laid
laid_from at lent new h =
    let none : drop (length lent - at) (drop at lent) ≡ [] = drop_of_length-le (drop at lent) {i = length lent - at} (omega (arith, length-drop at lent)) in
    rw (rest_whole at lent, none, append-nil (written new (drop at lent)))

-- a stretch laid behind another
pub laid_laid : (lent : List ℕ) (at : ℕ) (one two : List ℕ) → at + length one ≤ length lent
    → laid (laid lent at one) (at + length one) two ≡ laid lent at (one ++ two)
unfolding laid written
laid_laid lent at one two h =
    let front : List ℕ = take at lent ++ one in
    let back : List ℕ = drop (length one) (drop at lent) in
    let e : take at lent ++ (one ++ back) ≡ front ++ back = sym (append_assoc (take at lent) one back) in
    let w : length front ≡ at + length one = length-append (take at lent) one ∙ ap (λ (k : ℕ). k + length one) (length-take-le at lent (omega arith)) in
    let rest : List ℕ = drop (length one + length two) (drop at lent) in
    rw (e, take_at front back (at + length one) w, drop_at front back (at + length one) w, drop-drop (length two) (length one) (drop at lent), length-append one two)
    (append_assoc (take at lent) one (two ++ rest) ∙ ap (λ (r : List ℕ). take at lent ++ r) (sym (append_assoc one two rest)))
