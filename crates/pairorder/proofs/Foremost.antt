-- The search for the foremost element (`Foremost`): laws that start and keep it; at its end it shows the first pair that a map holds, and
-- which of two maps is the earlier.
use Prim.Native.Nat.{ℕ, ◌+◌, ◌≤◌, ◌<◌, min}
use mathlib.Core.Bool.{Bool, not, ◌&&◌, ◌||◌}
use mathlib.Core.Logic.{inl, inr}
use mathlib.Core.Path.{◌≡◌, refl, sym, ap, subst, ◌∙◌}
use native.Mathlib.Decide.{dec_lt, ℕ_discrete}
use native.Mathlib.Omega.{arith}
use lib.Dec.{T, eqb, leb, ltb, T_not, not_T, eqb→eq, ltb→lt, lt→ltb}
use borrow.Author.Tests.{le-leb, lt-leb}
use Rattle.equivalence.specs.Equivalence.{Map, byte, holds}
use Rattle.kernel.specs.InnerKernel.{Canonical}
use Rattle.pairorder.specs.Order.{pairs, not_later, first_held}
use Rattle.kernel.specs.InnerSearch.{foremost}
use Rattle.pairorder.proofs.Earlier.{not_later_same, larger_not_later, not_later_first}
use Rattle.equivalence.proofs.Lists.{first_none}
use Rattle.equivalence.proofs.Maps.{Holds, holds_of, of_holds}
use Rattle.pairorder.proofs.Pairs.{of_pairs, Lex, first_held_is}
use Rattle.equivalence.proofs.Tests.{T?, both, left, right, or_left, or_right, or_cases, eq→eqb, pick_yes, pick_no, true_is, false_is}

-- `at` has the smallest value among the elements below i that pass, and is the first of those that have it; 0, which does not pass, stands for none
pub record Foremost (value : ℕ → ℕ) (passes : ℕ → Bool) (i at : ℕ) : Type 0 where
  pub low : at < i
  pub none : at ≡ 0 → (k : ℕ) → k < i → ¬ T (passes k)
  pub some : (at ≡ 0 → ⊥) → T (passes at)
  pub least : (k : ℕ) → k < i → T (passes k) → value at ≤ value k
  pub nearest : (k : ℕ) → k < i → T (passes k) → value k ≤ value at → at ≤ k

module _ (value : ℕ → ℕ) (passes : ℕ → Bool) where
  pub foremost_none : ¬ T (passes 0) → Foremost value passes 1 0
  foremost_none h =
      let no : (k : ℕ) → k < 1 → ¬ T (passes k) = λ k l t. let e : k ≡ 0 = omega arith in h (subst (λ (z : ℕ). T (passes z)) e t) in
      record { low = omega arith; none = λ e. no; some = λ e. absurd (e refl); least = λ k l t. absurd (no k l t); nearest = λ k l t. absurd (no k l t) }

  -- with the next element
  pub foremost_more : (i at : ℕ) → Foremost value passes i at → Foremost value passes (i + 1) (foremost at (value at) i (value i) (passes i))
  unfolding foremost
  foremost_more i at s =
      elim (T? (passes i && (eqb at 0 || ltb (value i) (value at)))) [
        | yes t ↦ rw (pick_yes (passes i && (eqb at 0 || ltb (value i) (value at))) i at t) (taken t)
        | no t ↦ rw (pick_no (passes i && (eqb at 0 || ltb (value i) (value at))) i at t) (kept t)
      ]
    where
      at_old : (k : ℕ) → k < i + 1 → (k ≡ i → ⊥) → k < i
      at_old k l e = omega arith

      taken : T (passes i && (eqb at 0 || ltb (value i) (value at))) → Foremost value passes (i + 1) i
      taken t =
          record {
            low = omega arith;
            none = λ e. absurd (omega (arith, s.low));
            some = λ e. left (passes i) _ t;
            least = λ k l p. elim (ℕ_discrete k i) [ yes e ↦ omega (arith, ap value e) | no e ↦ omega (arith, lower k (at_old k l e) p) ];
            nearest = λ k l p h. elim (ℕ_discrete k i) [ yes e ↦ omega arith | no e ↦ absurd (omega (arith, lower k (at_old k l e) p)) ];
          }
        where
          lower : (k : ℕ) → k < i → T (passes k) → value i < value k
          lower k l p =
              elim (or_cases (eqb at 0) (ltb (value i) (value at)) (right (passes i) _ t)) [
                | inl e ↦ absurd (s.none (eqb→eq at 0 e) k l p)
                | inr e ↦ omega (arith, ltb→lt (value i) (value at) e, s.least k l p)
              ]

      kept : ¬ T (passes i && (eqb at 0 || ltb (value i) (value at))) → Foremost value passes (i + 1) at
      kept t =
          record {
            low = omega (arith, s.low);
            none = λ e k l p. elim (ℕ_discrete k i) [
              | yes f ↦ t (both (passes i) _ (subst (λ (z : ℕ). T (passes z)) f p) (or_left (eqb at 0) _ (eq→eqb at 0 e)))
              | no f ↦ s.none e k (at_old k l f) p
            ];
            some = s.some;
            least = λ k l p. elim (ℕ_discrete k i) [
              | yes f ↦ elim (dec_lt (value i) (value at)) [
                | yes j ↦ absurd (t (both (passes i) _ (subst (λ (z : ℕ). T (passes z)) f p) (or_right (eqb at 0) _ (lt→ltb (value i) (value at) j))))
                | no j ↦ omega (arith, ap value f)
              ]
              | no f ↦ s.least k (at_old k l f) p
            ];
            nearest = λ k l p h. elim (ℕ_discrete k i) [ yes f ↦ omega (arith, s.low) | no f ↦ s.nearest k (at_old k l f) p h ];
          }

-- the loop's end
pub foremost_all : {value : ℕ → ℕ} {passes : ℕ → Bool} {n i at : ℕ} → i ≤ n → n ≤ i → Foremost value passes i at → Foremost value passes n at
foremost_all {n = n} {i = i} l k s = let e : i ≡ n = omega arith in rw e at s

-- ---- the first pair that a map holds

-- x has another name than itself
abbrev pub moved : Map → ℕ → Bool
moved m x = not (eqb (byte m x) x)

module _ (n : ℕ) (m : Map) (some : 1 ≤ n) (c : Canonical n (byte m)) where
  pub held_start : Foremost (byte m) (moved m) 1 0
  held_start = foremost_none (byte m) (moved m) (λ t. T_not (eqb (byte m 0) 0) t (eq→eqb (byte m 0) 0 (omega (arith, c.below 0 some))))

  moved_of : (x : ℕ) → byte m x < x → T (moved m x)
  moved_of x l = not_T (eqb (byte m x) x) (λ t. let e : byte m x ≡ x = eqb→eq (byte m x) x t in absurd (omega arith))

  pub held_end : (at : ℕ) → Foremost (byte m) (moved m) n at → (byte m at, at) ≡ first_held n m
  unfolding first_held
  held_end at s =
      elim (ℕ_discrete at 0) [
        | yes e ↦
            let z : byte m 0 ≡ 0 = omega (arith, c.below 0 some) in
            rw (e, z) (sym (first_none (λ p. holds m p.0 p.1) (0, 0) (pairs n) (λ p i t. let q = of_pairs n p i in
            let h : Holds m p.0 p.1 = of_holds m p.0 p.1 t in
            s.none e p.1 q.1 (moved_of p.1 (omega (arith, c.below p.0 (omega arith)))))))
        | no e ↦
            let l : byte m at < at = less at s.low (s.some e) in
            sym (first_held_is n m (byte m at) at l s.low (c.named at s.low)
            (λ u v i j before h.
            let b : byte m u ≤ u = c.below u (omega arith) in
            let t : T (moved m v) = moved_of v (omega arith) in
            let p : byte m at ≤ byte m v = s.least v j t in
            elim before [
              | inl w ↦ absurd (omega arith)
              | inr w ↦ let r : at ≤ v = s.nearest v j t (omega arith) in absurd (omega arith)
            ]))
      ]
    where
      less : (x : ℕ) → x < n → T (moved m x) → byte m x < x
      less x l t = elim (ℕ_discrete (byte m x) x) [ yes e ↦ absurd (T_not (eqb (byte m x) x) t (eq→eqb (byte m x) x e)) | no e ↦ omega (arith, c.below x l) ]

-- ---- which of two maps is the earlier

-- the smaller of the two names of x, and whether they differ
abbrev pub smaller : Map → Map → ℕ → ℕ
smaller a b x = min (byte a x) (byte b x)

abbrev pub differ : Map → Map → ℕ → Bool
differ a b x = not (eqb (byte a x) (byte b x))

module _ (n : ℕ) (a b : Map) (some : 1 ≤ n) (ca : Canonical n (byte a)) (cb : Canonical n (byte b)) where
  pub differ_start : Foremost (smaller a b) (differ a b) 1 0
  differ_start =
      foremost_none (smaller a b) (differ a b)
      (λ t. T_not (eqb (byte a 0) (byte b 0)) t (eq→eqb (byte a 0) (byte b 0) (omega (arith, ca.below 0 some, cb.below 0 some))))

  -- `at` is foremost and its name in a is the smaller: b holds nothing that a does not before (byte a at, at)
  earlier_at : (at : ℕ) → at < n → byte a at < byte b at
      → ((k : ℕ) → k < n → (byte a k ≡ byte b k → ⊥) → (byte a at ≤ byte a k) × (byte a at ≤ byte b k))
      → ((k : ℕ) → k < n → (byte a k ≡ byte b k → ⊥) → (byte a k ≤ byte a at → at ≤ k) × (byte b k ≤ byte a at → at ≤ k))
      → T (not_later n a b)
  earlier_at at l s least nearest =
      not_later_first n a b (byte a at) at (omega (arith, cb.below at l)) l (ca.named at l)
      (λ h. omega (arith, cb.below (byte a at) (omega (arith, ca.below at l))))
      (λ u v i j before h. elim (ℕ_discrete (byte a u) (byte a v)) [
        | yes e ↦ e
        | no e ↦ absurd (elim (ℕ_discrete (byte a v) (byte b v)) [
          | yes f ↦ none u v i j before h u (omega arith) (omega arith) (λ g. e (g ∙ h ∙ sym f)) (omega arith)
          | no f ↦ none u v i j before h v (omega arith) j f h
        ])
      ])
    where
      none : (u v : ℕ) → u < v → v < n → Lex (u, v) (byte a at, at) → Holds b u v → (k : ℕ) → k ≤ v → k < n → (byte a k ≡ byte b k → ⊥) → byte b u ≡ byte b k → ⊥
      none u v i j before h k w q d e =
          let r = least k q d in
          let t = nearest k q d in
          let p : byte b u ≤ u = cb.below u (omega arith) in
          elim before [
            | inl z ↦ omega (arith, r.1)
            | inr z ↦ let g : at ≤ k = t.1 (omega (arith, z.0)) in omega (arith, z.1)
          ]

module _ (n : ℕ) (a b : Map) (some : 1 ≤ n) (ca : Canonical n (byte a)) (cb : Canonical n (byte b)) where
  pub differ_end : (at : ℕ) → Foremost (smaller a b) (differ a b) n at → leb (byte a at) (byte b at) ≡ not_later n a b
  differ_end at s =
      elim (dec_lt (byte a at) (byte b at)) [
        | yes l ↦ le-leb (byte a at) (byte b at) (omega arith)
            ∙ true_is _ (earlier_at n a b some ca cb at s.low l (λ k j d. let r = s.least k j (of_differ k d) in (omega arith, omega arith))
            (λ k j d. (λ h. s.nearest k j (of_differ k d) (omega arith), λ h. s.nearest k j (of_differ k d) (omega arith))))
        | no l ↦ elim (dec_lt (byte b at) (byte a at)) [
          | yes k ↦ lt-leb (byte a at) (byte b at) k
              ∙ false_is _ (λ t. apart k (not_later_same n a b t
              (earlier_at n b a some cb ca at s.low k (λ k j d. let r = s.least k j (of_differ k (λ e. d (sym e))) in (omega arith, omega arith))
              (λ k j d. (λ h. s.nearest k j (of_differ k (λ e. d (sym e))) (omega arith), λ h. s.nearest k j (of_differ k (λ e. d (sym e))) (omega arith))))
              (byte b at) at (omega (arith, ca.below at s.low)) s.low))
          | no k ↦ le-leb (byte a at) (byte b at) (omega arith)
              ∙ true_is _ (larger_not_later n a b (λ x y i j e. equal (omega arith) x i ∙ e ∙ sym (equal (omega arith) y j)))
        ]
      ]
    where
      of_differ : (k : ℕ) → (byte a k ≡ byte b k → ⊥) → T (differ a b k)
      of_differ k d = not_T (eqb (byte a k) (byte b k)) (λ t. d (eqb→eq (byte a k) (byte b k) t))

      -- b holds the pair, and a does not
      apart : byte b at < byte a at → holds a (byte b at) at ≡ holds b (byte b at) at → ⊥
      apart k e =
          let h : Holds a (byte b at) at = of_holds a (byte b at) at (subst T (sym e) (holds_of b (byte b at) at (cb.named at s.low))) in
          omega (arith, ca.below (byte b at) (omega (arith, ca.below at s.low, s.low)))

      equal : byte a at ≡ byte b at → (x : ℕ) → x < n → byte a x ≡ byte b x
      equal e x i =
          elim (ℕ_discrete at 0) [
            | yes z ↦ elim (ℕ_discrete (byte a x) (byte b x)) [ yes f ↦ f | no f ↦ absurd (s.none z x i (of_differ x f)) ]
            | no z ↦ absurd (T_not (eqb (byte a at) (byte b at)) (s.some z) (eq→eqb (byte a at) (byte b at) e))
          ]
