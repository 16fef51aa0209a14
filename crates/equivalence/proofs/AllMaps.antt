-- The smallest members of the blocks, and every map over n: `maps n` lists exactly the maps.
use Prim.Native.Nat.{ℕ, zero, suc, ◌≤◌, ◌<◌}
use mathlib.Core.List.Memᴰ.{head as here}
use mathlib.Core.List.{List, [], ◌∷◌, ◌++◌, map, Memᴰ as Member}
use mathlib.Core.List.Memᴰ.{append_left}
use mathlib.Core.List.Memᴰ.{eq_of_singleton}
use mathlib.Core.List.Memᴰ.{map as member-map}
use mathlib.Core.List.Memᴰ.{of_map}
use mathlib.Core.List.Memᴰ.{append_cases}
use mathlib.Core.List.Memᴰ.{append_right}
use mathlib.Core.List.Memᴰ.{cast}
use mathlib.Core.Logic.{inl, inr}
use mathlib.Core.Path.{◌≡◌, refl, sym, subst, ◌∙◌}
use native.Mathlib.Decide.{dec_lt}
use native.Mathlib.Omega.{arith}
use lib.Dec.{eqb, eqb→eq}
use lib.ListN.{length, take, length-append, get_or-append}
use lib.Seq.{get_or-take, get_or-append_seam, take-suc, take_all, length-take-le}
use Rattle.equivalence.specs.Equivalence.{Map, byte, names_of, maps}
use Rattle.equivalence.specs.Lists.{up_to}
use Rattle.equivalence.proofs.Lists.{keep_member, of_keep, member_concat, of_concat, member_up_to, of_up_to}
use Rattle.equivalence.proofs.Maps.{IsMap}
use Rattle.equivalence.proofs.Tests.{eq→eqb}

pub member_names_of : (n : ℕ) (m : Map) (x : ℕ) → x < n → byte m x ≡ x → Member x (names_of n m)
unfolding names_of
member_names_of n m x l e = keep_member (λ x. eqb (byte m x) x) (up_to n) x (member_up_to n x l) (eq→eqb (byte m x) x e)

pub of_names_of : (n : ℕ) (m : Map) (x : ℕ) → Member x (names_of n m) → (x < n) × (byte m x ≡ x)
unfolding names_of
of_names_of n m x i =
    let r = of_keep (λ x. eqb (byte m x) x) (up_to n) x i in
    (of_up_to n x r.0, eqb→eq (byte m x) x r.1)

module _ (n : ℕ) (m : Map) (p : IsMap n m) (r : ℕ) where
  old : (x : ℕ) → x < n → byte (m ++ (r ∷ [])) x ≡ byte m x
  old x l = get_or-append m (r ∷ []) 0 x (omega (arith, p.long))

  new : byte (m ++ (r ∷ [])) n ≡ r
  new = subst (λ (k : ℕ). byte (m ++ (r ∷ [])) k ≡ r) p.long (get_or-append_seam m r [] 0)

  longer : r ≤ n → (r < n → byte m r ≡ r) → IsMap (suc n) (m ++ (r ∷ []))
  longer h f =
      record {
        long = length-append m (r ∷ []) ∙ omega (arith, p.long);
        low = λ x l. elim (dec_lt x n) [
          | yes k ↦ rw (old x k) (p.low x k)
          | no g ↦ let e : x ≡ n = omega arith in rw (e, new) h
        ];
        named = λ x l. elim (dec_lt x n) [
          | yes k ↦ rw (old x k) (old (byte m x) (omega (arith, p.low x k)) ∙ p.named x k)
          | no g ↦ let e : x ≡ n = omega arith in
              rw (e, new)
              (elim (dec_lt r n) [ yes k ↦ old r k ∙ f k | no j ↦ let i : r ≡ n = omega arith in rw i (rw i at new) ])
        ];
      }

pub maps_sound : (n : ℕ) (m : Map) → Member m (maps n) → IsMap n m
unfolding maps
maps_sound zero m i =
    rw (eq_of_singleton i) (record { long = refl; low = λ x l. absurd (omega arith); named = λ x l. absurd (omega arith) })
maps_sound (suc n) m i =
    let s = of_concat (map (λ m. map (λ r. m ++ (r ∷ [])) (names_of n m ++ (n ∷ []))) (maps n)) m i in
    let u = of_map (λ m. map (λ r. m ++ (r ∷ [])) (names_of n m ++ (n ∷ []))) (maps n) s.1 in
    let v = of_map (λ r. u.0 ++ (r ∷ [])) (names_of n u.0 ++ (n ∷ [])) (subst (λ (l : List Map). Member m l) (sym u.2) s.2) in
    let p : IsMap n u.0 = maps_sound n u.0 u.1 in
    rw (← v.2)
    (elim (append_cases (names_of n u.0) v.1) [
      | inl k ↦ let q = of_names_of n u.0 v.0 k in longer n u.0 p v.0 (omega arith) (λ l. q.1)
      | inr k ↦ let e : v.0 ≡ n = eq_of_singleton k in longer n u.0 p v.0 (omega arith) (λ l. absurd (omega arith))
    ])

pub maps_complete : (n : ℕ) (m : Map) → IsMap n m → Member m (maps n)
unfolding maps
maps_complete zero [] p = here refl
maps_complete zero (x ∷ m) p = absurd (omega (arith, p.long))
maps_complete (suc n) m p =
    let l : n < length m = omega (arith, p.long) in
    let e : take n m ++ (byte m n ∷ []) ≡ m = sym (take-suc m n 0 l) ∙ take_all (suc n) m (omega arith) in
    let taken : (x : ℕ) → x < n → byte (take n m) x ≡ byte m x = λ x k. get_or-take n m x 0 k in
    let q : IsMap n (take n m) =
    record {
      long = length-take-le n m (omega arith);
      low = λ x k. rw (taken x k) (p.low x (omega arith));
      named = λ x k. let j : byte m x < n = omega (arith, p.low x (omega arith)) in
          rw (taken x k, taken (byte m x) j) (p.named x (omega arith));
    } in
    let i : Member (byte m n) (names_of n (take n m) ++ (n ∷ [])) =
    elim (dec_lt (byte m n) n) [
      | yes k ↦ append_left (n ∷ []) (member_names_of n (take n m) (byte m n) k (taken (byte m n) k ∙ p.named n (omega arith)))
      | no g ↦ append_right (names_of n (take n m)) (here (omega (arith, p.low n (omega arith))))
    ] in
    member_concat (map (λ m. map (λ r. m ++ (r ∷ [])) (names_of n m ++ (n ∷ []))) (maps n)) (map (λ r. take n m ++ (r ∷ [])) (names_of n (take n m) ++ (n ∷ []))) m
    (member-map (λ m. map (λ r. m ++ (r ∷ [])) (names_of n m ++ (n ∷ []))) (maps_complete n (take n m) q))
    (cast (sym e) (member-map (λ r. take n m ++ (r ∷ [])) i))
