-- Demand 2 over the calls: an answer that is no refusal shows that the tests passed and what was written; and Certify says yes to Decompose's list.
use Prim.Native.Nat.{ℕ, ◌+◌, ◌-◌, ◌*◌, ◌/◌, ◌%◌, ◌<◌, ◌≤◌}
use mathlib.Core.List.{List, [], append-nil}
use mathlib.Core.Path.{◌≡◌, refl, sym, ap, subst, ◌∙◌}
use native.Mathlib.Nat.{mul-div_cancel}
use native.Mathlib.Omega.{arith}
use lib.Arith.{digits_mod}
use lib.Dec.{T}
use lib.ListN.{length, get_or, take, drop}
use lib.Seq.{take_at, drop_at}
use Rattle.lattice.specs.Calls.{two_maps_check, two_maps_call, meet_call, join_call}
use Rattle.equivalence.specs.Equivalence.{Map, is_map, blocks, meet, join}
use Rattle.equivalence.specs.Lists.{every, concat}
use Rattle.equivalence.specs.Refusal.{Test, lowest, answered, serve}
use Rattle.equivalence.specs.Lent.{written, lent_after}
use Rattle.equivalence.proofs.BlockNumbers.{blocks_le}
use Rattle.equivalence.proofs.Lists.{every_of, member_index}
use Rattle.equivalence.proofs.Maps.{of_is_map}
use Rattle.equivalence.proofs.Refusals.{lowest_none, err_never, same_answer}
use Rattle.equivalence.proofs.Tests.{true_is}
use Rattle.equivalence.specs.declared.Refusal.{Refusal}
use Rattle.algebra.specs.Accepted.{Accepted}
use Rattle.algebra.specs.Algebra.{Algebra, cell_count}
use Rattle.algebra.specs.Congruence.{Congruence}
use Rattle.algebra.proofs.Accepted.{accepted_well_formed}
use Rattle.quotient.specs.Quotient.{quotient_cells, quotient}
use Rattle.maplist.specs.InnerMapLists.{map_list}
use Rattle.maplist.proofs.MapLists.{map_list_concat, concat_length}
use Rattle.theory.specs.Certify.{certified}
use Rattle.theory.specs.Decompose.{reducible, listed}
use Rattle.theory.specs.Extremal.{generated, contained, separated}
use Rattle.theory.proofs.Factors.{listed_long, factor_space_yes}
use Rattle.theory.proofs.Quotients.{quotient_cells_length}
use Rattle.congruence.specs.Calls.{generate_tests, generate_call, contained_tests, contained_call, separate_tests, separate_call, quotient_space, quotient_tests}
use Rattle.congruence.specs.Calls.{quotient_call, decomposed, factor_bytes, decompose_tests, decompose_call, certify_tests, certify_call}
use Rattle.congruence.specs.Demands.{LeastCongruence, GreatestCongruence, EarliestCongruence, MeetRight, JoinRight, QuotientAtMembers}
use Rattle.congruence.specs.Meanings.{WroteMap, quotient_in, WroteQuotient, Meanings}
use Rattle.congruence.proofs.Calls.{factors_reducible, quotient_algebra}
use Rattle.congruence.proofs.Decomposing.{factor_bytes_yes}
use Rattle.congruence.proofs.Demands.{meet_right, join_right, generated_least, contained_greatest, separated_right, quotient_at_members, listed_right, listed_certified_yes}
use Rattle.algebra.proofs.Tested.{algebra_passes}
use Rattle.congruence.proofs.Testing.{maps_passed}
use Rattle.congruence.proofs.Serving.{of_generate_tests, of_contained_tests, of_separate_tests, of_quotient_tests, of_decompose_tests, certify_decided}
use Rattle.std.specs.Prelude.{⊤, true, Result, Ok, Err}
use Rattle.decomposition.specs.declared.Decomposed.TheVariants.{Factors}

-- ---- an answer that is no refusal: the tests passed, it is the call's own answer, and the new bytes were written

module _ {A : Type 0} (answer : A) (new lent : List ℕ) {given : A} {out : List ℕ} where
  given_by : (c : Result ⊤ Refusal) → answered Err c (Ok answer) ≡ Ok given → lent_after c new lent ≡ out → (c ≡ Ok tt) × (answer ≡ given) × (written new lent ≡ out)
  unfolding answered lent_after
  given_by (Ok x) e f = (refl, same_answer e, f)
  given_by (Err r) e f = absurd (err_never e)

  serve_given : (tests : List Test) → serve tests answer new lent ≡ (Ok given, out) → (lowest tests ≡ Ok tt) × (answer ≡ given) × (written new lent ≡ out)
  unfolding serve
  serve_given tests e = given_by (lowest tests) (ap (λ (r : Result A Refusal × List ℕ). r.0) e) (ap (λ (r : Result A Refusal × List ℕ). r.1) e)

-- ---- what was written

module _ (n : ℕ) (new lent : List ℕ) {out : List ℕ} (long : length new ≡ n) (laid : written new lent ≡ out) where
  -- it stands in the first bytes
  wrote_first : take n out ≡ new
  unfolding written
  wrote_first = ap (take n) (sym laid) ∙ take_at new (drop (length new) lent) n long

  -- and those behind it are kept
  wrote_past : drop n out ≡ drop n lent
  unfolding written
  wrote_past = ap (drop n) (sym laid) ∙ drop_at new (drop (length new) lent) n long ∙ ap (λ (k : ℕ). drop k lent) long

wrote_map : (n : ℕ) (P : Map → Type 0) (new lent : List ℕ) {out : List ℕ} → T (is_map n new) → P new → written new lent ≡ out → WroteMap n P lent out
wrote_map n P new lent m p e =
    let long : length new ≡ n = (of_is_map n new m).long in
    record { means = subst P (sym (wrote_first n new lent long e)) p; kept = wrote_past n new lent long e }

-- ---- the services that write a map

module _ (a : Algebra) (ps lent out : List ℕ) (k : ℕ) (e : generate_call a ps lent ≡ (Ok k, out)) where
  generate_given : (lowest (generate_tests a ps (length lent)) ≡ Ok tt) × (a.size - blocks a.size (generated a ps) ≡ k) × (written (generated a ps) lent ≡ out)
  unfolding generate_call
  generate_given = serve_given _ (generated a ps) lent (generate_tests a ps (length lent)) e

  generate_least : LeastCongruence a ps (generated a ps)
  generate_least = let t = of_generate_tests a (length lent) ps (sym generate_given.0) in generated_least a t.0 ps t.1.0

  generate_means : WroteMap a.size (LeastCongruence a ps) lent out
  generate_means = wrote_map a.size (LeastCongruence a ps) (generated a ps) lent generate_least.congruence.map generate_least generate_given.2

  generate_merges : k + blocks a.size (take a.size out) ≡ a.size
  generate_merges =
      let long : length (generated a ps) ≡ a.size = (of_is_map a.size (generated a ps) generate_least.congruence.map).long in
      ap (λ (m : Map). k + blocks a.size m) (wrote_first a.size (generated a ps) lent long generate_given.2)
      ∙ omega (arith, generate_given.1, blocks_le a.size (generated a ps))

contained_means : (a : Algebra) (m : Map) (lent out : List ℕ) → contained_call a m lent ≡ (Ok tt, out) → WroteMap a.size (GreatestCongruence a m) lent out
unfolding contained_call
contained_means a m lent out e =
    let g = serve_given tt (contained a m) lent (contained_tests a m (length lent)) e in
    let t = of_contained_tests a (length lent) m (sym g.0) in
    let r = contained_greatest a t.0 m t.1.0 in
    wrote_map a.size (GreatestCongruence a m) (contained a m) lent r.congruence.map r g.2

separate_means : (a : Algebra) (v w : ℕ) (lent out : List ℕ) → separate_call a v w lent ≡ (Ok tt, out) → WroteMap a.size (EarliestCongruence a v w) lent out
unfolding separate_call
separate_means a v w lent out e =
    let g = serve_given tt (separated a v w) lent (separate_tests a v w (length lent)) e in
    let t = of_separate_tests a (length lent) v w (sym g.0) in
    let r = separated_right a t.0 v w t.1.0 t.1.1.0 t.1.1.1.0 in
    wrote_map a.size (EarliestCongruence a v w) (separated a v w) lent r.congruence.map r g.2

module _ (n : ℕ) (a b : Map) (lent out : List ℕ) where
  meet_means : meet_call n a b lent ≡ (Ok tt, out) → WroteMap n (MeetRight n a b) lent out
  unfolding meet_call two_maps_call
  meet_means e =
      let g = given_by tt (meet n a b) lent (two_maps_check n a b lent) (ap (λ (r : Result ⊤ Refusal × List ℕ). r.0) e) (ap (λ (r : Result ⊤ Refusal × List ℕ). r.1) e) in
      let r = meet_right n a b in
      wrote_map n (MeetRight n a b) (meet n a b) lent r.map r g.2

  join_means : join_call n a b lent ≡ (Ok tt, out) → WroteMap n (JoinRight n a b) lent out
  unfolding join_call two_maps_call
  join_means e =
      let g = given_by tt (join n a b) lent (two_maps_check n a b lent) (ap (λ (r : Result ⊤ Refusal × List ℕ). r.0) e) (ap (λ (r : Result ⊤ Refusal × List ℕ). r.1) e) in
      let r = join_right n a b in
      wrote_map n (JoinRight n a b) (join n a b) lent r.map r g.2

-- ---- Quotient

module _ (a : Algebra) (m : Map) (lent out : List ℕ) (b : ℕ) (e : quotient_call a m lent ≡ (Ok b, out)) where
  quotient_given : (lowest (quotient_tests a m (length lent)) ≡ Ok tt) × (blocks a.size m ≡ b) × (written (quotient_cells a m) lent ≡ out)
  unfolding quotient_call
  quotient_given = serve_given _ (quotient_cells a m) lent (quotient_tests a m (length lent)) e

  -- it had passed its tests, and wrote the cells of the algebra of b blocks
  pub quotient_gave : Accepted a × (Congruence a m × ((blocks a.size m ≡ b) × ((quotient_space a m ≤ length lent) × (written (quotient_cells a m) lent ≡ out))))
  quotient_gave =
      let t = of_quotient_tests a (length lent) m (sym quotient_given.0) in
      (t.1.0, (record { map = t.1.1.0; respects = t.0 }, (quotient_given.1, (t.1.1.1, quotient_given.2))))

  quotient_means : WroteQuotient a m b lent out
  quotient_means =
      let g = quotient_gave in
      let p = g.1.0 in
      let is = g.1.1.0 in
      let bytes : (quotient_call a m lent).1 ≡ out = ap (λ (r : Result ℕ Refusal × List ℕ). r.1) e in
      let q : quotient_in a b out ≡ quotient a m =
      subst (λ (c : ℕ). quotient_in a c out ≡ quotient a m) is
      (subst (λ (o : List ℕ). quotient_in a (blocks a.size m) o ≡ quotient a m) bytes (quotient_algebra a g.0 m p lent g.1.1.1.0)) in
      record {
        congruence = p;
        means = subst (QuotientAtMembers a m) (sym q) (quotient_at_members a g.0 m p);
        kept = wrote_past (cell_count b a.arities) (quotient_cells a m) lent (quotient_cells_length a m ∙ ap (λ (c : ℕ). cell_count c a.arities) is) g.1.1.1.1;
      }

-- ---- Decompose

-- where it counts k factors it had passed its tests, and wrote the list
pub decompose_gave : (a : Algebra) (lent out : List ℕ) (k : ℕ) → decompose_call a lent ≡ (Ok (Factors k), out)
    → Accepted a × (T (reducible a) × ((k ≡ length (listed a)) × ((k * a.size ≤ length lent) × (written (concat (listed a)) lent ≡ out))))
unfolding decompose_call
decompose_gave a lent out k e =
    let g = serve_given (decomposed a) (factor_bytes a) lent (decompose_tests a (length lent)) e in
    let t = of_decompose_tests a (length lent) (sym g.0) in
    let r = factors_reducible a k g.1 in
    (t.0, (r.0, (r.1, (rw (r.1, ← factor_space_yes a r.0) t.1, ap (λ (new : List ℕ). written new lent) (sym (factor_bytes_yes a r.0)) ∙ g.2))))

-- ---- Certify over Decompose's list

module _ (a : Algebra) (accepted : Accepted a) where
  listed_bytes : length (concat (listed a)) ≡ length (listed a) * a.size
  listed_bytes =
      concat_length a.size (listed a) (λ m i.
      let j = member_index (listed a) m [] i in
      subst (λ (l : Map). length l ≡ a.size) j.2 (listed_long a (accepted_well_formed a accepted) j.0 j.1))

  listed_whole : map_list a.size (length (listed a)) (concat (listed a)) ≡ listed a
  listed_whole =
      ap (map_list a.size (length (listed a))) (sym (append-nil (concat (listed a)))) ∙ map_list_concat a.size (listed a) [] (listed_long a (accepted_well_formed a accepted))

  certify_listed : T (reducible a) → certify_call a (concat (listed a)) ≡ Ok true
  unfolding Accepted
  certify_listed red =
      let n = a.size in
      let bytes = concat (listed a) in
      let w = accepted_well_formed a accepted in
      let f = listed_right a accepted red in
      let pos : 0 < n = omega (arith, w.some) in
      let even : length bytes % n ≡ 0 = ap (λ (k : ℕ). k % n) (omega (arith, listed_bytes)) ∙ digits_mod (length (listed a)) pos in
      let number : length bytes / n ≡ length (listed a) = ap (λ (k : ℕ). k / n) listed_bytes ∙ mul-div_cancel (length (listed a)) pos in
      let whole : map_list n (length bytes / n) bytes ≡ listed a = ap (λ (k : ℕ). map_list n k bytes) number ∙ listed_whole in
      let maps : T (every (is_map n) (map_list n (length bytes / n) bytes)) =
      subst (λ (ms : List Map). T (every (is_map n) ms)) (sym whole) (every_map (listed a) (λ i l. (f.congruences i l).map)) in
      let yes : T (certified a (map_list n (length bytes / n) bytes)) = subst (λ (ms : List Map). T (certified a ms)) (sym whole) (listed_certified_yes a accepted) in
      let passed : Ok tt ≡ lowest (certify_tests a bytes) =
      algebra_passes a _ accepted refl (sym (maps_passed n bytes [] even (omega (arith, number, f.few, w.most)) (true_is _ maps) refl ∙ lowest_none)) in
      sym (certify_decided a bytes passed refl (true_is _ yes))
    where
      every_map : (ms : List Map) → ((i : ℕ) → i < length ms → T (is_map a.size (get_or ms i []))) → T (every (is_map a.size) ms)
      every_map ms h = every_of (is_map a.size) ms (λ m i. let j = member_index ms m [] i in subst (λ (c : Map). T (is_map a.size c)) j.2 (h j.0 j.1))

certify_means : (a : Algebra) (lent out : List ℕ) (k : ℕ) → decompose_call a lent ≡ (Ok (Factors k), out) → certify_call a (take (k * a.size) out) ≡ Ok true
certify_means a lent out k e =
    let g = decompose_gave a lent out k e in
    let long : length (concat (listed a)) ≡ k * a.size = listed_bytes a g.0 ∙ ap (λ (c : ℕ). c * a.size) (sym g.1.1.0) in
    ap (certify_call a) (wrote_first (k * a.size) (concat (listed a)) lent long g.1.1.1.1) ∙ certify_listed a g.0 g.1.0

-- ---- all of them

pub meanings : Meanings
meanings =
    record {
      generate = generate_means;
      merges = generate_merges;
      contained = contained_means;
      separate = separate_means;
      meet = meet_means;
      join = join_means;
      quotient = quotient_means;
      certify = certify_means;
    }
