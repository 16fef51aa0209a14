-- The calls of a run: when a fill can be made, and what a call does when it cannot.
use Prim.Native.Nat.{ℕ, ◌≤◌, ◌<◌}
use mathlib.Core.Bool.{Bool, true, false, not, ◌&&◌}
use mathlib.Core.List.{List}
use mathlib.Core.Path.{◌≡◌, refl, ap, sym, ◌∙◌, subst}
use borrow.Author.Tests.{not-true, not-false, le-leb, lt-leb, leb-true}
use lib.Dec.{T, leb}
use lib.ListN.{length}
use Rattle.bracket.specs.Standings.{Sound, Filling, unread, standing_room, can_fill, FillPromise}
use Rattle.bracket.specs.InnerSteps.{Lent}
use Rattle.bracket.specs.declared.run.Standing.{Standing}
use Rattle.bracket.specs.declared.run.Stepped.{Stepped}
use Rattle.numberreader.proofs.Words.{and_left, and_right}

-- the tests in turn
module _ (text : ℕ) (s : Standing) (arities room out : ℕ) where
  pub run_over : not s.goes ≡ true → false ≡ can_fill text s arities room out
  unfolding can_fill
  run_over h = sym (simp (can_fill, not-true s.goes h))

  module _ (g : not s.goes ≡ false) where
    pub past_text : text < s.at → false ≡ can_fill text s arities room out
    unfolding can_fill
    past_text h = sym (simp (can_fill, not-false s.goes g, lt-leb s.at text h))

    module _ (a : s.at ≤ text) where
      pub no_size : s.size < 1 → false ≡ can_fill text s arities room out
      unfolding can_fill
      no_size h = sym (simp (can_fill, not-false s.goes g, le-leb s.at text a, lt-leb 1 s.size h))

      module _ (b : 1 ≤ s.size) where
        pub size_above : 64 < s.size → false ≡ can_fill text s arities room out
        unfolding can_fill
        size_above h = sym (simp (can_fill, not-false s.goes g, le-leb s.at text a, le-leb 1 s.size b, lt-leb s.size 64 h))

        module _ (c : s.size ≤ 64) where
          pub operations_above : 16 < s.operations → false ≡ can_fill text s arities room out
          unfolding can_fill
          operations_above h =
              sym (simp (can_fill, not-false s.goes g, le-leb s.at text a, le-leb 1 s.size b, le-leb s.size 64 c, lt-leb s.operations 16 h))

          module _ (d : s.operations ≤ 16) where
            pub operations_past : s.at < s.operations → false ≡ can_fill text s arities room out
            unfolding can_fill
            operations_past h =
                sym
                (simp (can_fill, not-false s.goes g, le-leb s.at text a, le-leb 1 s.size b, le-leb s.size 64 c, le-leb s.operations 16 d, lt-leb s.operations s.at h))

            -- what is left to test is the cells and the lent slices
            module _ (e : s.operations ≤ s.at) where
              cell_tests : can_fill text s arities room out ≡ (leb s.cells 32768 && (leb s.cells s.at && (leb 16 arities && (leb text room && leb (standing_room s) out))))
              unfolding can_fill
              cell_tests =
                  simp (can_fill, not-false s.goes g, le-leb s.at text a, le-leb 1 s.size b, le-leb s.size 64 c, le-leb s.operations 16 d, le-leb s.operations s.at e)

              pub cells_above : 32768 < s.cells → false ≡ can_fill text s arities room out
              cells_above h = sym (cell_tests ∙ simp (lt-leb s.cells 32768 h))

              module _ (j : s.cells ≤ 32768) where
                pub cells_past : s.at < s.cells → false ≡ can_fill text s arities room out
                cells_past h = sym (cell_tests ∙ simp (le-leb s.cells 32768 j, lt-leb s.cells s.at h))

                module _ (f : s.cells ≤ s.at) where
                  pub few_arities : arities < 16 → false ≡ can_fill text s arities room out
                  few_arities h = sym (cell_tests ∙ simp (le-leb s.cells 32768 j, le-leb s.cells s.at f, lt-leb 16 arities h))

                  module _ (k : 16 ≤ arities) where
                    pub little_room : room < text → false ≡ can_fill text s arities room out
                    little_room h = sym (cell_tests ∙ simp (le-leb s.cells 32768 j, le-leb s.cells s.at f, le-leb 16 arities k, lt-leb text room h))

                    pub last_test : text ≤ room → (w : ℕ) → w ≡ standing_room s → leb w out ≡ can_fill text s arities room out
                    last_test h w e =
                        ap (λ (x : ℕ). leb x out) e
                        ∙ sym (cell_tests ∙ simp (le-leb s.cells 32768 j, le-leb s.cells s.at f, le-leb 16 arities k, le-leb text room h))

-- what the tests leave
module _ (text : List ℕ) (s : Standing) (arities room lent : List ℕ) where
  abbrev able : Bool
  able = can_fill (length text) s (length arities) (length room) (length lent)

  -- every number in its bounds
  within_bounds : able ≡ true → Sound text s × Lent text s arities room lent
  unfolding can_fill
  within_bounds t =
      let line = leb (standing_room s) (length lent) in
      let storage = leb (length text) (length room) && line in
      let sixteen = leb 16 (length arities) && storage in
      let paced = leb s.cells s.at && sixteen in
      let fit = leb s.cells 32768 && paced in
      let counted = leb s.operations s.at && fit in
      let few = leb s.operations 16 && counted in
      let most = leb s.size 64 && few in
      let some = leb 1 s.size && most in
      let t1 = and_right s.goes (leb s.at (length text) && some) t in
      let t2 = and_right (leb s.at (length text)) some t1 in
      let t3 = and_right (leb 1 s.size) most t2 in
      let t4 = and_right (leb s.size 64) few t3 in
      let t5 = and_right (leb s.operations 16) counted t4 in
      let t6 = and_right (leb s.operations s.at) fit t5 in
      let t7 = and_right (leb s.cells 32768) paced t6 in
      let t8 = and_right (leb s.cells s.at) sixteen t7 in
      let t9 = and_right (leb 16 (length arities)) storage t8 in (
        record {
          within = leb-true s.at (length text) (and_left (leb s.at (length text)) some t1);
          some = leb-true 1 s.size (and_left (leb 1 s.size) most t2);
          most = leb-true s.size 64 (and_left (leb s.size 64) few t3);
          few = leb-true s.operations 16 (and_left (leb s.operations 16) counted t4);
          counted = leb-true s.operations s.at (and_left (leb s.operations s.at) fit t5);
          fit = leb-true s.cells 32768 (and_left (leb s.cells 32768) paced t6);
          paced = leb-true s.cells s.at (and_left (leb s.cells s.at) sixteen t7);
        },
        record {
          sixteen = leb-true 16 (length arities) (and_left (leb 16 (length arities)) storage t8);
          storage = leb-true (length text) (length room) (and_left (leb (length text) (length room)) line t9);
          line = leb-true (standing_room s) (length lent) (and_right (leb (length text) (length room)) line t9);
        },
      )

  -- the run goes on, and there is room for its line
  module _ (t : able ≡ true) where
    pub goes_able : s.goes ≡ true
    unfolding can_fill
    goes_able = and_left s.goes _ t

    pub room_able : standing_room s ≤ length lent
    room_able = (within_bounds t).1.line

  module _ (b : Bool) (eb : b ≡ able) where
    pub able_sound : not b ≡ false → Sound text s
    able_sound h = (within_bounds (sym eb ∙ not-false b h)).0

    pub able_lent : not b ≡ false → Lent text s arities room lent
    able_lent h = (within_bounds (sym eb ∙ not-false b h)).1

    pub fill_idles : not b ≡ true → (t : Standing) → t ≡ unread false → FillPromise text s arities room lent arities room lent (record { standing = t; wrote = 0 })
    fill_idles h t et =
        rw et (record { fills = λ y. absurd (subst T (sym eb ∙ not-true b h) y); idles = λ n. (refl, refl, refl, refl) })

    pub fill_made : not b ≡ false → (arities' room' out : List ℕ) (r : Stepped) → Filling text s arities room lent arities' room' out r
        → FillPromise text s arities room lent arities' room' out r
    fill_made h arities' room' out r q =
        record { fills = λ t. q; idles = λ n. absurd (n (subst T (sym (sym eb ∙ not-false b h)) tt)) }

-- from a sound standing, with enough lent, a run that goes on can be filled from
pub sound_able : (text : List ℕ) (s : Standing) (arities room lent : List ℕ) → s.goes ≡ true → Sound text s → Lent text s arities room lent
    → can_fill (length text) s (length arities) (length room) (length lent) ≡ true
sound_able text s arities room lent g w l =
    sym
    (sym (le-leb (standing_room s) (length lent) l.line)
    ∙ last_test (length text) s (length arities) (length room) (length lent) (ap not g) w.within w.some w.most w.few w.counted w.fit w.paced l.sixteen
    l.storage (standing_room s) refl)
