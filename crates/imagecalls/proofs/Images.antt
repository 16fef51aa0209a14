-- The definitions of calls over images, by their cases: bytes of a length that is asked for, a call over an image, with a name, and a conversion.
use Prim.Native.Nat.{ℕ}
use mathlib.Core.List.{List}
use mathlib.Core.Path.{◌≡◌, refl, sym, ap, ◌∙◌}
use lib.Dec.{eqb, eqb→eq}
use lib.ListN.{length}
use Rattle.bench.specs.Outcome.{answer_outcome}
use Rattle.benchsheets.specs.declared.Bench.{Bench}
use Rattle.bench.specs.declared.Benched.{Benched}
use Rattle.oldbenches.specs.OldKinds.{convert_v1_call, convert_v2_call}
use Rattle.conversion.specs.Conversion.{convert_v3_call}
use Rattle.oldbenches.specs.declared.BenchV1.{BenchV1}
use Rattle.oldbenches.specs.declared.BenchV2.{BenchV2}
use Rattle.oldbenches.specs.declared.BenchV3.{BenchV3}
use Rattle.equivalence.specs.Outcome.{packed}
use Rattle.equivalence.proofs.Tests.{eq→eqb, pick_yes, pick_no}
use Rattle.image.specs.Image.{image_of, image_v3_of, image_v2_of, bench_in, bench_v3_in, bench_v2_in, bench_v1_in}
use Rattle.imagecalls.specs.Calls.{of_length, bench_shown, image_call, named_call}
use Rattle.imagecalls.specs.Calls.{bench_v2_shown, bench_v3_shown, first_image_call, second_image_call, third_image_call, old_image_call}

-- ---- bytes of a length that a call asks for

module _ {A : Type 0} (k : ℕ) (bytes : List ℕ) (right other : A) where
  pub right_length : length bytes ≡ k → of_length k bytes right other ≡ right
  unfolding of_length
  right_length e = pick_yes (eqb (length bytes) k) right other (eq→eqb (length bytes) k e)

  pub other_length : ¬ (length bytes ≡ k) → of_length k bytes right other ≡ other
  unfolding of_length
  other_length h = pick_no (eqb (length bytes) k) right other (λ t. h (eqb→eq (length bytes) k t))

-- a call by its steps: what the bytes show read, the call made, what it gave shown
steps_called : {A B : Type 0} (k : ℕ) (image : List ℕ) (call : A → B) (shown : B → ℕ × List ℕ) (given before : A) (r : B) (after : ℕ × List ℕ)
    → length image ≡ k → before ≡ given → r ≡ call before → after ≡ shown r → after ≡ of_length k image (shown (call given)) (255, image)
steps_called k image call shown given before r after e f g h =
    h ∙ ap shown (g ∙ ap call f) ∙ sym (right_length k image (shown (call given)) (255, image) e)

-- ---- a call over an image

pub bench_shown_lem : (r : Benched Bench) (number : ℕ) (after : List ℕ) → after ≡ image_of r.bench → number ≡ packed (answer_outcome r.answer)
    → (number, after) ≡ bench_shown r
unfolding bench_shown
bench_shown_lem r number after e f = rw (e, f)

module _ (call : Bench → Benched Bench) (image : List ℕ) where
  pub image_other : ¬ (length image ≡ 5201) → (255, image) ≡ image_call call image
  unfolding image_call
  image_other h = sym (other_length 5201 image _ _ h)

  pub image_called : length image ≡ 5201 → (before : Bench) → before ≡ bench_in image → (r : Benched Bench) → r ≡ call before → (after : ℕ × List ℕ)
      → after ≡ bench_shown r → after ≡ image_call call image
  unfolding image_call
  image_called e before f r g after h = steps_called 5201 image call bench_shown (bench_in image) before r after e f g h

-- a call that looks at no bench
pub image_given : (given : Benched Bench) (image : List ℕ) → length image ≡ 5201 → (r : Benched Bench) → r ≡ given → (after : ℕ × List ℕ) → after ≡ bench_shown r
    → after ≡ image_call (λ b. given) image
image_given given image e r f after g = image_called (λ b. given) image e (bench_in image) refl r f after g

-- a call of a point, over an image and a name
module _ (call : Bench → List ℕ → Benched Bench) (image name : List ℕ) where
  pub name_other : ¬ (length name ≡ 8) → (255, image) ≡ named_call call image name
  unfolding named_call
  name_other h = sym (other_length 8 name _ _ h)

  pub named_called : length name ≡ 8 → {after : ℕ × List ℕ} → after ≡ image_call (λ b. call b name) image → after ≡ named_call call image name
  unfolding named_call
  named_called e f = f ∙ sym (right_length 8 name _ _ e)

-- ---- a conversion, over two images

pub second_shown : (r : Benched BenchV2) (number : ℕ) (after : List ℕ) → after ≡ image_v2_of r.bench → number ≡ packed (answer_outcome r.answer)
    → (number, after) ≡ bench_v2_shown r
unfolding bench_v2_shown
second_shown r number after e f = rw (e, f)

pub third_shown : (r : Benched BenchV3) (number : ℕ) (after : List ℕ) → after ≡ image_v3_of r.bench → number ≡ packed (answer_outcome r.answer)
    → (number, after) ≡ bench_v3_shown r
unfolding bench_v3_shown
third_shown r number after e f = rw (e, f)

module _ (old image : List ℕ) where
  pub first_other : ¬ (length image ≡ 521) → (255, image) ≡ first_image_call old image
  unfolding first_image_call
  first_other h = sym (other_length 521 image _ _ h)

  pub first_called : length image ≡ 521 → (before : BenchV1) → before ≡ bench_v1_in old → (r : Benched BenchV2) → r ≡ convert_v1_call before → (after : ℕ × List ℕ)
      → after ≡ bench_v2_shown r → after ≡ first_image_call old image
  unfolding first_image_call
  first_called e before f r g after h = steps_called 521 image convert_v1_call bench_v2_shown (bench_v1_in old) before r after e f g h

  pub second_other : ¬ (length image ≡ 5137) → (255, image) ≡ second_image_call old image
  unfolding second_image_call
  second_other h = sym (other_length 5137 image _ _ h)

  pub second_called : length image ≡ 5137 → (before : BenchV2) → before ≡ bench_v2_in old → (r : Benched BenchV3) → r ≡ convert_v2_call before → (after : ℕ × List ℕ)
      → after ≡ bench_v3_shown r → after ≡ second_image_call old image
  unfolding second_image_call
  second_called e before f r g after h = steps_called 5137 image convert_v2_call bench_v3_shown (bench_v2_in old) before r after e f g h

  pub old_first : length old ≡ 517 → {after : ℕ × List ℕ} → after ≡ first_image_call old image → after ≡ old_image_call old image
  unfolding old_image_call
  old_first e f = f ∙ sym (right_length 517 old _ _ e)

  module _ (h : ¬ (length old ≡ 517)) where
    pub old_second : length old ≡ 521 → {after : ℕ × List ℕ} → after ≡ second_image_call old image → after ≡ old_image_call old image
    unfolding old_image_call
    old_second e f = f ∙ sym (other_length 517 old _ _ h ∙ right_length 521 old _ _ e)

    module _ (i : ¬ (length old ≡ 521)) where
      pub old_other : ¬ (length old ≡ 5137) → (255, image) ≡ old_image_call old image
      unfolding old_image_call
      old_other j = sym (other_length 517 old _ _ h ∙ other_length 521 old _ _ i ∙ other_length 5137 old _ _ j)

      module _ (e : length old ≡ 5137) where
        old_third : image_call (λ b. convert_v3_call (bench_v3_in old)) image ≡ old_image_call old image
        unfolding old_image_call third_image_call
        old_third = sym (other_length 517 old _ _ h ∙ other_length 521 old _ _ i ∙ right_length 5137 old _ _ e)

        pub new_other : ¬ (length image ≡ 5201) → (255, image) ≡ old_image_call old image
        new_other j = image_other _ image j ∙ old_third

        pub old_called : length image ≡ 5201 → (before : BenchV3) → before ≡ bench_v3_in old → (r : Benched Bench) → r ≡ convert_v3_call before → (after : ℕ × List ℕ)
            → after ≡ bench_shown r → after ≡ old_image_call old image
        old_called f before g r j after k = image_given _ image f r (j ∙ ap convert_v3_call g) after k ∙ old_third
