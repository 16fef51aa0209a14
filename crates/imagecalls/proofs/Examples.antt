-- Calls over images of other lengths, computed of the definitions.
use mathlib.Core.List.{[], ◌∷◌}
use mathlib.Core.Path.{◌≡◌, refl}
use lib.ListN.{replicate}
use Rattle.bench.specs.Calls.{clear_call, set_call}
use Rattle.imagecalls.specs.Calls.{of_length, image_call, named_call, first_image_call, second_image_call, third_image_call, old_image_call}

pub record ImageExamples : Type 0 where
  -- an image, a name and an old image of another length
  pub other : image_call (λ b. clear_call b 0) (1 ∷ []) ≡ (255, 1 ∷ [])
  pub named : named_call (λ b p. set_call b 0 p) (1 ∷ []) (2 ∷ []) ≡ (255, 1 ∷ [])
  pub old : old_image_call (1 ∷ []) (2 ∷ []) ≡ (255, 2 ∷ [])
  -- an old image of each kind, with a new one of another kind than the next
  pub first : old_image_call (replicate 517 0) (replicate 5137 7) ≡ (255, replicate 5137 7)
  pub second : old_image_call (replicate 521 0) (replicate 5201 7) ≡ (255, replicate 5201 7)
  pub third : old_image_call (replicate 5137 0) (replicate 5137 7) ≡ (255, replicate 5137 7)
  -- an image of today's kind is not converted
  pub today : old_image_call (replicate 5201 0) (replicate 5201 7) ≡ (255, replicate 5201 7)

pub image_examples : ImageExamples
unfolding of_length image_call named_call first_image_call second_image_call third_image_call old_image_call
image_examples =
    record { other = refl; named = refl; old = refl; first = refl; second = refl; third = refl; today = refl }
