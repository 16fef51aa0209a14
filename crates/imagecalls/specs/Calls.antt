-- What a call of the bench, or a conversion, gives over images: the number of its answer, and every byte afterwards.
use Rattle.std.specs.Prelude.{ℕ, true, false, List, eqb, length}
use Rattle.bench.specs.Outcome.{answer_outcome}
use Rattle.benchsheets.specs.declared.Bench.{Bench}
use Rattle.bench.specs.declared.Benched.{Benched}
use Rattle.oldbenches.specs.OldKinds.{convert_v1_call, convert_v2_call}
use Rattle.conversion.specs.Conversion.{convert_v3_call}
use Rattle.oldbenches.specs.declared.BenchV2.{BenchV2}
use Rattle.oldbenches.specs.declared.BenchV3.{BenchV3}
use Rattle.equivalence.specs.Outcome.{packed}
use Rattle.image.specs.Image.{image_of, image_v3_of, image_v2_of, bench_in, bench_v3_in, bench_v2_in, bench_v1_in}

-- one thing for bytes of this length, another for all others
unfoldable pub of_length : {A : Type 0} → ℕ → List ℕ → A → A → A
of_length k bytes right other = elim (eqb (length bytes) k) [ true ↦ right | false ↦ other ]

-- what a call of the bench gave, as the number of its answer and the image of the bench after it
unfoldable pub bench_shown : Benched Bench → ℕ × List ℕ
bench_shown r = (packed (answer_outcome r.answer), image_of r.bench)

-- a call of the bench over an image: its number, and the image after it; an image of another length gives 255 and stays
unfoldable pub image_call : (Bench → Benched Bench) → List ℕ → ℕ × List ℕ
image_call call image = of_length 5201 image (bench_shown (call (bench_in image))) (255, image)

-- a call of a point over an image and a name: the same; a name of another length than eight gives 255, and the image stays
unfoldable pub named_call : (Bench → List ℕ → Benched Bench) → List ℕ → List ℕ → ℕ × List ℕ
named_call call image name = of_length 8 name (image_call (λ b. call b name) image) (255, image)

-- what the conversion into the second kind gave, in the same way
unfoldable pub bench_v2_shown : Benched BenchV2 → ℕ × List ℕ
bench_v2_shown r = (packed (answer_outcome r.answer), image_v2_of r.bench)

-- what the conversion into the third kind gave, in the same way
unfoldable pub bench_v3_shown : Benched BenchV3 → ℕ × List ℕ
bench_v3_shown r = (packed (answer_outcome r.answer), image_v3_of r.bench)

-- the conversion of a bench of the first kind over its image and one of the second: its number, and the new image after it; where that has another
-- length, 255, and it stays
unfoldable pub first_image_call : List ℕ → List ℕ → ℕ × List ℕ
first_image_call old image = of_length 521 image (bench_v2_shown (convert_v1_call (bench_v1_in old))) (255, image)

-- the conversion of a bench of the second kind over its image and one of the third: the same
unfoldable pub second_image_call : List ℕ → List ℕ → ℕ × List ℕ
second_image_call old image = of_length 5137 image (bench_v3_shown (convert_v2_call (bench_v2_in old))) (255, image)

-- the conversion of a bench of the third kind over its image and one of today's: the same
unfoldable pub third_image_call : List ℕ → List ℕ → ℕ × List ℕ
third_image_call old image = image_call (λ b. convert_v3_call (bench_v3_in old)) image

-- a conversion over an old image, whose length tells its kind, and a new one: the same; where either has another length, 255, and the new one stays
unfoldable pub old_image_call : List ℕ → List ℕ → ℕ × List ℕ
old_image_call old image =
    of_length 517 old (first_image_call old image) (of_length 521 old (second_image_call old image) (of_length 5137 old (third_image_call old image) (255, image)))
