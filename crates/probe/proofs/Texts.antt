-- Calls of the writer, and of the reader over a head: the number, and every lent byte.
use Prim.Native.Nat.{ℕ}
use mathlib.Core.List.{List}
use mathlib.Core.Path.{◌≡◌, ap, sym, ◌∙◌}
use lib.ListN.{length}
use Rattle.algebra.specs.Algebra.{Algebra}
use Rattle.algebratext.specs.Calls.{write_call, read_call}
use Rattle.algebratext.specs.declared.AlgebraRead.{AlgebraRead}
use Rattle.equivalence.specs.declared.Refusal.{Refusal}
use Rattle.std.specs.Prelude.{Result}
use Rattle.head.specs.Head.{text_number, read_number, head_of}
use Rattle.probe.specs.Calls.{head_call}
use Rattle.imagecalls.proofs.Images.{right_length, other_length}

pub text_called : (a : Algebra) (lent after : List ℕ) (r : Result ℕ Refusal) (number : ℕ) → (r, after) ≡ write_call a lent → number ≡ text_number r
    → (number ≡ text_number (write_call a lent).0) × (after ≡ (write_call a lent).1)
text_called a lent after r number e f =
    (f ∙ ap (λ (p : Result ℕ Refusal × List ℕ). text_number p.0) e, ap (λ (p : Result ℕ Refusal × List ℕ). p.1) e)

module _ (text cells head : List ℕ) where
  pub head_other : (length head ≡ 18 → ⊥) → (255, (cells, head)) ≡ head_call text cells head
  unfolding head_call
  head_other h = sym (other_length 18 head _ _ h)

  pub head_called : length head ≡ 18 → (r : Result AlgebraRead Refusal) (after : List ℕ) → (r, after) ≡ read_call text cells → (bytes : List ℕ) → bytes ≡ head_of r
      → (number : ℕ) → number ≡ read_number r → (number, (after, bytes)) ≡ head_call text cells head
  unfolding head_call
  head_called h r after e bytes f number g =
      rw (f, g) (ap (λ (p : Result AlgebraRead Refusal × List ℕ). (read_number p.0, (p.1, head_of p.0))) e ∙ sym (right_length 18 head _ _ h))
