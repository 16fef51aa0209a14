-- The fills of a run: each leads forward, and what they lay is, in order, the transcript of the text.
use Prim.Native.Nat.{ℕ, zero, suc, ◌+◌, ◌-◌, ◌≤◌, ◌<◌}
use mathlib.Core.List.{List, [], ◌++◌, append-nil, append_assoc}
use mathlib.Core.Path.{◌≡◌, refl, ap, sym, ◌∙◌}
use native.Mathlib.Decide.{dec_lt}
use native.Mathlib.Omega.{arith}
use borrow.Author.Tests.{lt-ltb, le-leb, lt-leb}
use lib.ListN.{length}
use Rattle.equivalence.specs.Lists.{concat}
use Rattle.equivalence.specs.declared.Refusal.TheVariants.{Text}
use Rattle.writer.specs.Lines.{refused_line}
use Rattle.bracket.specs.Transcript.{State, Step, goes, ends, text_limit, first_step, step, output, run, transcript}
use Rattle.bracket.specs.Fills.{room_at, Position, fresh, midway, over, due, piece_of, position_after, Fill, ended, short, takes, Fills, finished, onwards}
use Rattle.bracket.specs.InnerRemaining.{remaining, distance}
use Rattle.bracket.proofs.Advancing.{Ahead, step_ahead}

module _ (text : List ℕ) where
  -- past the end nothing is written
  pub run_finished : (k : ℕ) (s : State) → length text ≤ s.at → run k text s ≡ []
  unfolding run
  run_finished zero s h = refl
  run_finished (suc k) s h = simp (run, le-leb (length text) s.at h)

  -- before it the line's step is taken
  pub run_onwards : (k : ℕ) (s : State) → s.at < length text → run (suc k) text s ≡ output (step text s) (run k text)
  unfolding run
  run_onwards k s h = simp (run, lt-leb (length text) s.at h)

  -- the count of lines does not matter where it is enough
  output_same : (i j at : ℕ) (d : Step) → Ahead at d → length text ≤ suc i + at → length text ≤ suc j + at
      → ((s : State) → length text ≤ i + s.at → length text ≤ j + s.at → run i text s ≡ run j text s) → output d (run i text) ≡ output d (run j text)
  unfolding output
  output_same i j at (goes piece s) a h k same = ap (λ (l : List ℕ). piece ++ l) (same s (omega arith) (omega arith))
  output_same i j at (ends piece) a h k same = refl

  pub run_same : (i j : ℕ) (s : State) → length text ≤ i + s.at → length text ≤ j + s.at → run i text s ≡ run j text s
  run_same zero j s h k = run_finished zero s (omega arith) ∙ sym (run_finished j s (omega arith))
  run_same (suc i) zero s h k = run_finished (suc i) s (omega arith) ∙ sym (run_finished zero s (omega arith))
  run_same (suc i) (suc j) s h k =
      elim (dec_lt s.at (length text)) [
        | yes l ↦ run_onwards i s l ∙ output_same i j s.at (step text s) (step_ahead text s) h k (run_same i j) ∙ sym (run_onwards j s l)
        | no l ↦ run_finished (suc i) s (omega arith) ∙ sym (run_finished (suc j) s (omega arith))
      ]

  -- where a step leads
  pub after_midway : (piece : List ℕ) (s : State) → s.at < length text → position_after text (goes piece s) ≡ midway s
  unfolding position_after
  after_midway piece s h = simp (position_after, lt-leb (length text) s.at h)

  pub after_over : (piece : List ℕ) (s : State) → length text ≤ s.at → position_after text (goes piece s) ≡ over
  unfolding position_after
  after_over piece s h = simp (position_after, le-leb (length text) s.at h)

  -- what a step writes, and what remains after it
  step_remaining : (d : Step) → output d (run (length text) text) ≡ piece_of d ++ remaining text (position_after text d)
  unfolding output piece_of remaining due position_after
  step_remaining (goes piece s) =
      elim (dec_lt s.at (length text)) [
        | yes l ↦
            rw (after_midway piece s l)
            (ap (λ (w : List ℕ). piece ++ w) (run_same (length text) (suc (length text)) s (omega arith) (omega arith) ∙ run_onwards (length text) s l))
        | no l ↦ rw (after_over piece s (omega arith)) (ap (λ (w : List ℕ). piece ++ w) (run_finished (length text) s (omega arith)))
      ]
  step_remaining (ends piece) = sym (append-nil piece)

  -- a fill lays the first of what remains, and leaves the rest
  pub fill_remaining : {room : ℕ} {p q : Position} {bytes : List ℕ} → Fill text room p bytes q → remaining text p ≡ bytes ++ remaining text q
  unfolding remaining
  fill_remaining ended = refl
  fill_remaining (short h) = refl
  fill_remaining {q = q} (takes {p = p} {more = more} h f) =
      step_remaining (due text p)
      ∙ ap (λ (w : List ℕ). piece_of (due text p) ++ w) (fill_remaining f)
      ∙ sym (append_assoc (piece_of (due text p)) more (remaining text q))

  fills_remaining : {p : Position} {parts : List (List ℕ)} → Fills text p parts → concat parts ≡ remaining text p
  unfolding remaining concat output due
  fills_remaining finished = refl
  fills_remaining (onwards {bytes = bytes} f g) = ap (λ (w : List ℕ). bytes ++ w) (fills_remaining g) ∙ sym (fill_remaining f)

  -- the fills of a whole run are the transcript
  pub fills_transcript : (parts : List (List ℕ)) → Fills text fresh parts → concat parts ≡ transcript text
  unfolding remaining transcript due
  fills_transcript parts f = fills_remaining f

  after_distance : (k : ℕ) (d : Step) → 0 < k → ((piece : List ℕ) (s : State) → d ≡ goes piece s → s.at < length text → length text - s.at + 1 < k)
      → distance text (position_after text d) < k
  unfolding position_after
  after_distance k (goes piece s) h near =
      elim (dec_lt s.at (length text)) [
        | yes l ↦ rw (after_midway piece s l) (near piece s refl l)
        | no l ↦ rw (after_over piece s (omega arith)) h
      ]
  after_distance k (ends piece) h near = h

  -- each step gets nearer
  pub step_less : (p : Position) → 0 < distance text p → distance text (position_after text (due text p)) < distance text p
  unfolding due
  step_less fresh h = after_distance (length text + 2) (first_step text) h (λ piece s e l. omega arith)
  step_less (midway t) h =
      after_distance (length text - t.at + 1) (step text t) h
      (λ piece s e l. let a : t.at < s.at = rw e at (step_ahead text t) in omega arith)
  step_less over h = absurd (omega arith)

  step_no_more : (p : Position) → distance text (position_after text (due text p)) ≤ distance text p
  unfolding due position_after
  step_no_more fresh = let h = step_less fresh (omega arith) in omega arith
  step_no_more (midway s) = let h = step_less (midway s) (omega arith) in omega arith
  step_no_more over = omega arith

  fill_no_more : {room : ℕ} {p q : Position} {bytes : List ℕ} → Fill text room p bytes q → distance text q ≤ distance text p
  fill_no_more ended = omega arith
  fill_no_more (short h) = omega arith
  fill_no_more (takes {p = p} h f) = omega (arith, fill_no_more f, step_no_more p)

  -- and so does each fill
  pub fill_less : {room : ℕ} {p q : Position} {bytes : List ℕ} → room_at p ≤ room → 0 < distance text p → Fill text room p bytes q → distance text q < distance text p
  fill_less r h ended = absurd (omega arith)
  fill_less r h (short l) = absurd (omega arith)
  fill_less r h (takes {p = p} l f) = omega (arith, fill_no_more f, step_less p h)

-- a text of more than 65,536 bytes
pub too_long : (text : List ℕ) → text_limit < length text → transcript text ≡ refused_line Text
unfolding transcript first_step output
too_long text h = simp (first_step, lt-ltb text_limit (length text) h)
