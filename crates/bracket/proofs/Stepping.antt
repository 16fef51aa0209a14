-- Steps of a run: what each line comes to.
use Prim.Native.Nat.{ℕ, zero, suc, ◌+◌, ◌-◌, ◌*◌, ◌≤◌, ◌<◌}
use mathlib.Core.Bool.{Bool, true, false}
use mathlib.Core.List.{List}
use mathlib.Core.Path.{◌≡◌, refl, ap, sym, ◌∙◌}
use native.Mathlib.Nat.{sub-zero}
use native.Mathlib.Omega.{arith}
use borrow.Author.Tests.{lt-ltb, le-ltb}
use lib.ListN.{length, take, drop}
use lib.Seq.{length-take-le}
use Rattle.kernel.specs.InnerKernel.{bit}
use Rattle.equivalence.specs.Lists.{every}
use Rattle.equivalence.specs.declared.Refusal.{Refusal}
use Rattle.equivalence.specs.declared.Refusal.TheVariants.{Text}
use Rattle.std.specs.Prelude.{Result, Ok, Err}
use Rattle.algebra.specs.Algebra.{algebra_of}
use Rattle.numberreader.specs.Reading.{ascii, begins}
use Rattle.reader.specs.Lines.{Progress, sized, operation, request}
use Rattle.tablereader.specs.InnerPromises.{RoomForText, Faulty}
use Rattle.reader.specs.InnerPromises.{RoomForCells, Requested}
use Rattle.reader.specs.InnerTaking.{algebra_so_far, progress_with, SizeIn, OperationLineIn}
use Rattle.tablereader.specs.Laying.{Laid}
use Rattle.reader.specs.declared.requests.RequestLine.{RequestLine}
use Rattle.reader.specs.declared.taking.AlgebraSoFar.{AlgebraSoFar}
use Rattle.reader.proofs.Forward.{requested_past}
use Rattle.tablereader.proofs.Laying.{laid_none, laid_part, laid_front}
use Rattle.tablereader.proofs.RoomLeft.{room_of_text}
use Rattle.numberreader.proofs.Words.{begins_within}
use Rattle.writer.specs.Lines.{refused_line}
use Rattle.bracket.specs.Transcript.{State, text_limit, after_line, after_request, first_step, operation_step, request_step, step}
use Rattle.answers.specs.Room.{line_room}
use Rattle.bracket.specs.Fills.{due}
use Rattle.bracket.specs.Standings.{state_of, position_by, position_of, room_from, standing_room, Sound, Kept}
use Rattle.answers.specs.Answers.{answer}
use Rattle.answers.specs.InnerPromises.{LineFits}
use Rattle.bracket.specs.InnerSteps.{step_of, Lent, Stepping, behind_lines, stopped, RefusedAt, standing_after, piece_for, AfterLine}
use Rattle.bracket.specs.declared.run.Standing.{Standing}
use Rattle.bracket.specs.declared.run.Stepped.{Stepped}

-- what a standing and a count of written bytes make
abbrev stepped : Standing → ℕ → Stepped
stepped s wrote = record { standing = s; wrote = wrote }

-- a refusal, as the run takes it up
pub refused_at : (x : Refusal) (s : Standing) (lent out : List ℕ) (wrote : ℕ) → Laid lent 0 (refused_line x) out wrote → RefusedAt x s lent out (stepped (stopped s) wrote)
refused_at x s lent out wrote p = record { standing = refl; laid = p }

-- a line of the algebra, as the run takes it up
module _ (l : Result AlgebraSoFar Refusal) (s : Standing) (lent : List ℕ) where
  pub line_refused : (x : Refusal) → l ≡ Err x → (out : List ℕ) (r : Stepped) → RefusedAt x s lent out r → AfterLine l s lent out r
  line_refused x e out r p = record { standing = p.standing ∙ rw e; laid = rw e p.laid }

  pub line_accepted : (a : AlgebraSoFar) → l ≡ Ok a → (t : Standing) → t ≡ behind_lines a → AfterLine l s lent lent (stepped t 0)
  line_accepted a e t et = record { standing = et ∙ rw e; laid = rw e (laid_none lent 0 (omega arith)) }

after_progress : (l : Result AlgebraSoFar Refusal) (s : Standing) (arities room : List ℕ)
    → after_line (progress_with l arities room) ≡ step_of (standing_after l s).goes (piece_for l) (state_of (standing_after l s) arities room)
unfolding after_line
after_progress (Ok a) s arities room = refl
after_progress (Err r) s arities room = refl

-- a step that takes a line of the algebra
line_stepping : (text : List ℕ) (at : ℕ) (d : Progress) (l : Result AlgebraSoFar Refusal) (s : Standing) (arities room lent out : List ℕ) (r : Stepped)
    → d ≡ progress_with l arities room → Sound text (standing_after l s) → at + bit (standing_after l s).goes ≤ (standing_after l s).at → AfterLine l s lent out r
    → Stepping text at (after_line d) lent arities room out r
line_stepping text at d l s arities room lent out r e sound past q =
    let t = q.standing in
    record {
      piece = piece_for l;
      value = ap after_line e ∙ rw t (after_progress l s arities room);
      laid = q.laid;
      sound = rw t sound;
      past = rw t past;
    }

-- the first line: a text that is too long, or its size line
pub first_too_long : (text lent out : List ℕ) (s : Standing) (r : Stepped) → Sound text s → text_limit < length text → RefusedAt Text s lent out r
    → (arities room : List ℕ) → Stepping text 0 (first_step text) lent arities room out r
unfolding first_step
first_too_long text lent out s r w h q arities room =
    let t = q.standing in
    record {
      piece = refused_line Text;
      value = rw t (simp (first_step, lt-ltb text_limit (length text) h));
      laid = q.laid;
      sound = rw t (omega (arith, w));
      past = rw t (omega arith);
    }

first_read : (text : List ℕ) → length text ≤ text_limit → first_step text ≡ after_line (sized text 0)
unfolding first_step
first_read text h = simp (first_step, le-ltb text_limit (length text) h)

pub first_taken : (text lent out : List ℕ) (l : Result AlgebraSoFar Refusal) (s : Standing) (r : Stepped) → length text ≤ text_limit → Sound text s → SizeIn text 0 l
    → AfterLine l s lent out r → (arities room : List ℕ) → Stepping text 0 (first_step text) lent arities room out r
first_taken text lent out (Ok a) s r h w t q arities room =
    rw (first_read text h)
    (line_stepping text 0 (sized text 0) (Ok a) s arities room lent out r (t.value arities room) (omega (arith, t.readable, t.operations, t.cells)) (omega (arith, t.past)) q)
first_taken text lent out (Err x) s r h w t q arities room =
    rw (first_read text h) (line_stepping text 0 (sized text 0) (Err x) s arities room lent out r t (omega (arith, w)) (omega arith) q)

-- the algebra that a run has read
abbrev pub so_far : Standing → AlgebraSoFar
so_far s = record { at = s.at; size = s.size; operations = s.operations; cells = s.cells }

-- no line wants less than a refusal has
least_room : (at n cells : ℕ) → 14 ≤ room_from at n cells
least_room zero n cells = omega arith
least_room (suc at) n cells = omega arith

-- behind the first byte a line wants room for its algebra
later_room : (at n cells : ℕ) → 0 < at → line_room n cells ≡ room_from at n cells
later_room zero n cells h = absurd (omega arith)
later_room (suc at) n cells h = refl

pub first_line_room : (s : Standing) → s.at ≡ 0 → 514 ≡ standing_room s
first_line_room s e = rw e

module _ (s : Standing) (h : s.at ≡ 0 → ⊥) where
  pub cells_line_room : 258 * s.size < 4 * s.cells → 4 * s.cells + 256 ≡ standing_room s
  cells_line_room l = omega (arith, later_room s.at s.size s.cells (omega arith))

  pub maps_line_room : 4 * s.cells ≤ 258 * s.size → 258 * s.size + 256 ≡ standing_room s
  maps_line_room l = omega (arith, later_room s.at s.size s.cells (omega arith))

-- the storage of a run, which is as long as the text, has room for what comes
module _ (text : List ℕ) (s : Standing) (arities room lent : List ℕ) (sound : Sound text s) (w : Lent text s arities room lent) where
  -- every line has room for a refusal
  pub room_for_refusal : 14 ≤ length lent
  room_for_refusal = omega (arith, w.line, least_room s.at s.size s.cells)

  -- and a request, which comes behind the size line, has room for its answer
  pub room_for_answer : 0 < s.at → (after : List ℕ) → length after ≡ length room → LineFits s.size (length (take (s.cells - 0) after)) lent
  room_for_answer h after e =
      let k : length (take (s.cells - 0) after) ≡ s.cells = rw sub-zero (length-take-le s.cells after (omega (arith, sound.paced, sound.within, w.storage))) in
      record {
        some = sound.some;
        most = sound.most;
        fit = omega (arith, sound.fit);
        line = omega (arith, w.line, later_room s.at s.size s.cells h);
      }

  pub room_for_operation : s.at + 3 ≤ length text → RoomForCells text (s.at + 3) room s.cells
  room_for_operation h = room_of_text (32768 - s.cells) text (s.at + 3) room s.cells h (omega arith) w.storage

  pub room_for_request : RoomForText text s.at room s.cells
  room_for_request = room_of_text (length text) text s.at room s.cells sound.within sound.paced w.storage

-- an operation line
module _ (text : List ℕ) (s : Standing) (arities room lent arities' room' out : List ℕ) where
  pub operation_stepped : (l : Result AlgebraSoFar Refusal) (r : Stepped) → OperationLineIn text (so_far s) arities room arities' room' l → AfterLine l s lent out r → Sound text s
      → Stepping text s.at (operation_step text (state_of s arities room)) lent arities' room' out r
  unfolding operation_step
  operation_stepped (Ok a) r t q sound =
      line_stepping text s.at (operation (algebra_so_far (so_far s) arities room) text (s.at + 3)) (Ok a) s arities' room' lent out r t.value
      (omega (arith, t.readable, t.counted, t.paced, t.past, sound)) (omega (arith, t.past)) q
  operation_stepped (Err x) r t q sound =
      line_stepping text s.at (operation (algebra_so_far (so_far s) arities room) text (s.at + 3)) (Err x) s arities' room' lent out r t.value
      (omega (arith, sound)) (omega arith) q

  pub operation_keeps : (l : Result AlgebraSoFar Refusal) (r : Stepped) → OperationLineIn text (so_far s) arities room arities' room' l → AfterLine l s lent out r
      → Kept s arities room r.standing arities' room'
  operation_keeps (Ok a) r t q =
      let k = t.kept in
      rw q.standing
      (record { operations = k.no_fewer; cells = k.behind; used_arities = k.used_arities; spare_arities = k.spare_arities; used_cells = k.used_cells })
  operation_keeps (Err x) r t q =
      rw q.standing
      (record {
        operations = omega arith;
        cells = omega arith;
        used_arities = ap (take s.operations) t.used_arities;
        spare_arities = ap (drop s.operations) t.used_arities;
        used_cells = t.used_cells;
      })

-- a run behind a request line
abbrev behind_request : Standing → RequestLine → Standing
behind_request s l = record { goes = true; at = l.next; size = s.size; operations = s.operations; cells = s.cells; requested = true }

-- a request line, faulty or read
module _ (text : List ℕ) (s : Standing) (arities room lent : List ℕ) (sound : Sound text s) (after out : List ℕ) where
  pub request_faulty : (t : Stepped) → Faulty text s.at room s.cells (request text s.at) after → RefusedAt Text s lent out t
      → Stepping text s.at (request_step text (state_of s arities room)) lent arities after out t
  unfolding request_step after_request
  request_faulty t r q =
      let e = q.standing in
      record {
        piece = refused_line Text;
        value = rw (r.value, e);
        laid = q.laid;
        sound = rw e (omega (arith, sound));
        past = rw e (omega arith);
      }

  pub request_answered : (l : RequestLine) (wrote : ℕ) → Requested text s.at room s.cells (request text s.at) after l
      → Laid lent 0
      (answer (algebra_of s.size (take (s.operations - 0) arities) (take (s.cells - 0) after)) l.asked (take (l.end - s.cells) (drop s.cells after))) out wrote
      → Stepping text s.at (request_step text (state_of s arities room)) lent arities after out (stepped (behind_request s l) wrote)
  unfolding request_step after_request
  request_answered l wrote r p =
      let a = algebra_of s.size (take s.operations arities) (take s.cells room) in
      let front = laid_front r.laid in
      let past = requested_past text s.at room s.cells after l r in
      record {
        piece = answer a l.asked r.new;
        value = rw (r.value, front);
        laid = rw (sub-zero s.operations, sub-zero s.cells, laid_part r.laid, front) at p;
        sound = omega (arith, r.reached, sound);
        past = omega (arith, past);
      }

-- which leaves the arities, and the cells in use
module _ (text : List ℕ) (s : Standing) (arities room after : List ℕ) where
  pub fault_keeps : (lent out : List ℕ) (t : Stepped) → Faulty text s.at room s.cells (request text s.at) after → RefusedAt Text s lent out t
      → Kept s arities room t.standing arities after
  fault_keeps lent out t r q =
      rw q.standing
      (record { operations = omega arith; cells = omega arith; used_arities = refl; spare_arities = refl; used_cells = laid_front r.laid })

  pub request_keeps : (l : RequestLine) → Requested text s.at room s.cells (request text s.at) after l → Kept s arities room (behind_request s l) arities after
  request_keeps l r =
      record { operations = omega arith; cells = omega arith; used_arities = refl; spare_arities = refl; used_cells = laid_front r.laid }

-- which step a line takes
module _ (text : List ℕ) (s : State) where
  requested_step : s.requested ≡ true → step text s ≡ request_step text s
  unfolding step
  requested_step e = simp (step, e)

  module _ (e : s.requested ≡ false) (b : Bool) (eb : b ≡ begins text s.at (ascii "[op")) where
    word_operation : b ≡ true → step text s ≡ operation_step text s
    unfolding step
    word_operation h = simp (step, e, ← eb, h)

    other_request : b ≡ false → step text s ≡ request_step text s
    unfolding step
    other_request h = simp (step, e, ← eb, h)

placed_midway : (text : List ℕ) (at : ℕ) (x : State) → 0 < at → due text (position_by true at x) ≡ step text x
unfolding due
placed_midway text zero x h = absurd (omega arith)
placed_midway text (suc at) x h = refl

-- the step that is due where a run stands
module _ (text : List ℕ) (s : Standing) (arities room : List ℕ) (g : s.goes ≡ true) where
  due_first : s.at ≡ 0 → due text (position_of s arities room) ≡ first_step text
  unfolding due
  due_first e = rw (g, e)

  due_step : 0 < s.at → due text (position_of s arities room) ≡ step text (state_of s arities room)
  unfolding due
  due_step h = rw g (placed_midway text s.at (state_of s arities room) h)

  module _ (lent arities' room' out : List ℕ) (r : Stepped) where
    pub step_first : s.at ≡ 0 → ((a b : List ℕ) → Stepping text 0 (first_step text) lent a b out r)
        → Stepping text s.at (due text (position_of s arities room)) lent arities' room' out r
    step_first e q = rw (due_first e, e) (q arities' room')

    module _ (h : s.at ≡ 0 → ⊥) where
      pub step_requested : s.requested ≡ true → Stepping text s.at (request_step text (state_of s arities room)) lent arities' room' out r
          → Stepping text s.at (due text (position_of s arities room)) lent arities' room' out r
      step_requested e q = rw (due_step (omega arith) ∙ requested_step text (state_of s arities room) e) q

      module _ (e : s.requested ≡ false) (b : Bool) (eb : b ≡ begins text s.at (ascii "[op")) where
        pub step_operation : b ≡ true → Stepping text s.at (operation_step text (state_of s arities room)) lent arities' room' out r
            → Stepping text s.at (due text (position_of s arities room)) lent arities' room' out r
        step_operation k q = rw (due_step (omega arith) ∙ word_operation text (state_of s arities room) e b eb k) q

        pub step_request : b ≡ false → Stepping text s.at (request_step text (state_of s arities room)) lent arities' room' out r
            → Stepping text s.at (due text (position_of s arities room)) lent arities' room' out r
        step_request k q = rw (due_step (omega arith) ∙ other_request text (state_of s arities room) e b eb k) q

-- the first line leaves the lent slices
pub first_keeps : (s s' : Standing) (arities room : List ℕ) (text : List ℕ) → Sound text s → s.at ≡ 0 → Kept s arities room s' arities room
first_keeps s s' arities room text w e =
    record { operations = omega (arith, w.counted); cells = omega (arith, w.paced); used_arities = refl; spare_arities = refl; used_cells = refl }

-- the word of an operation line is within the text
pub operation_room : (text : List ℕ) (s : Standing) (b : Bool) → b ≡ begins text s.at (ascii "[op") → Sound text s → b ≡ true → s.at + 3 ≤ length text
unfolding ascii every
operation_room text s b eb sound h = begins_within text (ascii "[op") s.at tt sound.within (sym eb ∙ h)
