-- One line and several: what a step comes to at the end of the text, and how lines one after another make a fill.
use Prim.Native.Nat.{ℕ, zero, suc, ◌+◌, ◌-◌, ◌≤◌, ◌<◌}
use mathlib.Core.Bool.{Bool, true, false}
use mathlib.Core.List.{List, [], ◌++◌, append-nil, append_assoc}
use mathlib.Core.Path.{◌≡◌, refl, ap, sym, ◌∙◌}
use native.Mathlib.Decide.{dec_lt}
use native.Mathlib.Nat.{sub-zero}
use native.Mathlib.Omega.{arith}
use borrow.Author.Tests.{lt-ltb, le-ltb}
use borrow.Rule.Slice.PartMut.{put_mid}
use lib.ListN.{length, take, drop, length-append, length-take, length-drop, drop_of_length-le}
use lib.Seq.{take-take, take_all, drop-drop, length-take-le}
use Rattle.kernel.specs.InnerKernel.{bit}
use Rattle.equivalence.specs.Lent.{written, laid}
use Rattle.tablereader.specs.Laying.{Laid}
use Rattle.tablereader.proofs.Laying.{laid_none, laid_more}
use Rattle.bracket.specs.Transcript.{State}
use Rattle.bracket.specs.Fills.{room_at, Position, over, due, piece_of, position_after, Fill, ended, short, takes}
use Rattle.bracket.specs.Standings.{state_of, position_by, position_of, room_from, standing_room, Sound, Kept, Filling}
use Rattle.bracket.specs.InnerSteps.{step_of, Lent, Stepping, stopped, closed_at, Lined}
use Rattle.bracket.specs.InnerRemaining.{distance}
use Rattle.bracket.specs.declared.run.Standing.{Standing}
use Rattle.bracket.specs.declared.run.Stepped.{Stepped}
use Rattle.bracket.proofs.Fills.{after_midway, after_over, step_less}

pub closed_open : (s : Standing) (end : ℕ) → s.at < end → s ≡ closed_at s end
unfolding closed_at
closed_open s end h = sym (simp (closed_at, lt-ltb s.at end h))

pub closed_over : (s : Standing) (end : ℕ) → end ≤ s.at → stopped s ≡ closed_at s end
unfolding closed_at
closed_over s end h = sym (simp (closed_at, le-ltb s.at end h))

-- what a step writes, and where it leads
piece_known : (b : Bool) (piece : List ℕ) (x : State) → piece_of (step_of b piece x) ≡ piece
unfolding piece_of
piece_known true piece x = refl
piece_known false piece x = refl

module _ (text piece : List ℕ) where
  position_open : (b : Bool) (at : ℕ) (x : State) → x.at ≡ at → bit b ≤ at → at < length text → position_by b at x ≡ position_after text (step_of b piece x)
  unfolding position_after
  position_open false at x e g h = refl
  position_open true zero x e g h = absurd (omega arith)
  position_open true (suc at) x e g h = sym (after_midway text piece x (omega arith))

  position_over : (b : Bool) (x : State) → length text ≤ x.at → over ≡ position_after text (step_of b piece x)
  unfolding position_after
  position_over false x h = refl
  position_over true x h = sym (after_over text piece x h)

-- a line: a step, after which the run is over at the end of the text
pub line_taken : (text : List ℕ) (s : Standing) (arities room lent arities' room' out : List ℕ) (r : Stepped)
    → Stepping text s.at (due text (position_of s arities room)) lent arities' room' out r → Kept s arities room r.standing arities' room'
    → (s' : Standing) → s' ≡ closed_at r.standing (length text) → Lined text s arities room lent arities' room' out (record { standing = s'; wrote = r.wrote })
line_taken text s arities room lent arities' room' out r q k s' e =
    let t = r.standing in
    let x = state_of t arities' room' in
    let laid : Laid lent 0 (piece_of (due text (position_of s arities room))) out r.wrote = rw (q.value, piece_known t.goes q.piece x) q.laid in
    elim (dec_lt t.at (length text)) [
      | yes h ↦
          rw (e ∙ sym (closed_open t (length text) h))
          (record { position = rw q.value (position_open text q.piece t.goes t.at x refl (omega (arith, q.past)) h); laid = laid; sound = q.sound; kept = k })
      | no h ↦
          rw (e ∙ sym (closed_over t (length text) (omega arith)))
          (record {
            position = rw q.value (position_over text q.piece t.goes x (omega arith));
            laid = laid;
            sound = omega (arith, q.sound);
            kept =
                record { operations = k.operations; cells = k.cells; used_arities = k.used_arities; spare_arities = k.spare_arities; used_cells = k.used_cells };
          })
    ]

-- bytes laid at the start of a part that reaches to the end, which was lent and is back
laid_within : (lent : List ℕ) (put : ℕ) (new part : List ℕ) (end : ℕ) → put ≤ length lent → Laid (take (length lent - put) (drop put lent)) 0 new part end
    → Laid lent put new (put_mid put (length lent - put) lent part) (put + end)
unfolding laid written
laid_within lent put new part end h p =
    let n = length lent - put in
    let rest : take n (drop put lent) ≡ drop put lent = take_all n (drop put lent) (rw length-drop (omega arith)) in
    let none : drop n (drop put lent) ≡ [] = drop_of_length-le (drop put lent) {i = n} (rw length-drop (omega arith)) in
    let bytes : part ≡ new ++ drop (length new) (drop put lent) = p.bytes ∙ rw rest in
    let e : put_mid put n lent part ≡ take put lent ++ (new ++ drop (length new) (drop put lent)) =
    rw (none, append-nil part, bytes) in
    record {
      place = omega (arith, p.place);
      within = omega (arith, simp (length-take, length-drop) at p.within);
      long = rw (none, append-nil, length-append) (omega (arith, length-take-le put lent h, p.long, rw (rest, length-drop) at p.long));
      bytes = e;
    }

-- what some lines keep, and others after them
kept_more : {s : Standing} {arities room : List ℕ} {s' : Standing} {arities' room' : List ℕ} {s'' : Standing} {arities'' room'' : List ℕ}
    → Kept s arities room s' arities' room' → Kept s' arities' room' s'' arities'' room'' → Kept s arities room s'' arities'' room''
kept_more {s} {arities} {room} {s'} {arities'} {room'} {s''} {arities''} {room''} p q =
    let first : (i j : ℕ) (a b c : List ℕ) → i ≤ j → take i b ≡ take i a → take j c ≡ take j b → take i c ≡ take i a =
    λ i j a b c l e f. sym (take-take i j c l) ∙ ap (take i) f ∙ take-take i j b l ∙ e in
    let d : s''.operations ≡ s'.operations + (s''.operations - s'.operations) = omega (arith, q.operations) in
    record {
      operations = omega (arith, p.operations, q.operations);
      cells = omega (arith, p.cells, q.cells);
      used_arities = first s.operations s'.operations arities arities' arities'' p.operations p.used_arities q.used_arities;
      spare_arities =
          q.spare_arities
          ∙ rw d
          (sym (drop-drop (s''.operations - s'.operations) s'.operations arities')
          ∙ ap (drop (s''.operations - s'.operations)) p.spare_arities
          ∙ drop-drop (s''.operations - s'.operations) s'.operations arities);
      used_cells = first s.cells s'.cells room room' room'' p.cells p.used_cells q.used_cells;
    }

-- the room at a standing is that at its position
room_by : (b : Bool) (at : ℕ) (x : State) → b ≡ true → room_from at x.algebra.size (length x.algebra.cells) ≡ room_at (position_by b at x)
unfolding room_at
room_by true zero x e = refl
room_by true (suc at) x e = refl
room_by false at x e = let z : ◌≡◌ {A = ℕ} 0 1 = cc in absurd (omega arith)

pub room_known : (s : Standing) (arities room : List ℕ) → s.goes ≡ true → s.cells ≤ length room → standing_room s ≡ room_at (position_of s arities room)
room_known s arities room e h =
    ap (room_from s.at s.size) (sym (length-take-le s.cells room h)) ∙ room_by s.goes s.at (state_of s arities room) e

-- lines were taken from a standing on, and `put` bytes laid; any fill from there on makes a fill from that standing
pub record LinesGathered (text : List ℕ) (s : Standing) (arities room lent : List ℕ) (s' : Standing) (arities' room' out : List ℕ) (put : ℕ) : Type 0 where
  pub bytes : List ℕ
  pub laid : Laid lent 0 bytes out put
  pub joins : (more : List ℕ) (q : Position) → Fill text (length lent - put) (position_of s' arities' room') more q → Fill text (length lent) (position_of s arities room) (bytes ++ more) q
  pub sound : Sound text s'
  pub kept : Kept s arities room s' arities' room'
  pub same_arities : length arities' ≡ length arities
  pub same_room : length room' ≡ length room

pub lines_gathered_none : (text : List ℕ) (s : Standing) (arities room lent : List ℕ) → Sound text s → LinesGathered text s arities room lent s arities room lent 0
lines_gathered_none text s arities room lent w =
    record {
      bytes = [];
      laid = laid_none lent 0 (omega arith);
      joins = λ more q f. rw (sub-zero (length lent)) at f;
      sound = w;
      kept = record { operations = omega arith; cells = omega arith; used_arities = refl; spare_arities = refl; used_cells = refl };
      same_arities = refl;
      same_room = refl;
    }

module _ (text : List ℕ) (s : Standing) (arities room lent : List ℕ) (s' : Standing) (arities' room' out : List ℕ) (put : ℕ)
    (g : LinesGathered text s arities room lent s' arities' room' out put) (w : Lent text s arities room lent) (goes : s'.goes ≡ true) (k : ℕ) (ek : k ≡ standing_room s') where
  -- the room that the next line may want
  wanted : k ≡ room_at (position_of s' arities' room')
  wanted = ek ∙ room_known s' arities' room' goes (omega (arith, g.sound.paced, g.sound.within, w.storage, g.same_room))

  pub lines_gathered_more : k ≤ length out - put → (arities'' room'' part : List ℕ) (r : Stepped)
      → Lined text s' arities' room' (take (length out - put) (drop put out)) arities'' room'' part r → length arities'' ≡ length arities' → length room'' ≡ length room'
      → LinesGathered text s arities room lent r.standing arities'' room'' (put_mid put (length out - put) out part) (put + r.wrote)
  lines_gathered_more h arities'' room'' part r l ea er =
      let p = position_of s' arities' room' in
      let piece = piece_of (due text p) in
      let e : length lent - (put + r.wrote) ≡ length lent - put - length piece = omega (arith, l.laid.place) in
      record {
        bytes = g.bytes ++ piece;
        laid =
            laid_more lent 0 g.bytes out put piece (put_mid put (length out - put) out part) (put + r.wrote) g.laid
            (laid_within out put piece part r.wrote (omega (arith, g.laid.within, g.laid.long)) l.laid);
        joins =
            λ more q f.
            rw append_assoc (g.joins (piece ++ more) q (takes (omega (arith, g.laid.long, wanted)) (rw (e, l.position) at f)));
        sound = l.sound;
        kept = kept_more g.kept l.kept;
        same_arities = ea ∙ g.same_arities;
        same_room = er ∙ g.same_room;
      }

  pub lines_gathered_short : length out - put < k → Filling text s arities room lent arities' room' out (record { standing = s'; wrote = put })
  lines_gathered_short h =
      record {
        bytes = g.bytes;
        fill = rw append-nil at (g.joins [] (position_of s' arities' room') (short (omega (arith, g.laid.long, wanted))));
        laid = g.laid;
        sound = g.sound;
        kept = g.kept;
      }

  -- the next line has what it wants
  pub lines_gathered_lent : k ≤ length out - put → Lent text s' arities' room' (take (length out - put) (drop put out))
  lines_gathered_lent h =
      record {
        sixteen = omega (arith, w.sixteen, g.same_arities);
        storage = omega (arith, w.storage, g.same_room);
        line = simp (length-take, length-drop) (omega arith);
      }

module _ (text : List ℕ) (s : Standing) (arities room lent : List ℕ) (s' : Standing) (arities' room' out : List ℕ) (put : ℕ)
    (g : LinesGathered text s arities room lent s' arities' room' out put) where
  -- what it lays fits
  pub lines_gathered_fits : (arities'' room'' part : List ℕ) (r : Stepped) → Lined text s' arities' room' (take (length out - put) (drop put out)) arities'' room'' part r
      → put + r.wrote ≤ length out
  lines_gathered_fits arities'' room'' part r l = omega (arith, g.laid.within, g.laid.long, simp (length-take, length-drop) at l.laid.within)

  pub lines_gathered_over : s'.goes ≡ false → Filling text s arities room lent arities' room' out (record { standing = s'; wrote = put })
  lines_gathered_over e =
      record {
        bytes = g.bytes;
        fill = rw append-nil at (g.joins [] (position_of s' arities' room') (rw e ended));
        laid = g.laid;
        sound = g.sound;
        kept = g.kept;
      }

-- a run that goes on is not at its end
going_far : (text : List ℕ) (b : Bool) (at : ℕ) (x : State) → b ≡ true → 0 < distance text (position_by b at x)
going_far text true zero x e = omega arith
going_far text true (suc at) x e = omega arith
going_far text false at x e = let z : ◌≡◌ {A = ℕ} 0 1 = cc in absurd (omega arith)

pub goes_far : (text : List ℕ) (s : Standing) (arities room : List ℕ) → s.goes ≡ true → 0 < distance text (position_of s arities room)
goes_far text s arities room e = going_far text s.goes s.at (state_of s arities room) e

-- each line gets nearer to the end
pub line_less : (text : List ℕ) (s : Standing) (arities room lent arities' room' out : List ℕ) (r : Stepped) → s.goes ≡ true
    → Lined text s arities room lent arities' room' out r → distance text (position_of r.standing arities' room') < distance text (position_of s arities room)
line_less text s arities room lent arities' room' out r e l = rw l.position (step_less text (position_of s arities room) (goes_far text s arities room e))
