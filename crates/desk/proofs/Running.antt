-- The program's loops: what is written is the front of the transcript, and what the run still writes is the rest.
use Prim.Native.Nat.{ℕ, zero, suc, ◌+◌, ◌-◌, ◌^◌, ◌≤◌, ◌<◌}
use mathlib.Core.Bool.{Bool, true, false, not}
use mathlib.Core.List.{List, [], ◌++◌}
use mathlib.Core.Path.{◌≡◌, refl, ap, sym, ◌∙◌, subst}
use native.Mathlib.Omega.{arith}
use lib.Dec.{T}
use lib.ListN.{length, take, drop, length-append, length-drop}
use lib.Seq.{take-take, drop-drop, drop-append_seam}
use Rattle.tablereader.specs.Laying.{Laid}
use Rattle.tablereader.proofs.Laying.{laid_part, laid_before}
use Rattle.bracket.specs.Transcript.{output, transcript}
use Rattle.bracket.specs.Fills.{due}
use Rattle.bracket.specs.Standings.{position_of, unread, room_from, can_fill, Filling, FillPromise}
use Rattle.bracket.specs.InnerRemaining.{remaining, distance}
use Rattle.bracket.proofs.Calling.{run_over, sound_able, goes_able, room_able}
use Rattle.bracket.proofs.Fills.{fill_remaining, fill_less}
use Rattle.bracket.proofs.Gathering.{goes_far, room_known}
use Rattle.bracket.specs.declared.run.Standing.{Standing}
use Rattle.bracket.specs.declared.run.Stepped.{Stepped}
use Rattle.desk.specs.Writing.{Next}
use Rattle.desk.specs.InnerRuns.{Lends, LendsMost, WrittenOut, LeftOver}
use Rattle.desk.specs.declared.Paused.{Paused}

-- where a run stands behind so many bytes
abbrev pub paused_at : Standing → ℕ → Paused
paused_at s written = record { standing = s; written = written }

-- no line wants more than the longest
room_enough : (at n cells : ℕ) → n ≤ 64 → cells ≤ 32768 → room_from at n cells ≤ 131328
room_enough zero n cells h l = omega arith
room_enough (suc at) n cells h l = omega arith

pub lends : (text arities room out : List ℕ) → LendsMost text arities room out → Lends text arities room out
lends text arities room out l = l.lends

-- so that a run can be filled from exactly where it goes on, if that much is lent
module _ (text : List ℕ) (s : Standing) (arities room out : List ℕ) (written : ℕ) (w : WrittenOut text arities room (paused_at s written)) (l : LendsMost text arities room out) where
  able_by : (b : Bool) → s.goes ≡ b → b ≡ can_fill (length text) s (length arities) (length room) (length out)
  able_by true g =
      sym
      (sound_able text s arities room out g w.sound
      (record { sixteen = l.lends.sixteen; storage = l.lends.storage; line = omega (arith, l.long, room_enough s.at s.size s.cells w.sound.most w.sound.fit) }))
  able_by false g = run_over (length text) s (length arities) (length room) (length out) (ap not g)

  pub most_able : s.goes ≡ can_fill (length text) s (length arities) (length room) (length out)
  most_able = able_by s.goes refl

-- what follows a part
drop_part : (whole part rest : List ℕ) (written : ℕ) → drop written whole ≡ part ++ rest → drop (written + length part) whole ≡ rest
drop_part whole part rest written e = sym (drop-drop (length part) written whole) ∙ rw e (drop-append_seam part rest)

-- it begins with nothing written
pub written_begins : (text arities room : List ℕ) (s : Standing) → s ≡ unread true → WrittenOut text arities room (paused_at s 0)
unfolding remaining transcript due
written_begins text arities room s e = rw e (record { sound = omega arith; within = omega arith; rest = refl; bounded = omega arith })

-- a fill of a run
module _ (text : List ℕ) (s : Standing) (arities room out : List ℕ) (written : ℕ) (w : WrittenOut text arities room (paused_at s written)) (l : Lends text arities room out)
    (b : Bool) (eb : b ≡ can_fill (length text) s (length arities) (length room) (length out)) (h : b ≡ true) (arities' room' out' : List ℕ) (r : Stepped)
    (f : FillPromise text s arities room out arities' room' out' r) where
  able : can_fill (length text) s (length arities) (length room) (length out) ≡ true
  able = sym eb ∙ h

  filling : Filling text s arities room out arities' room' out' r
  filling = f.fills (subst T (sym able) tt)

  part_laid : take (r.wrote - 0) (drop 0 out') ≡ filling.bytes
  part_laid = laid_part filling.laid

  to_come : drop written (transcript text) ≡ filling.bytes ++ remaining text (position_of r.standing arities' room')
  to_come = w.rest ∙ fill_remaining text filling.fill

  to_follow : drop (written + length filling.bytes) (transcript text) ≡ remaining text (position_of r.standing arities' room')
  to_follow = drop_part (transcript text) filling.bytes (remaining text (position_of r.standing arities' room')) written to_come

  -- what it laid comes next
  pub part_next : Next (transcript text) written (take (r.wrote - 0) (drop 0 out'))
  part_next =
      subst (λ (x : List ℕ). Next (transcript text) written x) (sym part_laid)
      (record { follows = to_come ∙ ap (λ (x : List ℕ). filling.bytes ++ x) (sym to_follow) })

  pub part_within : r.wrote ≤ length out'
  part_within = omega (arith, filling.laid.within, filling.laid.long)

  -- each fill gets nearer to the end of the run
  pub fill_nearer : distance text (position_of r.standing arities' room') < distance text (position_of s arities room)
  fill_nearer =
      let g = goes_able text s arities room out able in
      fill_less text
      (omega (arith, room_able text s arities room out able, room_known s arities room g (omega (arith, w.sound.paced, w.sound.within, l.storage))))
      (goes_far text s arities room g)
      filling.fill

  few : length filling.bytes ≤ 131328
  few = omega (arith, filling.laid.place, filling.laid.within, l.few)

  -- so that the count stays small
  pub count_fits : written + length (take (r.wrote - 0) (drop 0 out')) < 2 ^ 64
  count_fits = omega (arith, ap length part_laid, few, w.bounded, l.most, fill_nearer)

  -- and the run goes on from there
  pub written_on : (n : ℕ) → n ≡ written + length (take (r.wrote - 0) (drop 0 out')) → WrittenOut text arities' room' (paused_at r.standing n)
  written_on n en =
      let e : n ≡ written + length filling.bytes = en ∙ ap (λ (x : List ℕ). written + length x) part_laid in
      let sum : length (transcript text) - written ≡ length filling.bytes + length (remaining text (position_of r.standing arities' room')) =
      sym (length-drop written (transcript text)) ∙ ap length to_come ∙ length-append filling.bytes (remaining text (position_of r.standing arities' room')) in
      record { sound = filling.sound; within = omega (arith, w.within); rest = rw e to_follow; bounded = omega (arith, w.bounded, few, fill_nearer) }

-- slices of the same lengths lend as much
pub lends_on : (text arities room out arities' room' out' : List ℕ) → Lends text arities room out → length arities' ≡ length arities → length room' ≡ length room
    → length out' ≡ length out → Lends text arities' room' out'
lends_on text arities room out arities' room' out' l ea er eo =
    record { most = l.most; sixteen = omega (arith, l.sixteen); storage = omega (arith, l.storage); few = omega (arith, l.few) }

pub lends_most_on : (text arities room out arities' room' out' : List ℕ) → LendsMost text arities room out → length arities' ≡ length arities → length room' ≡ length room
    → length out' ≡ length out → LendsMost text arities' room' out'
lends_most_on text arities room out arities' room' out' l ea er eo =
    record { lends = lends_on text arities room out arities' room' out' l.lends ea er eo; long = omega (arith, l.long) }

-- where the run is over, all is written
pub written_ends : (text : List ℕ) (s : Standing) (arities room : List ℕ) (written : ℕ) → WrittenOut text arities room (paused_at s written) → s.goes ≡ false
    → written ≡ length (transcript text)
unfolding remaining due output
written_ends text s arities room written w g =
    let e : drop written (transcript text) ≡ [] = w.rest ∙ rw g in omega (arith, w.within, sym (length-drop written (transcript text)) ∙ ap length e)

pub paused_ends : (text arities room : List ℕ) (p : Paused) → WrittenOut text arities room p → p.standing.goes ≡ false → p.written ≡ length (transcript text)
paused_ends text arities room p w g = written_ends text p.standing arities room p.written w g

-- the front of bytes that were laid from the start on
front_laid : (lent new after : List ℕ) (end k : ℕ) → Laid lent 0 new after end → k ≤ length new → take k after ≡ take k new
front_laid lent new after end k l h = sym (take-take k end after (omega (arith, l.place))) ∙ ap (take k) (laid_before l)

-- what is left of a run, its arities and cells laid in other storage
module _ (text arities cells : List ℕ) (p : Paused) (w : LeftOver text arities cells p) (lent own lent' room : List ℕ) (end end' : ℕ) (a : Laid lent 0 arities own end)
    (c : Laid lent' 0 cells room end') where
  place_kept : position_of p.standing own room ≡ position_of p.standing arities cells
  place_kept =
      rw (front_laid lent arities own end p.standing.operations a w.operations, front_laid lent' cells room end' p.standing.cells c w.stored)

  pub written_carried : WrittenOut text own room p
  written_carried =
      let v = w.written in
      record { sound = v.sound; within = v.within; rest = v.rest ∙ ap (remaining text) (sym place_kept); bounded = rw place_kept v.bounded }

  pub lends_finish : 16 ≤ length lent → 65537 ≡ length lent' → (out : List ℕ) → 131328 ≡ length out → LendsMost text own room out
  lends_finish ha hc out ho =
      record {
        lends = record { most = w.most; sixteen = omega (arith, a.long); storage = omega (arith, w.most, c.long); few = omega arith };
        long = ho;
      }

-- what is left of a run that paused, and of one that did not begin
pub left_over : (text arities room : List ℕ) (p : Paused) → WrittenOut text arities room p → 16 ≡ length arities → length text ≤ length room → length room ≤ 65537
    → LeftOver text arities room p
left_over text arities room p w ha ht hr =
    record {
      most = omega arith;
      written = w;
      operations = omega (arith, w.sound.few);
      sixteen = omega arith;
      stored = omega (arith, w.sound.paced, w.sound.within);
      few = hr;
    }

pub all_left : (text arities room : List ℕ) (s : Standing) → s ≡ unread true → length text ≤ 65537 → 16 ≡ length arities → length room ≤ 65537
    → LeftOver text arities room (paused_at s 0)
all_left text arities room s e ht ha hr =
    record { most = ht; written = written_begins text arities room s e; operations = rw e (omega arith); sixteen = omega arith; stored = rw e (omega arith); few = hr }
