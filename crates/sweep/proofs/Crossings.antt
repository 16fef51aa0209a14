-- The laws of the passes over lines: the cells read, what was joined stays joined, one index more, the stop at one block; first for two lines, then for two pairs of
-- lines at once.
use Prim.Native.Nat.{ℕ, ◌+◌, ◌*◌, ◌≤◌, ◌<◌}
use mathlib.Core.Bool.{Bool, true}
use mathlib.Core.List.{List}
use mathlib.Core.Path.{◌≡◌, sym, ap, subst, ◌∙◌}
use native.Mathlib.Decide.{dec_lt, ℕ_discrete}
use native.Mathlib.Omega.{arith}
use lib.ListN.{length}
use Rattle.equivalence.specs.Equivalence.{byte}
use Rattle.kernel.specs.InnerKernel.{Within}
use Rattle.translation.specs.InnerLines.{line_at, LineInside}
use Rattle.sweep.specs.declared.Stop.{Stop}
use Rattle.sweep.specs.declared.LinePair.{LinePair}
use Rattle.sweep.specs.InnerContexts.{JoinsAt, JoinsLine, JoinsBoth, JoinsCross, Contexts, LinesInside, Passed, PassedBoth}
use Rattle.sweep.specs.InnerQueue.{QueueState}
use Rattle.sweep.specs.InnerSweeps.{Yes, Halts, Sweeping, SweptTo, Swept}
use Rattle.sweep.proofs.Queues.{grown_first}
use Rattle.sweep.proofs.Sweeps.{swept_none, swept_more, swept_halted, swept_as, each_more}

-- ---- lines

pub passed_none : {cells live : List ℕ} {count : ℕ} {lines : LinePair} {i : ℕ} {f : ℕ → ℕ} → i ≤ count → Passed cells live count lines i i f
passed_none l = record { after = omega arith; most = l; joined = λ k a b. absurd (omega arith) }

pub passed_more : {cells live : List ℕ} {count : ℕ} {lines : LinePair} {i r : ℕ} {f : ℕ → ℕ} {b : Bool} → Passed cells live count lines i r f → r < count
    → Yes b (JoinsAt cells lines (byte live r) f) → b ≡ true → Passed cells live count lines i (r + 1) f
passed_more {cells} {live} {lines = lines} {r = r} {f} s l e y = record {
  after = omega (arith, s.after);
  most = omega arith;
  joined = λ k a b. elim (ℕ_discrete k r) [
    | yes h ↦ subst (λ (z : ℕ). JoinsAt cells lines (byte live z) f) (sym h) (e.says y)
    | no h ↦ s.joined k a (omega arith)
  ];
}

pub passed_all : {cells live : List ℕ} {count : ℕ} {lines : LinePair} {i r : ℕ} {f : ℕ → ℕ} → Passed cells live count lines i r f → count ≤ r → Passed cells live count lines i count f
passed_all {count = count} {r = r} s l = let e : r ≡ count = omega (arith, s.most) in rw e at s

module _ {n : ℕ} {cells live : List ℕ} {count : ℕ} (x : Contexts n cells live count) where
  line_place : {base stride : ℕ} → LineInside n cells base stride → (i : ℕ) → i < count → base + byte live i * stride < length cells
  line_place h i l = h.inside (byte live i) (x.live_below i l)

  line_cell : {base stride : ℕ} → LineInside n cells base stride → (i : ℕ) → i < count → line_at cells base stride (byte live i) < n
  line_cell {base} {stride} h i l = x.cells_below (base + byte live i * stride) (line_place h i l)

  pub line_kept : {lines : LinePair} {k : ℕ} {f f' : ℕ → ℕ} → LinesInside n cells lines → Within n f f' → k ≤ count → JoinsLine cells live k lines f → JoinsLine cells live k lines f'
  line_kept {lines} h w lk o = record {
    each = λ i l. record {
      joined = w (line_at cells lines.p lines.stride (byte live i)) (line_at cells lines.q lines.stride (byte live i)) (line_cell h.left i (omega arith)) (line_cell h.right i (omega arith)) (o.each i l).joined;
    };
  }

  -- where one block is left, everything is joined
  pub line_whole : {lines : LinePair} {f : ℕ → ℕ} → LinesInside n cells lines → ((c : ℕ) → c < n → f c ≡ 0) → JoinsLine cells live count lines f
  line_whole {lines} h e = record {
    each = λ i l. record {
      joined = e (line_at cells lines.p lines.stride (byte live i)) (line_cell h.left i l) ∙ sym (e (line_at cells lines.q lines.stride (byte live i)) (line_cell h.right i l));
    };
  }

-- a step that joins them
pub joins_step : {n : ℕ} {refused : List ℕ} {stop : Stop} {cells : List ℕ} {lines : LinePair} {c a b : ℕ} {s t : QueueState} → a ≡ line_at cells lines.p lines.stride c
    → b ≡ line_at cells lines.q lines.stride c → Swept n refused stop (λ g. g a ≡ g b) s t → Swept n refused stop (JoinsAt cells lines c) s t
joins_step {t = t} p q d = record {
  sweeping = d.sweeping;
  grown = grown_first (λ g good w. (ap g p ∙ good.0.joined ∙ ap g (sym q), good.1)) d.grown;
  done = λ u. record { joined = ap t.map (sym p) ∙ d.done u ∙ ap t.map q };
}

-- a line up to an index, and from there to another
line_passed : {cells live : List ℕ} {count : ℕ} {lines : LinePair} {i r : ℕ} {f : ℕ → ℕ} → JoinsLine cells live i lines f → Passed cells live count lines i r f → JoinsLine cells live r lines f
line_passed {i = i} o s = record { each = λ k l. elim (dec_lt k i) [ yes h ↦ o.each k h | no h ↦ s.joined k (omega arith) l ] }

-- what is joined up to r stays so, and r is joined besides
line_next : {n : ℕ} {cells live : List ℕ} {count : ℕ} → Contexts n cells live count → {lines : LinePair} {r : ℕ} {f f' : ℕ → ℕ} → LinesInside n cells lines → Within n f f' → r < count
    → JoinsLine cells live r lines f → JoinsAt cells lines (byte live r) f' → JoinsLine cells live (r + 1) lines f'
line_next {cells = cells} {live} x {lines} {f' = f'} h w l o e =
    record { each = each_more (λ (k : ℕ) (f : ℕ → ℕ). JoinsAt cells lines (byte live k) f) f' f' (λ k lk j. j) (line_kept x h w (omega arith) o).each e }

module _ {n : ℕ} {refused : List ℕ} {stop : Stop} {cells live : List ℕ} {count : ℕ} {lines : LinePair} where
  pub line_none : {s : QueueState} → Sweeping n stop s → SweptTo n refused stop (JoinsLine cells live count lines) (JoinsLine cells live 0 lines) s s
  line_none k = swept_none k (record { each = λ i l. absurd (omega arith) })

  -- the line is joined up to r, and a step joins it there
  pub line_more : {i r : ℕ} {s t u : QueueState} → Contexts n cells live count → LinesInside n cells lines
      → SweptTo n refused stop (JoinsLine cells live count lines) (JoinsLine cells live i lines) s t → Passed cells live count lines i r t.map → r < count
      → Swept n refused stop (JoinsAt cells lines (byte live r)) t u → SweptTo n refused stop (JoinsLine cells live count lines) (JoinsLine cells live (r + 1) lines) s u
  line_more {r = r} {t = t} {u} x h a p l b =
      swept_more a b (λ g good w. good.each r l) (λ w o e. line_next x h w l (line_passed o p) e)

  pub line_halted : {i : ℕ} {s t : QueueState} {r : Bool} → Contexts n cells live count → LinesInside n cells lines
      → SweptTo n refused stop (JoinsLine cells live count lines) (JoinsLine cells live i lines) s t → Yes r (Halts stop t.size t.map) → r ≡ true
      → Swept n refused stop (JoinsLine cells live count lines) s t
  line_halted x h a e y = swept_halted a e y (line_whole x h)

  pub line_all : {i : ℕ} {s t : QueueState} → SweptTo n refused stop (JoinsLine cells live count lines) (JoinsLine cells live i lines) s t → count ≤ i
      → Swept n refused stop (JoinsLine cells live count lines) s t
  line_all a l = swept_as a (λ o. record { each = λ i li. o.each i (omega arith) })

-- ---- two pairs of lines at once

module _ {n : ℕ} {cells live : List ℕ} {count : ℕ} (x : Contexts n cells live count) {last first : LinePair} (h : LinesInside n cells last) (k : LinesInside n cells first) where
  at_kept : {lines : LinePair} {i : ℕ} {f f' : ℕ → ℕ} → LinesInside n cells lines → i < count → Within n f f' → JoinsAt cells lines (byte live i) f → JoinsAt cells lines (byte live i) f'
  at_kept {lines} {i} d l w o = record {
    joined = w (line_at cells lines.p lines.stride (byte live i)) (line_at cells lines.q lines.stride (byte live i)) (line_cell x d.left i l) (line_cell x d.right i l) o.joined;
  }

  at_whole : {lines : LinePair} {i : ℕ} {f : ℕ → ℕ} → LinesInside n cells lines → i < count → ((c : ℕ) → c < n → f c ≡ 0) → JoinsAt cells lines (byte live i) f
  at_whole {i = i} d l e = (line_whole x d e).each i l

  pub cross_kept : {f f' : ℕ → ℕ} → Within n f f' → JoinsCross cells live count last first f → JoinsCross cells live count last first f'
  cross_kept w o = record { last_line = line_kept x h w (omega arith) o.last_line; first_line = line_kept x k w (omega arith) o.first_line }

  pub cross_whole : {f : ℕ → ℕ} → ((c : ℕ) → c < n → f c ≡ 0) → JoinsCross cells live count last first f
  cross_whole e = record { last_line = line_whole x h e; first_line = line_whole x k e }

  module _ {refused : List ℕ} {stop : Stop} {i : ℕ} (l : i < count) {s t : QueueState} (a : Swept n refused stop (JoinsAt cells last (byte live i)) s t) where
    half : SweptTo n refused stop (JoinsBoth cells last first (byte live i)) (JoinsAt cells last (byte live i)) s t
    half = record { sweeping = a.sweeping; grown = grown_first (λ g good w. (good.0.last_at, good.1)) a.grown; done = a.done }

    pub both_halted : {r : Bool} → Yes r (Halts stop t.size t.map) → r ≡ true → Swept n refused stop (JoinsBoth cells last first (byte live i)) s t
    both_halted y says = swept_halted half y says (λ z. record { last_at = at_whole h l z; first_at = at_whole k l z })

    pub both_swept : {u : QueueState} → Swept n refused stop (JoinsAt cells first (byte live i)) t u → Swept n refused stop (JoinsBoth cells last first (byte live i)) s u
    both_swept b = swept_more half b (λ g good w. good.first_at) (λ w o e. record { last_at = at_kept h l w o; first_at = e })

  module _ {refused : List ℕ} {stop : Stop} where
    -- they are joined up to r, and a step joins them there
    pub cross_more : {i r : ℕ} {s t u : QueueState} → SweptTo n refused stop (JoinsCross cells live count last first) (JoinsCross cells live i last first) s t
        → PassedBoth cells live count last first i r t.map → r < count → Swept n refused stop (JoinsBoth cells last first (byte live r)) t u
        → SweptTo n refused stop (JoinsCross cells live count last first) (JoinsCross cells live (r + 1) last first) s u
    cross_more {r = r} {t = t} {u} a p l b =
        swept_more a b (λ g good w. record { last_at = good.last_line.each r l; first_at = good.first_line.each r l })
        (λ w o e. record { last_line = line_next x h w l (line_passed o.last_line p.last_passed) e.last_at; first_line = line_next x k w l (line_passed o.first_line p.first_passed) e.first_at })

    pub cross_halted : {i : ℕ} {s t : QueueState} {r : Bool} → SweptTo n refused stop (JoinsCross cells live count last first) (JoinsCross cells live i last first) s t
        → Yes r (Halts stop t.size t.map) → r ≡ true → Swept n refused stop (JoinsCross cells live count last first) s t
    cross_halted a e y = swept_halted a e y cross_whole

module _ {n : ℕ} {refused : List ℕ} {stop : Stop} {cells live : List ℕ} {count : ℕ} {last first : LinePair} where
  -- the rest is joined already
  pub cross_rest : {i r : ℕ} {s t : QueueState} → SweptTo n refused stop (JoinsCross cells live count last first) (JoinsCross cells live i last first) s t
      → PassedBoth cells live count last first i r t.map → count ≤ r → Swept n refused stop (JoinsCross cells live count last first) s t
  cross_rest a p l = swept_as a (λ o. record {
    last_line = record { each = λ i li. (line_passed o.last_line p.last_passed).each i (omega arith) };
    first_line = record { each = λ i li. (line_passed o.first_line p.first_passed).each i (omega arith) };
  })
