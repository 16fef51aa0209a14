-- Numbers after gaps, the end of a line, the size line and the arity of an operation line.
use Prim.Native.Nat.{ℕ, ◌+◌, ◌≤◌}
use mathlib.Core.Bool.{Bool, true, false, not, ◌&&◌}
use mathlib.Core.List.{List}
use mathlib.Core.Path.{◌≡◌, ap, sym, ◌∙◌}
use native.Mathlib.Omega.{arith}
use native.Mathlib.Decide.{ℕ_discrete}
use borrow.Author.Tests.{not-true, not-false, eqb-true, eq-eqb}
use lib.Dec.{eqb}
use lib.ListN.{length}
use Rattle.equivalence.specs.Lists.{every}
use Rattle.numberreader.specs.Reading.{ascii, found, fault, Reader, byte_at, ◌>>=◌, ◌>>◌, done, failed, mark, gap, begins}
use Rattle.numberreader.specs.Numbers.{number}
use Rattle.reader.specs.Lines.{close, spaced_number, size_line, arity}
use Rattle.std.specs.Prelude.{Option, Some, None}
use Rattle.numberreader.specs.InnerPromises.{GapFound, NumberFound, NumberRead}
use Rattle.reader.specs.InnerPromises.{CloseFound}
use Rattle.numberreader.specs.declared.Number.{Number}
use Rattle.numberreader.proofs.Readers.{then_found, then_fault, marked, unmarked, mark_found, mark_fault, opened_body, opened_other, gapped, ungapped}
use Rattle.numberreader.proofs.Words.{and_left, and_right, begins_within}

-- a number, and the place after it
abbrev pub number_at : ℕ → ℕ → Number
number_at v next = record { value = v; next = next }

module _ (text : List ℕ) (at : ℕ) where
  pub close_found : begins text at (ascii "]\n") ≡ true → close text at ≡ found tt (at + 2)
  unfolding close begins ascii
  close_found e =
      let bracket : byte_at text at ≡ 93 = eqb-true (byte_at text at) 93 (and_left (eqb (byte_at text at) 93) (eqb (byte_at text (at + 1)) 10 && true) e) in
      let feed : byte_at text (at + 1) ≡ 10 =
      eqb-true (byte_at text (at + 1)) 10
      (and_left (eqb (byte_at text (at + 1)) 10) true (and_right (eqb (byte_at text at) 93) (eqb (byte_at text (at + 1)) 10 && true) e)) in
      marked "]" text at (mark "\n") bracket ∙ mark_found "\n" text (at + 1) feed ∙ ap (λ (k : ℕ). found tt k) (omega arith)

  pub close_fault : begins text at (ascii "]\n") ≡ false → close text at ≡ fault
  unfolding close begins ascii
  close_fault e =
      elim (ℕ_discrete (byte_at text at) 93) [
        | no h ↦ unmarked "]" text at (mark "\n") h
        | yes h ↦ marked "]" text at (mark "\n") h
            ∙ mark_fault "\n" text (at + 1)
            (λ g. let f : ◌≡◌ {A = Bool} true false = sym (simp (eq-eqb (byte_at text at) 93 h, eq-eqb (byte_at text (at + 1)) 10 g)) ∙ e in
            let z : ◌≡◌ {A = ℕ} 0 1 = cc in omega arith)
      ]

  -- the end of a line, which takes two bytes
  module _ (w : at ≤ length text) (q : Bool) (eq : q ≡ begins text at (ascii "]\n")) where
    pub close_missing : not q ≡ true → close text at ≡ fault
    close_missing g = close_fault (sym eq ∙ not-true q g)

    pub close_here : not q ≡ false → CloseFound text at (at + 2)
    unfolding ascii every
    close_here g =
        record {
          value = close_found (sym eq ∙ not-false q g);
          within = begins_within text (ascii "]\n") at tt w (sym eq ∙ not-false q g);
          past = omega arith;
        }

  -- a number after a gap
  pub spaced_none : gap text at ≡ fault → spaced_number text at ≡ fault
  unfolding spaced_number
  spaced_none g = ungapped number text at g

  module _ (end : ℕ) (g : GapFound text at end) where
    spaced_here : spaced_number text at ≡ number text end
    unfolding spaced_number
    spaced_here = gapped number text at end g

    pub spaced_some : (r : Option Number) → NumberRead text end (number text end) r → NumberRead text at (spaced_number text at) r
    spaced_some None n = spaced_here ∙ n
    spaced_some (Some r) n = record { value = spaced_here ∙ n.value; within = n.within; past = omega (arith, n.past, g.past) }

-- the size line
module _ (text : List ℕ) (at : ℕ) (o : Bool) (eo : o ≡ begins text at (ascii "[size")) where
  -- behind the word
  size_body : Reader ℕ
  size_body = ◌>>=◌ spaced_number (λ n. ◌>>◌ close (done n))

  pub size_unopened : not o ≡ true → size_line text at ≡ fault
  unfolding size_line size_body
  size_unopened h = opened_other (ascii "[size") size_body failed text at (sym eo ∙ not-true o h)

  module _ (h : not o ≡ false) where
    size_opened : size_line text at ≡ size_body text (at + 5)
    unfolding size_line size_body ascii
    size_opened = opened_body (ascii "[size") size_body failed text at (sym eo ∙ not-false o h)

    pub size_room : at ≤ length text → at + 5 ≤ length text
    unfolding ascii every
    size_room w = begins_within text (ascii "[size") at tt w (sym eo ∙ not-false o h)

    pub size_missing : spaced_number text (at + 5) ≡ fault → size_line text at ≡ fault
    unfolding size_body
    size_missing r = size_opened ∙ then_fault spaced_number (λ n. ◌>>◌ close (done n)) text (at + 5) r

    module _ (n : Number) (r : NumberFound text (at + 5) (spaced_number text (at + 5)) n) where
      size_found : size_line text at ≡ ◌>>◌ close (done n.value) text n.next
      unfolding size_body
      size_found = size_opened ∙ then_found spaced_number (λ n. ◌>>◌ close (done n)) text (at + 5) n.value n.next r.value

      pub size_unclosed : close text n.next ≡ fault → size_line text at ≡ fault
      size_unclosed g = size_found ∙ then_fault close (λ _. done n.value) text n.next g

      pub size_closed : (end : ℕ) → CloseFound text n.next end → NumberFound text at (size_line text at) (number_at n.value end)
      size_closed end g =
          record {
            value = size_found ∙ then_found close (λ _. done n.value) text n.next tt end g.value;
            within = g.within;
            past = omega (arith, r.past, g.past);
          }

-- the arity of an operation line
module _ (text : List ℕ) (at : ℕ) where
  pub arity_missing : spaced_number text at ≡ fault → arity text at ≡ fault
  unfolding arity
  arity_missing r = then_fault spaced_number (λ s. ◌>>◌ gap (done s)) text at r

  module _ (s : Number) (r : NumberFound text at (spaced_number text at) s) where
    arity_found : arity text at ≡ ◌>>◌ gap (done s.value) text s.next
    unfolding arity
    arity_found = then_found spaced_number (λ s. ◌>>◌ gap (done s)) text at s.value s.next r.value

    pub arity_unparted : gap text s.next ≡ fault → arity text at ≡ fault
    arity_unparted g = arity_found ∙ ungapped (done s.value) text s.next g

    pub arity_read : (end : ℕ) → GapFound text s.next end → NumberFound text at (arity text at) (number_at s.value end)
    arity_read end g =
        record {
          value = arity_found ∙ gapped (done s.value) text s.next end g;
          within = g.within;
          past = omega (arith, r.past, g.past);
        }
