-- A quotient's lines: what a call lent zeros writes is the text of the algebra of blocks, and there is room for it.
use Prim.Native.Nat.{ℕ, ◌+◌, ◌*◌, ◌≤◌}
use mathlib.Core.List.{List}
use mathlib.Core.Path.{◌≡◌, ap, sym, ◌∙◌, subst}
use native.Mathlib.Omega.{arith}
use lib.ListN.{length, take, drop, length-replicate, length-append}
use lib.Seq.{take_at}
use Rattle.equivalence.specs.Equivalence.{Map, blocks}
use Rattle.equivalence.specs.Lent.{written}
use Rattle.equivalence.specs.Outcome.{success}
use Rattle.equivalence.specs.declared.Refusal.{Refusal}
use Rattle.algebra.specs.Algebra.{Algebra, algebra_of, cell_count}
use Rattle.algebra.proofs.Accepted.{WellFormed, accepted_well_formed}
use Rattle.quotient.specs.Quotient.{quotient_cells, quotient}
use Rattle.theory.proofs.Quotients.{quotient_cells_length, quotient_well_formed}
use Rattle.congruence.specs.Calls.{quotient_call}
use Rattle.congruence.specs.Outcome.{divided_outcome}
use Rattle.std.specs.Prelude.{Result, Ok, Err}
use Rattle.algebra.proofs.Congruences.{congruence_is}
use Rattle.congruence.proofs.Meanings.{quotient_gave}
use Rattle.tablereader.specs.Laying.{Laid}
use Rattle.reader.specs.declared.requests.Asked.TheVariants.{Quotient}
use Rattle.writer.specs.InnerRoom.{NumbersBelow}
use Rattle.writer.specs.Lines.{outcome_line, refused_line}
use Rattle.writer.proofs.Spacing.{outcome_refused}
use Rattle.tablewriter.specs.Texts.{algebra_text}
use Rattle.tablewriter.specs.InnerFits.{TablesThere, LinesFit}
use Rattle.tablewriter.proofs.Bounds.{text_bound}
use Rattle.answers.specs.Answers.{quotient_lines, answer}
use Rattle.answers.specs.InnerPromises.{QuotientFits, Zeros}

-- the lines for each case of the answer
module _ (arities cells lent out : List ℕ) (end : ℕ) (d : Result ℕ Refusal) where
  pub lines_of_blocks : (b : ℕ) → d ≡ Ok b → Laid lent 0 (algebra_text (algebra_of b arities cells)) out end → Laid lent 0 (quotient_lines arities d cells) out end
  unfolding quotient_lines divided_outcome success outcome_line
  lines_of_blocks b e l = rw e l

  pub line_of_divide_refused : (r : Refusal) → d ≡ Err r → Laid lent 0 (refused_line r) out end → Laid lent 0 (quotient_lines arities d cells) out end
  unfolding quotient_lines divided_outcome
  line_of_divide_refused r e l = rw (e, outcome_refused) l

-- where b blocks were given, there is room for their lines
pub blocks_fit : (d : Result ℕ Refusal) (arities cells out : List ℕ) → QuotientFits d arities cells out → (b : ℕ) → d ≡ Ok b → LinesFit b arities cells out
blocks_fit d arities cells out f b e = f.lines b e

-- a call that gave b blocks
module _ (a : Algebra) (m : Map) (lent cells : List ℕ) (b : ℕ) (e : quotient_call a m lent ≡ (Ok b, cells)) where
  accepted : WellFormed (quotient a m)
  accepted =
      let g = quotient_gave a m lent cells b e in
      quotient_well_formed a (accepted_well_formed a g.0) m (congruence_is a m g.1.0)

  is : blocks a.size m ≡ b
  is = (quotient_gave a m lent cells b e).1.1.0

  count : length (quotient_cells a m) ≡ cell_count b a.arities
  count = quotient_cells_length a m ∙ ap (λ (c : ℕ). cell_count c a.arities) is

  -- its cells stand first among those that it was lent
  front : take (cell_count b a.arities) cells ≡ quotient_cells a m
  unfolding written
  front =
      ap (take (cell_count b a.arities)) (sym (quotient_gave a m lent cells b e).1.1.1.1)
      ∙ take_at (quotient_cells a m) (drop (length (quotient_cells a m)) lent) (cell_count b a.arities) count

  given_tables : TablesThere b a.arities cells
  unfolding quotient written
  given_tables =
      let w = accepted in
      record {
        some = omega (arith, w.some, is);
        most = omega (arith, w.most, is);
        few = w.operations;
        arity = w.arity;
        there =
            omega (
              arith,
              count,
              ap length (quotient_gave a m lent cells b e).1.1.1.1,
              length-append (quotient_cells a m) (drop (length (quotient_cells a m)) lent),
            );
      }

  given_short : NumbersBelow 100 (take (cell_count b a.arities) cells)
  unfolding quotient
  given_short = rw front (λ i l. omega (arith, accepted.below i l, accepted.most))

  given_fits : (out : List ℕ) → 4 * length lent + 218 ≤ length out → LinesFit b a.arities cells out
  given_fits out room =
      let g = quotient_gave a m lent cells b e in
      let wanted : cell_count b a.arities ≤ length lent = subst (λ (c : ℕ). cell_count c a.arities ≤ length lent) is g.1.1.1.0 in
      record { tables = given_tables; room = omega (arith, text_bound b a.arities cells given_tables given_short) }

-- Quotient, lent zeros
module _ (n : ℕ) (arities cells before tables out : List ℕ) (d : Result ℕ Refusal) (m : Map) (z : Zeros (length cells) n (length cells) before out)
    (e : (d, tables) ≡ quotient_call (algebra_of n arities cells) m before) where
  pub quotient_fits : QuotientFits d arities tables out
  quotient_fits =
      record {
        line = omega (arith, z.fits.line);
        lines =
            λ b g.
            given_fits (algebra_of n arities cells) m before tables b (sym e ∙ ap (λ (x : Result ℕ Refusal). (x, tables)) g) out
            (omega (arith, z.fits.line, ap length z.zeros ∙ length-replicate {A = ℕ} (length cells) 0));
      }

  pub quotient_answered : (after : List ℕ) (end : ℕ) → Laid out 0 (quotient_lines arities d tables) after end
      → Laid out 0 (answer (algebra_of n arities cells) Quotient m) after end
  unfolding answer
  quotient_answered after end l = rw (← z.zeros, ← e) l
