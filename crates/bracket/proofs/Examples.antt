-- Document 01's worked input with its output, and small texts for the points that are easily read otherwise, computed.
use Prim.Native.String.{String}
use mathlib.Core.List.{◌++◌}
use mathlib.Core.Path.{◌≡◌, refl}
use lib.ListN.{replicate}
use Rattle.equivalence.specs.Equivalence.{is_map, holds, inside, names_of, blocks, block_of, map_of, identity, whole, same, is_identity, meet, meet_all, maps, best, join}
use Rattle.equivalence.specs.Lists.{up_to, every, any, keep, first, concat}
use Rattle.equivalence.specs.Lent.{stretch, written, lent_after}
use Rattle.pairorder.specs.Order.{pairs, not_later_on, not_later, first_held}
use Rattle.equivalence.specs.Refusal.{number_of, lowest, size_test, map_test, space_test, answered, serve, pairs_test, elements_test, equal_test}
use Rattle.algebra.specs.Accepted.{algebra_tests}
use Rattle.algebra.specs.Algebra.{cell_count, operations_of, operations, arguments, place, value}
use Rattle.algebra.specs.Congruence.{respects, is_congruence, congruences}
use Rattle.congruence.specs.Calls.{generate_call, contained_call, separate_call, congruence_test, quotient_call, decomposed, factor_bytes, decompose_call}
use Rattle.quotient.specs.Quotient.{quotient_table, quotient_cells}
use Rattle.theory.specs.Decompose.{added, gathered, pruned, listed, reducible, factor_space, common_pair}
use Rattle.theory.specs.Extremal.{holds_all, above, generated, contained, separated}
use Rattle.numberreader.specs.Reading.{ascii, onward, ◌>>=◌, mark, gap, branch, behind, begins, opened}
use Rattle.numberreader.specs.Numbers.{digit_at, number}
use Rattle.tablereader.specs.Tables.{cell, parted, bracket, table, pair, items_up_to, items}
use Rattle.reader.specs.Lines.{close, spaced_number, size_line, tested, after_size, sized, arity, last_table, operation_tests}
use Rattle.reader.specs.Lines.{cell_test, with_operation, after_table, after_arity, operation, items_to_end, asks_with, two_numbers, request}
use Rattle.equivalence.specs.Outcome.{success, refusal, written_outcome}
use Rattle.congruence.specs.Outcome.{generated_outcome, divided_outcome, decomposed_outcome}
use Rattle.writer.specs.Numerals.{digits, decimal}
use Rattle.writer.specs.Lines.{gap_bytes, spaced, bracketed, spaced_brackets, line, refused_numbers, outcome_line, refused_line}
use Rattle.tablewriter.specs.Texts.{parted_texts, table_text, size_text, operation_text, algebra_text}
use Rattle.answers.specs.Answers.{map_line, generated_line, factors_line, quotient_lines, answer}
use Rattle.bracket.specs.Transcript.{after_line, after_request, first_step, operation_step, request_step, step, output, run, transcript}

-- the desk's output for an input is this
abbrev Gives : String → String → Type 0
Gives input written = transcript (ascii input) ≡ ascii written

pub record TextExamples : Type 0 where
  -- document 01's input and output, whole
  pub worked : Gives "[size 4]\n[op 1 [1 0 3 2]]\n[generate [0 2]]\n[contained 0 0 0 3]\n[separate 0 2]\n[decompose]\n"
      "[generated 2 [0 1 0 1]]\n[map 0 0 2 3]\n[map 0 0 2 2]\n[factors [0 1 0 1] [0 0 2 2]]\n"
  -- no operations, and no requests
  pub bare : Gives "[size 3]\n[decompose]\n" "[factors [0 1 0] [0 0 2]]\n"
      × Gives "[size 4]\n" ""
  -- every line is ended by byte 10, and the first is a size line
  pub ended : Gives "" "[refused 14]\n"
      × Gives "[size 65]" "[refused 14]\n"
      × Gives "\n" "[refused 14]\n"
      × Gives "[decompose]\n" "[refused 14]\n"
      × Gives "[size 2]\n[size 2]\n" "[refused 14]\n"
  -- a number is 0 to 255 without leading zeros, after one space
  pub numbers : Gives "[size 65]\n" "[refused 1]\n"
      × Gives "[size 255]\n" "[refused 1]\n"
      × Gives "[size 256]\n" "[refused 14]\n"
      × Gives "[size 04]\n" "[refused 14]\n"
      × Gives "[size  4]\n" "[refused 14]\n"
      × Gives "[size 4 ]\n" "[refused 14]\n"
  -- 2, 3 and 4 come once the arity and the space after it are read
  pub early : Gives "[size 2]\n[op 4 " "[refused 3]\n"
      × Gives "[size 2]\n[op 4]\n" "[refused 14]\n"
      × Gives "[size 33]\n[op 3 " "[refused 4]\n"
      × (transcript (ascii "[size 1]\n" ++ (concat (replicate 16 (ascii "[op 0 0]\n")) ++ ascii "[op 4 ")) ≡ ascii "[refused 2]\n")
  -- then 14, over the whole line, and then 6
  pub late : Gives "[size 2]\n[op 1 [0 2]]" "[refused 14]\n"
      × Gives "[size 2]\n[op 1 [0 256]]\n" "[refused 14]\n"
      × Gives "[size 2]\n[op 1 [0 255]]\n" "[refused 6]\n"
      × Gives "[size 2]\n[op 1 [0]]\n" "[refused 14]\n"
      × Gives "[size 2]\n[op 1 [0 1 0]]\n" "[refused 14]\n"
  -- a table of arity 2
  pub nested : Gives "[size 2]\n[op 2 [[0 0] [0 1]]]\n[generate [0 1]]\n" "[generated 1 [0 0]]\n"
  -- operations come before requests; answers given before a fault stay
  pub order : Gives "[size 2]\n[decompose]\n[op 0 0]\n[decompose]\n" "[refused 11 0 1]\n[refused 14]\n"
  -- a refused request does not end the run
  pub goes : Gives "[size 4]\n[generate]\n[generate [255 0]]\n[contained]\n[separate 5 5]\n[separate 1 1]\n[contained 0 1 2 3]\n"
      "[generated 0 [0 1 2 3]]\n[refused 7]\n[refused 8]\n[refused 7]\n[refused 10]\n[map 0 1 2 3]\n"
  -- a fault anywhere in a request line goes before 7 and 8, and ends the run
  pub faulty : Gives "[size 2]\n[generate [9 0] [0]]\n[decompose]\n" "[refused 14]\n"
      × Gives "[size 2]\n[generate ]\n" "[refused 14]\n"
      × Gives "[size 2]\n[generate []]\n" "[refused 14]\n"
      × Gives "[size 2]\n[contained ]\n" "[refused 14]\n"
      × Gives "[size 2]\n[separate 0 1 1]\n" "[refused 14]\n"
      × Gives "[size 2]\n[decompose] \n" "[refused 14]\n"
      × Gives "[size 2]\r\n" "[refused 14]\n"
  -- document 02's quotient, and those by the identity, by one block and by the other factor
  pub quotients : Gives "[size 4]\n[op 1 [1 0 3 2]]\n[quotient 0 1 0 1]\n" "[size 2]\n[op 1 [1 0]]\n"
      × Gives "[size 4]\n[op 1 [1 0 3 2]]\n[quotient 0 1 2 3]\n" "[size 4]\n[op 1 [1 0 3 2]]\n"
      × Gives "[size 4]\n[op 1 [1 0 3 2]]\n[quotient 0 0 0 0]\n" "[size 1]\n[op 1 [0]]\n"
      × Gives "[size 4]\n[op 1 [1 0 3 2]]\n[quotient 0 0 2 2]\n" "[size 2]\n[op 1 [0 1]]\n"
  -- blocks are numbered by smallest member; tables of arity 0 and 2, and no table
  pub tables : Gives "[size 3]\n[quotient 0 0 2]\n" "[size 2]\n"
      × Gives "[size 3]\n[op 0 2]\n[quotient 0 0 2]\n" "[size 2]\n[op 0 1]\n"
      × Gives "[size 3]\n[op 2 [[0 0 0] [0 1 1] [0 1 2]]]\n[quotient 0 1 1]\n" "[size 2]\n[op 2 [[0 0] [0 1]]]\n"
  -- no congruence is 12 and no map is 8, and the run goes on with the algebra that it had; a fault ends it
  pub undivided : Gives "[size 4]\n[op 1 [1 0 3 2]]\n[quotient 0 1 0 3]\n[quotient 0 0 2 2]\n" "[refused 12]\n[size 2]\n[op 1 [0 1]]\n"
      × Gives "[size 4]\n[op 1 [1 0 3 2]]\n[quotient 0 2 2 3]\n[quotient 0 1 0]\n[quotient 0 0 0 255]\n[quotient]\n" "[refused 8]\n[refused 8]\n[refused 8]\n[refused 8]\n"
      × Gives "[size 4]\n[op 1 [1 0 3 2]]\n[quotient 0 0 0 256]\n[decompose]\n" "[refused 14]\n"
      × Gives "[size 4]\n[op 1 [1 0 3 2]]\n[quotient ]\n[decompose]\n" "[refused 14]\n"
      × Gives "[size 1]\n[quotient 0]\n[op 0 0]\n" "[size 1]\n[refused 14]\n"
  -- the quotients by the two factors of document 01's input, fed back: neither can be split
  pub factors : Gives "[size 2]\n[op 1 [1 0]]\n[decompose]\n" "[refused 11 0 1]\n"
      × Gives "[size 2]\n[op 1 [0 1]]\n[decompose]\n" "[refused 11 0 1]\n"

pub text_examples : TextExamples
unfolding ascii onward ◌>>=◌ mark gap branch behind begins opened digit_at number digits decimal gap_bytes cell parted bracket table pair items_up_to items close
    spaced_number size_line tested after_size sized arity last_table operation_tests cell_test with_operation after_table after_arity operation items_to_end asks_with
    two_numbers request spaced bracketed spaced_brackets line refused_numbers outcome_line success refusal written_outcome generated_outcome decomposed_outcome
    refused_line map_line generated_line factors_line answer after_line after_request first_step operation_step request_step step output run transcript is_map holds
    inside names_of blocks block_of map_of identity whole same is_identity meet meet_all maps best join up_to every any keep first concat stretch pairs not_later_on
    not_later first_held number_of lowest size_test map_test space_test answered written lent_after serve algebra_tests cell_count operations_of operations arguments
    place value respects is_congruence congruences pairs_test elements_test equal_test generate_call contained_call separate_call decomposed factor_bytes decompose_call
    added gathered pruned listed reducible factor_space common_pair holds_all above generated contained separated divided_outcome quotient_lines congruence_test quotient_call
    quotient_table quotient_cells parted_texts table_text size_text operation_text algebra_text
text_examples =
    record {
      worked = refl;
      bare = (refl, refl);
      ended = (refl, refl, refl, refl, refl);
      numbers = (refl, refl, refl, refl, refl, refl);
      early = (refl, refl, refl, refl);
      late = (refl, refl, refl, refl, refl);
      nested = refl;
      order = refl;
      goes = refl;
      faulty = (refl, refl, refl, refl, refl, refl, refl);
      quotients = (refl, refl, refl, refl);
      tables = (refl, refl, refl);
      undivided = (refl, refl, refl, refl, refl);
      factors = (refl, refl);
    }
