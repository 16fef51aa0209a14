-- Document 01's examples, the small inputs of its reasons, and document 02's rule of space, computed from the definitions of the calls.
use mathlib.Core.Path.{refl}
use Rattle.equivalence.specs.Equivalence.{is_map, holds, inside, names_of, blocks, map_of, identity, whole, same, is_identity, meet, meet_all, maps, best}
use Rattle.equivalence.specs.Lists.{up_to, every, any, keep, first, concat}
use Rattle.pairorder.specs.Order.{pairs, not_later_on, not_later, first_held}
use Rattle.equivalence.specs.Outcome.{success, refusal, written_outcome}
use Rattle.equivalence.specs.Refusal.{number_of, lowest, size_test, pairs_test, elements_test, map_test, space_test, equal_test, answered, serve}
use Rattle.equivalence.specs.Lent.{written, lent_after}
use Rattle.algebra.specs.Accepted.{algebra_tests}
use Rattle.algebra.specs.Algebra.{cell_count, operations_of, operations, arguments, place, value}
use Rattle.algebra.specs.Congruence.{respects, is_congruence, congruences}
use Rattle.theory.specs.Decompose.{added, gathered, pruned, listed, reducible, factor_space, common_pair}
use Rattle.theory.specs.Extremal.{holds_all, above, generated, contained, separated}
use Rattle.congruence.specs.Calls.{congruence_test, generate_call, contained_call, separate_call, quotient_call, decomposed, factor_bytes, decompose_call}
use Rattle.congruence.specs.Examples.{Examples, SmallInputs, SpaceExamples}
use Rattle.congruence.specs.Outcome.{generated_outcome, divided_outcome, decomposed_outcome}

pub examples : Examples
unfolding up_to every any first holds concat map_of keep maps names_of blocks best meet_all inside same is_identity is_map not_later not_later_on pairs identity
    whole meet first_held is_congruence operations operations_of cell_count arguments place value respects congruences holds_all above generated contained
    separated added gathered pruned listed common_pair reducible factor_space decomposed factor_bytes generate_call contained_call separate_call decompose_call serve
    lowest algebra_tests size_test pairs_test elements_test map_test space_test equal_test answered lent_after written success written_outcome generated_outcome
    decomposed_outcome
examples =
    record {
      one = refl;
      two = refl;
      three = refl;
      four = refl;
      five = refl;
      six = refl;
      seven = refl;
      eight = refl;
      nine = refl;
      ten = refl;
      eleven = refl;
    }

pub small_inputs : SmallInputs
unfolding up_to every any first holds concat map_of keep maps names_of blocks best meet_all inside same is_identity is_map not_later not_later_on pairs identity
    whole meet first_held is_congruence operations operations_of cell_count arguments place value respects congruences holds_all above generated separated
    added gathered pruned listed common_pair reducible factor_space decomposed factor_bytes generate_call contained_call separate_call quotient_call decompose_call serve
    lowest algebra_tests size_test pairs_test elements_test map_test congruence_test space_test equal_test answered lent_after written refusal number_of
    written_outcome generated_outcome divided_outcome decomposed_outcome
small_inputs =
    record {
      size = refl;
      operations = refl;
      arity = refl;
      cells = refl;
      length = refl;
      cell = refl;
      range = refl;
      map = refl;
      space = refl;
      equal = refl;
      irreducible = refl;
      congruence = refl;
      range_first = refl;
      space_first = refl;
    }

pub space_examples : SpaceExamples
unfolding up_to every any first holds concat map_of keep maps names_of blocks best meet_all inside same is_identity is_map not_later not_later_on pairs identity
    whole meet first_held is_congruence operations operations_of cell_count arguments place value respects congruences separated added gathered pruned listed
    common_pair reducible factor_space decomposed factor_bytes decompose_call serve lowest algebra_tests size_test space_test answered lent_after written success
    refusal number_of decomposed_outcome
space_examples = record { exact = refl; short = refl; irreducible = refl }
