-- The three demands, all of them: what `specs/Demands.antt` states is proved, of any rules under which the claims that are recomputed have room
-- in their places, and so of the base rules; and with them what is asked of the mender, of striking, of a session and of the
-- link.
-- Assumes nothing.
use Rattle.rules.specs.Rules.{Rules, base}
use Rattle.rules.specs.Demands.{TheThreeDemands, TheBaseKeepsThem}
use Rattle.rules.specs.SessionDemands.{TheSession}
use Rattle.rules.specs.LinkDemands.{TheLink}
use Rattle.rules.specs.StrikingDemands.{TheStriker}
use Rattle.rules.proofs.Bounds.{total_is_bounded_lem, the_most_total_lem}
use Rattle.rules.proofs.Classes.{four_counts, calls_byte_for_byte, classes_as_defined}
use Rattle.rules.proofs.Falls.{striking_rule_lem}
use Rattle.rules.proofs.Format.{accepted_when_written, accepted_format}
use Rattle.rules.proofs.GivenCalls.{given_exactly_when_lem, zero_when_accepted_lem, line_and_field_told}
use Rattle.rules.proofs.LinkKept.{the_link}
use Rattle.rules.proofs.MenderKept.{the_mender_lem}
use Rattle.rules.proofs.ModeLaws.{modes_add_up_lem}
use Rattle.rules.proofs.PremiseNeeded.{premise_is_needed_lem}
use Rattle.rules.proofs.Refusals.{every_input, refused_with, refused_reading, refused_judging, refused_writing, refused_view}
use Rattle.rules.proofs.Respelt.{either_case, spellings_counted}
use Rattle.rules.proofs.SessionKept.{the_session}
use Rattle.rules.proofs.StrikingBytes.{the_striker}
use Rattle.rules.proofs.Struck.{struck_is_accepted_lem}
use Rattle.rules.proofs.TotalLaws.{totals_as_defined_lem}
use Rattle.rules.proofs.WritingLaws.{writing_changes}
use Rattle.rules.proofs.WritingSets.{writing_sets_the_named_lem}
use Rattle.rules.proofs.WritingStable.{ClaimsHaveRoom, stable, base_has_room}

pub of_any_rules : (R : Rules) → ClaimsHaveRoom R → TheThreeDemands R
of_any_rules R room =
    record {
      every_input_gets_an_answer = every_input R;
      refused_with_number_line_field = refused_with R;
      given_exactly_when = given_exactly_when_lem R;
      zero_when_accepted = zero_when_accepted_lem R;
      line_and_field_told_rightly = line_and_field_told R;
      a_refusal_changes_nothing =
          record {
            reading = refused_reading R;
            judging = refused_judging R;
            writing = refused_writing R;
            viewing = refused_view R;
          };
      accepted_exactly_when_written = accepted_when_written R;
      accepted_exactly_when_format = accepted_format R;
      either_case_is_taken_alike = either_case R;
      spellings_are_counted = spellings_counted R;
      classes_and_marks_as_defined = classes_as_defined R;
      totals_as_defined = totals_as_defined_lem R;
      four_counts_add_up = four_counts R;
      modes_add_up = modes_add_up_lem R;
      total_is_bounded = total_is_bounded_lem R;
      writing_changes_only_the_named = writing_changes R;
      writing_sets_the_named = writing_sets_the_named_lem R;
      writing_back_is_stable = stable R room;
      struck_is_accepted = struck_is_accepted_lem R;
      striking_rule = striking_rule_lem R;
    }

pub the_three_demands_lem : TheBaseKeepsThem
the_three_demands_lem =
    record {
      the_three_demands = of_any_rules base base_has_room;
      calls_are_compared_byte_for_byte = calls_byte_for_byte;
      the_most_total = the_most_total_lem;
      premise_is_needed = premise_is_needed_lem;
      the_mender = the_mender_lem base;
    }

-- `StrikingDemands` and `SessionDemands` rest on `Demands`, so that they are joined here and not there.
pub the_base_striker : TheStriker base
the_base_striker = the_striker base

pub the_base_session : TheSession base
the_base_session = the_session base

pub the_base_link : TheLink base
the_base_link = the_link base
