-- What W2 asks of the mender, all of it: what `specs/MendingDemands.antt` states is proved, of any rules.
-- Assumes nothing.
use Rattle.rules.specs.Rules.{Rules}
use Rattle.rules.specs.MendingDemands.{TheMender}
use Rattle.rules.proofs.MendingEnds.{lines_end_at_lf_lem, end_of_text_lem}
use Rattle.rules.proofs.MendingGiven.{handed_is_accepted, given_by_mending, refused_mending}
use Rattle.rules.proofs.MendingStays.{accepted_stays, mended_once, nothing_else}
use Rattle.rules.proofs.MendingTold.{each_line_told, list_in_order}

pub the_mender_lem : (R : Rules) → TheMender R
the_mender_lem R =
    record {
      lines_end_at_lf = lines_end_at_lf_lem;
      end_of_text = end_of_text_lem;
      accepted_comes_out_unchanged = accepted_stays R;
      handed_over_is_accepted = handed_is_accepted R;
      mended_once_is_mended = mended_once;
      nothing_else_changes = nothing_else;
      each_line_is_told = each_line_told;
      list_is_in_order = list_in_order;
      given_exactly_when = given_by_mending R;
      a_refusal_changes_nothing = refused_mending R;
    }
