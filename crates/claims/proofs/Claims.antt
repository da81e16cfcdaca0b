-- Each claim, from where it is proved.
-- Assumes nothing.
use Rattle.laws.proofs.FirstRefusal.{first_laws}
use Rattle.dates.proofs.CalendarLaws.{calendar_laws}
use Rattle.dates.proofs.DayByDay.{day_by_day}
use Rattle.writing.proofs.RoundTrip.{round_trips}
use Rattle.response_rules.proofs.AtTheEdges.{grid_rows}
use Rattle.response_rules.proofs.Laws.{overall_laws, nadir_laws, change_laws}
use Rattle.outcome_rules.proofs.Laws.{list_laws, adding_laws, call_laws}
use Rattle.outcome_rules.proofs.MarksExact.{every_mark_exact}
use Rattle.outcome_rules.proofs.MarksExactInOrder.{every_mark_exact_in_order}
use Rattle.outcome_rules.proofs.AtTheEdges.{examples_hold}
use Rattle.subject.proofs.RangeLaws.{range_laws}
use Rattle.outcome.proofs.Demand3.{demand3, held_after_calls}
use Rattle.outcome.proofs.CallsInRange.{calls_in_range}
use Rattle.file.proofs.FileAsCalls.{file_as_calls}
use Rattle.listing_text.proofs.AtTheEdges.{lines_at_the_edges}
use Rattle.listing_text.proofs.ListingLength.{lengths}
use Rattle.records.proofs.Tenfold.{tenfold_refusals}
use Rattle.response_rules.proofs.Tenfold.{tenfold_answers}
use Rattle.outcome_rules.proofs.Tenfold.{tenfold_lists}
use Rattle.converter.proofs.OldFilesKept.{old_files_kept}
use Rattle.claims.specs.Claims.{Claims}

pub claims : Claims
claims =
    record {
      calendar = calendar_laws;
      round_trips = round_trips;
      grid = grid_rows;
      overall = overall_laws;
      nadir = nadir_laws;
      lists = list_laws;
      marks = every_mark_exact;
      marks_in_order = every_mark_exact_in_order;
      demand3 = demand3;
      held = held_after_calls;
      calls = call_laws;
      change = change_laws;
      file = file_as_calls;
      lines = lines_at_the_edges;
      lengths = lengths;
      first = first_laws;
      adding = adding_laws;
      range = range_laws;
      in_range = calls_in_range;
      examples = examples_hold.0;
      tenfold_refusals = tenfold_refusals;
      tenfold_answers = tenfold_answers;
      tenfold_lists = tenfold_lists;
      old_files = old_files_kept;
      day_by_day = day_by_day;
    }
