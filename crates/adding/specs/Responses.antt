-- Document 01, "Visit responses" and "Change in size, file and listing": the responses at a visit judged on the held subject. A visit's line of the listing
-- has these values.
-- Assumes nothing.
use Rattle.std.specs.Prelude.{Bool, List, [], ◌∷◌, ℕ, Some, None, Ok, Err}
use Rattle.dates.specs.declared.StudyDay.{StudyDay}
use Rattle.records.specs.declared.Entry.{Entry}
use Rattle.records.specs.declared.Entry.TheVariants as E
use Rattle.records.specs.declared.VisitEntry.{VisitEntry}
use Rattle.records.specs.Forms.{new_unit}
use Rattle.response_rules.specs.Words.{target_word, status_word, overall_word}
use Rattle.response_rules.specs.Inputs.{visit_of}
use Rattle.response_rules.specs.TargetAnswer.{target_answer}
use Rattle.response_rules.specs.Change.{change_values, change_of}
use Rattle.outcome_rules.specs.VisitLines.{VisitLine}
use Rattle.subject.specs.declared.Enrolment.{Enrolment}
use Rattle.subject.specs.declared.FollowUp.{FollowUp}
use Rattle.adding.specs.Refusals.{AddAnswer}
use Rattle.adding.specs.declared.VisitResponse.{VisitResponse}
use Rattle.adding.specs.OneRecordMore.{overall_held}

-- the declared cases
abbrev pub response_values : VisitResponse → VisitLine
response_values v =
    record {
      day = v.day.0;
      target = target_word v.target;
      nontarget = status_word v.nontarget;
      overall = overall_word v.overall;
      change = change_values v.change;
    }

-- what an answer has of a visit; a refusal carries its number and nothing else
abbrev pub add_responses : AddAnswer → List VisitLine
add_responses (Ok None) = []
add_responses (Ok (Some v)) = response_values v ∷ []
add_responses (Err refusal) = []

abbrev pub line_held : Enrolment → FollowUp → StudyDay → VisitEntry → List Bool → List ℕ → VisitLine
line_held e f day v measured sizes =
    record {
      day = day.0;
      target = target_answer new_unit e.disease f.earlier (visit_of v measured sizes);
      nontarget = status_word v.status;
      overall = overall_held e f v measured sizes;
      change = change_of e.disease (visit_of v measured sizes);
    }

-- a visit has responses, and no other record
abbrev pub lines_held : Enrolment → FollowUp → StudyDay → Entry → List Bool → List ℕ → List VisitLine
lines_held e f day (E.Baseline b) marks sizes = []
lines_held e f day (E.Visit v) marks sizes = line_held e f day v marks sizes ∷ []
lines_held e f day (E.Therapy d) marks sizes = []
lines_held e f day (E.Death d) marks sizes = []
