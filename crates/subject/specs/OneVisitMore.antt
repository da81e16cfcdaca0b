-- Document 01, "Outcome": what one visit more makes of what is held for PFS, best response and duration.
-- Assumes nothing.
use Rattle.std.specs.Prelude.{leb, Option, Some, None}
use Rattle.laws.specs.Choice.{both, pick}
use Rattle.dates.specs.declared.StudyDay.{StudyDay}
use Rattle.response_rules.specs.Words.{Word, CR, PR, SD, PD, NE, NA, NN}
use Rattle.response_rules.specs.OverallAnswer.{is_pd, evaluable}
use Rattle.outcome_rules.specs.Values.{is_recorded, day_value}
use Rattle.outcome_rules.specs.Course.{Judged}
use Rattle.outcome_rules.specs.declared.BestResponse.{BestResponse}
use Rattle.outcome_rules.specs.declared.BestResponse.TheVariants as B
use Rattle.outcome_rules.specs.BestResponse.{is_cr, is_response, is_stable_or_better, allowed_between_cr, stable_disease_from, best_of}
use Rattle.subject.specs.Days.{at, first_recorded, confirmed_on}
use Rattle.subject.specs.declared.EventDays.{EventDays}
use Rattle.subject.specs.declared.CountingVisits.{CountingVisits}

-- an evaluable visit before the event
abbrev pub evaluable_on : StudyDay → EventDays
evaluable_on d = record { progression = None; lastvisit = d; lastevaluable = Some d }

-- the first PD is the progression, and any visit before it is v and, where evaluable, the last evaluable one
unfoldable pub event_after : EventDays → Judged → EventDays
event_after e j =
    pick (is_recorded (day_value e.progression)) e
    (pick (is_pd j.answer) (record { progression = Some (at j.day); lastvisit = e.lastvisit; lastevaluable = e.lastevaluable })
    (pick (evaluable j.answer) (evaluable_on (at j.day))
    (record { progression = None; lastvisit = at j.day; lastevaluable = e.lastevaluable })))

-- the word of a best response as it is held; no best response is NA or NN
abbrev pub best_from : Word → BestResponse
best_from CR = B.CR
best_from PR = B.PR
best_from SD = B.SD
best_from PD = B.PD
best_from NE = B.NE
best_from NA = B.NE
best_from NN = B.NE

-- the first of two in the order of document 01
abbrev pub better_of : BestResponse → BestResponse → BestResponse
better_of B.CR y = B.CR
better_of B.PR B.CR = B.CR
better_of B.PR B.PR = B.PR
better_of B.PR B.SD = B.PR
better_of B.PR B.PD = B.PR
better_of B.PR B.NE = B.PR
better_of B.SD B.CR = B.CR
better_of B.SD B.PR = B.PR
better_of B.SD B.SD = B.SD
better_of B.SD B.PD = B.SD
better_of B.SD B.NE = B.SD
better_of B.PD B.CR = B.CR
better_of B.PD B.PR = B.PR
better_of B.PD B.SD = B.SD
better_of B.PD B.PD = B.PD
better_of B.PD B.NE = B.PD
better_of B.NE y = y

-- what one counting visit more shows, with those before it: CR that confirms the start of a run of CR, CR or PR that confirms the first of them, CR, PR
-- or SD late enough, or progression
abbrev pub best_shown : CountingVisits → Judged → Word
best_shown c j =
    best_of (both (is_cr j.answer) (confirmed_on c.crstart j.day)) (both (is_response j.answer) (confirmed_on c.firstresponse j.day))
    (both (is_stable_or_better j.answer) (leb stable_disease_from j.day)) (is_pd j.answer)

-- the first CR or PR, and the first CR since which every visit was CR or NE
abbrev pub first_response_after : Option StudyDay → Judged → Option StudyDay
first_response_after first j = pick (is_response j.answer) (first_recorded first (at j.day)) first

abbrev pub cr_start_after : Option StudyDay → Judged → Option StudyDay
cr_start_after start j = pick (is_cr j.answer) (first_recorded start (at j.day)) (pick (allowed_between_cr j.answer) start None)

unfoldable pub counting_after : CountingVisits → Judged → CountingVisits
counting_after c j =
    record {
      firstresponse = first_response_after c.firstresponse j;
      crstart = cr_start_after c.crstart j;
      best = better_of c.best (best_from (best_shown c j));
    }
