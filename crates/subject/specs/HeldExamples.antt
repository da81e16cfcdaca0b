-- Document 01, "Where a call stops", 12: subjects on either side of each limit; "Outcome": what one visit more makes of what is held, and what is held of
-- a list of visits and of a list of records, those of the printed example among them. Proved in proofs/WorkedExamples.antt.
-- Assumes nothing.
use Rattle.std.specs.Prelude.{◌≡◌, Bool, true, false, List, [], ◌∷◌, map, reverse, ℕ, Option, Some, None}
use Rattle.dates.specs.declared.Date.{Date}
use Rattle.dates.specs.declared.StudyDay.{StudyDay}
use Rattle.dates.specs.Laws.{ymd}
use Rattle.records.specs.declared.Status.TheVariants as S
use Rattle.records.specs.Examples.{five_places}
use Rattle.response_rules.specs.Words.{Word, CR, PR, SD, PD, NE}
use Rattle.response_rules.specs.declared.BaselineDisease.{BaselineDisease}
use Rattle.outcome_rules.specs.declared.BestResponse.{BestResponse}
use Rattle.outcome_rules.specs.declared.BestResponse.TheVariants as B
use Rattle.outcome_rules.specs.Values.{Day, none, on}
use Rattle.outcome_rules.specs.StudyRecords.{Baseline, StudyRecord, therapy, death}
use Rattle.outcome_rules.specs.Course.{Judged}
use Rattle.outcome_rules.specs.StarredExamples.{one_target, with_node, missing, visit_on, measuring, unmeasured}
use Rattle.outcome_rules.specs.FurtherExamples.{visit43, visit85, visit127}
use Rattle.subject.specs.Range.{in_range}
use Rattle.subject.specs.OneVisitMore.{best_from, better_of, event_after, counting_after}
use Rattle.subject.specs.Summary.{cr_start, event_of, counting_of, summary}
use Rattle.subject.specs.declared.EventDays.{EventDays}
use Rattle.subject.specs.declared.CountingVisits.{CountingVisits}
use Rattle.subject.specs.declared.Subject.{Subject}

abbrev pub day : ℕ → StudyDay
day n = record { 0 = n }

abbrev pub on_day : ℕ → Option StudyDay
on_day n = Some (day n)

-- a visit as judged
abbrev pub judged_on : ℕ → Word → Judged
judged_on d answer = record { day = d; answer = answer }

-- progression, v and the last evaluable visit
abbrev pub events : Option StudyDay → ℕ → Option StudyDay → EventDays
events progression previous evaluable = record { progression = progression; lastvisit = day previous; lastevaluable = evaluable }

-- the first CR or PR, the start of the last run of CR, and the best response so far
abbrev pub counts : Option StudyDay → Option StudyDay → BestResponse → CountingVisits
counts first start best = record { firstresponse = first; crstart = start; best = best }

-- no visit yet
abbrev pub no_events : EventDays
no_events = events None 1 None

abbrev pub no_counts : CountingVisits
no_counts = counts None None B.NE

-- what a baseline leaves, by assessed, target count and sum; the second target is a node
abbrev pub disease : Bool → ℕ → ℕ → BaselineDisease
disease assessed count sum = record { assessed = assessed; count = count; nodes = five_places false (false ∷ true ∷ []); baselinesum = sum }

-- by randomisation date, non-target disease, what the baseline leaves, nadir, latest day, therapy, death, and what visits left
abbrev pub subject_with : Date → Bool → BaselineDisease → ℕ → ℕ → Bool → Option StudyDay → EventDays → CountingVisits → Subject
subject_with randomisation nontarget baseline nadir latest treated dead event counting =
    record {
      enrolment = record { randomisation = randomisation; nontarget = nontarget; disease = baseline };
      followup = record { earlier = record { nadir = nadir }; latestday = day latest; therapyrecorded = treated; deathday = dead; event = event; counting = counting };
    }

-- the subject of the printed example, by nadir, latest day, therapy, death, and what visits left
abbrev pub printed_with : ℕ → ℕ → Bool → Option StudyDay → EventDays → CountingVisits → Subject
printed_with = subject_with (ymd 2020 1 1) true (disease true 2 600)

-- after its baseline, and after its visit of day 43 with a sum of 36.0 mm
abbrev pub printed_opened : Subject
printed_opened = printed_with 600 1 false None no_events no_counts

abbrev pub printed_after_visit43 : Subject
printed_after_visit43 = printed_with 360 43 false None (events None 43 (on_day 43)) (counts (on_day 43) None B.SD)

-- after a baseline, by randomisation date, target count, sum and nadir
abbrev pub after_baseline : Date → ℕ → ℕ → ℕ → Subject
after_baseline date count sum nadir = subject_with date true (disease true count sum) nadir 1 false None no_events no_counts

-- a day 0 or over 40,177, a sum over 25,000, a target count over 5 or a randomisation date that 3 would meet; an absent day has its own mark
pub record RangeAtTheEdges : Type 0 where
  pub opened : in_range printed_opened ≡ true
  pub most : in_range
      (subject_with (ymd 2020 1 1) true (disease true 5 25000) 25000 40177 false (on_day 40177) (events (on_day 40177) 40177 (on_day 40177))
      (counts (on_day 40177) (on_day 40177) B.CR))
      ≡ true
  pub least : in_range
      (subject_with (ymd 2020 1 1) true (disease true 0 0) 0 1 false (on_day 1) (events (on_day 1) 1 (on_day 1))
      (counts (on_day 1) (on_day 1) B.NE))
      ≡ true
  pub no_date : in_range (after_baseline (ymd 2021 2 29) 2 600 600) ≡ false
  pub count6 : in_range (after_baseline (ymd 2020 1 1) 6 600 600) ≡ false
  pub sum25001 : in_range (after_baseline (ymd 2020 1 1) 2 25001 600) ≡ false
  pub nadir25001 : in_range (after_baseline (ymd 2020 1 1) 2 600 25001) ≡ false
  -- the latest day, death, progression, v, the last evaluable visit, the first response and the start of the last run of CR: 0 and 40,178
  pub latest : map (λ (d : ℕ). in_range (printed_with 600 d false None no_events no_counts)) (0 ∷ 40178 ∷ []) ≡ false ∷ false ∷ []
  pub death : map (λ (d : ℕ). in_range (printed_with 600 1 false (on_day d) no_events no_counts)) (0 ∷ 40178 ∷ []) ≡ false ∷ false ∷ []
  pub progression : map (λ (d : ℕ). in_range (printed_with 600 1 false None (events (on_day d) 1 None) no_counts)) (0 ∷ 40178 ∷ [])
      ≡ false ∷ false ∷ []
  pub lastvisit : map (λ (d : ℕ). in_range (printed_with 600 1 false None (events None d None) no_counts)) (0 ∷ 40178 ∷ [])
      ≡ false ∷ false ∷ []
  pub lastevaluable : map (λ (d : ℕ). in_range (printed_with 600 1 false None (events None 1 (on_day d)) no_counts)) (0 ∷ 40178 ∷ [])
      ≡ false ∷ false ∷ []
  pub firstresponse : map (λ (d : ℕ). in_range (printed_with 600 1 false None no_events (counts (on_day d) None B.NE))) (0 ∷ 40178 ∷ [])
      ≡ false ∷ false ∷ []
  pub crstart : map (λ (d : ℕ). in_range (printed_with 600 1 false None no_events (counts None (on_day d) B.NE))) (0 ∷ 40178 ∷ [])
      ≡ false ∷ false ∷ []

-- SD 43, NE 85, PD 127, SD 169 or PD 169: v moves with each visit before the progression, which is the first PD, the last evaluable visit with SD
pub record EventsAfter : Type 0 where
  pub sd43 : event_after no_events (judged_on 43 SD) ≡ events None 43 (on_day 43)
  pub ne85 : event_after (events None 43 (on_day 43)) (judged_on 85 NE) ≡ events None 85 (on_day 43)
  pub pd127 : event_after (events None 85 (on_day 43)) (judged_on 127 PD) ≡ events (on_day 127) 85 (on_day 43)
  pub sd169 : event_after (events (on_day 127) 85 (on_day 43)) (judged_on 169 SD) ≡ events (on_day 127) 85 (on_day 43)
  pub pd169 : event_after (events (on_day 127) 85 (on_day 43)) (judged_on 169 PD) ≡ events (on_day 127) 85 (on_day 43)

-- behind a first CR on day 43
abbrev pub after_cr : CountingVisits
after_cr = counts (on_day 43) (on_day 43) B.SD

-- one counting visit more: 28 days or more apart, with only CR or NE between two CR visits; SD from day 36 on
pub record CountsAfter : Type 0 where
  pub cr43 : counting_after no_counts (judged_on 43 CR) ≡ after_cr
  pub pr35 : counting_after no_counts (judged_on 35 PR) ≡ counts (on_day 35) None B.NE
  pub sd35 : counting_after no_counts (judged_on 35 SD) ≡ no_counts
  pub sd36 : counting_after no_counts (judged_on 36 SD) ≡ counts None None B.SD
  pub pd43 : counting_after no_counts (judged_on 43 PD) ≡ counts None None B.PD
  pub cr70 : counting_after after_cr (judged_on 70 CR) ≡ after_cr
  pub cr71 : counting_after after_cr (judged_on 71 CR) ≡ counts (on_day 43) (on_day 43) B.CR
  pub pr71 : counting_after after_cr (judged_on 71 PR) ≡ counts (on_day 43) None B.PR
  pub ne71 : counting_after after_cr (judged_on 71 NE) ≡ after_cr
  pub sd71 : counting_after after_cr (judged_on 71 SD) ≡ counts (on_day 43) None B.SD
  pub pd71 : counting_after after_cr (judged_on 71 PD) ≡ counts (on_day 43) None B.SD
  -- behind a PR of day 43, a CR of day 71 starts a run of its own
  pub cr_after_pr : counting_after (counts (on_day 43) None B.SD) (judged_on 71 CR)
      ≡ counts (on_day 43) (on_day 71) B.PR
  -- an NE leaves everything as it is: behind PR 43; PR 43 and CR 71; CR 43 and CR 71; PD 43
  pub ne_after_pr : counting_after (counts (on_day 43) None B.SD) (judged_on 99 NE) ≡ counts (on_day 43) None B.SD
  pub ne_after_prand_cr : counting_after (counts (on_day 43) (on_day 71) B.PR) (judged_on 99 NE)
      ≡ counts (on_day 43) (on_day 71) B.PR
  pub ne_after_two_cr : counting_after (counts (on_day 43) (on_day 43) B.CR) (judged_on 99 NE) ≡ counts (on_day 43) (on_day 43) B.CR
  pub ne_after_pd : counting_after (counts None None B.PD) (judged_on 99 NE) ≡ counts None None B.PD

-- the order of document 01: CR, PR, SD, PD, NE; the better of each with each, rows and columns in this order
abbrev pub responses : List BestResponse
responses = B.CR ∷ B.PR ∷ B.SD ∷ B.PD ∷ B.NE ∷ []

pub record BestInOrder : Type 0 where
  pub words : map best_from (CR ∷ PR ∷ SD ∷ PD ∷ NE ∷ []) ≡ responses
  pub cr : map (better_of B.CR) responses ≡ B.CR ∷ B.CR ∷ B.CR ∷ B.CR ∷ B.CR ∷ []
  pub pr : map (better_of B.PR) responses ≡ B.CR ∷ B.PR ∷ B.PR ∷ B.PR ∷ B.PR ∷ []
  pub sd : map (better_of B.SD) responses ≡ B.CR ∷ B.PR ∷ B.SD ∷ B.SD ∷ B.SD ∷ []
  pub pd : map (better_of B.PD) responses ≡ B.CR ∷ B.PR ∷ B.SD ∷ B.PD ∷ B.PD ∷ []
  pub ne : map (better_of B.NE) responses ≡ responses

-- what is held of a list of visits in the order recorded
abbrev pub start_of : List Judged → Day
start_of js = cr_start (reverse js)

abbrev pub events_of : List Judged → EventDays
events_of js = event_of (reverse js)

abbrev pub counts_of : List Judged → CountingVisits
counts_of js = counting_of (reverse js)

-- the first CR since which every visit was CR or NE
pub record StartsOfCR : Type 0 where
  pub no_visit : start_of [] ≡ none
  pub cr_cr : start_of (judged_on 43 CR ∷ judged_on 71 CR ∷ []) ≡ on 43
  pub cr_ne : start_of (judged_on 43 CR ∷ judged_on 71 NE ∷ []) ≡ on 43
  pub cr_necr : start_of (judged_on 43 CR ∷ judged_on 71 NE ∷ judged_on 99 CR ∷ []) ≡ on 43
  pub ne_cr : start_of (judged_on 43 NE ∷ judged_on 71 CR ∷ []) ≡ on 71
  pub pr_cr : start_of (judged_on 43 PR ∷ judged_on 71 CR ∷ []) ≡ on 71
  -- any other answer ends the run, and the next CR starts one
  pub ended : map (λ (w : Word). start_of (judged_on 43 CR ∷ judged_on 71 w ∷ [])) (PR ∷ SD ∷ PD ∷ []) ≡ none ∷ none ∷ none ∷ []
  pub cr_prcr : start_of (judged_on 43 CR ∷ judged_on 71 PR ∷ judged_on 99 CR ∷ []) ≡ on 99
  pub ended_before_ne : start_of (judged_on 43 CR ∷ judged_on 71 SD ∷ judged_on 99 NE ∷ []) ≡ none

-- progression is the first PD; v is the last visit recorded before it, evaluable or not, or day 1; and the last evaluable visit before it
pub record EventsOfVisits : Type 0 where
  pub no_visit : events_of [] ≡ no_events
  pub ne43 : events_of (judged_on 43 NE ∷ []) ≡ events None 43 None
  pub sd_ne : events_of (judged_on 43 SD ∷ judged_on 85 NE ∷ []) ≡ events None 85 (on_day 43)
  pub pd43 : events_of (judged_on 43 PD ∷ []) ≡ events (on_day 43) 1 None
  pub ne_pd : events_of (judged_on 43 NE ∷ judged_on 85 PD ∷ []) ≡ events (on_day 85) 43 None
  pub sd_nepd : events_of (judged_on 43 SD ∷ judged_on 85 NE ∷ judged_on 127 PD ∷ []) ≡ events (on_day 127) 85 (on_day 43)
  -- a visit behind the progression moves none of them
  pub sd_later : events_of (judged_on 43 SD ∷ judged_on 85 NE ∷ judged_on 127 PD ∷ judged_on 169 SD ∷ []) ≡ events (on_day 127) 85 (on_day 43)
  pub pd_later : events_of (judged_on 43 SD ∷ judged_on 85 NE ∷ judged_on 127 PD ∷ judged_on 169 PD ∷ []) ≡ events (on_day 127) 85 (on_day 43)

-- the first counting CR or PR, the start of the last run of CR, and the best response that the counting visits show
pub record CountsOfVisits : Type 0 where
  pub no_visit : counts_of [] ≡ no_counts
  pub cr_necr : counts_of (judged_on 43 CR ∷ judged_on 71 NE ∷ judged_on 99 CR ∷ []) ≡ counts (on_day 43) (on_day 43) B.CR
  pub cr_prcr : counts_of (judged_on 43 CR ∷ judged_on 71 PR ∷ judged_on 99 CR ∷ []) ≡ counts (on_day 43) (on_day 99) B.PR
  pub pr_crcr : counts_of (judged_on 43 PR ∷ judged_on 71 CR ∷ judged_on 99 CR ∷ []) ≡ counts (on_day 43) (on_day 71) B.CR
  pub sd_pr : counts_of (judged_on 43 SD ∷ judged_on 71 PR ∷ []) ≡ counts (on_day 71) None B.SD
  pub sd35 : counts_of (judged_on 35 SD ∷ []) ≡ no_counts
  pub cr_pd : counts_of (judged_on 43 CR ∷ judged_on 71 PD ∷ []) ≡ counts (on_day 43) None B.SD
  pub pd43 : counts_of (judged_on 43 PD ∷ []) ≡ counts None None B.PD

-- what is held after a baseline of 2020-01-01 and the records behind it, in the order recorded
abbrev pub held_after : Baseline → List StudyRecord → Subject
held_after b rs = summary (ymd 2020 1 1) b (reverse rs)

-- a subject with one target of 100 mm and no other disease, by nadir, latest day, therapy, death, and what visits left
abbrev pub one_target_with : ℕ → ℕ → Bool → Option StudyDay → EventDays → CountingVisits → Subject
one_target_with = subject_with (ymd 2020 1 1) false (record { assessed = true; count = 1; nodes = five_places false []; baselinesum = 1000 })

-- a subject with baseline missing, by the same
abbrev pub missing_with : ℕ → ℕ → Bool → Option StudyDay → EventDays → CountingVisits → Subject
missing_with = subject_with (ymd 2020 1 1) false (record { assessed = false; count = 0; nodes = five_places false []; baselinesum = 0 })

pub record HeldOfRecords : Type 0 where
  -- the printed example: after its baseline, its first visit, and its last
  pub opened : held_after with_node [] ≡ printed_opened
  pub after_visit43 : held_after with_node (visit43 ∷ []) ≡ printed_after_visit43
  pub progressed : held_after with_node (visit43 ∷ visit85 ∷ visit127 ∷ [])
      ≡ printed_with 90 127 false None (events (on_day 127) 85 (on_day 85)) (counts (on_day 43) None B.PR)
  -- CR 43, NE 71, CR 99
  pub complete : held_after one_target (measuring 43 0 ∷ unmeasured 71 ∷ measuring 99 0 ∷ [])
      ≡ one_target_with 0 99 false None (events None 99 (on_day 99)) (counts (on_day 43) (on_day 43) B.CR)
  -- PR 43, therapy 50, CR 85: the visit behind the therapy moves the nadir, v and the last evaluable visit, and does not count
  pub after_therapy : held_after one_target (measuring 43 600 ∷ therapy 50 ∷ measuring 85 0 ∷ [])
      ≡ one_target_with 0 85 true None (events None 85 (on_day 85)) (counts (on_day 43) None B.SD)
  -- a therapy behind a visit moves the latest day, and not v
  pub therapy_last : held_after one_target (measuring 43 900 ∷ therapy 50 ∷ [])
      ≡ one_target_with 900 50 true None (events None 43 (on_day 43)) (counts None None B.SD)
  -- so does a death
  pub dead : held_after one_target (measuring 43 900 ∷ unmeasured 85 ∷ death 100 ∷ [])
      ≡ one_target_with 900 100 false (on_day 100) (events None 85 (on_day 43)) (counts None None B.SD)
  pub dead_after_therapy : held_after one_target (therapy 50 ∷ death 100 ∷ []) ≡ one_target_with 1000 100 true (on_day 100) no_events no_counts
  -- PD 43, CR 85: the visit behind the progression moves the nadir and the latest day alone
  pub after_progression : held_after one_target (measuring 43 2000 ∷ measuring 85 0 ∷ [])
      ≡ one_target_with 0 85 false None (events (on_day 43) 1 None) (counts None None B.PD)
  -- baseline missing: a visit is NE, new lesion or not
  pub without_baseline : held_after missing (visit_on 43 S.NA true [] ∷ [])
      ≡ missing_with 0 43 false None (events None 43 None) no_counts
