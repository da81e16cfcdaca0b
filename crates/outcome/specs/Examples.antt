-- Document 01, "Where a call stops", 12 before 3 to 5 before 8 to 11, and "Outcome" and "Settled" read from a held subject; the replies of a list of
-- calls, and the values of the declared cases. Proved in proofs/WorkedExamples.antt.
-- Assumes nothing.
use Rattle.std.specs.Prelude.{◌≡◌, Bool, true, false, List, [], ◌∷◌, ℕ, Option, Some, None, Ok, Err}
use Rattle.dates.specs.Laws.{ymd}
use Rattle.dates.specs.declared.StudyDay.{StudyDay}
use Rattle.records.specs.Examples.{visit_dated, therapy_dated}
use Rattle.records.specs.declared.Record.{Record}
use Rattle.records.specs.declared.Status.TheVariants as S
use Rattle.response_rules.specs.Words.{Word, CR, PR, SD, PD, NE, NN}
use Rattle.response_rules.specs.Change.{Tenths, signed}
use Rattle.outcome_rules.specs.declared.BestResponse.TheVariants as B
use Rattle.outcome_rules.specs.declared.PfsStatus.TheVariants as E
use Rattle.outcome_rules.specs.Values.{Pfs, Duration, Outcome, CENSORED, EVENT, event, censored, no_duration, for_days}
use Rattle.outcome_rules.specs.VisitLines.{VisitLine}
use Rattle.outcome_rules.specs.Adding.{add, read}
use Rattle.outcome_rules.specs.AddingExamples.{printed_baseline, printed_visit43}
use Rattle.subject.specs.declared.EventDays.{EventDays}
use Rattle.subject.specs.declared.CountingVisits.{CountingVisits}
use Rattle.subject.specs.declared.Subject.{Subject}
use Rattle.subject.specs.HeldExamples.{day, on_day, events, counts, no_events, no_counts, disease, subject_with, printed_opened, printed_after_visit43}
use Rattle.subject.specs.Opening.{blank_subject}
use Rattle.adding.specs.Promises.{subject_by, refusal_of_adding_held}
use Rattle.adding.specs.Examples.{after_therapy50, after_death50}
use Rattle.outcome.specs.ReadingOutcome.{Reading, refused, outcome, reading_values, reading_of}
use Rattle.outcome.specs.Demand3.{added, outcome_read, replies}
use Rattle.outcome.specs.declared.OutcomeResult.{OutcomeResult}

abbrev pub after : Subject → Record → Subject
after s r = subject_by s r (refusal_of_adding_held s r)

pub record FirstRefusals : Type 0 where
  -- 12 before the record's own, and these before 8 to 11
  pub out_of_range : refusal_of_adding_held blank_subject (printed_baseline (ymd 2021 2 29)) ≡ 12
  pub without_date : refusal_of_adding_held printed_opened (printed_baseline (ymd 2021 2 29)) ≡ 3
  pub size_unmeasured : refusal_of_adding_held printed_opened (visit_dated (ymd 2020 1 1) S.NN false [] (120 ∷ [])) ≡ 5
  pub second_baseline : refusal_of_adding_held printed_opened (printed_baseline (ymd 2020 1 1)) ≡ 8
  pub fitting : refusal_of_adding_held printed_opened printed_visit43 ≡ 0
  -- the subject keeps every value where a refusal meets
  pub kept_early : after printed_after_visit43 (therapy_dated (ymd 2020 2 11)) ≡ printed_after_visit43
  pub kept_unmeasured : after printed_after_visit43 (visit_dated (ymd 2020 3 25) S.NN false [] (120 ∷ [])) ≡ printed_after_visit43
  pub kept_out_of_range : after blank_subject (therapy_dated (ymd 2020 2 11)) ≡ blank_subject
  pub next : after printed_opened printed_visit43 ≡ printed_after_visit43
  -- reading meets 12 only
  pub read_out_of_range : reading_of blank_subject ≡ refused 12

-- a baseline with non-target disease alone, or a missing one, by latest day, therapy, death, and what visits left
abbrev pub held_with : Bool → ℕ → Bool → Option StudyDay → EventDays → CountingVisits → Subject
held_with assessed = subject_with (ymd 2020 1 1) assessed (disease assessed 0 0) 0

-- PFS, best response, duration, and the marks of the three
abbrev pub reads : Pfs → Word → Duration → Bool → Bool → Bool → Reading
reads pfs best duration pfs_settled best_settled duration_settled =
    outcome
    (record { pfs = pfs; best = best; duration = duration; pfs_settled = pfs_settled; best_settled = best_settled; duration_settled = duration_settled })

pub record ReadAtTheEdges : Type 0 where
  -- neither progression nor death, no visit: censored day 1; nothing is settled
  pub opened : reading_of printed_opened ≡ reads (censored 1) NE no_duration false false false
  -- PR 43, therapy 50: S 0 1 1; PR 43, death 50: S 1 1 1
  pub after_therapy : reading_of after_therapy50 ≡ reads (censored 43) SD no_duration false true true
  pub after_death : reading_of after_death50 ≡ reads (event 50) SD no_duration true true true
  -- PR 43, PR 85, therapy 90: S 0 1 0
  pub responded : reading_of (held_with true 90 true None (events None 85 (on_day 85)) (counts (on_day 43) None B.PR))
      ≡ reads (censored 85) PR (for_days CENSORED 43) false true false
  -- SD 127: nothing is settled, though it is later than day 93
  pub late : reading_of (held_with true 127 false None (events None 127 (on_day 127)) (counts None None B.SD))
      ≡ reads (censored 127) SD no_duration false false false
  -- CR 43, CR 71: S 0 1 0
  pub complete : reading_of (held_with true 71 false None (events None 71 (on_day 71)) (counts (on_day 43) (on_day 43) B.CR))
      ≡ reads (censored 71) CR (for_days CENSORED 29) false true false
  -- PD 30: best is PD
  pub progressed : reading_of (held_with true 30 false None (events (on_day 30) 1 None) (counts None None B.PD))
      ≡ reads (event 30) PD no_duration true true true
  -- PR 43, PR 85, PD 127 as in the printed example, P EVENT 127, B PR, D EVENT 85, S 1 1 1, and a death of day 130 behind them
  pub printed : reading_of
      (held_with true 130 false (on_day 130) (events (on_day 127) 85 (on_day 85)) (counts (on_day 43) None B.PR))
      ≡ reads (event 127) PR (for_days EVENT 85) true true true
  -- baseline missing: alone; a visit of day 43 and death 50; a therapy of day 92, and one of day 93
  pub missing_alone : reading_of (held_with false 1 false None no_events no_counts)
      ≡ reads (censored 1) NE no_duration false true true
  pub missing_death : reading_of (held_with false 50 false (on_day 50) (events None 43 None) no_counts)
      ≡ reads (event 50) NE no_duration true true true
  pub missing92 : reading_of (held_with false 92 true None no_events no_counts)
      ≡ reads (censored 1) NE no_duration false true true
  pub missing93 : reading_of (held_with false 93 true None no_events no_counts)
      ≡ reads (censored 1) NE no_duration true true true
  -- NE 43 and death 120, after the early-death limit
  pub late_death : reading_of (held_with true 120 false (on_day 120) (events None 43 None) no_counts)
      ≡ reads (censored 1) NE no_duration true true true

-- a visit of 2020 with a target and a node, both measured, and non-target disease gone
abbrev pub measures : ℕ → ℕ → ℕ → ℕ → Record
measures month day target node = visit_dated (ymd 2020 month day) S.CR false (true ∷ true ∷ []) (target ∷ node ∷ [])

-- the responses at such a visit
abbrev pub line : ℕ → Word → Word → Tenths → List VisitLine
line day target overall change = record { day = day; target = target; nontarget = CR; overall = overall; change = change } ∷ []

-- the replies of a list of calls on the printed baseline: the visit of day 43 added, with its responses, read, added again (10), and a therapy on its day
pub record RepliesAtTheEdges : Type 0 where
  pub replied : replies (printed_baseline (ymd 2020 1 1)) (add printed_visit43 ∷ read ∷ add printed_visit43 ∷ add (therapy_dated (ymd 2020 2 12)) ∷ read ∷ [])
      ≡ added 0 (record { day = 43; target = PR; nontarget = NN; overall = PR; change = signed true 400 } ∷ [])
      ∷ outcome_read (reads (censored 43) SD no_duration false false false)
      ∷ added 10 []
      ∷ added 0 []
      ∷ outcome_read (reads (censored 43) SD no_duration false true true)
      ∷ []
  -- in tenths: 500.1 mm is refused; a node of 9.9 mm is normal; 14.9 mm is 5.0 mm above the nadir; 500.0 mm is accepted, and the next record is on its day
  pub tenths : replies (printed_baseline (ymd 2020 1 1))
      (add (measures 2 12 5001 99) ∷ add (measures 2 12 0 99) ∷ add (measures 3 25 0 99) ∷ read ∷ add (measures 5 6 0 149) ∷ read
      ∷ add (measures 6 17 5000 99) ∷ add (measures 6 17 0 99) ∷ [])
      ≡ added 4 []
      ∷ added 0 (line 43 CR CR (signed true 835))
      ∷ added 0 (line 85 CR CR (signed true 835))
      ∷ outcome_read (reads (censored 85) CR (for_days CENSORED 43) false true false)
      ∷ added 0 (line 127 PD PD (signed true 752))
      ∷ outcome_read (reads (event 127) CR (for_days EVENT 85) true true true)
      ∷ added 0 (line 169 PD PD (signed false 7498))
      ∷ added 10 []
      ∷ []

-- CENSORED 85, PR, CENSORED 43, with these marks of PFS, best and duration
abbrev pub result : Bool → Bool → Bool → OutcomeResult
result pfs best duration =
    record {
      pfs = record { status = E.Censored; day = day 85 };
      best = B.PR;
      duration = Some (record { status = E.Censored; days = 43 });
      settled = record { pfs = pfs; best = best; duration = duration };
    }

abbrev pub values : Bool → Bool → Bool → Outcome
values pfs best duration =
    record { pfs = censored 85; best = PR; duration = for_days CENSORED 43; pfs_settled = pfs; best_settled = best; duration_settled = duration }

-- 12, or PFS, best response and duration with the mark of each
pub record ValuesOfCases : Type 0 where
  pub out_of_range : reading_values (Err (record {})) ≡ refused 12
  pub pfs_settled : reading_values (Ok (result true false false)) ≡ outcome (values true false false)
  pub best_settled : reading_values (Ok (result false true false)) ≡ outcome (values false true false)
  pub duration_settled : reading_values (Ok (result false false true)) ≡ outcome (values false false true)
