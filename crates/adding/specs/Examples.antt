-- Document 01, "Where a call stops", 1 to 5 and 8 to 12, "Outcome" and "Visit responses": the numbers of the cases, which refusal comes first, the subject
-- after one record more and the responses at a visit. Proved in proofs/WorkedExamples.antt.
-- Assumes nothing.
use Rattle.std.specs.Prelude.{◌≡◌, true, false, List, [], ◌∷◌, map, ℕ, Some, None, Ok, Err}
use Rattle.dates.specs.Laws.{ymd}
use Rattle.records.specs.Examples.{visit_dated, therapy_dated, death_dated}
use Rattle.codec.specs.Examples.{thirteen, printed_bytes, printed_visit_bytes}
use Rattle.records.specs.declared.Record.{Record}
use Rattle.laws.specs.Refusals.{first}
use Rattle.records.specs.declared.OwnRefusal.TheVariants as N
use Rattle.records.specs.declared.Status.TheVariants as S
use Rattle.response_rules.specs.Words.{CR, PR, PD, NE, NA, NN}
use Rattle.response_rules.specs.Change.{none, signed}
use Rattle.response_rules.specs.declared.TargetAnswer.TheVariants as T
use Rattle.response_rules.specs.declared.OverallAnswer.TheVariants as O
use Rattle.response_rules.specs.declared.Change.TheVariants as C
use Rattle.outcome_rules.specs.declared.BestResponse.TheVariants as B
use Rattle.outcome_rules.specs.AddingExamples.{printed_baseline, printed_visit43}
use Rattle.subject.specs.declared.Subject.{Subject}
use Rattle.subject.specs.declared.CountingVisits.{CountingVisits}
use Rattle.subject.specs.HeldExamples.{day, on_day, events, counts, no_events, no_counts, disease, subject_with, printed_with, printed_opened, printed_after_visit43}
use Rattle.adding.specs.Responses.{add_responses}
use Rattle.adding.specs.Refusals.{add_number}
use Rattle.adding.specs.Promises.{refusals_of_record_held, responses_held, added_held, responses_by, subject_by, refusal_of_adding_held, refusal_of_adding_bytes_held}
use Rattle.adding.specs.Refusals.{AddAnswer}
use Rattle.adding.specs.declared.AddRefusal.TheVariants as A
use Rattle.adding.specs.declared.VisitResponse.{VisitResponse}

-- the responses at a visit of day 85
abbrev pub responses85 : VisitResponse
responses85 = record { day = day 85; target = T.CR; nontarget = S.NN; overall = O.PR; change = Some (C.Decrease 850) }

abbrev pub cases : List AddAnswer
cases =
    Ok None ∷ Ok (Some responses85) ∷ Err A.WrongLength ∷ Err A.NoSuchKind ∷ Err (A.Own N.NotZero) ∷ Err A.SecondBaseline ∷ Err A.AfterDeath
    ∷ Err A.TooEarly ∷ Err A.Misfit ∷ Err A.OutOfRange ∷ []

pub record NumbersOfCases : Type 0 where
  -- 1 and 2; the record's own number, here 5; 8 a baseline; 9 after a death; 10 day too early; 11 visit doesn't fit baseline; 12
  pub additions : map add_number cases ≡ 0 ∷ 0 ∷ 1 ∷ 2 ∷ 5 ∷ 8 ∷ 9 ∷ 10 ∷ 11 ∷ 12 ∷ []
  -- study day, target, non-target, overall, change; no other record has them, and a refusal carries its number and nothing else
  pub responses : map add_responses cases
      ≡ [] ∷ (record { day = 85; target = CR; nontarget = NN; overall = PR; change = signed true 850 } ∷ [])
      ∷ [] ∷ [] ∷ [] ∷ [] ∷ [] ∷ [] ∷ [] ∷ [] ∷ []

-- after the printed baseline and its visit of day 43: a therapy of day 50; a death of day 50; and with a progression of day 43
abbrev pub response43 : CountingVisits
response43 = counts (on_day 43) None B.SD

abbrev pub after_therapy50 : Subject
after_therapy50 = printed_with 360 50 true None (events None 43 (on_day 43)) response43

abbrev pub after_death50 : Subject
after_death50 = printed_with 360 50 false (on_day 50) (events None 43 (on_day 43)) response43

abbrev pub progressed : Subject
progressed = printed_with 360 43 false None (events (on_day 43) 1 None) (counts None None B.PD)

-- after a baseline without non-target disease, and after a missing one
abbrev pub without_nontarget : Subject
without_nontarget = subject_with (ymd 2020 1 1) false (disease true 2 600) 600 1 false None no_events no_counts

abbrev pub baseline_missing : Subject
baseline_missing = subject_with (ymd 2020 1 1) false (disease false 0 0) 0 1 false None no_events no_counts

-- 2020-03-25, which is day 85: 24.0 and 12.0 mm, NN
abbrev pub visit85 : Record
visit85 = visit_dated (ymd 2020 3 25) S.NN false (true ∷ true ∷ []) (240 ∷ 120 ∷ [])

pub record FirstRefusals : Type 0 where
  -- a visit later than the latest day that fits the baseline
  pub fitting : first (refusals_of_record_held printed_opened printed_visit43) ≡ 0
  -- 8 before 9, 9 before 10
  pub second_baseline : first (refusals_of_record_held after_death50 (printed_baseline (ymd 2020 2 12))) ≡ 8
  pub after_death : first (refusals_of_record_held after_death50 (therapy_dated (ymd 2020 2 1))) ≡ 9
  -- 10: a visit on the latest day, a therapy and a death before it; not on it
  pub visit_on_latest : first (refusals_of_record_held printed_after_visit43 printed_visit43) ≡ 10
  pub therapy_before : first (refusals_of_record_held printed_after_visit43 (therapy_dated (ymd 2020 2 11))) ≡ 10
  pub therapy_on_latest : first (refusals_of_record_held printed_after_visit43 (therapy_dated (ymd 2020 2 12))) ≡ 0
  pub death_before : first (refusals_of_record_held printed_after_visit43 (death_dated (ymd 2020 2 11))) ≡ 10
  pub death_on_latest : first (refusals_of_record_held printed_after_visit43 (death_dated (ymd 2020 2 12))) ≡ 0
  pub before_randomisation : first (refusals_of_record_held printed_opened (therapy_dated (ymd 2019 12 31))) ≡ 10
  -- 10 before 11
  pub misfit_on_latest : first (refusals_of_record_held printed_after_visit43 (visit_dated (ymd 2020 2 12) S.NA false [] [])) ≡ 10
  pub status_na : first (refusals_of_record_held printed_opened (visit_dated (ymd 2020 2 12) S.NA false [] [])) ≡ 11
  pub status_without_lesions : first (refusals_of_record_held without_nontarget printed_visit43) ≡ 11
  pub beyond_count : first (refusals_of_record_held printed_opened (visit_dated (ymd 2020 2 12) S.NN false (false ∷ false ∷ true ∷ []) [])) ≡ 11

pub record AddedAtTheEdges : Type 0 where
  -- the nadir, v, the last evaluable visit and the first counting response move with a visit; a therapy and a death are recorded
  pub visit : added_held printed_opened printed_visit43 ≡ printed_after_visit43
  pub therapy : added_held printed_after_visit43 (therapy_dated (ymd 2020 2 19)) ≡ after_therapy50
  pub death : added_held printed_after_visit43 (death_dated (ymd 2020 2 19)) ≡ after_death50
  -- after a therapy v and the last evaluable visit move, and no visit counts
  pub after_therapy : added_held after_therapy50 visit85 ≡ printed_with 360 85 true None (events None 85 (on_day 85)) response43
  -- after a progression the latest day alone moves
  pub after_progression : added_held progressed visit85
      ≡ printed_with 360 85 false None (events (on_day 43) 1 None) (counts None None B.PD)
  -- a therapy stays recorded behind it
  pub death_after_therapy : added_held after_therapy50 (death_dated (ymd 2020 2 19)) ≡ printed_with 360 50 true (on_day 50) (events None 43 (on_day 43)) response43

pub record LinesAtTheEdges : Type 0 where
  -- V 43 PR NN PR -40.0; therapy and death print no line of their own
  pub visit : responses_held printed_opened printed_visit43 ≡ record { day = 43; target = PR; nontarget = NN; overall = PR; change = signed true 400 } ∷ []
  pub therapy : responses_held printed_after_visit43 (therapy_dated (ymd 2020 2 19)) ≡ []
  pub death : responses_held printed_after_visit43 (death_dated (ymd 2020 2 19)) ≡ []
  -- behind a progression too: V 85 PR NN PR -40.0
  pub after_progression : responses_held progressed visit85 ≡ record { day = 85; target = PR; nontarget = NN; overall = PR; change = signed true 400 } ∷ []
  -- baseline missing: NE, new lesion or not
  pub missing : responses_held baseline_missing (visit_dated (ymd 2020 2 12) S.NA true [] [])
      ≡ record { day = 43; target = NA; nontarget = NA; overall = NE; change = none } ∷ []
  -- a new lesion gives PD: V 85 PR NE PD -40.0
  pub new_lesion : responses_held printed_after_visit43 (visit_dated (ymd 2020 3 25) S.NE true (true ∷ true ∷ []) (240 ∷ 120 ∷ []))
      ≡ record { day = 85; target = PR; nontarget = NE; overall = PD; change = signed true 400 } ∷ []
  -- a node of 9.9 mm is normal, one of 10.0 is not: V 43 CR CR CR -83.5, V 43 PR CR PR -83.3
  pub node99 : responses_held printed_opened (visit_dated (ymd 2020 2 12) S.CR false (true ∷ true ∷ []) (0 ∷ 99 ∷ []))
      ≡ record { day = 43; target = CR; nontarget = CR; overall = CR; change = signed true 835 } ∷ []
  pub node100 : responses_held printed_opened (visit_dated (ymd 2020 2 12) S.CR false (true ∷ true ∷ []) (0 ∷ 100 ∷ []))
      ≡ record { day = 43; target = PR; nontarget = CR; overall = PR; change = signed true 833 } ∷ []

-- a subject out of range by its latest day
abbrev pub outside : Subject
outside = printed_with 600 0 false None no_events no_counts

-- by value: 12, then 3 to 5, then 8 to 11
pub record OrderByValue : Type 0 where
  pub outside_first : refusal_of_adding_held outside (therapy_dated (ymd 2021 2 29)) ≡ 12
  pub date_before_baseline : refusal_of_adding_held printed_opened (printed_baseline (ymd 2021 2 29)) ≡ 3
  pub second_baseline : refusal_of_adding_held printed_opened (printed_baseline (ymd 2020 2 12)) ≡ 8
  pub visit : refusal_of_adding_held printed_opened printed_visit43 ≡ 0
  -- sizes of 500.0 and of 500.1 mm
  pub sizes : map (λ (n : ℕ). refusal_of_adding_held printed_opened (visit_dated (ymd 2020 2 12) S.NN false (true ∷ []) (n ∷ []))) (5000 ∷ 5001 ∷ []) ≡ 0 ∷ 4 ∷ []

-- from bytes: 12, then 1 and 2, then 3 to 5, then 8 to 11
pub record OrderFromBytes : Type 0 where
  -- no bytes, with a subject out of range and in range
  pub outside_first : refusal_of_adding_bytes_held outside [] ≡ 12
  pub outside_therapy : refusal_of_adding_bytes_held outside (thirteen (0x6F ∷ 0xCA ∷ 0x5D ∷ [])) ≡ 12
  pub short : refusal_of_adding_bytes_held printed_opened [] ≡ 1
  pub no_kind : refusal_of_adding_bytes_held printed_opened (thirteen []) ≡ 2
  -- a therapy of 2021-02-29; a baseline with its last spare bit set; the printed baseline a second time
  pub no_date : refusal_of_adding_bytes_held printed_opened (thirteen (0x6F ∷ 0xCA ∷ 0x5D ∷ [])) ≡ 3
  pub spare_before_baseline : refusal_of_adding_bytes_held printed_opened (0x2F ∷ 0xC8 ∷ 0x21 ∷ 0xD0 ∷ 0x32 ∷ 0x10 ∷ 0x64 ∷ 0x00 ∷ 0x00 ∷ 0x00 ∷ 0x00 ∷ 0x00 ∷ 0x01 ∷ []) ≡ 5
  pub second_baseline : refusal_of_adding_bytes_held printed_opened printed_bytes ≡ 8
  -- the printed visit, and a second time on its day
  pub visit : refusal_of_adding_bytes_held printed_opened printed_visit_bytes ≡ 0
  pub visit_again : refusal_of_adding_bytes_held printed_after_visit43 printed_visit_bytes ≡ 10

-- what stands beside a number: the responses and the next subject, or nothing and the same subject
pub record BesideNumbers : Type 0 where
  pub done : responses_by printed_opened printed_visit43 0 ≡ record { day = 43; target = PR; nontarget = NN; overall = PR; change = signed true 400 } ∷ []
  pub next : subject_by printed_opened printed_visit43 0 ≡ printed_after_visit43
  pub refused : responses_by printed_opened printed_visit43 10 ≡ []
  pub same : subject_by printed_opened printed_visit43 10 ≡ printed_opened
