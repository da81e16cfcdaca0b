-- Document 01, "Dates and records", "Where a call stops" and "Settled": lists that are not lawful, records with dates on their study days, which refusal
-- of opening and adding comes first, what an addition replies of a visit, and what a list of calls accepts; proved in proofs/AtTheEdges.antt.
-- Assumes nothing.
use Rattle.std.specs.Prelude.{◌≡◌, Bool, true, false, List, [], ◌∷◌, map}
use Rattle.dates.specs.declared.Date.{Date}
use Rattle.dates.specs.Laws.{ymd}
use Rattle.records.specs.declared.Status.{Status}
use Rattle.records.specs.declared.Status.TheVariants as S
use Rattle.records.specs.declared.Record.{Record}
use Rattle.records.specs.Examples.{five_places, baseline_dated, visit_dated, therapy_dated, death_dated}
use Rattle.records.specs.Forms.{new_unit, old_unit}
use Rattle.response_rules.specs.Words.{CR, PR, PD, NN}
use Rattle.response_rules.specs.Change.{signed}
use Rattle.outcome_rules.specs.StudyRecords.{Baseline, StudyRecord, baseline, visit, therapy, death, on_study_days}
use Rattle.outcome_rules.specs.LawfulLists.{lawful}
use Rattle.outcome_rules.specs.VisitLines.{VisitLine}
use Rattle.outcome_rules.specs.StarredExamples.{with_targets, one_target, with_node, visit_on, measuring}
use Rattle.outcome_rules.specs.Tenfold.{tenfold_baseline, tenfold_record}
use Rattle.outcome_rules.specs.Adding.{refusal_of_opening, refusal_of_adding, responses_of_adding, add, read, accepted}

abbrev pub behind_one_target : List StudyRecord → Bool
behind_one_target rs = lawful (baseline one_target ∷ rs)

-- four targets of 20 mm and no other disease
abbrev pub four_targets : Baseline
four_targets = with_targets false [] (200 ∷ 200 ∷ 200 ∷ 200 ∷ [])

-- the first and the third target measured
abbrev pub third_measured : StudyRecord
third_measured =
    visit 43
    (record { status = S.NA; new_lesion = false; measured = five_places false (true ∷ false ∷ true ∷ []); sizes = five_places 0 (900 ∷ []) })

pub record Unlawful : Type 0 where
  -- it opens with a baseline, has no other, has nothing after a death
  pub nothing : lawful [] ≡ false
  pub visit_first : lawful (measuring 43 900 ∷ []) ≡ false
  pub therapy_first : lawful (therapy 43 ∷ []) ≡ false
  pub death_first : lawful (death 43 ∷ []) ≡ false
  pub second_baseline : behind_one_target (baseline one_target ∷ []) ≡ false
  pub after_death : behind_one_target (death 43 ∷ therapy 43 ∷ []) ≡ false
  -- each therapy or death is on or after the latest day so far, each visit later; the latest day starts at 1
  pub early_therapy : behind_one_target (measuring 43 900 ∷ therapy 42 ∷ []) ≡ false
  pub early_death : behind_one_target (measuring 43 900 ∷ death 42 ∷ []) ≡ false
  pub visit_on_latest : behind_one_target (therapy 43 ∷ measuring 43 900 ∷ []) ≡ false
  pub visit_on_earlier_latest : behind_one_target (therapy 43 ∷ measuring 43 900 ∷ measuring 85 900 ∷ []) ≡ false
  pub visit_on_day1 : behind_one_target (measuring 1 900 ∷ []) ≡ false
  -- targets beyond the count unmeasured, whichever of them
  pub beyond_count : behind_one_target (visit_on 43 S.NA false (0 ∷ 0 ∷ []) ∷ []) ≡ false
  pub third_beyond_count : behind_one_target (third_measured ∷ []) ≡ false
  pub fifth_beyond_count : lawful (baseline four_targets ∷ visit_on 43 S.NA false (200 ∷ 200 ∷ 200 ∷ 200 ∷ 200 ∷ []) ∷ []) ≡ false
  pub status_without_lesions : behind_one_target (visit_on 43 S.CR false (900 ∷ []) ∷ []) ≡ false
  pub lesions_without_status : lawful (baseline with_node ∷ visit_on 43 S.NA false (0 ∷ 0 ∷ []) ∷ []) ≡ false

-- status 0 exactly when no non-target lesions were recorded: which of NA, CR, NN, PD and NE fit
abbrev pub fitting : Baseline → List Bool
fitting b = map (λ (s : Status). lawful (baseline b ∷ visit_on 43 s false [] ∷ [])) (S.NA ∷ S.CR ∷ S.NN ∷ S.PD ∷ S.NE ∷ [])

pub record FittingStatuses : Type 0 where
  pub with_lesions : fitting with_node ≡ false ∷ true ∷ true ∷ true ∷ true ∷ []
  pub without_lesions : fitting one_target ≡ true ∷ false ∷ false ∷ false ∷ false ∷ []

-- the baseline and the first visit of the printed example
abbrev pub printed_baseline : Date → Record
printed_baseline d = baseline_dated d true true 2 (false ∷ true ∷ []) (400 ∷ 200 ∷ [])

abbrev pub printed_opening : Record
printed_opening = printed_baseline (ymd 2020 1 1)

abbrev pub printed_visit43 : Record
printed_visit43 = visit_dated (ymd 2020 2 12) S.NN false (true ∷ true ∷ []) (240 ∷ 120 ∷ [])

-- days 1, 43, 85 and 127 of the printed example, with a record of each kind
pub record OnStudyDays : Type 0 where
  pub each_kind : on_study_days new_unit
      (printed_opening
      ∷ printed_visit43
      ∷ visit_dated (ymd 2020 3 25) S.PD true (true ∷ []) (240 ∷ [])
      ∷ therapy_dated (ymd 2020 3 25)
      ∷ death_dated (ymd 2020 5 6)
      ∷ [])
      ≡ baseline with_node ∷ visit_on 43 S.NN false (240 ∷ 120 ∷ []) ∷ visit_on 85 S.PD true (240 ∷ []) ∷ therapy 85 ∷ death 127 ∷ []
  pub without_lesions : on_study_days new_unit (baseline_dated (ymd 2020 1 1) true false 1 [] (1000 ∷ []) ∷ []) ≡ baseline one_target ∷ []

-- records of the old form, one unit a millimetre, with each size times ten
pub record TimesTen : Type 0 where
  pub each_kind : map tenfold_record
      (baseline (record { unit = old_unit; assessed = true; nontarget = true; count = 2; nodes = five_places false (false ∷ true ∷ []); sizes = five_places 0 (40 ∷ 20 ∷ []) })
      ∷ visit_on 43 S.NN true (24 ∷ 12 ∷ [])
      ∷ therapy 85
      ∷ death 127
      ∷ [])
      ≡ baseline with_node ∷ visit_on 43 S.NN true (240 ∷ 120 ∷ []) ∷ therapy 85 ∷ death 127 ∷ []
  -- at any unit, here 2 and 20 units a millimetre
  pub any_unit : tenfold_baseline (record { unit = 2; assessed = true; nontarget = false; count = 1; nodes = five_places false []; sizes = five_places 0 (40 ∷ []) })
      ≡ record { unit = 20; assessed = true; nontarget = false; count = 1; nodes = five_places false []; sizes = five_places 0 (400 ∷ []) }

pub record FirstRefusals : Type 0 where
  -- opening: 3 to 5, then 7
  pub opens : refusal_of_opening new_unit printed_opening ≡ 0
  pub opens_missing : refusal_of_opening new_unit (baseline_dated (ymd 2020 1 1) false false 0 [] []) ≡ 0
  pub opens_without_date : refusal_of_opening new_unit (visit_dated (ymd 2021 2 29) S.NN false (true ∷ []) (5001 ∷ [])) ≡ 3
  pub opens_with_large_visit : refusal_of_opening new_unit (visit_dated (ymd 2020 2 12) S.NN false (true ∷ []) (5001 ∷ [])) ≡ 4
  pub opens_without_disease : refusal_of_opening new_unit (baseline_dated (ymd 2020 1 1) true false 0 [] []) ≡ 4
  pub opens_missing_with_count : refusal_of_opening new_unit (baseline_dated (ymd 2020 1 1) false false 1 [] []) ≡ 5
  pub opens_with_visit : refusal_of_opening new_unit printed_visit43 ≡ 7
  pub opens_with_therapy : refusal_of_opening new_unit (therapy_dated (ymd 2020 1 1)) ≡ 7
  -- adding: the record's own first
  pub without_date : refusal_of_adding new_unit (printed_opening ∷ []) (printed_baseline (ymd 2021 2 29)) ≡ 3
  pub large_size : refusal_of_adding new_unit (printed_opening ∷ []) (visit_dated (ymd 2020 1 1) S.NN false (true ∷ []) (5001 ∷ [])) ≡ 4
  pub size_unmeasured : refusal_of_adding new_unit (printed_opening ∷ []) (visit_dated (ymd 2020 1 1) S.NN false [] (120 ∷ [])) ≡ 5
  -- 8 before 9
  pub second_baseline : refusal_of_adding new_unit (printed_opening ∷ death_dated (ymd 2020 3 1) ∷ []) (printed_baseline (ymd 2020 2 12)) ≡ 8
  -- 9 before 10
  pub after_death : refusal_of_adding new_unit (printed_opening ∷ death_dated (ymd 2020 3 1) ∷ []) (therapy_dated (ymd 2020 2 1)) ≡ 9
  -- 10: before randomisation, on day 1, and on the latest day
  pub day_before : refusal_of_adding new_unit (printed_opening ∷ []) (therapy_dated (ymd 2019 12 31)) ≡ 10
  pub therapy_on_day1 : refusal_of_adding new_unit (printed_opening ∷ []) (therapy_dated (ymd 2020 1 1)) ≡ 0
  pub visit_on_day1 : refusal_of_adding new_unit (printed_opening ∷ []) (visit_dated (ymd 2020 1 1) S.NN false [] []) ≡ 10
  pub therapy_on_latest : refusal_of_adding new_unit (printed_opening ∷ printed_visit43 ∷ []) (therapy_dated (ymd 2020 2 12)) ≡ 0
  pub death_on_latest : refusal_of_adding new_unit (printed_opening ∷ printed_visit43 ∷ []) (death_dated (ymd 2020 2 12)) ≡ 0
  pub death_before_latest : refusal_of_adding new_unit (printed_opening ∷ printed_visit43 ∷ []) (death_dated (ymd 2020 2 11)) ≡ 10
  pub visit_on_latest : refusal_of_adding new_unit (printed_opening ∷ printed_visit43 ∷ []) printed_visit43 ≡ 10
  -- 10 before 11
  pub misfit_on_latest : refusal_of_adding new_unit (printed_opening ∷ printed_visit43 ∷ []) (visit_dated (ymd 2020 2 12) S.NA false [] []) ≡ 10
  pub status_na : refusal_of_adding new_unit (printed_opening ∷ []) (visit_dated (ymd 2020 2 12) S.NA false [] []) ≡ 11
  pub beyond_count : refusal_of_adding new_unit (printed_opening ∷ []) (visit_dated (ymd 2020 2 12) S.NN false (false ∷ false ∷ true ∷ []) []) ≡ 11
  pub fitting : refusal_of_adding new_unit (printed_opening ∷ []) printed_visit43 ≡ 0
  -- neither a therapy nor a progression, here by a new lesion, ends adding
  pub after_therapy : refusal_of_adding new_unit (printed_opening ∷ therapy_dated (ymd 2020 2 1) ∷ []) printed_visit43 ≡ 0
  pub after_progression : refusal_of_adding new_unit (printed_opening ∷ visit_dated (ymd 2020 2 1) S.NN true [] [] ∷ []) printed_visit43 ≡ 0
  -- a refused addition and a reading leave the accepted records as they are
  pub calls : accepted new_unit printed_opening (add (therapy_dated (ymd 2019 12 31)) ∷ read ∷ add printed_visit43 ∷ add printed_visit43 ∷ []) ≡ printed_opening ∷ printed_visit43 ∷ []

-- the second and the third visit of the printed example
abbrev pub printed_visit85 : Record
printed_visit85 = visit_dated (ymd 2020 3 25) S.NN false (true ∷ true ∷ []) (0 ∷ 90 ∷ [])

abbrev pub printed_visit127 : Record
printed_visit127 = visit_dated (ymd 2020 5 6) S.NN false (true ∷ true ∷ []) (0 ∷ 150 ∷ [])

-- V 43 PR NN PR -40.0
abbrev pub printed_line : VisitLine
printed_line = record { day = 43; target = PR; nontarget = NN; overall = PR; change = signed true 400 }

-- where a visit is added, its study day, target, non-target and overall answer and change; for other records, and beside a refusal, nothing
pub record RepliedOfVisits : Type 0 where
  pub visit : responses_of_adding new_unit (printed_opening ∷ []) printed_visit43 ≡ printed_line ∷ []
  -- behind a therapy, and behind a progression, here by a new lesion, too
  pub after_therapy : responses_of_adding new_unit (printed_opening ∷ therapy_dated (ymd 2020 2 1) ∷ []) printed_visit43 ≡ printed_line ∷ []
  pub after_progression : responses_of_adding new_unit (printed_opening ∷ visit_dated (ymd 2020 2 1) S.NN true [] [] ∷ []) printed_visit43 ≡ printed_line ∷ []
  -- those of the visit that is added, and not of the one before
  pub second : responses_of_adding new_unit (printed_opening ∷ printed_visit43 ∷ []) printed_visit85
      ≡ record { day = 85; target = CR; nontarget = NN; overall = PR; change = signed true 850 } ∷ []
  -- V 127 PD NN PD -75.0, by the nadir that the earlier visits leave
  pub third : responses_of_adding new_unit (printed_opening ∷ printed_visit43 ∷ printed_visit85 ∷ []) printed_visit127
      ≡ record { day = 127; target = PD; nontarget = NN; overall = PD; change = signed true 750 } ∷ []
  pub therapy : responses_of_adding new_unit (printed_opening ∷ []) (therapy_dated (ymd 2020 2 12)) ≡ []
  pub death : responses_of_adding new_unit (printed_opening ∷ []) (death_dated (ymd 2020 2 12)) ≡ []
  -- 10, and 11
  pub again : responses_of_adding new_unit (printed_opening ∷ printed_visit43 ∷ []) printed_visit43 ≡ []
  pub misfit : responses_of_adding new_unit (printed_opening ∷ []) (visit_dated (ymd 2020 2 12) S.NA false [] []) ≡ []
