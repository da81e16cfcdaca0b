-- Document 01, "Examples at the edges", 7 and 11, the outcome of the printed example, cases in which one sentence of "Outcome" or "Settled" applies and a
-- similar one does not, the course of small lists, and the words of the declared cases; proved in proofs/AtTheEdges.antt.
-- Assumes nothing.
use Rattle.std.specs.Prelude.{◌≡◌, Bool, true, false, List, [], ◌∷◌, map, reverse, ℕ, Some, None}
use Rattle.records.specs.declared.Status.TheVariants as S
use Rattle.records.specs.Examples.{filled}
use Rattle.records.specs.Forms.{new_unit}
use Rattle.response_rules.specs.Words.{Word, CR, PR, SD, PD, NE, NA, NN}
use Rattle.response_rules.specs.declared.OverallAnswer.TheVariants as O
use Rattle.response_rules.specs.Change.{signed}
use Rattle.outcome_rules.specs.Values.{none, on, EVENT, CENSORED, event, censored, no_duration, for_days, day_value, pfs_status_word, pfs_values, best_word, duration_values}
use Rattle.outcome_rules.specs.StudyRecords.{Baseline, StudyRecord, baseline, visit, therapy, death, day_of, fields_pass, all_pass}
use Rattle.outcome_rules.specs.LawfulLists.{Past, latest_day}
use Rattle.outcome_rules.specs.Course.{Judged, judged_values, judged_visit, therapy_on, death_on, Course, course, latest_day_in, therapy_recorded}
use Rattle.outcome_rules.specs.VisitLines.{lines_in_order}
use Rattle.outcome_rules.specs.StarredExamples.{with_targets, one_target, with_node, no_targets, missing, visit_on, measuring, unmeasured, ExampleAnswer, target, is, pfs_is, best_is, duration_is, target_of, target_pd, target_cr, pfs_of_list, best_of_list, duration_of_list, pfs_settled_of_list, best_settled_of_list, duration_settled_of_list, Example, example}
use Rattle.outcome_rules.specs.declared.PfsStatus.TheVariants as E
use Rattle.outcome_rules.specs.declared.BestResponse.TheVariants as B

-- the words and values of the declared cases
pub record WordsOfCases : Type 0 where
  pub days : map day_value (None ∷ Some (record { 0 = 43 }) ∷ []) ≡ none ∷ on 43 ∷ []
  pub statuses : map pfs_status_word (E.Event ∷ E.Censored ∷ []) ≡ EVENT ∷ CENSORED ∷ []
  pub pfs : pfs_values (record { status = E.Censored; day = record { 0 = 43 } }) ≡ censored 43
  pub best : map best_word (B.CR ∷ B.PR ∷ B.SD ∷ B.PD ∷ B.NE ∷ []) ≡ CR ∷ PR ∷ SD ∷ PD ∷ NE ∷ []
  pub judged : judged_values (record { day = record { 0 = 43 }; answer = O.PR }) ≡ record { day = 43; answer = PR }
  pub durations : map duration_values (None ∷ Some (record { status = E.Event; days = 85 }) ∷ []) ≡ no_duration ∷ for_days EVENT 85 ∷ []

-- the course of the records behind one target of 100 mm, in the order recorded
abbrev pub course_of : List StudyRecord → Course
course_of rs = course one_target (reverse rs)

abbrev pub judged_on : ℕ → Word → Judged
judged_on d answer = record { day = d; answer = answer }

pub record CoursesOfRecords : Type 0 where
  -- each visit with its day and overall answer, each therapy and death with its day, newest first
  pub each_kind : course_of (measuring 43 600 ∷ therapy 50 ∷ unmeasured 85 ∷ death 100 ∷ [])
      ≡ death_on 100 ∷ judged_visit (judged_on 85 NE) ∷ therapy_on 50 ∷ judged_visit (judged_on 43 PR) ∷ []
  -- randomisation is day 1; the latest day starts there, and a visit, a therapy and a death move it
  pub randomisation : day_of (baseline one_target) ≡ 1
  pub latest : map (λ (rs : List StudyRecord). latest_day (reverse rs))
      ([] ∷ (measuring 43 600 ∷ []) ∷ (measuring 43 600 ∷ therapy 50 ∷ []) ∷ (measuring 43 600 ∷ death 50 ∷ []) ∷ [])
      ≡ 1 ∷ 43 ∷ 50 ∷ 50 ∷ []
  pub latest_of_course : map (λ (rs : List StudyRecord). latest_day_in (course_of rs))
      ([] ∷ (measuring 43 600 ∷ []) ∷ (measuring 43 600 ∷ therapy 50 ∷ []) ∷ (measuring 43 600 ∷ death 50 ∷ []) ∷ [])
      ≡ 1 ∷ 43 ∷ 50 ∷ 50 ∷ []
  -- a therapy stays recorded behind a visit and a death, and neither is one
  pub after_therapy : therapy_recorded (course_of (therapy 50 ∷ measuring 85 600 ∷ death 100 ∷ [])) ≡ true
  pub without_therapy : therapy_recorded (course_of (measuring 85 600 ∷ death 100 ∷ [])) ≡ false

-- the visits of the printed example
abbrev pub visit43 : StudyRecord
visit43 = visit_on 43 S.NN false (240 ∷ 120 ∷ [])

abbrev pub visit85 : StudyRecord
visit85 = visit_on 85 S.NN false (0 ∷ 90 ∷ [])

abbrev pub visit127 : StudyRecord
visit127 = visit_on 127 S.NN false (0 ∷ 150 ∷ [])

abbrev pub printed : (Baseline → Past → ExampleAnswer) → ExampleAnswer → Example
printed = example with_node (visit43 ∷ visit85 ∷ visit127 ∷ []) (PR ∷ PR ∷ PD ∷ [])

-- its V lines in the order recorded; a therapy and a death have none
pub record PrintedLines : Type 0 where
  pub in_order : lines_in_order (baseline with_node ∷ visit43 ∷ therapy 50 ∷ visit85 ∷ visit127 ∷ death 130 ∷ [])
      ≡ record { day = 43; target = PR; nontarget = NN; overall = PR; change = signed true 400 }
      ∷ record { day = 85; target = CR; nontarget = NN; overall = PR; change = signed true 850 }
      ∷ record { day = 127; target = PD; nontarget = NN; overall = PD; change = signed true 750 }
      ∷ []
  -- a visit after the progression has its line too
  pub after_progression : lines_in_order (baseline one_target ∷ measuring 43 900 ∷ measuring 85 2000 ∷ measuring 127 0 ∷ [])
      ≡ record { day = 43; target = SD; nontarget = NA; overall = SD; change = signed true 100 }
      ∷ record { day = 85; target = PD; nontarget = NA; overall = PD; change = signed false 1000 }
      ∷ record { day = 127; target = CR; nontarget = NA; overall = CR; change = signed true 1000 }
      ∷ []

abbrev visit_with : List Bool → List ℕ → StudyRecord
visit_with measured sizes = visit 43 (record { status = S.NA; new_lesion = false; measured = measured; sizes = sizes })

-- what 4 and 5 leave of the records of a run: five marks and five sizes of at most 500.0 mm, 0 where a target is not measured
pub record FieldsThatPass : Type 0 where
  pub largest : fields_pass new_unit (measuring 43 5000) ≡ true
  pub too_large : fields_pass new_unit (measuring 43 5001) ≡ false
  pub size_unmeasured : fields_pass new_unit (visit_with (filled false 5 []) (filled 0 5 (1 ∷ []))) ≡ false
  pub four_sizes : fields_pass new_unit (visit_with (filled false 5 []) (filled 0 4 [])) ≡ false
  pub four_marks : fields_pass new_unit (visit_with (filled false 4 []) (filled 0 5 [])) ≡ false
  pub every_record : all_pass new_unit (measuring 85 900 ∷ measuring 43 5001 ∷ []) ≡ false
  pub without_disease : fields_pass new_unit (baseline (with_targets false [] [])) ≡ false

unfoldable pub further : List Example
further =
    -- 7: SD 162, PD 288 event, 289 censored 162
    example one_target (measuring 162 900 ∷ measuring 288 2000 ∷ []) (SD ∷ PD ∷ []) pfs_of_list (pfs_is (event 288))
    ∷ example one_target (measuring 162 900 ∷ measuring 289 2000 ∷ []) (SD ∷ PD ∷ []) pfs_of_list (pfs_is (censored 162))
    -- 11: SD day 35 best NE, 36 SD
    ∷ example one_target (measuring 35 900 ∷ []) (SD ∷ []) best_of_list (best_is NE)
    ∷ example one_target (measuring 36 900 ∷ []) (SD ∷ []) best_of_list (best_is SD)
    -- the lines P, B, D and S of the printed example
    ∷ printed pfs_of_list (pfs_is (event 127))
    ∷ printed best_of_list (best_is PR)
    ∷ printed duration_of_list (duration_is (for_days EVENT 85))
    ∷ printed pfs_settled_of_list (is true)
    ∷ printed best_settled_of_list (is true)
    ∷ printed duration_settled_of_list (is true)
    -- document 02, request 1: a node is normal up to 9.9 mm; growth by 4.9 mm is none and by 5.0 mm is; 70.1 % of the baseline sum is no PR
    ∷ example with_node (visit_on 43 S.CR false (0 ∷ 99 ∷ []) ∷ []) (CR ∷ []) target_cr (is true)
    ∷ example with_node (visit_on 43 S.CR false (0 ∷ 100 ∷ []) ∷ []) (PR ∷ []) target_cr (is false)
    ∷ example one_target (measuring 43 153 ∷ measuring 85 202 ∷ []) (PR ∷ PR ∷ []) target_pd (is false)
    ∷ example one_target (measuring 43 153 ∷ measuring 85 203 ∷ []) (PR ∷ PD ∷ []) target_pd (is true)
    ∷ example one_target (measuring 43 701 ∷ []) (SD ∷ []) target_of (target SD)
    -- the other edges of the bands
    ∷ example one_target (measuring 92 2000 ∷ []) (PD ∷ []) pfs_of_list (pfs_is (event 92))
    ∷ example one_target (measuring 93 2000 ∷ []) (PD ∷ []) pfs_of_list (pfs_is (censored 1))
    ∷ example one_target (measuring 2 900 ∷ measuring 100 2000 ∷ []) (SD ∷ PD ∷ []) pfs_of_list (pfs_is (event 100))
    ∷ example one_target (measuring 2 900 ∷ measuring 101 2000 ∷ []) (SD ∷ PD ∷ []) pfs_of_list (pfs_is (censored 2))
    ∷ example one_target (measuring 161 900 ∷ measuring 273 2000 ∷ []) (SD ∷ PD ∷ []) pfs_of_list (pfs_is (event 273))
    ∷ example one_target (measuring 161 900 ∷ measuring 274 2000 ∷ []) (SD ∷ PD ∷ []) pfs_of_list (pfs_is (censored 161))
    -- two visits missed: censored at the last evaluable visit and not at v
    ∷ example one_target (measuring 43 900 ∷ unmeasured 85 ∷ measuring 300 2000 ∷ []) (SD ∷ NE ∷ PD ∷ []) pfs_of_list (pfs_is (censored 43))
    ∷ example one_target (measuring 43 900 ∷ unmeasured 85 ∷ death 300 ∷ []) (SD ∷ NE ∷ []) pfs_of_list (pfs_is (censored 43))
    -- visits after a therapy are visits: v moves with them, and they are evaluable
    ∷ example one_target (measuring 43 900 ∷ therapy 50 ∷ measuring 141 900 ∷ measuring 200 2000 ∷ []) (SD ∷ SD ∷ PD ∷ []) pfs_of_list (pfs_is (event 200))
    ∷ example one_target (measuring 43 900 ∷ therapy 50 ∷ measuring 85 900 ∷ measuring 300 2000 ∷ []) (SD ∷ SD ∷ PD ∷ []) pfs_of_list (pfs_is (censored 85))
    -- neither a second therapy nor a death after one takes a visit from PFS
    ∷ example one_target (measuring 43 900 ∷ therapy 50 ∷ therapy 60 ∷ []) (SD ∷ []) pfs_of_list (pfs_is (censored 43))
    ∷ example one_target (measuring 43 900 ∷ therapy 50 ∷ death 100 ∷ []) (SD ∷ []) pfs_of_list (pfs_is (event 100))
    -- a death after an evaluable visit has the gap limits, and a visit on the day of death is v
    ∷ example one_target (measuring 119 900 ∷ death 217 ∷ []) (SD ∷ []) pfs_of_list (pfs_is (event 217))
    ∷ example one_target (measuring 119 900 ∷ death 218 ∷ []) (SD ∷ []) pfs_of_list (pfs_is (censored 119))
    ∷ example one_target (measuring 43 900 ∷ unmeasured 200 ∷ death 200 ∷ []) (SD ∷ NE ∷ []) pfs_of_list (pfs_is (event 200))
    -- a death without an evaluable visit is judged from day 1, whatever visits there were
    ∷ example one_target (unmeasured 43 ∷ death 134 ∷ []) (NE ∷ []) pfs_of_list (pfs_is (censored 1))
    -- neither progression nor death
    ∷ example one_target [] [] pfs_of_list (pfs_is (censored 1))
    ∷ example one_target (measuring 43 900 ∷ unmeasured 85 ∷ []) (SD ∷ NE ∷ []) pfs_of_list (pfs_is (censored 43))
    ∷ example one_target (measuring 43 600 ∷ unmeasured 85 ∷ []) (PR ∷ NE ∷ []) pfs_of_list (pfs_is (censored 43))
    ∷ example one_target (measuring 43 0 ∷ unmeasured 85 ∷ []) (CR ∷ NE ∷ []) pfs_of_list (pfs_is (censored 43))
    -- disease seen again after CR has no rule of its own
    ∷ example one_target (measuring 43 0 ∷ measuring 85 40 ∷ []) (CR ∷ PR ∷ []) pfs_of_list (pfs_is (censored 85))
    -- a progression before a death, and one after a therapy
    ∷ example one_target (measuring 43 900 ∷ measuring 85 2000 ∷ death 90 ∷ []) (SD ∷ PD ∷ []) pfs_of_list (pfs_is (event 85))
    ∷ example one_target (therapy 20 ∷ measuring 43 2000 ∷ []) (PD ∷ []) best_of_list (best_is NE)
    -- a therapy on the day of a visit is recorded after it
    ∷ example one_target (measuring 43 600 ∷ therapy 43 ∷ measuring 85 600 ∷ []) (PR ∷ PR ∷ []) best_of_list (best_is SD)
    -- a visit after the progression changes neither PFS nor best response
    ∷ example one_target (measuring 43 900 ∷ measuring 85 2000 ∷ measuring 127 0 ∷ measuring 169 0 ∷ []) (SD ∷ PD ∷ CR ∷ CR ∷ []) pfs_of_list
    (pfs_is (event 85))
    ∷ example one_target (measuring 43 900 ∷ measuring 85 2000 ∷ measuring 127 0 ∷ measuring 169 0 ∷ []) (SD ∷ PD ∷ CR ∷ CR ∷ []) best_of_list
    (best_is SD)
    -- nor v and the last evaluable visit before it
    ∷ example one_target (measuring 43 900 ∷ measuring 127 2000 ∷ measuring 169 0 ∷ []) (SD ∷ PD ∷ CR ∷ []) pfs_of_list (pfs_is (event 127))
    ∷ example one_target (measuring 43 900 ∷ measuring 300 2000 ∷ measuring 342 0 ∷ []) (SD ∷ PD ∷ CR ∷ []) pfs_of_list (pfs_is (censored 43))
    -- the nadir is the least of all earlier sums, and not the last one
    ∷ example one_target (measuring 43 500 ∷ measuring 85 550 ∷ measuring 127 600 ∷ []) (PR ∷ PR ∷ PD ∷ []) pfs_of_list (pfs_is (event 127))
    -- non-target PD and a new lesion, each alone, are a progression
    ∷ example with_node (visit_on 43 S.PD false (400 ∷ 200 ∷ []) ∷ []) (PD ∷ []) pfs_of_list (pfs_is (event 43))
    ∷ example with_node (visit_on 43 S.NN true (400 ∷ 200 ∷ []) ∷ []) (PD ∷ []) pfs_of_list (pfs_is (event 43))
    -- a visit moves the nadir, later therapy or progression notwithstanding
    ∷ example one_target (measuring 43 500 ∷ therapy 50 ∷ measuring 85 600 ∷ []) (PR ∷ PD ∷ []) pfs_of_list (pfs_is (event 85))
    ∷ example one_target (measuring 43 900 ∷ measuring 85 2000 ∷ measuring 127 500 ∷ measuring 169 600 ∷ []) (SD ∷ PD ∷ PR ∷ PD ∷ []) pfs_of_list
    (pfs_is (event 85))
    -- a progression that the gap censors still counts for best response
    ∷ example one_target (unmeasured 43 ∷ measuring 142 2000 ∷ []) (NE ∷ PD ∷ []) best_of_list (best_is PD)
    -- CR and NE may stand between two CR visits; SD may not, and may stand between two responses
    ∷ example one_target (measuring 43 0 ∷ unmeasured 60 ∷ measuring 71 0 ∷ []) (CR ∷ NE ∷ CR ∷ []) best_of_list (best_is CR)
    ∷ example one_target (measuring 43 0 ∷ measuring 50 0 ∷ measuring 71 0 ∷ []) (CR ∷ CR ∷ CR ∷ []) best_of_list (best_is CR)
    ∷ example no_targets (visit_on 43 S.CR false [] ∷ visit_on 57 S.NN false [] ∷ visit_on 71 S.CR false [] ∷ []) (CR ∷ SD ∷ CR ∷ []) best_of_list
    (best_is PR)
    -- NE is no CR visit, neither the first nor the second
    ∷ example one_target (unmeasured 43 ∷ measuring 85 0 ∷ []) (NE ∷ CR ∷ []) best_of_list (best_is SD)
    ∷ example one_target (measuring 43 0 ∷ unmeasured 85 ∷ []) (CR ∷ NE ∷ []) best_of_list (best_is SD)
    -- one response with an SD before or behind it is not confirmed; two are, whatever stands before them
    ∷ example one_target (measuring 43 900 ∷ measuring 85 600 ∷ []) (SD ∷ PR ∷ []) best_of_list (best_is SD)
    ∷ example one_target (measuring 43 600 ∷ measuring 85 710 ∷ []) (PR ∷ SD ∷ []) best_of_list (best_is SD)
    ∷ example one_target (measuring 43 900 ∷ measuring 85 600 ∷ measuring 127 600 ∷ []) (SD ∷ PR ∷ PR ∷ []) best_of_list (best_is PR)
    -- any SD from day 36 on, and not the first visit alone
    ∷ example one_target (measuring 20 900 ∷ measuring 43 900 ∷ []) (SD ∷ SD ∷ []) best_of_list (best_is SD)
    -- PD confirms no response, and SD no other one; a response that is confirmed stays so
    ∷ example one_target (measuring 43 0 ∷ measuring 85 2000 ∷ []) (CR ∷ PD ∷ []) best_of_list (best_is SD)
    ∷ example one_target (measuring 43 900 ∷ measuring 85 900 ∷ []) (SD ∷ SD ∷ []) best_of_list (best_is SD)
    ∷ example one_target (measuring 43 0 ∷ measuring 71 0 ∷ measuring 85 40 ∷ []) (CR ∷ CR ∷ PR ∷ []) best_of_list (best_is CR)
    -- no visit behind a therapy counts, and those before a death do
    ∷ example one_target (therapy 20 ∷ measuring 43 900 ∷ measuring 85 900 ∷ []) (SD ∷ SD ∷ []) best_of_list (best_is NE)
    ∷ example one_target (measuring 43 600 ∷ measuring 85 600 ∷ death 90 ∷ []) (PR ∷ PR ∷ []) best_of_list (best_is PR)
    -- nor does a therapy or a death behind a therapy or a progression take a counting visit away
    ∷ example one_target (measuring 43 600 ∷ measuring 85 600 ∷ therapy 90 ∷ therapy 95 ∷ []) (PR ∷ PR ∷ []) best_of_list (best_is PR)
    ∷ example one_target (measuring 43 600 ∷ measuring 85 600 ∷ therapy 90 ∷ death 100 ∷ []) (PR ∷ PR ∷ []) best_of_list (best_is PR)
    ∷ example one_target (measuring 43 600 ∷ measuring 85 600 ∷ measuring 127 2000 ∷ therapy 130 ∷ []) (PR ∷ PR ∷ PD ∷ []) best_of_list (best_is PR)
    ∷ example one_target (measuring 43 600 ∷ measuring 85 600 ∷ measuring 127 2000 ∷ death 130 ∷ []) (PR ∷ PR ∷ PD ∷ []) best_of_list (best_is PR)
    -- the first counting CR or PR: not an SD before it, a PR before two CR visits, and no visit behind a confirmed CR
    ∷ example one_target (measuring 43 900 ∷ measuring 85 600 ∷ measuring 127 600 ∷ []) (SD ∷ PR ∷ PR ∷ []) duration_of_list
    (duration_is (for_days CENSORED 43))
    ∷ example one_target (measuring 43 600 ∷ measuring 85 0 ∷ measuring 127 0 ∷ []) (PR ∷ CR ∷ CR ∷ []) duration_of_list
    (duration_is (for_days CENSORED 85))
    ∷ example one_target (measuring 43 0 ∷ measuring 71 0 ∷ measuring 99 0 ∷ []) (CR ∷ CR ∷ CR ∷ []) duration_of_list
    (duration_is (for_days CENSORED 57))
    -- a duration that is censored
    ∷ example one_target (measuring 43 0 ∷ measuring 50 0 ∷ measuring 71 0 ∷ []) (CR ∷ CR ∷ CR ∷ []) duration_of_list
    (duration_is (for_days CENSORED 29))
    -- nothing is settled before the first record, nor by a visit of SD
    ∷ example one_target [] [] best_settled_of_list (is false)
    ∷ example one_target (measuring 100 900 ∷ []) (SD ∷ []) pfs_settled_of_list (is false)
    ∷ example one_target (measuring 100 900 ∷ []) (SD ∷ []) best_settled_of_list (is false)
    ∷ example one_target (measuring 100 900 ∷ []) (SD ∷ []) duration_settled_of_list (is false)
    -- a death settles all three
    ∷ example one_target (death 50 ∷ []) [] pfs_settled_of_list (is true)
    ∷ example one_target (death 50 ∷ []) [] best_settled_of_list (is true)
    ∷ example one_target (death 50 ∷ []) [] duration_settled_of_list (is true)
    -- best response is settled by a therapy and where it is CR, and not where it is PR
    ∷ example one_target (measuring 43 600 ∷ measuring 85 600 ∷ []) (PR ∷ PR ∷ []) best_settled_of_list (is false)
    ∷ example one_target (measuring 43 600 ∷ measuring 85 600 ∷ therapy 90 ∷ []) (PR ∷ PR ∷ []) best_settled_of_list (is true)
    ∷ example one_target (measuring 43 0 ∷ measuring 71 0 ∷ []) (CR ∷ CR ∷ []) best_settled_of_list (is true)
    -- baseline missing: best response is settled, and a death settles PFS
    ∷ example missing [] [] best_settled_of_list (is true)
    ∷ example missing (death 50 ∷ []) [] pfs_settled_of_list (is true)
    -- where there is no duration it is settled with best response, and where there is one with PFS
    ∷ example one_target (measuring 43 900 ∷ therapy 50 ∷ []) (SD ∷ []) duration_settled_of_list (is true)
    ∷ example one_target (measuring 43 600 ∷ measuring 85 600 ∷ therapy 90 ∷ []) (PR ∷ PR ∷ []) duration_settled_of_list (is false)
    -- by the rule of an assessed baseline: a progression settles it before day 93, and the latest day does not; baseline missing, with best response
    ∷ example one_target (measuring 43 600 ∷ measuring 71 600 ∷ measuring 85 2000 ∷ []) (PR ∷ PR ∷ PD ∷ []) duration_settled_of_list (is true)
    ∷ example one_target (measuring 43 600 ∷ measuring 127 600 ∷ []) (PR ∷ PR ∷ []) duration_settled_of_list (is false)
    ∷ example missing [] [] duration_settled_of_list (is true)
    -- baseline missing: every visit is NE, new lesion or not
    ∷ example missing (visit_on 43 S.NA true [] ∷ death 92 ∷ []) (NE ∷ []) pfs_of_list (pfs_is (event 92))
    ∷ example missing (visit_on 43 S.NA true [] ∷ unmeasured 85 ∷ []) (NE ∷ NE ∷ []) best_of_list (best_is NE)
    ∷ []
