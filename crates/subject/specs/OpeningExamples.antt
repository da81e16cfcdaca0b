-- Document 01, "Where a call stops", 1 to 5 and 7: the numbers of the cases, the subject that the printed baseline opens, and the blank beside a refusal.
-- Proved in proofs/WorkedExamples.antt.
-- Assumes nothing.
use Rattle.std.specs.Prelude.{◌≡◌, true, false, [], ◌∷◌, map, Ok, Err, None}
use Rattle.dates.specs.Laws.{ymd}
use Rattle.records.specs.Examples.{five_places, baseline_dated, therapy_dated, death_dated}
use Rattle.records.specs.declared.OwnRefusal.TheVariants as N
use Rattle.outcome_rules.specs.AddingExamples.{printed_baseline, printed_visit43}
use Rattle.subject.specs.declared.Subject.{Subject}
use Rattle.subject.specs.HeldExamples.{events, no_counts, subject_with, printed_opened}
use Rattle.subject.specs.Opening.{open_number, opened_subject}
use Rattle.subject.specs.declared.OpenRefusal.TheVariants as O

-- everything zero, every day absent
abbrev pub zeros : Subject
zeros =
    subject_with (ymd 0 0 0) false (record { assessed = false; count = 0; nodes = five_places false []; baselinesum = 0 }) 0 0 false None
    (events None 0 None) no_counts

pub record OpenedAtTheEdges : Type 0 where
  -- 1 to 5; 7 not a baseline
  pub numbers : map open_number (Ok tt ∷ Err O.WrongLength ∷ Err O.NoSuchKind ∷ Err (O.Own N.NotZero) ∷ Err O.NotBaseline ∷ []) ≡ 0 ∷ 1 ∷ 2 ∷ 5 ∷ 7 ∷ []
  -- its date is the randomisation date; the latest day starts at 1; whether it has non-target lesions
  pub printed : opened_subject (printed_baseline (ymd 2020 1 1)) ≡ printed_opened
  pub without_nontarget : (opened_subject (baseline_dated (ymd 2020 1 1) true false 1 [] (1000 ∷ []))).enrolment.nontarget ≡ false
  -- 500.0 mm opens, with the baseline sum, and 500.1 (4) does not
  pub largest : (opened_subject (baseline_dated (ymd 2020 1 1) true false 1 [] (5000 ∷ []))).enrolment.disease.baselinesum ≡ 5000
  pub too_large : opened_subject (baseline_dated (ymd 2020 1 1) true false 1 [] (5001 ∷ [])) ≡ zeros
  -- a refusal carries its number and nothing else: beside a baseline without a date (3), a visit, a therapy and a death (7) stands the blank
  pub no_date : opened_subject (printed_baseline (ymd 2021 2 29)) ≡ zeros
  pub visit : opened_subject printed_visit43 ≡ zeros
  pub therapy : opened_subject (therapy_dated (ymd 2020 2 20)) ≡ zeros
  pub death : opened_subject (death_dated (ymd 2020 2 20)) ≡ zeros
