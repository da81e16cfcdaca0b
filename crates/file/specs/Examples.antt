-- Document 01, "Where a call stops": 13 of an empty file, 14 of a response that starts before the day on which PFS ends, on it, and after it, proved in
-- proofs/AtTheEdges.antt; and whole files, the printed example among them, proved in proofs/WorkedExamples.antt.
-- Assumes nothing.
use Rattle.std.specs.Prelude.{◌≡◌, true, false, List, [], ◌∷◌, ◌++◌, ℕ, None, Ok, Err, Result}
use Rattle.dates.specs.Laws.{ymd}
use Rattle.records.specs.declared.Record.{Record}
use Rattle.records.specs.declared.Status.TheVariants as S
use Rattle.records.specs.Examples.{baseline_dated, visit_dated}
use Rattle.codec.specs.Examples.{thirteen, printed_bytes, printed_visit_bytes, one_target_bytes, missing_bytes, therapy_bytes, death_bytes}
use Rattle.records.specs.declared.OwnRefusal.TheVariants as W
use Rattle.records.specs.Forms.{new_form}
use Rattle.codec.specs.declared.ReadRefusal.{ReadRefusal}
use Rattle.codec.specs.declared.ReadRefusal.TheVariants.{Own}
use Rattle.codec.specs.declared.ReadResult.{ReadResult}
use Rattle.codec.specs.Reading.{blank_record}
use Rattle.response_rules.specs.Words.{PR, NE}
use Rattle.outcome_rules.specs.Values.{on, EVENT, CENSORED, event, censored, no_duration, for_days, Outcome}
use Rattle.outcome_rules.specs.declared.BestResponse.TheVariants as B
use Rattle.subject.specs.HeldExamples.{on_day, events, counts}
use Rattle.subject.specs.Opening as O
use Rattle.outcome.specs.Examples.{held_with, result, values}
use Rattle.file.specs.Verdict.{refused, accepted, starts_late, verdict_from, verdict_of, file_values}
use Rattle.file.specs.Ending.{verdict_held}
use Rattle.file.specs.FileAsCalls.{never, at, first_number, first_stop}

-- 13 length 0 (index 0)
pub record EmptyFile : Type 0 where
  pub nothing : verdict_of new_form [] ≡ refused 13 0

-- one target of 100 mm, and 60 mm on days 90, 120 and 50
abbrev pub sixty : ℕ → ℕ → Record
sixty month day = visit_dated (ymd 2020 month day) S.NA false (true ∷ []) (600 ∷ [])

abbrev pub falling_days : List Record
falling_days = baseline_dated (ymd 2020 1 1) true false 1 [] (1000 ∷ []) ∷ sixty 3 30 ∷ sixty 4 29 ∷ sixty 2 19 ∷ []

-- 14 response would start after PFS ends
pub record LateAtTheEdges : Type 0 where
  pub before : starts_late (for_days CENSORED 2) (on 42) (censored 43) ≡ false
  pub same_day : starts_late (for_days CENSORED 1) (on 43) (censored 43) ≡ false
  pub after : starts_late (for_days CENSORED 1) (on 44) (censored 43) ≡ true
  pub without_duration : starts_late no_duration (on 44) (censored 43) ≡ false
  -- with the index of the last record; the days of these four fall, as in no lawful list: PR 90, PR 120, PR 50
  pub last : verdict_from new_form falling_days 4 [] ≡ refused 14 3
  -- and on the held subject, behind 12
  pub out_of_range : verdict_held O.blank_subject 3 ≡ refused 12 3
  pub late_out_of_range : verdict_held (held_with true 0 false None (events None 50 (on_day 50)) (counts (on_day 90) None B.PR)) 3
      ≡ refused 12 3
  pub held_late : verdict_held (held_with true 120 false None (events None 50 (on_day 50)) (counts (on_day 90) None B.PR)) 3
      ≡ refused 14 3
  pub held_on_time : verdict_held (held_with true 120 false None (events None 120 (on_day 120)) (counts (on_day 90) None B.PR)) 3
      ≡ accepted
      (record { pfs = censored 120; best = PR; duration = for_days CENSORED 31; pfs_settled = false; best_settled = false; duration_settled = false })

-- the file of the printed example: 2020-01-01, 02-12 (24.0 and 12.0 mm), 03-25 (0 and 9.0) and 05-06 (0 and 15.0)
abbrev pub printed_file : List ℕ
printed_file =
    printed_bytes
    ++ (printed_visit_bytes
    ++ (thirteen (0x4F ∷ 0xC8 ∷ 0x79 ∷ 0x48 ∷ 0x00 ∷ 0x20 ∷ 0x5A ∷ [])
    ++ thirteen (0x4F ∷ 0xC8 ∷ 0xA6 ∷ 0x48 ∷ 0x00 ∷ 0x20 ∷ 0x96 ∷ [])))

-- P EVENT 127, B PR, D EVENT 85, S 1 1 1
abbrev pub printed_outcome : Outcome
printed_outcome =
    record { pfs = event 127; best = PR; duration = for_days EVENT 85; pfs_settled = true; best_settled = true; duration_settled = true }

-- a missing baseline alone: P CENSORED 1, B NE, D none, S 0 1 1
abbrev pub missing_outcome : Outcome
missing_outcome =
    record { pfs = censored 1; best = NE; duration = no_duration; pfs_settled = false; best_settled = true; duration_settled = true }

-- a baseline whose one target has 10.0 mm, the least
abbrev pub least_target_bytes : List ℕ
least_target_bytes = thirteen (0x2F ∷ 0xC8 ∷ 0x21 ∷ 0x88 ∷ 0x0C ∷ 0x80 ∷ [])

pub record WholeFiles : Type 0 where
  -- accepted: its outcome and marks
  pub printed : verdict_of new_form printed_file ≡ accepted printed_outcome
  pub missing : verdict_of new_form missing_bytes ≡ accepted missing_outcome
  -- 13 before its records, with index 0
  pub fourteen_bytes : verdict_of new_form (printed_bytes ++ (0 ∷ [])) ≡ refused 13 0
  -- the first record: 2 to 5, then 7
  pub kind0 : verdict_of new_form (thirteen []) ≡ refused 2 0
  pub visit_first : verdict_of new_form printed_visit_bytes ≡ refused 7 0
  pub visit_before_baseline : verdict_of new_form (printed_visit_bytes ++ printed_bytes) ≡ refused 7 0
  -- later ones: 2 to 5, then 8 to 11, with the record's index
  pub later_kind0 : verdict_of new_form (printed_bytes ++ thirteen []) ≡ refused 2 1
  pub second_baseline : verdict_of new_form (printed_bytes ++ printed_bytes) ≡ refused 8 1
  -- the first and the second are judged by the limits of the form: neither is 4
  pub least_target : verdict_of new_form (least_target_bytes ++ least_target_bytes) ≡ refused 8 1
  pub after_death : verdict_of new_form (printed_bytes ++ (death_bytes ++ therapy_bytes)) ≡ refused 9 2
  pub same_day : verdict_of new_form (printed_bytes ++ (printed_visit_bytes ++ printed_visit_bytes)) ≡ refused 10 2
  pub misfit : verdict_of new_form (one_target_bytes ++ printed_visit_bytes) ≡ refused 11 1
  -- the first bad one stops it
  pub first_bad : verdict_of new_form (printed_bytes ++ (printed_bytes ++ thirteen [])) ≡ refused 8 1

-- the number that reading gives, beside the blank record
abbrev pub reading : Result (Unit {0}) ReadRefusal → ReadResult
reading a = record { answer = a; found = blank_record }

-- the first refusal of calls one by one
pub record FirstOfCalls : Type 0 where
  pub read_first : first_number (reading (Err (Own W.NoSuchDate))) 10 ≡ 3
  pub then_added : first_number (reading (Ok tt)) 10 ≡ 10
  pub at_index2 : first_stop 0 (0 ∷ 0 ∷ 10 ∷ 9 ∷ []) ≡ at 10 2
  pub none : first_stop 0 (0 ∷ 0 ∷ []) ≡ never

-- the values of the declared cases
pub record ValuesOfCases : Type 0 where
  pub refusal : file_values (Err (record { number = 9; index = 10 })) ≡ refused 9 10
  pub outcome : file_values (Ok (result false true false)) ≡ accepted (values false true false)
