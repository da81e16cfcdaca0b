-- Document 01, "Change in size, file and listing" and "Where a call stops", 13 and 14: a file of records judged, by the definitions on lists, in either
-- form of document 02, request 1.
-- Assumes nothing.
use Rattle.std.specs.Prelude.{◌≡◌, Bool, false, List, [], ◌∷◌, ◌++◌, reverse, ℕ, suc, ◌-◌, ltb, eqb, length, Result, Ok, Err}
use Rattle.laws.specs.Choice.{both, pick}
use Rattle.laws.specs.Refusals.{Refusal, ◌when◌, first}
use Rattle.records.specs.Forms.{Form, new_form}
use Rattle.records.specs.declared.Record.{Record}
use Rattle.codec.specs.Reading.{refusals_of_bytes, record_of_bytes}
use Rattle.codec.specs.Parts.{bad_length, parts_of}
use Rattle.outcome_rules.specs.Values.{Day, none, on, Pfs, Duration, exists, Outcome}
use Rattle.outcome_rules.specs.StudyRecords.{Baseline, StudyRecord, on_study_days, from_baseline}
use Rattle.outcome_rules.specs.Course.{Course, course, counting_visits}
use Rattle.outcome_rules.specs.Pfs.{pfs}
use Rattle.outcome_rules.specs.Duration.{first_response, duration}
use Rattle.outcome_rules.specs.MarksExact.{outcome_in_order}
use Rattle.outcome_rules.specs.Adding.{refusals_of_opening, refusals_of_adding}
use Rattle.outcome.specs.ReadingOutcome.{outcome_values}
use Rattle.outcome.specs.declared.OutcomeResult.{OutcomeResult}
use Rattle.file.specs.declared.FileRefusal.{FileRefusal}

-- a refusal's number and the index of a record, or the outcome with its marks
pub data Verdict : Type 0 where
  refused : ℕ → ℕ → Verdict
  accepted : Outcome → Verdict

-- the first of a place's refusals that meets, with the index of a record, or what comes after them
abbrev pub unless_refused : List Refusal → ℕ → Verdict → Verdict
unless_refused rs k after = pick (eqb (first rs) 0) after (refused (first rs) k)

abbrev pub is_after : Day → ℕ → Bool
is_after none d = false
is_after (on first) d = ltb d first

-- 14: response would start after PFS ends
unfoldable pub starts_late : Duration → Day → Pfs → Bool
starts_late duration first pfs = both (exists duration) (is_after first pfs.day)

abbrev pub response_starts_late : Course → Bool
response_starts_late c = starts_late (duration c) (first_response (counting_visits c)) (pfs c)

-- behind the last record: 14 with its index, or the outcome; every list of accepted records opens with a baseline, and for any other the number is 7
abbrev pub verdict_on : List StudyRecord → ℕ → Verdict
verdict_on rs last =
    from_baseline (refused 7 last)
    (λ (b : Baseline) (rs : List StudyRecord).
    unless_refused (14 when response_starts_late (course b (reverse rs)) ∷ []) last (accepted (outcome_in_order b rs)))
    rs

module _ (form : Form) where
  -- 2 to 5 where reading refuses the bytes, of which there are as many as a record has; then 7 for the first record and 8 to 11 for later ones, judged against the records before it
  abbrev pub refusals_of_part : List Record → List ℕ → List Refusal
  refusals_of_part [] part = refusals_of_bytes form part ++ refusals_of_opening form.unit (record_of_bytes form part)
  refusals_of_part (b ∷ rs) part = refusals_of_bytes form part ++ refusals_of_adding form.unit (b ∷ rs) (record_of_bytes form part)

  abbrev pub refusal_of_part : List Record → List ℕ → ℕ
  refusal_of_part rs part = first (refusals_of_part rs part)

  -- the records from index k on, behind those accepted: the first bad one stops it, with its index
  abbrev pub verdict_from : List Record → ℕ → List (List ℕ) → Verdict
  verdict_from rs k [] = verdict_on (on_study_days form.unit rs) (k - 1)
  verdict_from rs k (part ∷ ps) =
      unless_refused (refusals_of_part rs part) k (verdict_from (rs ++ (record_of_bytes form part ∷ [])) (suc k) ps)

  -- 13 first, with index 0
  unfoldable pub verdict_of : List ℕ → Verdict
  verdict_of s = unless_refused (13 when bad_length form (length s) ∷ []) 0 (verdict_from [] 0 (parts_of form s))

-- the declared cases
abbrev pub file_values : Result OutcomeResult FileRefusal → Verdict
file_values (Err r) = refused r.number r.index
file_values (Ok o) = accepted (outcome_values o)

pub record JudgesFile (s : List ℕ) (a : Result OutcomeResult FileRefusal) : Type 0 where
  pub answer : file_values a ≡ verdict_of new_form s
