-- Document 01, "Where a call stops" and "Settled": the refusals of opening and adding, judged against the records accepted so far, and the accepted
-- records of a list of calls, from the calls' arguments alone.
-- Assumes nothing.
use Rattle.std.specs.Prelude.{ℕ, Bool, true, false, not, List, [], ◌∷◌, ◌++◌, reverse, leb, ltb, eqb}
use Rattle.laws.specs.Choice.{pick}
use Rattle.laws.specs.Refusals.{Refusal, ◌when◌, first}
use Rattle.records.specs.declared.Entry.{Entry}
use Rattle.records.specs.declared.Record.{Record}
use Rattle.records.specs.Entries.{date_of, kind_number}
use Rattle.records.specs.Refusals.{refusals_of_record}
use Rattle.outcome_rules.specs.StudyRecords.{Baseline, StudyRecord, baseline, visit, therapy, death, on_study_day, on_study_days, from_baseline}
use Rattle.outcome_rules.specs.LawfulLists.{Past, latest_day, died, fits}
use Rattle.outcome_rules.specs.VisitLines.{VisitLine, lines_of_record}

abbrev pub is_baseline : StudyRecord → Bool
is_baseline (baseline b) = true
is_baseline (visit d v) = false
is_baseline (therapy d) = false
is_baseline (death d) = false

abbrev pub too_early : ℕ → StudyRecord → Bool
too_early latest (baseline b) = false
too_early latest (visit d v) = leb d latest
too_early latest (therapy d) = ltb d latest
too_early latest (death d) = ltb d latest

abbrev pub misfits : Baseline → StudyRecord → Bool
misfits b (baseline x) = false
misfits b (visit d v) = not (fits b v)
misfits b (therapy d) = false
misfits b (death d) = false

-- 8 a baseline; 9 after a death; 10 day too early; 11 visit doesn't fit baseline
unfoldable pub refusals_of_study_record : Baseline → Past → StudyRecord → List Refusal
refusals_of_study_record b p r =
    8 when is_baseline r
    ∷ 9 when died p
    ∷ 10 when too_early (latest_day p) r
    ∷ 11 when misfits b r
    ∷ []

-- behind a list in the order recorded; every list of accepted records opens with a baseline, and for any other the answer is 7, which adding never gives
abbrev pub refusals_of_study_record_in_order : List StudyRecord → StudyRecord → List Refusal
refusals_of_study_record_in_order rs r = from_baseline (7 when true ∷ []) (λ (b : Baseline) (rs : List StudyRecord). refusals_of_study_record b (reverse rs) r) rs

abbrev pub not_baseline : Entry → Bool
not_baseline e = not (eqb (kind_number e) 1)

-- the responses at a visit behind a list in the order recorded; no other record has them
abbrev pub lines_after : List StudyRecord → StudyRecord → List VisitLine
lines_after rs r = from_baseline [] (λ (b : Baseline) (rs : List StudyRecord). lines_of_record b (reverse rs) r) rs

pub data Call : Type 0 where
  add : Record → Call
  read : Call

-- of sizes of which a millimetre has so many units
module _ (unit : ℕ) where
  -- 3 to 5, then 7
  unfoldable pub refusals_of_opening : Record → List Refusal
  refusals_of_opening r = refusals_of_record unit r ++ 7 when not_baseline r.entry ∷ []

  abbrev pub refusal_of_opening : Record → ℕ
  refusal_of_opening r = first (refusals_of_opening r)

  -- adding, judged against the records accepted so far, baseline first: 3 to 5, then 8 to 11
  unfoldable pub refusals_of_adding : List Record → Record → List Refusal
  refusals_of_adding [] r = refusals_of_record unit r ++ 7 when true ∷ []
  refusals_of_adding (b ∷ rs) r = refusals_of_record unit r ++ refusals_of_study_record_in_order (on_study_days unit (b ∷ rs)) (on_study_day unit (date_of b.entry) r)

  abbrev pub refusal_of_adding : List Record → Record → ℕ
  refusal_of_adding rs r = first (refusals_of_adding rs r)

  -- what an addition replies of a visit, by the number of its refusal: beside a refusal nothing
  abbrev pub responses_of_adding : List Record → Record → List VisitLine
  responses_of_adding [] r = []
  responses_of_adding (b ∷ rs) r =
      pick (eqb (refusal_of_adding (b ∷ rs) r) 0) (lines_after (on_study_days unit (b ∷ rs)) (on_study_day unit (date_of b.entry) r)) []

  -- the record of each addition goes behind those accepted so far when no refusal meets it; otherwise, and where the outcome is read, they stay
  abbrev pub accepted_after : List Record → List Call → List Record
  accepted_after rs [] = rs
  accepted_after rs (add r ∷ cs) = accepted_after (pick (eqb (refusal_of_adding rs r) 0) (rs ++ (r ∷ [])) rs) cs
  accepted_after rs (read ∷ cs) = accepted_after rs cs

  -- the accepted records, a term of document 01: the baseline opened with comes first
  abbrev pub accepted : Record → List Call → List Record
  accepted b cs = accepted_after (b ∷ []) cs
