-- Document 02, request 1: lists of records with each size times ten, by ten times as many units a millimetre, have the same course, and so the same outcome
-- and marks, the same lines of visits and the same refusals. Proved in proofs/Tenfold.antt.
-- Assumes nothing.
use Rattle.std.specs.Prelude.{◌≡◌, List, map, ◌*◌}
use Rattle.records.specs.Forms.{old_unit, new_unit}
use Rattle.records.specs.Tenfold.{times_ten, tenfold}
use Rattle.records.specs.declared.Record.{Record}
use Rattle.response_rules.specs.Tenfold.{tenfold_visit}
use Rattle.outcome_rules.specs.StudyRecords.{Baseline, StudyRecord, baseline, visit, therapy, death, on_study_days}
use Rattle.outcome_rules.specs.LawfulLists.{Past}
use Rattle.outcome_rules.specs.Course.{course}
use Rattle.outcome_rules.specs.VisitLines.{lines_in_order}
use Rattle.outcome_rules.specs.Adding.{refusals_of_opening, refusals_of_adding}

abbrev pub tenfold_baseline : Baseline → Baseline
tenfold_baseline b =
    record { unit = 10 * b.unit; assessed = b.assessed; nontarget = b.nontarget; count = b.count; nodes = b.nodes; sizes = times_ten b.sizes }

abbrev pub tenfold_record : StudyRecord → StudyRecord
tenfold_record (baseline b) = baseline (tenfold_baseline b)
tenfold_record (visit d v) = visit d (tenfold_visit v)
tenfold_record (therapy d) = therapy d
tenfold_record (death d) = death d

pub record TenfoldLists : Type 0 where
  pub same_course : (b : Baseline) (p : Past) → course (tenfold_baseline b) (map tenfold_record p) ≡ course b p
  pub same_lines : (rs : List StudyRecord) → lines_in_order (map tenfold_record rs) ≡ lines_in_order rs
  -- of records of the old form, each size times ten
  pub on_days : (rs : List Record) → on_study_days new_unit (map tenfold rs) ≡ map tenfold_record (on_study_days old_unit rs)
  pub opening : (r : Record) → refusals_of_opening new_unit (tenfold r) ≡ refusals_of_opening old_unit r
  pub adding : (rs : List Record) (r : Record) → refusals_of_adding new_unit (map tenfold rs) (tenfold r) ≡ refusals_of_adding old_unit rs r
