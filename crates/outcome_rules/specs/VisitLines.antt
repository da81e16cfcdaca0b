-- Document 01, "Change in size, file and listing": the listing's line of each visit.
-- Assumes nothing.
use Rattle.std.specs.Prelude.{ℕ, List, [], ◌∷◌, ◌++◌, reverse}
use Rattle.response_rules.specs.Words.{Word, status_word}
use Rattle.response_rules.specs.Inputs.{Visit}
use Rattle.response_rules.specs.Change.{Tenths, change_of}
use Rattle.response_rules.specs.VisitAnswers.{target_answer_after}
use Rattle.outcome_rules.specs.StudyRecords.{Baseline, StudyRecord, baseline, visit, therapy, death, disease, from_baseline}
use Rattle.outcome_rules.specs.LawfulLists.{Past}
use Rattle.outcome_rules.specs.Course.{visits_of, overall_at}

-- study day, target, non-target, overall, change
pub record VisitLine : Type 0 where
  pub day : ℕ
  pub target : Word
  pub nontarget : Word
  pub overall : Word
  pub change : Tenths

-- of a visit, after the earlier ones
unfoldable pub line_of_visit : Baseline → Past → ℕ → Visit → VisitLine
line_of_visit b p d v =
    record {
      day = d;
      target = target_answer_after b.unit (disease b) (visits_of p) v;
      nontarget = status_word v.status;
      overall = overall_at b p v;
      change = change_of (disease b) v;
    }

-- of one record after those before it: therapy and death print no line of their own
abbrev pub lines_of_record : Baseline → Past → StudyRecord → List VisitLine
lines_of_record b p (baseline x) = []
lines_of_record b p (visit d v) = line_of_visit b p d v ∷ []
lines_of_record b p (therapy d) = []
lines_of_record b p (death d) = []

-- of the records behind a baseline; the lines stand in the order recorded
abbrev pub visit_lines : Baseline → Past → List VisitLine
visit_lines b [] = []
visit_lines b (r ∷ p) = visit_lines b p ++ lines_of_record b p r

-- the lines of the visits of accepted records in the order recorded, baseline first
abbrev pub lines_in_order : List StudyRecord → List VisitLine
lines_in_order = from_baseline [] (λ (b : Baseline) (rs : List StudyRecord). visit_lines b (reverse rs))
