-- Document 02, request 1: every outcome, change and settled mark of the converted file equals that of the old one, both read by the same rules: the two
-- listings are the same text. Stated over the promises of the calls, and proved in proofs/OldFilesKept.antt.
-- Assumes nothing.
use Rattle.std.specs.Prelude.{◌≡◌, List, map, ℕ, ◌≤◌, ◌<◌, length, take, Result}
use Rattle.records.specs.Forms.{old_form, old_unit, new_form, new_unit}
use Rattle.codec.specs.Reading.{record_of_bytes}
use Rattle.codec.specs.Parts.{parts_of}
use Rattle.outcome_rules.specs.Values.{Outcome}
use Rattle.outcome_rules.specs.StudyRecords.{on_study_days}
use Rattle.outcome_rules.specs.VisitLines.{lines_in_order}
use Rattle.file.specs.Verdict as F
use Rattle.listing_text.specs.Text.{listing_of}
use Rattle.listing.specs.Writing.{ListsFile}
use Rattle.converter.specs.Conversion.{converted, refused, written, conversion_values, Converts}
use Rattle.outcome.specs.declared.OutcomeResult.{OutcomeResult}
use Rattle.file.specs.declared.FileRefusal.{FileRefusal}

-- what was written, where a conversion is done
pub record OldFileKept (s new : List ℕ) : Type 0 where
  -- the new file call accepts it with the outcome and the marks of the old file
  pub judged : (a : Result OutcomeResult FileRefusal) → F.JudgesFile new a → F.file_values a ≡ F.verdict_of old_form s
  -- day, target, non-target, overall and change of each visit
  pub lines : lines_in_order (on_study_days new_unit (map (record_of_bytes new_form) (parts_of new_form new)))
      ≡ lines_in_order (on_study_days old_unit (map (record_of_bytes old_form) (parts_of old_form s)))
  -- the two listings are the same text
  pub listed : (page shown : List ℕ) (n : ℕ) → ListsFile new page n shown → take n shown ≡ listing_of old_form s

pub record OldFilesKept : Type 0 where
  pub kept : {s out left : List ℕ} {a : Result ℕ FileRefusal} {n : ℕ} → Converts s out a left → conversion_values a ≡ written n → OldFileKept s (take n left)
  -- every accepted file is converted where there is room, and refused by 6 with index 0 where not
  pub room : {s out left : List ℕ} {a : Result ℕ FileRefusal} {o : Outcome} → Converts s out a left → F.verdict_of old_form s ≡ F.accepted o →
      length (converted s) ≤ length out → conversion_values a ≡ written (length (converted s))
  pub short : {s out left : List ℕ} {a : Result ℕ FileRefusal} {o : Outcome} → Converts s out a left → F.verdict_of old_form s ≡ F.accepted o →
      length out < length (converted s) → conversion_values a ≡ refused 6 0
  -- where the old file is refused, the converter gives that refusal, and no refusal changes a byte
  pub refuses : {s out left : List ℕ} {a : Result ℕ FileRefusal} {n k : ℕ} → Converts s out a left → F.verdict_of old_form s ≡ F.refused n k → conversion_values a ≡ refused n k
  pub untouched : {s out left : List ℕ} {a : Result ℕ FileRefusal} {n k : ℕ} → Converts s out a left → conversion_values a ≡ refused n k → left ≡ out
