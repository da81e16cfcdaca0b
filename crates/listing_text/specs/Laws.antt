-- Document 01, "Change in size, file and listing": how long the lines and the listing can be, and the value of digits. Proved in proofs/.
-- Assumes nothing.
use Rattle.std.specs.Prelude.{◌≡◌, true, List, ◌∷◌, ℕ, ◌≤◌, ◌<◌, ◌^◌, length}
use Rattle.response_rules.specs.Inputs.{Visit}
use Rattle.outcome_rules.specs.StudyRecords.{Baseline, visit, baseline_passes, fields_pass}
use Rattle.outcome_rules.specs.LawfulLists.{Past, lawful_behind}
use Rattle.outcome_rules.specs.VisitLines.{VisitLine, line_of_visit}
use Rattle.listing_text.specs.Decimal.{decimal, decimal_value}
use Rattle.listing_text.specs.Text.{visit_text, longest_listing, listing_of}
use Rattle.records.specs.Forms.{new_form}

-- five digits are enough for the day and for the tenths of the change, and 24 bytes for the line
pub record Short (l : VisitLine) : Type 0 where
  pub day : l.day < 100000
  pub change : l.change.tenths < 100000
  pub whole : length (visit_text l) ≤ 24

pub record Lengths : Type 0 where
  -- the digits of a number have its value
  pub value_of_decimal : (n : ℕ) → n < 10 ^ 20 → decimal_value 0 (decimal n) ≡ n
  -- a visit's line, where neither 4 nor 5 meets the baseline and the visit, the visit fits, and its day has five digits
  pub line : (b : Baseline) (p : Past) (d : ℕ) (v : Visit) → baseline_passes b ≡ true → fields_pass b.unit (visit d v) ≡ true →
      lawful_behind b (visit d v ∷ p) ≡ true → d < 100000 → Short (line_of_visit b p d v)
  -- the listing of any file
  pub listing : (s : List ℕ) → length (listing_of new_form s) ≤ longest_listing
