-- Document 01, "Change in size, file and listing" and "Contracts" a: a text written into a lent page, and what the listing promises.
-- Assumes nothing.
use Rattle.std.specs.Prelude.{◌≡◌, List, [], ◌∷◌, map, ℕ, ◌+◌, ◌≤◌, ◌<◌, length, Result}
use Rattle.std.proofs.lemmas.List.Edits.{sets}
use Rattle.codec.specs.Reading.{record_of_bytes}
use Rattle.outcome_rules.specs.Values.{Outcome}
use Rattle.outcome_rules.specs.StudyRecords.{on_study_days}
use Rattle.outcome_rules.specs.VisitLines.{VisitLine, lines_in_order}
use Rattle.outcome.specs.ReadingOutcome.{outcome}
use Rattle.outcome.specs.Laws.{ReadingWithin}
use Rattle.codec.specs.Parts.{parts_of}
use Rattle.file.specs.Verdict.{Verdict, refused, accepted, verdict_of, file_values}
use Rattle.listing_text.specs.Text.{lines_text, listing_of, page_of}
use Rattle.records.specs.Forms.{new_form, new_unit}
use Rattle.outcome.specs.declared.OutcomeResult.{OutcomeResult}
use Rattle.file.specs.declared.FileRefusal.{FileRefusal}
use Rattle.listing.specs.declared.page.Lines.{Lines}

-- a text was written into the page from a place on, which led to the place behind it; every other byte is as it was
pub record Wrote (page : List ℕ) (at : ℕ) (text : List ℕ) (next : ℕ) (left : List ℕ) : Type 0 where
  pub place : next ≡ at + length text
  pub stored : left ≡ sets page at text

-- the page has room for so many bytes behind the lines
abbrev pub HasRoom : Lines → ℕ → Type 0
HasRoom lines n = lines.at + n ≤ length lines.page.now

-- a text was written behind the lines, into the same page, which keeps its length
pub record Puts (before : Lines) (text : List ℕ) (after : Lines) : Type 0 where
  pub same_page : after.page.ghost_name ≡ before.page.ghost_name
  pub same_length : length after.page.now ≡ length before.page.now
  pub wrote : Wrote before.page.now before.at text after.at after.page.now

-- what a visit's line has to be before it is written: numbers of at most five digits
pub record Writable (l : VisitLine) : Type 0 where
  pub day : l.day < 100000
  pub change : l.change.tenths < 100000

abbrev pub AllWritable : List VisitLine → Type 0
AllWritable [] = Unit {0}
AllWritable (l ∷ ls) = Writable l × AllWritable ls

-- the longest lines of all visits together
abbrev pub most_lines : ℕ
most_lines = 95976

abbrev pub SmallIndex : Verdict → Type 0
SmallIndex (refused n k) = k < 100000
SmallIndex (accepted o) = Unit {0}

-- a file judged, and a text written from the start of the page on; of an accepted file the text is the lines of its visits, and its day and duration are within 1 to 40,177
pub record JudgesInto (s page : List ℕ) (a : Result OutcomeResult FileRefusal) (n : ℕ) (left : List ℕ) : Type 0 where
  pub answer : file_values a ≡ verdict_of new_form s
  pub index : SmallIndex (file_values a)
  pub within : n ≤ most_lines
  pub text : List ℕ
  pub written : Wrote page 0 text n left
  pub lines : (o : Outcome) → verdict_of new_form s ≡ accepted o → ReadingWithin (outcome o) × (text ≡ lines_text (lines_in_order (on_study_days new_unit (map (record_of_bytes new_form) (parts_of new_form s)))))

-- the promise of listing: how many bytes, and the whole page
pub record ListsFile (s page : List ℕ) (n : ℕ) (left : List ℕ) : Type 0 where
  pub count : n ≡ length (listing_of new_form s)
  pub whole : left ≡ page_of s page
