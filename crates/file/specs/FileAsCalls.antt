-- Document 01, "Change in size, file and listing": where a file is accepted, its outcome and marks are those read after opening with its first record and
-- adding the others singly (document 01's word), and the lines of its visits are the responses that the additions answer, in order (demand 2); where 13 does not meet it, its
-- first refusal among 2 to 11 is the one that reading, opening or adding gives, at that index.
-- Proved in proofs/FileAsCalls.antt.
-- Assumes nothing.
use Rattle.std.specs.Prelude.{◌≡◌, false, List, [], ◌∷◌, ◌++◌, map, ◌⊎◌, ℕ, suc, ◌-◌, ◌/◌, eqb, length, Result}
use Rattle.laws.specs.Choice.{pick}
use Rattle.laws.specs.Layout.{AreBytes}
use Rattle.records.specs.Forms.{new_form, new_unit}
use Rattle.codec.specs.Bytes.{record_length}
use Rattle.codec.specs.declared.ReadResult.{ReadResult}
use Rattle.codec.specs.Reading.{read_number, record_of_bytes, Reads}
use Rattle.outcome_rules.specs.Values.{Outcome}
use Rattle.outcome_rules.specs.StudyRecords.{on_study_days}
use Rattle.outcome_rules.specs.VisitLines.{VisitLine, lines_in_order}
use Rattle.subject.specs.declared.Subject.{Subject}
use Rattle.subject.specs.declared.OpenRefusal.{OpenRefusal}
use Rattle.subject.specs.Opening.{open_number, Opens}
use Rattle.adding.specs.Refusals.{AddAnswer}
use Rattle.adding.specs.Responses.{add_responses}
use Rattle.adding.specs.Refusals.{add_number}
use Rattle.adding.specs.Promises.{Adds}
use Rattle.outcome.specs.ReadingOutcome.{outcome, reading_values, ReadsOutcome}
use Rattle.codec.specs.Parts.{bad_length, parts_of, Cuts}
use Rattle.file.specs.Verdict.{refused, accepted, verdict_of}
use Rattle.outcome.specs.declared.OutcomeResult.{OutcomeResult}
use Rattle.outcome.specs.declared.OutOfRange.{OutOfRange}

-- the number that reading gives, or, where that is 0, the number that opening or adding gives
abbrev pub first_number : ReadResult → ℕ → ℕ
first_number x n = pick (eqb (read_number x.answer) 0) n (read_number x.answer)

-- each part is read and its record added, from a subject to another, with the numbers that the calls give and the responses that the additions answer, in
-- order. Of each call nothing is known but its promise.
pub data AddsParts : Subject → List (List ℕ) → List ℕ → List VisitLine → Subject → Type 0 where
  none : {s : Subject} → AddsParts s [] [] [] s
  adds : {s t u : Subject} {part : List ℕ} {x : ReadResult} {a : AddAnswer} {ps : List (List ℕ)} {ns : List ℕ} {ls : List VisitLine} →
      Reads part x → Adds s x.found a t → AddsParts t ps ns ls u → AddsParts s (part ∷ ps) (first_number x (add_number a) ∷ ns) (add_responses a ++ ls) u

-- the first part is read and its record opens the subject
pub data CallsOnParts : List (List ℕ) → List ℕ → List VisitLine → Subject → Type 0 where
  opens : {s t : Subject} {part : List ℕ} {x : ReadResult} {a : Result (Unit {0}) OpenRefusal} {ps : List (List ℕ)} {ns : List ℕ} {ls : List VisitLine} →
      Reads part x → Opens x.found a s → AddsParts s ps ns ls t → CallsOnParts (part ∷ ps) (first_number x (open_number a) ∷ ns) ls t

-- the first number other than 0 and its index, of numbers from index k on
pub data Stop : Type 0 where
  never : Stop
  at : ℕ → ℕ → Stop

abbrev pub first_stop : ℕ → List ℕ → Stop
first_stop k [] = never
first_stop k (n ∷ ns) = pick (eqb n 0) (first_stop (suc k) ns) (at n k)

-- answers of the calls on a file's parts in their order, and of the reading behind them
pub record PartsCalled (ps : List (List ℕ)) : Type 0 where
  pub numbers : List ℕ
  pub responses : List VisitLine
  pub left : Subject
  pub calls : CallsOnParts ps numbers responses left
  pub reading : Result OutcomeResult OutOfRange
  pub reads : ReadsOutcome left reading

pub record FileAsCalls : Type 0 where
  -- where 13 does not meet a file, each of its parts has a record's length, and joined they are the file
  pub cut : Cuts new_form
  -- and the calls have answers
  pub called : (s : List ℕ) → AreBytes s → bad_length new_form (length s) ≡ false → PartsCalled (parts_of new_form s)
  -- an accepted file: no call refuses, the outcome is the one read, and the lines of its visits are the responses answered
  pub accepts : (s : List ℕ) {ns : List ℕ} {ls : List VisitLine} {t : Subject} {q : Result OutcomeResult OutOfRange} {o : Outcome} →
      verdict_of new_form s ≡ accepted o → CallsOnParts (parts_of new_form s) ns ls t → ReadsOutcome t q →
      (first_stop 0 ns ≡ never) × (reading_values q ≡ outcome o) × (lines_in_order (on_study_days new_unit (map (record_of_bytes new_form) (parts_of new_form s))) ≡ ls)
  pub refuses : (s : List ℕ) {ns : List ℕ} {ls : List VisitLine} {t : Subject} {n k : ℕ} →
      bad_length new_form (length s) ≡ false → CallsOnParts (parts_of new_form s) ns ls t → first_stop 0 ns ≡ at n k → verdict_of new_form s ≡ refused n k
  -- and where no call refuses, it is 14 with the index of the last record, or the outcome read
  pub otherwise : (s : List ℕ) {ns : List ℕ} {ls : List VisitLine} {t : Subject} {q : Result OutcomeResult OutOfRange} →
      bad_length new_form (length s) ≡ false → CallsOnParts (parts_of new_form s) ns ls t → first_stop 0 ns ≡ never → ReadsOutcome t q → (verdict_of new_form s ≡ refused 14 (length s / record_length - 1)) ⊎ ((o : Outcome) × (reading_values q ≡ outcome o) × (verdict_of new_form s ≡ accepted o))
