-- Document 01, "Settled", demand 3, and "Contracts" c: one claim about a whole list of calls on one subject. Proved in proofs/Demand3.antt.
-- Assumes nothing.
use Rattle.std.specs.Prelude.{◌≡◌, true, List, [], ◌∷◌, ◌↔◌, ℕ, Result}
use Rattle.records.specs.declared.Record.{Record}
use Rattle.records.specs.Entries.{Five}
use Rattle.records.specs.Forms.{new_unit}
use Rattle.outcome_rules.specs.Values.{Outcome}
use Rattle.outcome_rules.specs.StudyRecords.{Baseline, StudyRecord, on_study_days, from_baseline}
use Rattle.outcome_rules.specs.LawfulLists.{lawful}
use Rattle.outcome_rules.specs.MarksExact.{outcome_in_order, NoRunChangesInOrder}
use Rattle.outcome_rules.specs.VisitLines.{VisitLine}
use Rattle.outcome_rules.specs.Adding.{refusal_of_adding, responses_of_adding, Call, add, read, accepted_after, accepted}
use Rattle.subject.specs.declared.Subject.{Subject}
use Rattle.subject.specs.Opening.{open_number, Opens}
use Rattle.adding.specs.Refusals.{AddAnswer}
use Rattle.adding.specs.Responses.{add_responses}
use Rattle.adding.specs.Refusals.{add_number}
use Rattle.adding.specs.Promises.{Adds}
use Rattle.subject.specs.declared.OpenRefusal.{OpenRefusal}
use Rattle.outcome.specs.declared.OutOfRange.{OutOfRange}
use Rattle.outcome.specs.declared.OutcomeResult.{OutcomeResult}
use Rattle.outcome.specs.ReadingOutcome.{Reading, refused, outcome, reading_values, ReadsOutcome}

-- what a call replies, in the paper's numbers and values: an addition 0 where it is done or the refusal's number, with the responses at a visit that was
-- added and none otherwise; a reading the outcome or a refusal
pub data Reply : Type 0 where
  added : ℕ → List VisitLine → Reply
  outcome_read : Reading → Reply

-- a list of calls, from the subject before the first of them to the subject after the last, with their replies. Of each call nothing is known but its
-- promise, which its `ensures` cites whole.
pub data Calls : Subject → List Call → List Reply → Subject → Type 0 where
  none : {s : Subject} → Calls s [] [] s
  adds : {s t u : Subject} {r : Record} {a : AddAnswer} {cs : List Call} {ys : List Reply} →
      Adds s r a t → Calls t cs ys u → Calls s (add r ∷ cs) (added (add_number a) (add_responses a) ∷ ys) u
  reads : {s u : Subject} {o : Result OutcomeResult OutOfRange} {cs : List Call} {ys : List Reply} →
      ReadsOutcome s o → Calls s cs ys u → Calls s (read ∷ cs) (outcome_read (reading_values o) ∷ ys) u

-- the paper's outcome of a list of records in the order recorded; every list of accepted records opens with a baseline, and for any other the value is a
-- refusal by 7, which no reading gives
abbrev pub outcome_on : List StudyRecord → Reading
outcome_on = from_baseline (refused 7) (λ (b : Baseline) (rs : List StudyRecord). outcome (outcome_in_order b rs))

-- the replies from the calls' arguments alone: done, with a visit's responses behind the records accepted so far, or the first refusal judged against them;
-- their outcome with its marks
abbrev pub replies_after : List Record → List Call → List Reply
replies_after rs [] = []
replies_after rs (add r ∷ cs) = added (refusal_of_adding new_unit rs r) (responses_of_adding new_unit rs r) ∷ replies_after (accepted_after new_unit rs (add r ∷ [])) cs
replies_after rs (read ∷ cs) = outcome_read (outcome_on (on_study_days new_unit rs)) ∷ replies_after rs cs

abbrev pub replies : Record → List Call → List Reply
replies b cs = replies_after (b ∷ []) cs

-- 12 meets no call
abbrev pub Without12 : List Reply → Type 0
Without12 [] = Unit {0}
Without12 (added n ls ∷ ys) = (n ≡ 12 → ⊥) × Without12 ys
Without12 (outcome_read (refused n) ∷ ys) = (n ≡ 12 → ⊥) × Without12 ys
Without12 (outcome_read (outcome o) ∷ ys) = Without12 ys

-- what a reading reports of a baseline and the records behind it: its parts are the paper's outcome, and each mark that it reports is true exactly when no
-- lawful run of further records, whose fields pass 4 and 5, changes its part
pub record Reports (reported : Outcome) (b : Baseline) (rs : List StudyRecord) : Type 0 where
  pub pfs : reported.pfs ≡ (outcome_in_order b rs).pfs
  pub best : reported.best ≡ (outcome_in_order b rs).best
  pub duration : reported.duration ≡ (outcome_in_order b rs).duration
  pub pfs_mark : (reported.pfs_settled ≡ true) ↔ NoRunChangesInOrder (λ (o : Outcome). o.pfs) b rs
  pub best_mark : (reported.best_settled ≡ true) ↔ NoRunChangesInOrder (λ (o : Outcome). o.best) b rs
  pub duration_mark : (reported.duration_settled ≡ true) ↔ NoRunChangesInOrder (λ (o : Outcome). o.duration) b rs

-- of a reading's values and a list of records: no refusal, the list opens with a baseline, and the outcome is reported as it should be
abbrev pub ReportsOn : Reading → List StudyRecord → Type 0
ReportsOn (refused n) rs = ⊥
ReportsOn (outcome reported) rs = from_baseline ⊥ (Reports reported) rs

-- of a reading's answer and the records accepted, baseline first
abbrev pub Claim : Result OutcomeResult OutOfRange → List Record → Type 0
Claim o rs = ReportsOn (reading_values o) (on_study_days new_unit rs)

-- of a baseline opened with, the calls, their replies and the answer of a reading after the last of them: each call replied as the paper has it, 12 met none,
-- the records accepted are a lawful list, and the reading reports the outcome of that list
pub record Holds (b : Record) (cs : List Call) (ys : List Reply) (o : Result OutcomeResult OutOfRange) : Type 0 where
  pub replied : ys ≡ replies b cs
  pub without12 : Without12 ys
  pub lawfully : lawful (on_study_days new_unit (accepted new_unit b cs)) ≡ true
  pub claim : Claim o (accepted new_unit b cs)

-- some replies and some subject come of a list of calls
pub record Runs (s : Subject) (cs : List Call) : Type 0 where
  pub replied : List Reply
  pub last : Subject
  pub calls : Calls s cs replied last

-- demand 3, from the subject that an accepted opening made: any list of calls, and a reading after the last of them
pub record Demand3 : Type 0 where
  pub holds : {b : Record} {a : Result (Unit {0}) OpenRefusal} {s t : Subject} {cs : List Call} {ys : List Reply} {o : Result OutcomeResult OutOfRange} →
      Opens b a s → open_number a ≡ 0 → Calls s cs ys t → ReadsOutcome t o → Holds b cs ys o
  -- every opening has an answer; from any subject, and so from one that was opened, every list of calls runs, and a reading after it has an answer
  pub opening_exists : (b : Record) → Five b → (a : Result (Unit {0}) OpenRefusal) × (s : Subject) × Opens b a s
  pub calls_exist : (s : Subject) (cs : List Call) → Runs s cs
  pub reading_exists : (s : Subject) → (o : Result OutcomeResult OutOfRange) × ReadsOutcome s o
