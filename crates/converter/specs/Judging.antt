-- Document 02, request 1: what judging an old file promises, and its steps: an old record, each size times ten, opens a subject or is added to one by the
-- calls that place any other.
-- Assumes nothing.
use Rattle.std.specs.Prelude.{◌≡◌, ◌≢◌, List, [], ◌∷◌, ℕ, eqb, Result, MatchResult}
use Rattle.laws.specs.Choice.{pick}
use Rattle.records.specs.Forms.{old_form}
use Rattle.records.specs.Tenfold.{tenfold}
use Rattle.codec.specs.Reading.{refusal_of_bytes, record_of_bytes}
use Rattle.subject.specs.declared.Subject.{Subject}
use Rattle.subject.specs.declared.OpenRefusal.{OpenRefusal}
use Rattle.subject.specs.Opening.{open_number, Opens}
use Rattle.adding.specs.Refusals.{AddAnswer}
use Rattle.adding.specs.Refusals.{add_number}
use Rattle.adding.specs.Promises.{Adds}
use Rattle.file.specs.Verdict.{verdict_of, file_values}
use Rattle.outcome.specs.declared.OutcomeResult.{OutcomeResult}
use Rattle.file.specs.declared.FileRefusal.{FileRefusal}

-- the number that reading in the old form gives, or, where that is 0, the number that opening or adding gives
abbrev pub number_behind : List ℕ → ℕ → ℕ
number_behind part n = pick (eqb (refusal_of_bytes old_form part) 0) n (refusal_of_bytes old_form part)

pub record OpensOld (part : List ℕ) (n : ℕ) (s : Subject) : Type 0 where
  pub answer : Result (Unit {0}) OpenRefusal
  pub opens : Opens (tenfold (record_of_bytes old_form part)) answer s
  pub number : n ≡ number_behind part (open_number answer)

pub record AddsOld (s : Subject) (part : List ℕ) (n : ℕ) (t : Subject) : Type 0 where
  pub answer : AddAnswer
  pub adds : Adds s (tenfold (record_of_bytes old_form part)) answer t
  pub number : n ≡ number_behind part (add_number answer)

-- the subject opened, with no number, or the number that refuses the record, which is not 0
abbrev pub OpenedOld : List ℕ → Result Subject ℕ → Type 0
OpenedOld part a = MatchResult a (λ s. OpensOld part 0 s) (λ n. (n ≢ 0) × ((s : Subject) × OpensOld part n s))

-- the same of an addition
abbrev pub AddedOld : Subject → List ℕ → Result Subject ℕ → Type 0
AddedOld s part a = MatchResult a (λ t. AddsOld s part 0 t) (λ n. (n ≢ 0) × ((t : Subject) × AddsOld s part n t))

pub record JudgesOldFile (s : List ℕ) (a : Result OutcomeResult FileRefusal) : Type 0 where
  pub answer : file_values a ≡ verdict_of old_form s

-- reading in the old form refuses no part
abbrev pub AllRead : List (List ℕ) → Type 0
AllRead [] = Unit {0}
AllRead (part ∷ ps) = (refusal_of_bytes old_form part ≡ 0) × AllRead ps
