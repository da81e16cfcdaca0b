-- What opening and adding with an old record promise, from what the calls answered.
-- Assumes nothing.
use mathlib.Core.Path.{◌≡◌, refl, sym, ◌∙◌, ap, subst}
use mathlib.Core.Bool.{true, false, not}
use mathlib.Core.List.{List}
use Prim.Native.Nat.{ℕ}
use lib.Dec.{eqb}
use borrow.Author.Tests.{eqb-false}
use Rattle.std.specs.Prelude.{◌≢◌, Result, Ok, Err, is_err}
use Rattle.records.specs.Forms.{old_form}
use Rattle.records.specs.Entries.{Five}
use Rattle.records.specs.declared.Record.{Record}
use Rattle.records.proofs.NoOwnRefusal.{own_not_0}
use Rattle.codec.specs.Reading.{read_number, refusal_of_bytes, record_of_bytes}
use Rattle.codec.specs.OldReading.{ReadsOld}
use Rattle.codec.specs.declared.ReadRefusal.{ReadRefusal}
use Rattle.codec.specs.declared.ReadRefusal.TheVariants as R
use Rattle.codec.specs.declared.ReadResult.{ReadResult}
use Rattle.codec.proofs.FiveMarksAndSizes.{found_five}
use Rattle.subject.specs.declared.Subject.{Subject}
use Rattle.subject.specs.Opening.{open_number, Opens}
use Rattle.adding.specs.Refusals.{add_number}
use Rattle.adding.specs.Promises.{subject_by, refusal_of_adding_held, Adds}
use Rattle.outcome.proofs.EveryCallAnswered.{opens as some_opening}
use Rattle.outcome.proofs.EveryAdditionAnswered.{some_addition}
use Rattle.converter.proofs.ConvertedFile.{tenfold_five}
use Rattle.converter.specs.Judging.{number_behind, OpenedOld, AddedOld}

-- 0 exactly where a record was read
read_by_err : (answer : Result (Unit {0}) ReadRefusal) → eqb (read_number answer) 0 ≡ not (is_err answer)
read_by_err (Ok u) = refl
read_by_err (Err R.WrongLength) = refl
read_by_err (Err R.NoSuchKind) = refl
read_by_err (Err (R.Own own)) = own_not_0 own

module _ (part : List ℕ) (x : ReadResult) (w : ReadsOld part x) where
  read : eqb (refusal_of_bytes old_form part) 0 ≡ not (is_err x.answer)
  read = ap (λ (n : ℕ). eqb n 0) (sym w.answer) ∙ read_by_err x.answer

  five : Five x.found
  five = subst Five (sym w.found) (tenfold_five (record_of_bytes old_form part) (found_five old_form part))

  module _ (h : is_err x.answer ≡ true) (n : ℕ) (e : n ≡ read_number x.answer) where
    not_0 : n ≢ 0
    not_0 = eqb-false n 0 (rw e (read_by_err x.answer ∙ ap not h))

    first_of_reading : (m : ℕ) → n ≡ number_behind part m
    first_of_reading m = let z : eqb (refusal_of_bytes old_form part) 0 ≡ false = read ∙ ap not h in e ∙ w.answer ∙ rw z

    pub open_unread : OpenedOld part (Err n)
    open_unread =
        let some = some_opening x.found five in
        (not_0, (some.1, record { answer = some.0; opens = subst (λ (r : Record). Opens r some.0 some.1) w.found some.2; number = first_of_reading (open_number some.0) }))

    pub add_unread : (s : Subject) → AddedOld s part (Err n)
    add_unread s =
        let some = some_addition s x.found in
        let next = subject_by s x.found (refusal_of_adding_held s x.found) in
        (not_0, (next, record { answer = some.0; adds = subst (λ (r : Record). Adds s r some.0 next) w.found some.1; number = first_of_reading (add_number some.0) }))
