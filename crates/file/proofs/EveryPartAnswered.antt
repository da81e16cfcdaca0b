-- The calls on the parts of a file have answers: whatever their promises say, some answer says it.
-- Assumes nothing.
use mathlib.Core.Path.{◌≡◌, refl, sym, subst}
use mathlib.Core.Bool.{Bool, true, false}
use mathlib.Core.List.{List}
use Prim.Native.Nat.{ℕ, zero, suc, ◌+◌, ◌-◌, ◌/◌, ◌<◌}
use native.Mathlib.Omega.{arith}
use lib.Dec.{ltb}
use borrow.Author.Tests.{ltb-true, ltb-false}
use lib.ListN.{get_or, length, take, drop, get_or-eq_default, length-take}
use lib.Seq.{get_or-take, get_or-drop}
use Rattle.std.specs.Prelude.{Ok, Err}
use Rattle.laws.proofs.SomeCase.{Some}
use Rattle.laws.proofs.FirstRefusal.{among}
use Rattle.laws.specs.Layout.{AreBytes}
use Rattle.records.specs.declared.OwnRefusal.TheVariants as W
use Rattle.records.specs.Entries.{Five}
use Rattle.records.specs.Forms.{new_form}
use Rattle.codec.specs.declared.ReadRefusal.TheVariants as R
use Rattle.codec.specs.declared.ReadResult.{ReadResult}
use Rattle.codec.specs.Bytes.{record_length}
use Rattle.codec.specs.Reading.{read_number, refusals_of_bytes, refusal_of_bytes, record_of_bytes, Reads}
use Rattle.codec.proofs.NoRefusalOfBytes.{each_of_bytes}
use Rattle.codec.proofs.FiveMarksAndSizes.{found_five}
use Rattle.subject.specs.declared.Subject.{Subject}
use Rattle.outcome_rules.specs.VisitLines.{VisitLine}
use Rattle.adding.specs.Promises.{subject_by, refusal_of_adding_held}
use Rattle.outcome.proofs.EveryAdditionAnswered.{some_addition}
use Rattle.outcome.proofs.EveryCallAnswered.{opens as some-opening, readable}
use Rattle.codec.specs.Parts.{bad_length, parts, parts_of}
use Rattle.file.specs.FileAsCalls.{AddsParts, none, adds, opens, PartsCalled}
use Rattle.codec.proofs.PartsJoined.{one_part}

-- each number that refuses bytes, and 0, is that of some case of reading's answer
some_bytes : (s : List ℕ) → Some read_number (refusal_of_bytes new_form s)
some_bytes s =
    among (Some read_number) (refusals_of_bytes new_form s) (Ok tt, refl)
    (each_of_bytes new_form (Some read_number) (Err R.WrongLength, refl) (Err R.NoSuchKind, refl) (Err (R.Own W.NoSuchDate), refl) (Err (R.Own W.OutsideLimits), refl) (Err (R.Own W.NotZero), refl) s)

-- reading has an answer
some_read : (part : List ℕ) → AreBytes part → (x : ReadResult) × Reads part x
some_read part octets =
    let some = some_bytes part in
    (record { answer = some.0; found = record_of_bytes new_form part }, record { answer = some.1; found = refl; octets = octets })

-- what is taken of bytes, and what is left, are bytes
take_bytes : (s : List ℕ) → AreBytes s → (n : ℕ) → AreBytes (take n s)
take_bytes s h n k = go (ltb k n) refl
  where
    go : (b : Bool) → ltb k n ≡ b → get_or (take n s) k 0 < 256
    go true e = rw (get_or-take n s k 0 (ltb-true k n e)) (h k)
    go false e = omega (arith, get_or-eq_default (take n s) 0 {n = k} (omega (arith, ltb-false k n e, length-take n s)))

drop_bytes : (s : List ℕ) → AreBytes s → (n : ℕ) → AreBytes (drop n s)
drop_bytes s h n k = rw (get_or-drop n s k 0) (h (n + k))

-- answers for parts read and added, from any subject
record Later (u : Subject) (ps : List (List ℕ)) : Type 0 where
  numbers : List ℕ
  responses : List VisitLine
  last : Subject
  calls : AddsParts u ps numbers responses last

later : (u : Subject) (n : ℕ) (s : List ℕ) → AreBytes s → Later u (parts new_form n s)
later u zero s h = record { numbers = _; responses = _; last = u; calls = none }
later u (suc n) s h =
    let read = some_read (take record_length s) (take_bytes s h record_length) in
    let found = read.0.found in
    let now = some_addition u found in
    let rest = later (subject_by u found (refusal_of_adding_held u found)) n (drop record_length s) (drop_bytes s h record_length) in
    record { numbers = _; responses = _; last = rest.last; calls = adds {a = now.0} read.1 now.1 rest.calls }

-- the first part opens
from_first : (n : ℕ) (s : List ℕ) → AreBytes s → PartsCalled (parts new_form (suc n) s)
from_first n s h =
    let part = take record_length s in
    let read = some_read part (take_bytes s h record_length) in
    let opening = some-opening read.0.found (subst Five (sym read.1.found) (found_five new_form part)) in
    let rest = later opening.1 n (drop record_length s) (drop_bytes s h record_length) in
    let reading = readable rest.last in
    record { numbers = _; responses = _; left = rest.last; calls = opens read.1 opening.2 rest.calls; reading = reading.0; reads = reading.1 }

pub called : (s : List ℕ) → AreBytes s → bad_length new_form (length s) ≡ false → PartsCalled (parts_of new_form s)
called s h fair = subst (λ (n : ℕ). PartsCalled (parts new_form n s)) (sym (one_part new_form s fair)) (from_first (length s / record_length - 1) s h)
