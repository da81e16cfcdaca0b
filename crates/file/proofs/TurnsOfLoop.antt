-- A turn of the loop over a file's records as a step of the recursion over its parts. By its name this file is checked behind the theorem that ties a file
-- to the additions, so that a file judged otherwise is refused there.
-- Assumes nothing.
use mathlib.Core.Path.{◌≡◌, sym, ◌∙◌, ap}
use mathlib.Core.Bool.{true, false, not}
use mathlib.Core.List.{List, [], ◌∷◌, ◌++◌, map, append_assoc}
use Prim.Native.Nat.{ℕ, ◌+◌, ◌-◌, ◌/◌, ◌≤◌, ◌<◌}
use native.Mathlib.Numerals.{add-one}
use native.Mathlib.Omega.{arith}
use lib.Dec.{eqb}
use borrow.Author.Tests.{eqb-true}
use lib.ListN.{length, take}
use Rattle.std.specs.Prelude.{Result, is_err}
use Rattle.records.specs.declared.Record.{Record}
use Rattle.records.specs.Forms.{new_form}
use Rattle.codec.specs.Bytes.{record_length}
use Rattle.codec.specs.Reading.{record_of_bytes}
use Rattle.subject.specs.declared.Subject.{Subject}
use Rattle.subject.specs.declared.OpenRefusal.{OpenRefusal}
use Rattle.subject.specs.Opening.{open_number, OpensBytes}
use Rattle.subject.proofs.OpeningReturns.{number_by_err as opened_by_err}
use Rattle.adding.specs.Refusals.{AddAnswer}
use Rattle.adding.specs.Refusals.{add_number}
use Rattle.adding.specs.Promises.{AddsBytes}
use Rattle.adding.proofs.Returns.{number_by_err as added_by_err}
use Rattle.codec.specs.Parts.{bad_length, parts, parts_of}
use Rattle.file.specs.Verdict.{refusal_of_part, refused, verdict_from, verdict_of, file_values, JudgesFile}
use Rattle.file.specs.Ending.{EndsFile}
use Rattle.codec.proofs.PartsJoined.{one_part, part_at, parts_from, one_more}
use Rattle.file.proofs.FileFollowsRecords.{Taken, first_taken, more, later_number, later_added, ending}
use Rattle.outcome.specs.declared.OutcomeResult.{OutcomeResult}
use Rattle.file.specs.declared.FileRefusal.{FileRefusal}

-- the parts from index k on
abbrev pub from : List ℕ → ℕ → List (List ℕ)
from l k = parts_from new_form l (length l / record_length) k

-- the records before index k are taken, and the verdict of the file is that of the rest behind them; with the rest they are all the file's records
pub record Standing (l : List ℕ) (s : Subject) (k : ℕ) : Type 0 where
  pub before : List Record
  pub taken : Taken before s
  pub rest : verdict_of new_form l ≡ verdict_from new_form before k (from l k)
  pub all : before ++ map (record_of_bytes new_form) (from l k) ≡ map (record_of_bytes new_form) (parts_of new_form l)

pub bad : (l : List ℕ) (a : Result OutcomeResult FileRefusal) → bad_length new_form (length l) ≡ true → file_values a ≡ refused 13 0 → JudgesFile l a
unfolding verdict_of
bad l a h e = record { answer = e ∙ rw h }

module _ (l : List ℕ) (fair : bad_length new_form (length l) ≡ false) where
  pub all_parts : verdict_of new_form l ≡ verdict_from new_form [] 0 (take record_length l ∷ from l 1)
  unfolding verdict_of
  all_parts = rw fair (ap (λ (n : ℕ). verdict_from new_form [] 0 (parts new_form n l)) (one_part new_form l fair))

  -- opening the first part
  module _ (x : Result (Unit {0}) OpenRefusal) (s : Subject) (w : OpensBytes (take record_length l) x s) where
    pub first_unmet : eqb (refusal_of_part new_form [] (take record_length l)) 0 ≡ not (is_err x)
    first_unmet = ap (λ (m : ℕ). eqb m 0) (sym w.answer) ∙ opened_by_err x

    pub first_refused : (a : Result OutcomeResult FileRefusal) → is_err x ≡ true → file_values a ≡ refused (open_number x) 0 → JudgesFile l a
    first_refused a h e =
        let met : eqb (refusal_of_part new_form [] (take record_length l)) 0 ≡ false = first_unmet ∙ ap not h in
        record { answer = e ∙ ap (λ (m : ℕ). refused m 0) w.answer ∙ sym (all_parts ∙ rw met) }

    abbrev pub first_standing : is_err x ≡ false → Standing l s 1
    first_standing h =
        let none : eqb (refusal_of_part new_form [] (take record_length l)) 0 ≡ true = first_unmet ∙ ap not h in
        record {
          before = record_of_bytes new_form (take record_length l) ∷ [];
          taken = first_taken (take record_length l) x s w (eqb-true (open_number x) 0 (opened_by_err x ∙ ap not h));
          rest = all_parts ∙ rw none;
          all = ap (λ (m : ℕ). map (record_of_bytes new_form) (parts new_form m l)) (sym (one_part new_form l fair));
        }

module _ (l : List ℕ) (s : Subject) (k : ℕ) (w : Standing l s k) where
  -- adding part k
  module _ (h : k < length l / record_length) (x : AddAnswer) (t : Subject) (v : AddsBytes s (part_at new_form l k) x t) where
    pub next_part : verdict_of new_form l ≡ verdict_from new_form w.before k (part_at new_form l k ∷ from l (k + 1))
    next_part = w.rest ∙ ap (verdict_from new_form w.before k) (one_more new_form l (length l / record_length) k h)

    pub number : add_number x ≡ refusal_of_part new_form w.before (part_at new_form l k)
    number = later_number w.taken v

    pub unmet : eqb (refusal_of_part new_form w.before (part_at new_form l k)) 0 ≡ not (is_err x)
    unmet = ap (λ (m : ℕ). eqb m 0) (sym number) ∙ added_by_err x

    pub turn_refused : (a : Result OutcomeResult FileRefusal) → is_err x ≡ true → file_values a ≡ refused (add_number x) k → JudgesFile l a
    turn_refused a z e =
        let met : eqb (refusal_of_part new_form w.before (part_at new_form l k)) 0 ≡ false = unmet ∙ ap not z in
        record { answer = e ∙ ap (λ (m : ℕ). refused m k) number ∙ sym (next_part ∙ rw met) }

    abbrev pub turn : is_err x ≡ false → Standing l t (k + 1)
    turn z =
        let none : eqb (refusal_of_part new_form w.before (part_at new_form l k)) 0 ≡ true = unmet ∙ ap not z in
        let done = eqb-true (add_number x) 0 (added_by_err x ∙ ap not z) in
        record {
          before = w.before ++ (record_of_bytes new_form (part_at new_form l k) ∷ []);
          taken = more w.taken (record_of_bytes new_form (part_at new_form l k)) (later_added w.taken v done) done;
          rest =
              next_part ∙ rw none
              (ap (λ (j : ℕ). verdict_from new_form (w.before ++ (record_of_bytes new_form (part_at new_form l k) ∷ [])) j (from l (k + 1))) (sym (add-one k)));
          all =
              append_assoc w.before (record_of_bytes new_form (part_at new_form l k) ∷ []) (map (record_of_bytes new_form) (from l (k + 1)))
              ∙ ap (λ (ps : List (List ℕ)). w.before ++ map (record_of_bytes new_form) ps) (sym (one_more new_form l (length l / record_length) k h)) ∙ w.all;
        }

  pub ended : length l / record_length ≤ k → (a : Result OutcomeResult FileRefusal) → EndsFile s (k - 1) a → JudgesFile l a
  ended h a v =
      let z : length l / record_length - k ≡ 0 = omega arith in
      let none : from l k ≡ [] = rw z in
      record { answer = ending w.taken (k - 1) a v ∙ sym (w.rest ∙ ap (verdict_from new_form w.before k) none) }
