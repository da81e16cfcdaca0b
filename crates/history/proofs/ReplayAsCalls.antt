-- A turn of the replay's loop as two calls, and the whole replay as an instance of demand 3.
-- Assumes nothing.
use mathlib.Core.Path.{◌≡◌, sym, ap, ◌∙◌, subst}
use mathlib.Core.List.{List, ◌∷◌, [], ◌++◌, map}
use Prim.Native.Nat.{ℕ, suc, ◌/◌, ◌≤◌, ◌<◌}
use native.Mathlib.Omega.{arith}
use lib.ListN.{length, take, drop, length-append, length-drop}
use lib.Seq.{take-append_seam, drop-append_seam}
use Rattle.std.specs.Prelude.{Result, Err}
use Rattle.records.specs.declared.Record.{Record}
use Rattle.records.specs.Forms.{new_form}
use Rattle.codec.specs.Bytes.{record_length}
use Rattle.codec.specs.Reading.{record_of_bytes}
use Rattle.outcome_rules.specs.Adding.{Call}
use Rattle.subject.specs.declared.Subject.{Subject}
use Rattle.subject.specs.Opening.{blank_subject, Opens}
use Rattle.adding.specs.Refusals.{AddAnswer}
use Rattle.subject.specs.declared.OpenRefusal.{OpenRefusal}
use Rattle.adding.specs.Promises.{Adds}
use Rattle.outcome.specs.ReadingOutcome.{ReadsOutcome}
use Rattle.outcome.specs.Demand3.{Reply, Calls, none, adds, reads}
use Rattle.outcome.proofs.CallsInRange.{calls_in_range}
use Rattle.outcome.proofs.Demand3.{demand3}
use Rattle.codec.specs.Parts.{parts}
use Rattle.history.specs.Replay.{records_in, calls_of, Replayed}
use Rattle.outcome.specs.declared.OutcomeResult.{OutcomeResult}
use Rattle.outcome.specs.declared.OutOfRange.{OutOfRange}

-- some replies to the calls of the records lead from a subject to another
pub record Reached (s : Subject) (rs : List Record) (t : Subject) : Type 0 where
  pub replied : List Reply
  pub calls : Calls s (calls_of rs) replied t

one_turn : {s t u : Subject} {r : Record} {a : AddAnswer} {o : Result OutcomeResult OutOfRange} {rs : List Record} → Adds s r a t → ReadsOutcome t o → Reached t rs u → Reached s (r ∷ rs) u
one_turn w q c = record { replied = _; calls = adds w (reads q c.calls) }

-- what is left to replay completes the whole
abbrev pub Goes : List ℕ → Subject → Subject → List ℕ → Type 0
Goes later first s left = (t : Subject) → Reached s (records_in left) t → Reached first (records_in later) t

-- the records in what is left are that of its first part, and those behind it
one_more : (left part next : List ℕ) → left ≡ part ++ next → length part ≡ record_length → records_in left ≡ record_of_bytes new_form part ∷ records_in next
one_more left part next cut whole =
    let count : length (part ++ next) / record_length ≡ suc (length next / record_length) = omega (arith, length-append part next, whole) in
    let front : take record_length (part ++ next) ≡ part = ap (λ (n : ℕ). take n (part ++ next)) (sym whole) ∙ take-append_seam part next in
    let behind : drop record_length (part ++ next) ≡ next = ap (λ (n : ℕ). drop n (part ++ next)) (sym whole) ∙ drop-append_seam part next in
    ap records_in cut ∙ ap (λ (n : ℕ). map (record_of_bytes new_form) (parts new_form n (part ++ next))) count
    ∙ (λ i. record_of_bytes new_form (front i) ∷ map (record_of_bytes new_form) (parts new_form (length next / record_length) (behind i)))

pub turn : (later left part next : List ℕ) (first s t : Subject) (r : Record) (a : AddAnswer) (o : Result OutcomeResult OutOfRange) → left ≡ part ++ next →
    length part ≡ record_length → Goes later first s left → r ≡ record_of_bytes new_form part → Adds s r a t → ReadsOutcome t o → Goes later first t next
turn later left part next first s t r a o cut whole g re w q u c =
    let more : records_in left ≡ r ∷ records_in next = one_more left part next cut whole ∙ ap (λ (x : Record). x ∷ records_in next) (sym re) in
    g u (subst (λ (rs : List Record). Reached s rs u) (sym more) (one_turn w q c))

-- behind the last record
pub ended : (later left : List ℕ) (first s : Subject) → length left < record_length → Goes later first s left → Reached first (records_in later) s
ended later left first s h g =
    let z : length left / record_length ≡ 0 = omega (arith, h) in
    g s (rw z (record { replied = []; calls = none }))

-- no call changes the blank
blank_stays : {s t : Subject} {cs : List Call} {ys : List Reply} → s ≡ blank_subject → Calls s cs ys t → t ≡ blank_subject
blank_stays e none = e
blank_stays e (adds {t = t} {r = r} {a = a} w c) = blank_stays (calls_in_range.added_to_blank (subst (λ (x : Subject). Adds x r a t) e w)).1 c
blank_stays e (reads w c) = blank_stays e c

pub empty : (l : List ℕ) (e : OutOfRange) → length l < record_length → Replayed (records_in l) (Err e)
empty l e h = let z : length l / record_length ≡ 0 = omega (arith, h) in rw z

pub replayed : (l : List ℕ) (b : Record) (a : Result (Unit {0}) OpenRefusal) (s t : Subject) (o : Result OutcomeResult OutOfRange) → record_length ≤ length l → b ≡ record_of_bytes new_form (take record_length l) →
    Opens b a s → Reached s (records_in (drop record_length l)) t → ReadsOutcome t o → Replayed (records_in l) o
replayed l b a s t o h be w c q =
    subst (λ (rs : List Record). Replayed rs o) whole (
      λ accepts. (demand3.holds w (w.answer ∙ accepts) c.calls q).claim,
      λ refuses.
          let blank_left = blank_stays (calls_in_range.not_opened w (λ z. refuses (sym w.answer ∙ z))) c.calls in
          calls_in_range.outcome_read_of_blank (subst (λ (x : Subject). ReadsOutcome x o) blank_left q),
    )
  where
    whole : b ∷ records_in (drop record_length l) ≡ records_in l
    whole =
        let e : length l / record_length ≡ suc (length (drop record_length l) / record_length) = omega (arith, h, length-drop record_length l) in
        ap (λ (x : Record). x ∷ records_in (drop record_length l)) be ∙ sym (ap (λ (n : ℕ). map (record_of_bytes new_form) (parts new_form n l)) e)
