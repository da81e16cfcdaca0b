-- A file is judged as its records are one by one, by induction on the parts.
-- Assumes nothing.
use mathlib.Core.Path.{◌≡◌, refl, sym, ◌∙◌, ap, subst}
use mathlib.Core.Bool.{Bool, true, false}
use mathlib.Core.List.{List, [], ◌∷◌, ◌++◌, map, append-nil, append_assoc}
use mathlib.Core.Logic.{⊎_elim}
use Prim.Native.Nat.{ℕ, suc, ◌+◌, ◌-◌, ◌/◌}
use native.Mathlib.Omega.{arith}
use lib.Dec.{eqb}
use borrow.Author.Tests.{eq-eqb, eqb-true}
use lib.ListN.{length}
use Rattle.std.specs.Prelude.{Result}
use Rattle.laws.specs.Choice.{pick}
use Rattle.laws.specs.Refusals.{Refusal, first}
use Rattle.records.specs.declared.Record.{Record}
use Rattle.records.specs.Entries.{date_of}
use Rattle.codec.specs.declared.ReadResult.{ReadResult}
use Rattle.codec.specs.Bytes.{record_length}
use Rattle.records.proofs.NoOwnRefusal.{none_after_own}
use Rattle.records.specs.Forms.{new_form, new_unit}
use Rattle.codec.specs.Reading.{refusals_of_bytes, record_of_bytes, Reads}
use Rattle.codec.proofs.NoRefusalOfBytes.{after_reading}
use Rattle.outcome_rules.specs.Values.{Outcome}
use Rattle.outcome_rules.specs.StudyRecords.{on_study_days}
use Rattle.outcome_rules.specs.VisitLines.{VisitLine, lines_in_order}
use Rattle.outcome_rules.specs.Adding.{refusals_of_opening, refusal_of_opening, refusals_of_adding}
use Rattle.subject.specs.declared.Subject.{Subject}
use Rattle.subject.specs.declared.OpenRefusal.{OpenRefusal}
use Rattle.subject.specs.Opening.{open_number, Opens}
use Rattle.adding.specs.Refusals.{AddAnswer}
use Rattle.adding.specs.Responses.{add_responses}
use Rattle.adding.specs.Refusals.{add_number}
use Rattle.adding.specs.Promises.{Adds}
use Rattle.outcome.specs.ReadingOutcome.{outcome, reading_values, ReadsOutcome}
use Rattle.codec.specs.Parts.{bad_length, parts_of}
use Rattle.file.specs.Verdict.{refusal_of_part, Verdict, refused, accepted, verdict_on, verdict_from, verdict_of}
use Rattle.file.specs.FileAsCalls.{first_number, AddsParts, none, adds, CallsOnParts, opens, Stop, never, at, first_stop, FileAsCalls}
use Rattle.file.proofs.VerdictsApart.{apart, accepted_same}
use Rattle.codec.proofs.PartsJoined.{length_parts, cut}
use Rattle.file.proofs.EveryPartAnswered.{called}
use Rattle.file.proofs.FileFollowsRecords.{Taken, none_read, alone, opened_taken, adding, more, lines_more, EndsBy, read_verdict}
use Rattle.outcome.specs.declared.OutcomeResult.{OutcomeResult}
use Rattle.outcome.specs.declared.OutOfRange.{OutOfRange}

-- reading's number, then the other, is the part's refusal
read_then : (part : List ℕ) (x : ReadResult) (n : ℕ) (others : List Refusal) → Reads part x → n ≡ first others →
    first_number x n ≡ first (refusals_of_bytes new_form part ++ others)
read_then part x n others w e = (λ i. pick (eqb (w.answer i) 0) (e i) (w.answer i)) ∙ sym (after_reading new_form part others)

module _ {rs : List Record} {s t : Subject} {part : List ℕ} {x : ReadResult} {a : AddAnswer} (h : Taken rs s) (w : Reads part x) (v : Adds s x.found a t) where
  abbrev r : Record
  r = record_of_bytes new_form part

  added_found : Adds s r a t
  added_found = subst (λ (y : Record). Adds s y a t) w.found v

  adds_number : first_number x (add_number a) ≡ refusal_of_part new_form rs part
  adds_number = read_then part x (add_number a) (refusals_of_adding new_unit rs r) w (adding h r added_found) ∙ rw h.opens

  module _ (z : first_number x (add_number a) ≡ 0) where
    adds_done : add_number a ≡ 0
    adds_done =
        adding h r added_found
        ∙ (none_read part (refusals_of_adding new_unit rs r) (sym (read_then part x (add_number a) (refusals_of_adding new_unit rs r) w (adding h r added_found)) ∙ z)).1

    adds_taken : Taken (rs ++ (r ∷ [])) t
    adds_taken = more h r added_found adds_done

    adds_lines : lines_in_order (on_study_days new_unit (rs ++ (r ∷ []))) ≡ lines_in_order (on_study_days new_unit rs) ++ add_responses a
    adds_lines = lines_more h r added_found adds_done

-- behind the last record, where nothing stopped it: all records, their verdict and their lines, with those of the records before
record Ended (rs : List Record) (k : ℕ) (ps : List (List ℕ)) (ls : List VisitLine) (v : Verdict) (t : Subject) : Type 0 where
  all : List Record
  taken : Taken all t
  verdict : v ≡ verdict_on (on_study_days new_unit all) (k + length ps - 1)
  whole : all ≡ rs ++ map (record_of_bytes new_form) ps
  lines : lines_in_order (on_study_days new_unit all) ≡ lines_in_order (on_study_days new_unit rs) ++ ls

abbrev EndedBy : Stop → List Record → ℕ → List (List ℕ) → List VisitLine → Verdict → Subject → Type 0
EndedBy never rs k ps ls v t = Ended rs k ps ls v t
EndedBy (at n j) rs k ps ls v t = v ≡ refused n j

later_parts : (rs : List Record) (k : ℕ) {s t : Subject} {ps : List (List ℕ)} {ns : List ℕ} {ls : List VisitLine} → Taken rs s → AddsParts s ps ns ls t →
    EndedBy (first_stop k ns) rs k ps ls (verdict_from new_form rs k ps) t
later_parts rs k h none =
    record {
      all = rs;
      taken = h;
      verdict = ap (verdict_on (on_study_days new_unit rs)) (let e : k - 1 ≡ k + 0 - 1 = omega arith in e);
      whole = sym (append-nil rs);
      lines = sym (append-nil (lines_in_order (on_study_days new_unit rs)));
    }
later_parts rs k {t = u} h (adds {t = t} {part = part} {x = x} {a = a} {ps = ps} {ns = ns} {ls = ls} w v c) =
    go (eqb (first_number x (add_number a)) 0) refl (λ m. later_parts (rs ++ (record_of_bytes new_form part ∷ [])) (suc k) m c)
  where
    number_here : first_number x (add_number a) ≡ refusal_of_part new_form rs part
    number_here = adds_number h w v

    one_on : first_number x (add_number a) ≡ 0 → (stop : Stop) →
        EndedBy stop (rs ++ (record_of_bytes new_form part ∷ [])) (suc k) ps ls (verdict_from new_form (rs ++ (record_of_bytes new_form part ∷ [])) (suc k) ps) u →
        EndedBy stop rs k (part ∷ ps) (add_responses a ++ ls) (verdict_from new_form (rs ++ (record_of_bytes new_form part ∷ [])) (suc k) ps) u
    one_on z never e =
        let same : suc k + length ps - 1 ≡ k + length (part ∷ ps) - 1 = omega arith in
        record {
          all = e.all;
          taken = e.taken;
          verdict = e.verdict ∙ ap (verdict_on (on_study_days new_unit e.all)) same;
          whole = e.whole ∙ append_assoc rs (record_of_bytes new_form part ∷ []) (map (record_of_bytes new_form) ps);
          lines =
              e.lines ∙ ap (λ (l : List VisitLine). l ++ ls) (adds_lines h w v z) ∙ append_assoc (lines_in_order (on_study_days new_unit rs)) (add_responses a) ls;
        }
    one_on z (at n j) e = e

    go : (b : Bool) → eqb (first_number x (add_number a)) 0 ≡ b →
        (Taken (rs ++ (record_of_bytes new_form part ∷ [])) t →
        EndedBy (first_stop (suc k) ns) (rs ++ (record_of_bytes new_form part ∷ [])) (suc k) ps ls (verdict_from new_form (rs ++ (record_of_bytes new_form part ∷ [])) (suc k) ps) u) →
        EndedBy (pick b (first_stop (suc k) ns) (at (first_number x (add_number a)) k)) rs k (part ∷ ps) (add_responses a ++ ls) (verdict_from new_form rs k (part ∷ ps)) u
    go true q next =
        let z = eqb-true (first_number x (add_number a)) 0 q in
        let passes : eqb (refusal_of_part new_form rs part) 0 ≡ true = eq-eqb _ 0 (sym number_here ∙ z) in
        rw passes (one_on z (first_stop (suc k) ns) (next (adds_taken h w v z)))
    go false q next =
        let stops : eqb (refusal_of_part new_form rs part) 0 ≡ false = ap (λ (n : ℕ). eqb n 0) (sym number_here) ∙ q in
        rw stops (ap (λ (n : ℕ). refused n k) (sym number_here))

-- the whole file, by its first part
module _ {s u : Subject} {part : List ℕ} {x : ReadResult} {a : Result (Unit {0}) OpenRefusal} {ps : List (List ℕ)} {ns : List ℕ} {ls : List VisitLine}
    (w : Reads part x) (v : Opens x.found a s) (c : AddsParts s ps ns ls u) where
  opening : first_number x (open_number a) ≡ refusal_of_part new_form [] part
  opening = read_then part x (open_number a) (refusals_of_opening new_unit (record_of_bytes new_form part)) w (v.answer ∙ ap (refusal_of_opening new_unit) w.found)

  opened : first_number x (open_number a) ≡ 0 → Taken (record_of_bytes new_form part ∷ []) s
  unfolding refusals_of_opening
  opened z =
      let r = record_of_bytes new_form part in
      let passes = (none_read part (refusals_of_opening new_unit r) (sym opening ∙ z)).1 in
      let found : Opens r a s = subst (λ (y : Record). Opens y a s) w.found v in
      opened_taken r.entry r.marks r.sizes found (found.answer ∙ passes) ((none_after_own new_unit r _).0 passes).1

  all_parts : EndedBy (first_stop 0 (first_number x (open_number a) ∷ ns)) [] 0 (part ∷ ps) ls (verdict_from new_form [] 0 (part ∷ ps)) u
  all_parts = go (eqb (first_number x (open_number a)) 0) refl (λ h. later_parts (record_of_bytes new_form part ∷ []) 1 h c)
    where
      one_on : (stop : Stop) → EndedBy stop (record_of_bytes new_form part ∷ []) 1 ps ls (verdict_from new_form (record_of_bytes new_form part ∷ []) 1 ps) u →
          EndedBy stop [] 0 (part ∷ ps) ls (verdict_from new_form (record_of_bytes new_form part ∷ []) 1 ps) u
      one_on never e =
          let same : 1 + length ps - 1 ≡ 0 + length (part ∷ ps) - 1 = omega arith in
          let r = record_of_bytes new_form part in
          record {
            all = e.all;
            taken = e.taken;
            verdict = e.verdict ∙ ap (verdict_on (on_study_days new_unit e.all)) same;
            whole = e.whole;
            lines = e.lines ∙ ap (λ (l : List VisitLine). l ++ ls) (alone (date_of r.entry) r.entry r.marks r.sizes);
          }
      one_on (at n j) e = e

      go : (b : Bool) → eqb (first_number x (open_number a)) 0 ≡ b →
          (Taken (record_of_bytes new_form part ∷ []) s → EndedBy (first_stop 1 ns) (record_of_bytes new_form part ∷ []) 1 ps ls (verdict_from new_form (record_of_bytes new_form part ∷ []) 1 ps) u) →
          EndedBy (pick b (first_stop 1 ns) (at (first_number x (open_number a)) 0)) [] 0 (part ∷ ps) ls (verdict_from new_form [] 0 (part ∷ ps)) u
      go true q next =
          let z = eqb-true (first_number x (open_number a)) 0 q in
          let passes : eqb (refusal_of_part new_form [] part) 0 ≡ true = eq-eqb _ 0 (sym opening ∙ z) in
          rw passes (one_on (first_stop 1 ns) (next (opened z)))
      go false q next =
          let stops : eqb (refusal_of_part new_form [] part) 0 ≡ false = ap (λ (n : ℕ). eqb n 0) (sym opening) ∙ q in
          rw stops (ap (λ (n : ℕ). refused n 0) (sym opening))

by_parts : {ps : List (List ℕ)} {ns : List ℕ} {ls : List VisitLine} {t : Subject} → CallsOnParts ps ns ls t → EndedBy (first_stop 0 ns) [] 0 ps ls (verdict_from new_form [] 0 ps) t
by_parts (opens w v c) = all_parts w v c

module _ (s : List ℕ) {ns : List ℕ} {ls : List VisitLine} {t : Subject} (c : CallsOnParts (parts_of new_form s) ns ls t) where
  judged : bad_length new_form (length s) ≡ false → EndedBy (first_stop 0 ns) [] 0 (parts_of new_form s) ls (verdict_of new_form s) t
  unfolding verdict_of
  judged fair = rw fair (by_parts c)

  refuses : {n k : ℕ} → bad_length new_form (length s) ≡ false → first_stop 0 ns ≡ at n k → verdict_of new_form s ≡ refused n k
  refuses fair e = subst (λ (stop : Stop). EndedBy stop [] 0 (parts_of new_form s) ls (verdict_of new_form s) t) e (judged fair)

  module _ (fair : bad_length new_form (length s) ≡ false) (e : first_stop 0 ns ≡ never) where
    end : Ended [] 0 (parts_of new_form s) ls (verdict_of new_form s) t
    end = subst (λ (stop : Stop). EndedBy stop [] 0 (parts_of new_form s) ls (verdict_of new_form s) t) e (judged fair)

    same_lines : lines_in_order (on_study_days new_unit (map (record_of_bytes new_form) (parts_of new_form s))) ≡ ls
    same_lines = ap (λ (l : List Record). lines_in_order (on_study_days new_unit l)) (sym end.whole) ∙ end.lines

    otherwise : {q : Result OutcomeResult OutOfRange} → ReadsOutcome t q → EndsBy (verdict_of new_form s) (length s / record_length - 1) q
    otherwise w =
        let same : 0 + length (parts_of new_form s) - 1 ≡ length s / record_length - 1 = omega (arith, length_parts new_form (length s / record_length) s) in
        rw (end.verdict ∙ ap (verdict_on (on_study_days new_unit end.all)) same) (read_verdict end.taken (length s / record_length - 1) w)

module _ (s : List ℕ) {ns : List ℕ} {ls : List VisitLine} {t : Subject} {q : Result OutcomeResult OutOfRange} {o : Outcome} (e : verdict_of new_form s ≡ accepted o) (c : CallsOnParts (parts_of new_form s) ns ls t) (w : ReadsOutcome t q) where
  fair : bad_length new_form (length s) ≡ false
  unfolding verdict_of
  fair = go (bad_length new_form (length s)) refl
    where
      go : (b : Bool) → bad_length new_form (length s) ≡ b → b ≡ false
      go false h = refl
      go true h = absurd (let z : refused 13 0 ≡ accepted o = rw h at e in apart refl z)

  accepts : (first_stop 0 ns ≡ never) × (reading_values q ≡ outcome o) × (lines_in_order (on_study_days new_unit (map (record_of_bytes new_form) (parts_of new_form s))) ≡ ls)
  accepts = go (first_stop 0 ns) refl
    where
      go : (stop : Stop) → first_stop 0 ns ≡ stop → (stop ≡ never) × (reading_values q ≡ outcome o) × (lines_in_order (on_study_days new_unit (map (record_of_bytes new_form) (parts_of new_form s))) ≡ ls)
      go never h =
          (refl, ⊎_elim (λ late. absurd (apart late e)) (λ read. read.1 ∙ ap outcome (accepted_same (sym read.2 ∙ e))) (otherwise s c fair h w), same_lines s c fair h)
      go (at n k) h = absurd (apart (refuses s c fair h) e)

pub file_as_calls : FileAsCalls
file_as_calls =
    record {
      cut = cut new_form;
      called = called;
      accepts = λ s e c w. accepts s e c w;
      refuses = λ s fair c e. refuses s c fair e;
      otherwise = λ s fair c e w. otherwise s c fair e w;
    }
