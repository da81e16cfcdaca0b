-- What reading answers, from what the code found.
-- Assumes nothing.
use mathlib.Core.Path.{◌≡◌, refl, sym, ◌∙◌, ap, ap₂}
use mathlib.Core.Bool.{Bool, true, false}
use mathlib.Core.List.{List, [], ◌∷◌}
use Prim.Native.Nat.{ℕ, suc}
use native.Mathlib.Nat.{one-mul}
use native.Mathlib.Omega.{arith}
use lib.Dec.{eqb}
use lib.ListN.{length}
use borrow.Author.Tests.{eq-eqb, ne_eqb}
use Rattle.std.specs.Prelude.{Err}
use Rattle.std.specs.Array.{IsWholeChunk}
use Rattle.laws.specs.Choice.{pick}
use Rattle.laws.specs.Refusals.{first}
use Rattle.laws.specs.Layout.{AreBytes}
use Rattle.records.specs.Refusals.{refusals_of_read}
use Rattle.records.specs.declared.Record.{Record}
use Rattle.records.proofs.Tenfold.{same_refusals}
use Rattle.records.specs.Forms.{Form, old_form, new_form, new_unit}
use Rattle.codec.specs.Bytes.{record_length, bytes_number}
use Rattle.codec.specs.RawWith.{raw_with, times, sizes_times, visit_times}
use Rattle.codec.specs.OldReading.{ReadsOld}
use Rattle.codec.specs.Reading.{read_number, is_kind, number_of_kind, kind_in, raw_in, refusals_of_raw, refusals_of_record_number, refusals_of_bytes, refusal_of_bytes, blank_record, record_of_bytes, JudgesRead, Reads, visit_fields_in, blank_visit, visit_fields_of, ReadsVisit}
use Rattle.codec.specs.declared.Kind.{Kind}
use Rattle.codec.specs.declared.Kind.TheVariants as K
use Rattle.codec.specs.declared.Raw.{Raw}
use Rattle.codec.specs.declared.ReadRefusal.TheVariants as R
use Rattle.codec.specs.declared.ReadResult.{ReadResult}
use Rattle.codec.specs.declared.VisitFields.{VisitFields}

-- ---- reading

-- records of a form, each made one of the new form, which is refused by the new form's limits as the other is by its own
pub record RefusedAlike (form : Form) (into : Record → Record) : Type 0 where
  pub same : (r : Record) (badstatus spare : Bool) → refusals_of_read new_unit (into r) badstatus spare ≡ refusals_of_read form.unit r badstatus spare
  pub blank : blank_record ≡ into blank_record

times_once : (sizes : List ℕ) → times 1 sizes ≡ sizes
times_once [] = refl
times_once (size ∷ sizes) = ap₂ ◌∷◌ (one-mul size) (times_once sizes)

-- the new form's sizes are in tenths of a millimetre already
unchanged : (r : Record) → sizes_times 1 r ≡ r
unchanged r = ap (λ (sizes : List ℕ). record { entry = r.entry; sizes = sizes; marks = r.marks }) (times_once r.sizes)

pub once : RefusedAlike new_form (sizes_times 1)
once = record { same = λ r badstatus spare. ap (λ (x : Record). refusals_of_read new_unit x badstatus spare) (unchanged r); blank = refl }

pub ten_times : RefusedAlike old_form (sizes_times 10)
ten_times = record { same = same_refusals; blank = refl }

number_is_kind : (kind : Kind) → is_kind (number_of_kind kind) ≡ true
number_is_kind K.Baseline = refl
number_is_kind K.Visit = refl
number_is_kind K.Therapy = refl
number_is_kind K.Death = refl

-- what reading a form promises
pub record ReadsForm (form : Form) (into : Record → Record) (s : List ℕ) (x : ReadResult) : Type 0 where
  pub answer : read_number x.answer ≡ refusal_of_bytes form s
  pub found : x.found ≡ into (record_of_bytes form s)

into_choice : {form : Form} {into : Record → Record} → RefusedAlike form into → (fine : Bool) (r : Record) → pick fine (into r) blank_record ≡ into (pick fine r blank_record)
into_choice alike true r = refl
into_choice alike false r = alike.blank

module _ {form : Form} {into : Record → Record} (alike : RefusedAlike form into) {s : List ℕ} {x : ReadResult} where
  reads_refused : (n : ℕ) → refusal_of_bytes form s ≡ suc n → read_number x.answer ≡ suc n → x.found ≡ blank_record → ReadsForm form into s x
  unfolding record_of_bytes
  reads_refused n e r f = record { answer = r ∙ sym e; found = f ∙ alike.blank ∙ ap into (rw (e, ne_eqb (suc n) 0 (omega arith))) }

  pub reads_length : (length s ≡ form.record_length → ⊥) → (x.answer ≡ Err R.WrongLength) × (x.found ≡ blank_record) → ReadsForm form into s x
  unfolding refusals_of_bytes
  reads_length h q = reads_refused 0 (rw (ne_eqb (length s) form.record_length h)) (ap read_number q.0) q.1

  module _ {t : List ℕ} (whole : IsWholeChunk s t form.record_length) where
    pub reads_no_kind : is_kind (kind_in form (bytes_number form t)) ≡ false → (x.answer ≡ Err R.NoSuchKind) × (x.found ≡ blank_record) → ReadsForm form into s x
    unfolding refusals_of_bytes refusals_of_record_number
    reads_no_kind h q = reads_refused 1 (rw (eq-eqb (length s) form.record_length whole.long, rw whole.same at h)) (ap read_number q.0) q.1

    pub reads_judged : (kind : Kind) → number_of_kind kind ≡ kind_in form (bytes_number form t) → (w : Raw) → w ≡ raw_with into (raw_in form (number_of_kind kind) (bytes_number form t)) → JudgesRead w x → ReadsForm form into s x
    unfolding refusals_of_bytes refusals_of_record_number record_of_bytes
    reads_judged kind k w e j =
        let ke = rw whole.same at k in
        let we = rw whole.same at e in
        let v = raw_in form (number_of_kind kind) (bytes_number form s) in
        let same = ap first (sym (alike.same v.read v.badstatus v.spare)) in
        let q : refusal_of_bytes form s ≡ first (refusals_of_raw new_unit w) = rw (eq-eqb (length s) form.record_length whole.long, ← ke, number_is_kind kind, we) same in
        let fine = eqb (first (refusals_of_raw new_unit w)) 0 in
        record { answer = j.answer ∙ sym q; found = j.found ∙ rw (q, ← ke, ← into_choice alike fine v.read, we) }

module _ (s : List ℕ) (x : ReadResult) (b : AreBytes s) where
  pub reads : ReadsForm new_form (sizes_times 1) s x → Reads s x
  reads q = record { answer = q.answer; found = q.found ∙ unchanged _; octets = b }

  pub reads_old : ReadsForm old_form (sizes_times 10) s x → ReadsOld s x
  reads_old q = record { answer = q.answer; found = q.found; octets = b }

-- ---- reading what a visit has

module _ (s : List ℕ) (x : VisitFields) (b : AreBytes s) where
  pub fields_of_none : (length s ≡ record_length → ⊥) → x ≡ blank_visit → ReadsVisit s x
  unfolding visit_fields_of
  fields_of_none h q = record { fields = q ∙ rw (ne_eqb (length s) record_length h); octets = b }

  pub fields_read : {t : List ℕ} → IsWholeChunk s t record_length → x ≡ visit_times 1 (visit_fields_in new_form (bytes_number new_form t)) → ReadsVisit s x
  unfolding visit_fields_of
  fields_read {t} whole q =
      let v = visit_fields_in new_form (bytes_number new_form s) in
      let same = ap (λ (sizes : List ℕ). record { isvisit = v.isvisit; entry = v.entry; measured = v.measured; sizes = sizes; badstatus = v.badstatus; spare = v.spare }) (times_once v.sizes) in
      record { fields = (rw whole.same at q) ∙ same ∙ rw (eq-eqb (length s) record_length whole.long); octets = b }
