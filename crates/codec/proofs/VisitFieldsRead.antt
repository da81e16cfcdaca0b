-- What the bytes' fields as a visit say of the record that the bytes are read as.
-- Assumes nothing.
use mathlib.Core.Path.{◌≡◌, refl, sym, ◌∙◌, ap}
use mathlib.Core.Bool.{Bool, true, false}
use mathlib.Core.List.{List}
use Prim.Native.Nat.{ℕ}
use lib.Dec.{eqb}
use lib.ListN.{length}
use borrow.Author.Tests.{eq-eqb, eqb-true}
use Rattle.laws.specs.Choice.{pick}
use Rattle.laws.specs.Refusals.{first}
use Rattle.laws.proofs.Tests.{never}
use Rattle.dates.specs.declared.Date.{Date}
use Rattle.records.specs.declared.Entry.TheVariants as E
use Rattle.records.specs.Entries.{date_of}
use Rattle.records.specs.Forms.{new_form, new_unit}
use Rattle.codec.specs.Bytes.{record_length, bytes_number}
use Rattle.codec.specs.Reading.{baseline_in, raw_visit, visit_fields_in, visit_in, spare_in, date_in, kind_in, raw_in, refusals_of_raw, refusals_of_record_number, refusals_of_bytes, refusal_of_bytes, record_of_bytes, visit_fields_of}
use Rattle.codec.specs.declared.Raw.{Raw}
use Rattle.codec.specs.declared.VisitFields.{VisitFields}
use Rattle.codec.proofs.NoRefusalOfBytes.{whole}

-- ---- the date stands at the same place in every layout

either_date : (x : Bool) (v w : Raw) (d : Date) → date_of v.read.entry ≡ d → date_of w.read.entry ≡ d → date_of (pick x v w).read.entry ≡ d
either_date true v w d a b = a
either_date false v w d a b = b

raw_date : (kind n : ℕ) → date_of (raw_in new_form kind n).read.entry ≡ (visit_fields_in new_form n).entry.date
unfolding raw_in baseline_in visit_in spare_in visit_fields_in
raw_date kind n =
    either_date (eqb kind 1) (baseline_in new_form n) _ (visit_fields_in new_form n).entry.date refl
    (either_date (eqb kind 2) (visit_in new_form n) _ (visit_fields_in new_form n).entry.date refl
    (either_date (eqb kind 3) (spare_in new_form (E.Therapy (date_in new_form n)) n) (spare_in new_form (E.Death (date_in new_form n)) n) (visit_fields_in new_form n).entry.date refl refl))

module _ (s : List ℕ) (e : refusal_of_bytes new_form s ≡ 0) where
  fields_there : visit_fields_of s ≡ visit_fields_in new_form (bytes_number new_form s)
  unfolding visit_fields_of
  fields_there = rw (eq-eqb (length s) record_length (whole new_form s e))

  pub found_date : date_of (record_of_bytes new_form s).entry ≡ (visit_fields_of s).entry.date
  unfolding record_of_bytes
  found_date = rw (eq-eqb (refusal_of_bytes new_form s) 0 e) (raw_date (kind_in new_form (bytes_number new_form s)) (bytes_number new_form s)) ∙ ap (λ v. v.entry.date) (sym fields_there)

-- ---- a visit

-- the kind read by the visit's layout is the kind
kind_of_fields : (n : ℕ) → (visit_fields_in new_form n).isvisit ≡ eqb (kind_in new_form n) 2
unfolding visit_fields_in
kind_of_fields n = refl

second_raw : (n : ℕ) → raw_in new_form 2 n ≡ raw_visit (visit_fields_in new_form n)
unfolding raw_in visit_in visit_fields_in
second_raw n = refl

-- bytes whose fields are a visit's: their refusal and their record are those of the fields
pub record IsVisit (s : List ℕ) (v : VisitFields) : Type 0 where
  pub refusal : refusal_of_bytes new_form s ≡ first (refusals_of_raw new_unit (raw_visit v))
  pub found : refusal_of_bytes new_form s ≡ 0 → record_of_bytes new_form s ≡ (raw_visit v).read

pub is_visit : (s : List ℕ) → (visit_fields_of s).isvisit ≡ true → IsVisit s (visit_fields_of s)
unfolding visit_fields_of refusals_of_bytes refusals_of_record_number record_of_bytes
is_visit s = go (eqb (length s) record_length) refl
  where
    go : (x : Bool) → eqb (length s) record_length ≡ x → (visit_fields_of s).isvisit ≡ true → IsVisit s (visit_fields_of s)
    go false l h = absurd (never (sym (rw l at h)))
    go true l h =
        let n = bytes_number new_form s in
        let kind : kind_in new_form n ≡ 2 = eqb-true (kind_in new_form n) 2 (sym (kind_of_fields n) ∙ (rw l at h)) in
        let raw = second_raw n in
        rw l (record { refusal = rw (l, kind, raw); found = λ e. rw (eq-eqb (refusal_of_bytes new_form s) 0 e, kind, raw) })
