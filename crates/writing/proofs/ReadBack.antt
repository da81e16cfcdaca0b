-- The bytes of a record that no refusal meets are read as that record.
-- Assumes nothing.
use mathlib.Core.Path.{◌≡◌, refl, sym, ◌∙◌, ap}
use mathlib.Core.Bool.{Bool, true, false}
use mathlib.Core.List.{List, [], ◌∷◌}
use Prim.Native.Nat.{ℕ, ◌<◌}
use lib.Dec.{lit<}
use lib.ListN.{get_or, length}
use borrow.Author.Tests.{le-ltb, le-leb}
use Rattle.laws.proofs.SomeNumber.{some_none}
use Rattle.laws.proofs.ListsByElement.{whole}
use Rattle.laws.specs.Layout.{total, unpack, Fit, bytes}
use Rattle.laws.proofs.PackUnpack.{pack_lt, unpack_pack, pack_unpack}
use Rattle.laws.proofs.LayoutsAppended.{fit_append}
use Rattle.records.specs.Entries.{date_of, Five, kind_number, status_number}
use Rattle.records.specs.Forms.{new_form, new_unit}
use Rattle.records.specs.Refusals.{most_targets, not_zero_beyond_count, target_at, some_target, not_zero, refusal_of_record}
use Rattle.records.specs.declared.Record.{Record}
use Rattle.records.specs.declared.Entry.{Entry}
use Rattle.records.specs.declared.Entry.TheVariants.{Baseline, Visit, Therapy, Death}
use Rattle.records.specs.declared.Status.{Status}
use Rattle.records.specs.declared.Status.TheVariants.{NA, CR, NN, PD, NE}
use Rattle.records.proofs.NoOwnRefusal.{passes, clear_target}
use Rattle.codec.specs.Bytes.{record_length, bit, head_layout, body_layout, head_fields, target_fields, body_fields, layout_of, fields_of, record_number, bytes_of, bytes_number}
use Rattle.codec.specs.Reading.{is_one, date_from, marks_from, sizes_from, status_from, baseline_from, visit_from, spare_from, baseline_in, visit_in, spare_in, raw_in, kind_in, refusals_of_record_number, refusals_of_bytes, refusal_of_bytes, record_of_bytes}
use Rattle.writing.proofs.FieldsFit.{status_le, kind_range, head_fits, body_fits}

is_one_bit : (b : Bool) → is_one (bit b) ≡ b
is_one_bit true = refl
is_one_bit false = refl

status_back : (s : Status) → status_from (status_number s) ≡ s
unfolding status_from
status_back NA = refl
status_back CR = refl
status_back NN = refl
status_back PD = refl
status_back NE = refl

-- a number is read as a record, and nothing is out of place
abbrev ReadAs : Entry → List Bool → List ℕ → ℕ → Type 0
ReadAs e m s n = raw_in new_form (kind_number e) n ≡ record { read = record { entry = e; sizes = s; marks = m }; badstatus = false; spare = false }

module _ (m : List Bool) (s : List ℕ) (lm : length m ≡ 5) (ls : length s ≡ 5) where
  sizes_back : sizes_from (target_fields m s) ≡ s
  sizes_back = whole 0 s 5 ls

  marks_back : marks_from (target_fields m s) ≡ m
  marks_back = simp is_one_bit (whole false m 5 lm)

  no_targets : some_target (not_zero_beyond_count 0) m s ≡ false →
      (m ≡ false ∷ false ∷ false ∷ false ∷ false ∷ []) × (s ≡ 0 ∷ 0 ∷ 0 ∷ 0 ∷ 0 ∷ [])
  no_targets z = (
    sym (whole false m 5 lm) ∙ rw ((at 0 (lit< tt)).0, (at 1 (lit< tt)).0, (at 2 (lit< tt)).0, (at 3 (lit< tt)).0, (at 4 (lit< tt)).0),
    sym (whole 0 s 5 ls) ∙ rw ((at 0 (lit< tt)).1, (at 1 (lit< tt)).1, (at 2 (lit< tt)).1, (at 3 (lit< tt)).1, (at 4 (lit< tt)).1),
  )
    where
      at : (k : ℕ) → k < most_targets → (get_or m k false ≡ false) × (get_or s k 0 ≡ 0)
      at k l = clear_target k (get_or m k false) (get_or s k 0) (some_none (target_at (not_zero_beyond_count 0) m s) most_targets z k l)

  -- the fields are read as the record
  fields_back : (e : Entry) (n : ℕ) → not_zero e m s ≡ false →
      unpack (layout_of new_form e) n ≡ fields_of e m s → ReadAs e m s n
  unfolding raw_in baseline_in visit_in spare_in not_zero
  fields_back (Baseline b) n z u =
      ap baseline_from u ∙ rw (is_one_bit b.assessed, is_one_bit b.nontarget, sizes_back, marks_back)
  fields_back (Visit v) n z u =
      ap visit_from u
      ∙ rw (is_one_bit v.newlesion, status_back v.status, le-ltb 4 (status_number v.status) (status_le v.status), sizes_back, marks_back)
  fields_back (Therapy d) n z u =
      let t = no_targets z in ap (λ (f : List ℕ). spare_from (Therapy (date_from f)) f) u ∙ rw (t.0, t.1)
  fields_back (Death d) n z u =
      let t = no_targets z in ap (λ (f : List ℕ). spare_from (Death (date_from f)) f) u ∙ rw (t.0, t.1)

  kind_back : (e : Entry) (n : ℕ) →
      unpack (layout_of new_form e) n ≡ fields_of e m s → kind_in new_form n ≡ kind_number e
  kind_back (Baseline b) n u = ap (λ (f : List ℕ). get_or f 0 0) u
  kind_back (Visit v) n u = ap (λ (f : List ℕ). get_or f 0 0) u
  kind_back (Therapy d) n u = ap (λ (f : List ℕ). get_or f 0 0) u
  kind_back (Death d) n u = ap (λ (f : List ℕ). get_or f 0 0) u

pub layout_total : (e : Entry) → total (layout_of new_form e) ≡ total (bytes record_length)
layout_total (Baseline b) = refl
layout_total (Visit v) = refl
layout_total (Therapy d) = refl
layout_total (Death d) = refl

module _ (r : Record) (five : Five r) (fine : refusal_of_record new_unit r ≡ 0) where
  fields_fit : Fit (layout_of new_form r.entry) (fields_of r.entry r.marks r.sizes)
  fields_fit =
      let p = passes new_unit r false false fine in
      fit_append head_layout (body_layout new_form r.entry) (head_fields (kind_number r.entry) (date_of r.entry))
      (body_fields r.entry r.marks r.sizes) (head_fits r.entry p.date) (body_fits r.entry r.marks r.sizes p.limits p.zeros)

  number_back : bytes_number new_form (bytes_of new_form r) ≡ record_number new_form r.entry r.marks r.sizes
  unfolding bytes_number bytes_of record_number
  number_back =
      pack_unpack (bytes record_length) _
      (rw (layout_total r.entry) at (pack_lt (layout_of new_form r.entry) (fields_of r.entry r.marks r.sizes) fields_fit))

  fields_of_number : unpack (layout_of new_form r.entry) (record_number new_form r.entry r.marks r.sizes) ≡ fields_of r.entry r.marks r.sizes
  unfolding record_number
  fields_of_number = unpack_pack (layout_of new_form r.entry) (fields_of r.entry r.marks r.sizes) fields_fit

  kind_read : kind_in new_form (bytes_number new_form (bytes_of new_form r)) ≡ kind_number r.entry
  kind_read = rw number_back (kind_back r.marks r.sizes five.marks five.sizes r.entry _ fields_of_number)

  raw_read : ReadAs r.entry r.marks r.sizes (bytes_number new_form (bytes_of new_form r))
  raw_read =
      rw number_back
      (fields_back r.marks r.sizes five.marks five.sizes r.entry _ (passes new_unit r false false fine).zeros fields_of_number)

  pub no_refusal_back : refusal_of_bytes new_form (bytes_of new_form r) ≡ 0
  unfolding refusals_of_bytes bytes_of refusals_of_record_number
  no_refusal_back =
      let k = kind_range r.entry in
      rw (kind_read, le-leb 1 (kind_number r.entry) k.0, le-leb (kind_number r.entry) 4 k.1, raw_read) fine

  pub record_back : record_of_bytes new_form (bytes_of new_form r) ≡ r
  unfolding record_of_bytes
  record_back = rw (no_refusal_back, kind_read, raw_read)
