-- What stands in the bytes of a record of either form, by the bits where its fields start.
-- Assumes nothing.
use mathlib.Core.Path.{◌≡◌}
use mathlib.Core.List.{List}
use mathlib.Core.Bool.{false}
use Prim.Native.Nat.{ℕ, ◌+◌, ◌-◌, ◌*◌, ◌%◌, ◌^◌}
use native.Mathlib.Nat.{div-one}
use lib.Dec.{eqb, ltb}
use Rattle.records.specs.Forms.{Form}
use Rattle.records.specs.declared.Entry.{Entry}
use Rattle.records.specs.declared.Entry.TheVariants.{Baseline}
use Rattle.codec.specs.Bytes.{bytes_number}
use Rattle.codec.specs.Fields.{field_at, targets_at, target_width}
use Rattle.codec.specs.FormsRead.{IsForm}
use Rattle.codec.specs.Reading.{is_one, date_in, marks_from, sizes_from, status_from, without_targets, baseline_in, visit_fields_in, spare_in}
use Rattle.codec.specs.declared.Raw.{Raw}
use Rattle.codec.specs.declared.VisitFields.{VisitFields}

module _ (form : Form) (s : List ℕ) where
  -- the bits from one behind the five targets to the end
  abbrev pub spare_at : ℕ → ℕ
  spare_at targets = field_at form s (targets + 5 * target_width form) (8 * form.record_length - (targets + 5 * target_width form))

  abbrev pub baseline_bits : Raw
  baseline_bits = record {
    read = record {
      entry = Baseline (record { date = date_in form (bytes_number form s); assessed = is_one (field_at form s 24 1); nontarget = is_one (field_at form s 25 1); count = field_at form s 26 3 });
      sizes = sizes_from (targets_at form s 29);
      marks = marks_from (targets_at form s 29);
    };
    badstatus = false;
    spare = ltb 0 (spare_at 29);
  }

  abbrev pub visit_bits : VisitFields
  visit_bits = record {
    isvisit = eqb (field_at form s 0 3) 2;
    entry = record { date = date_in form (bytes_number form s); status = status_from (field_at form s 24 3); newlesion = is_one (field_at form s 27 1) };
    measured = marks_from (targets_at form s 28);
    sizes = sizes_from (targets_at form s 28);
    badstatus = ltb 4 (field_at form s 24 3);
    spare = ltb 0 (spare_at 28);
  }

  abbrev pub spare_bits : Entry → Raw
  spare_bits e = record { read = without_targets e; badstatus = false; spare = ltb 0 (bytes_number form s % 2 ^ (8 * (form.record_length - 3))) }

pub baseline_by_bits : {form : Form} {length width tenths : ℕ} → IsForm form length width tenths → (s : List ℕ) → baseline_bits form s ≡ baseline_in form (bytes_number form s)
unfolding baseline_in
baseline_by_bits IsForm.old s = simp div-one
baseline_by_bits IsForm.new s = simp div-one

pub visit_by_bits : {form : Form} {length width tenths : ℕ} → IsForm form length width tenths → (s : List ℕ) → visit_bits form s ≡ visit_fields_in form (bytes_number form s)
unfolding visit_fields_in
visit_by_bits IsForm.old s = simp div-one
visit_by_bits IsForm.new s = simp div-one

pub spare_by_bits : {form : Form} {length width tenths : ℕ} → IsForm form length width tenths → (s : List ℕ) (e : Entry) → spare_bits form s e ≡ spare_in form e (bytes_number form s)
unfolding spare_in
spare_by_bits IsForm.old s e = simp div-one
spare_by_bits IsForm.new s e = simp div-one
