-- Document 01, "Dates and records", and document 02, request 1: a record as bytes, one layout over the whole of it, in either form.
-- Assumes nothing.
use Rattle.std.specs.Prelude.{ℕ, ◌+◌, ◌-◌, ◌*◌, Bool, false, List, [], ◌∷◌, ◌++◌, get_or}
use Rattle.laws.specs.Choice.{pick}
use Rattle.laws.specs.Layout.{total, pack, unpack, bytes}
use Rattle.dates.specs.declared.Date.{Date}
use Rattle.records.specs.Forms.{Form, new_form}
use Rattle.records.specs.Entries.{date_of, kind_number, status_number}
use Rattle.records.specs.declared.Entry.{Entry}
use Rattle.records.specs.declared.Entry.TheVariants.{Baseline, Visit, Therapy, Death}
use Rattle.records.specs.declared.Record.{Record}

-- of the new form
abbrev pub record_length : ℕ
record_length = new_form.record_length

-- kind, year, month, day
abbrev pub head_layout : List ℕ
head_layout = 3 ∷ 12 ∷ 4 ∷ 5 ∷ []

module _ (form : Form) where
  -- five targets of a mark (node or measured) and a size
  abbrev pub targets_layout : List ℕ
  targets_layout =
      1 ∷ form.size_width ∷ 1 ∷ form.size_width ∷ 1 ∷ form.size_width ∷ 1 ∷ form.size_width ∷ 1 ∷ form.size_width ∷ []

  -- fields behind kind and date, and spare bits to the end of the record
  abbrev pub filled_up : List ℕ → List ℕ
  filled_up ws = ws ++ ((8 * form.record_length - (total head_layout + total ws)) ∷ [])

  -- assessed, has non-target lesions, target count, targets; 5 spare bits in the new form
  abbrev pub baseline_body : List ℕ
  baseline_body = filled_up ((1 ∷ 1 ∷ 3 ∷ []) ++ targets_layout)

  -- non-target status, new lesion, targets; 6 spare bits in the new form
  abbrev pub visit_body : List ℕ
  visit_body = filled_up ((3 ∷ 1 ∷ []) ++ targets_layout)

  -- therapy and death: spare bits alone, 80 in the new form
  abbrev pub spare_body : List ℕ
  spare_body = filled_up []

  abbrev pub baseline_layout : List ℕ
  baseline_layout = head_layout ++ baseline_body

  abbrev pub visit_layout : List ℕ
  visit_layout = head_layout ++ visit_body

  abbrev pub spare_layout : List ℕ
  spare_layout = head_layout ++ spare_body

  abbrev pub body_layout : Entry → List ℕ
  body_layout (Baseline b) = baseline_body
  body_layout (Visit v) = visit_body
  body_layout (Therapy d) = spare_body
  body_layout (Death d) = spare_body

  -- the one layout over the whole record
  abbrev pub layout_of : Entry → List ℕ
  layout_of e = head_layout ++ body_layout e

abbrev pub bit : Bool → ℕ
bit b = pick b 1 0

-- a record's fields as numbers, in the order of the layout
abbrev pub head_fields : ℕ → Date → List ℕ
head_fields kind d = kind ∷ d.year ∷ d.month ∷ d.day ∷ []

abbrev pub target_fields : List Bool → List ℕ → List ℕ
target_fields m s =
    bit (get_or m 0 false) ∷ get_or s 0 0 ∷ bit (get_or m 1 false) ∷ get_or s 1 0 ∷ bit (get_or m 2 false) ∷ get_or s 2 0
    ∷ bit (get_or m 3 false) ∷ get_or s 3 0 ∷ bit (get_or m 4 false) ∷ get_or s 4 0 ∷ []

abbrev pub body_fields : Entry → List Bool → List ℕ → List ℕ
body_fields (Baseline b) m s = (bit b.assessed ∷ bit b.nontarget ∷ b.count ∷ []) ++ target_fields m s ++ (0 ∷ [])
body_fields (Visit v) m s = (status_number v.status ∷ bit v.newlesion ∷ []) ++ target_fields m s ++ (0 ∷ [])
body_fields (Therapy d) m s = 0 ∷ []
body_fields (Death d) m s = 0 ∷ []

abbrev pub fields_of : Entry → List Bool → List ℕ → List ℕ
fields_of e m s = head_fields (kind_number e) (date_of e) ++ body_fields e m s

module _ (form : Form) where
  unfoldable pub record_number : Entry → List Bool → List ℕ → ℕ
  record_number e m s = pack (layout_of form e) (fields_of e m s)

  unfoldable pub bytes_of : Record → List ℕ
  bytes_of r = unpack (bytes form.record_length) (record_number r.entry r.marks r.sizes)

  -- the number of a record's bytes
  unfoldable pub bytes_number : List ℕ → ℕ
  bytes_number s = pack (bytes form.record_length) s
