-- Document 01, "Where a call stops", bytes read: 1, 2, then 3 to 5, or the record.
-- Assumes nothing.
use Rattle.std.specs.Prelude.{◌≡◌, ℕ, Bool, false, not, List, [], ◌∷◌, ltb, leb, eqb, get_or, length, drop, Result, Ok, Err, Option, MatchOption}
use Rattle.laws.specs.Choice.{both, pick}
use Rattle.laws.specs.Refusals.{Refusal, ◌when◌, first}
use Rattle.laws.specs.Layout.{unpack, AreBytes}
use Rattle.dates.specs.declared.Date.{Date}
use Rattle.records.specs.Refusals.{own_number, refusals_of_read}
use Rattle.records.specs.declared.Entry.{Entry}
use Rattle.records.specs.declared.Entry.TheVariants.{Baseline, Visit, Therapy, Death}
use Rattle.records.specs.declared.Status.{Status}
use Rattle.records.specs.declared.Status.TheVariants.{NA, CR, NN, PD, NE}
use Rattle.records.specs.declared.Record.{Record}
use Rattle.records.specs.Forms.{Form, new_form, new_unit}
use Rattle.codec.specs.Bytes.{baseline_layout, visit_layout, spare_layout, bytes_number}
use Rattle.codec.specs.declared.Kind.{Kind}
use Rattle.codec.specs.declared.Kind.TheVariants as K
use Rattle.codec.specs.declared.Raw.{Raw}
use Rattle.codec.specs.declared.VisitFields.{VisitFields}
use Rattle.codec.specs.declared.ReadRefusal.{ReadRefusal}
use Rattle.codec.specs.declared.ReadRefusal.TheVariants.{WrongLength, NoSuchKind, Own}
use Rattle.codec.specs.declared.ReadResult.{ReadResult}

-- the number of each case in document 01; 0 where no refusal meets
abbrev pub read_number : Result (Unit {0}) ReadRefusal → ℕ
read_number (Ok u) = 0
read_number (Err WrongLength) = 1
read_number (Err NoSuchKind) = 2
read_number (Err (Own own)) = own_number own

abbrev pub is_one : ℕ → Bool
is_one n = eqb n 1

-- from the fields of a layout
abbrev pub date_from : List ℕ → Date
date_from f = record { year = get_or f 1 0; month = get_or f 2 0; day = get_or f 3 0 }

abbrev pub marks_from : List ℕ → List Bool
marks_from f = is_one (get_or f 0 0) ∷ is_one (get_or f 2 0) ∷ is_one (get_or f 4 0) ∷ is_one (get_or f 6 0) ∷ is_one (get_or f 8 0) ∷ []

abbrev pub sizes_from : List ℕ → List ℕ
sizes_from f = get_or f 1 0 ∷ get_or f 3 0 ∷ get_or f 5 0 ∷ get_or f 7 0 ∷ get_or f 9 0 ∷ []

-- NA stands for a number that is no status
unfoldable pub status_from : ℕ → Status
status_from n = pick (eqb n 1) CR (pick (eqb n 2) NN (pick (eqb n 3) PD (pick (eqb n 4) NE NA)))

abbrev pub without_targets : Entry → Record
without_targets e = record { entry = e; sizes = 0 ∷ 0 ∷ 0 ∷ 0 ∷ 0 ∷ []; marks = false ∷ false ∷ false ∷ false ∷ false ∷ [] }

-- what is read before it is judged: a record, and what has no place in one, a status that is none and spare bits that are set
abbrev pub baseline_from : List ℕ → Raw
baseline_from f = record {
  read = record {
    entry = Baseline (record { date = date_from f; assessed = is_one (get_or f 4 0); nontarget = is_one (get_or f 5 0); count = get_or f 6 0 });
    sizes = sizes_from (drop 7 f);
    marks = marks_from (drop 7 f);
  };
  badstatus = false;
  spare = ltb 0 (get_or f 17 0);
}

-- what a visit has; the kind decides whether they are a visit's, and the date stands at the same place in every kind
abbrev pub visit_fields_from : List ℕ → VisitFields
visit_fields_from f = record {
  isvisit = eqb (get_or f 0 0) 2;
  entry = record { date = date_from f; status = status_from (get_or f 4 0); newlesion = is_one (get_or f 5 0) };
  measured = marks_from (drop 6 f);
  sizes = sizes_from (drop 6 f);
  badstatus = ltb 4 (get_or f 4 0);
  spare = ltb 0 (get_or f 16 0);
}

abbrev pub raw_visit : VisitFields → Raw
raw_visit v = record { read = record { entry = Visit v.entry; sizes = v.sizes; marks = v.measured }; badstatus = v.badstatus; spare = v.spare }

abbrev pub visit_from : List ℕ → Raw
visit_from f = raw_visit (visit_fields_from f)

abbrev pub spare_from : Entry → List ℕ → Raw
spare_from e f = record { read = without_targets e; badstatus = false; spare = ltb 0 (get_or f 4 0) }

abbrev pub is_kind : ℕ → Bool
is_kind kind = both (leb 1 kind) (leb kind 4)

abbrev pub number_of_kind : Kind → ℕ
number_of_kind K.Baseline = 1
number_of_kind K.Visit = 2
number_of_kind K.Therapy = 3
number_of_kind K.Death = 4

-- the kind that a number is, where it is one
abbrev pub IsKindOf : ℕ → Option Kind → Type 0
IsKindOf n found = MatchOption found (is_kind n ≡ false) (λ kind. number_of_kind kind ≡ n)

-- of sizes of which a millimetre has so many units
abbrev pub refusals_of_raw : ℕ → Raw → List Refusal
refusals_of_raw unit w = refusals_of_read unit w.read w.badstatus w.spare

-- the one record that stands beside every refusal
abbrev pub blank_record : Record
blank_record = without_targets (Therapy (record { year = 0; month = 0; day = 0 }))

module _ (form : Form) where
  unfoldable pub baseline_in : ℕ → Raw
  baseline_in n = baseline_from (unpack (baseline_layout form) n)

  unfoldable pub visit_fields_in : ℕ → VisitFields
  visit_fields_in n = visit_fields_from (unpack (visit_layout form) n)

  unfoldable pub visit_in : ℕ → Raw
  visit_in n = visit_from (unpack (visit_layout form) n)

  -- kind and date stand at the same place in every layout
  abbrev pub kind_in : ℕ → ℕ
  kind_in n = get_or (unpack (spare_layout form) n) 0 0

  abbrev pub date_in : ℕ → Date
  date_in n = date_from (unpack (spare_layout form) n)

  unfoldable pub spare_in : Entry → ℕ → Raw
  spare_in e n = spare_from e (unpack (spare_layout form) n)

  -- what is read of a kind from 1 to 4
  unfoldable pub raw_in : ℕ → ℕ → Raw
  raw_in kind n =
      pick (eqb kind 1) (baseline_in n)
      (pick (eqb kind 2) (visit_in n) (pick (eqb kind 3) (spare_in (Therapy (date_in n)) n) (spare_in (Death (date_in n)) n)))

  -- 2, then 3 to 5
  unfoldable pub refusals_of_record_number : ℕ → List Refusal
  refusals_of_record_number n = 2 when not (is_kind (kind_in n)) ∷ refusals_of_raw form.unit (raw_in (kind_in n) n)

  -- 1, then the others
  unfoldable pub refusals_of_bytes : List ℕ → List Refusal
  refusals_of_bytes s = 1 when not (eqb (length s) form.record_length) ∷ refusals_of_record_number (bytes_number form s)

  abbrev pub refusal_of_bytes : List ℕ → ℕ
  refusal_of_bytes s = first (refusals_of_bytes s)

  -- the record, or the blank one
  unfoldable pub record_of_bytes : List ℕ → Record
  record_of_bytes s = pick (eqb (refusal_of_bytes s) 0) (raw_in (kind_in (bytes_number form s)) (bytes_number form s)).read blank_record

pub record JudgesRead (w : Raw) (x : ReadResult) : Type 0 where
  pub answer : read_number x.answer ≡ first (refusals_of_raw new_unit w)
  pub found : x.found ≡ pick (eqb (first (refusals_of_raw new_unit w)) 0) w.read blank_record

pub record Reads (s : List ℕ) (x : ReadResult) : Type 0 where
  pub answer : read_number x.answer ≡ refusal_of_bytes new_form s
  pub found : x.found ≡ record_of_bytes new_form s
  -- the type `u8` gives it
  pub octets : AreBytes s

abbrev pub blank_visit : VisitFields
blank_visit = record {
  isvisit = false;
  entry = record { date = record { year = 0; month = 0; day = 0 }; status = NA; newlesion = false };
  measured = false ∷ false ∷ false ∷ false ∷ false ∷ [];
  sizes = 0 ∷ 0 ∷ 0 ∷ 0 ∷ 0 ∷ [];
  badstatus = false;
  spare = false;
}

-- the bytes of a record as a visit has them, not judged; beside any other number of bytes one fixed blank
unfoldable pub visit_fields_of : List ℕ → VisitFields
visit_fields_of s = pick (eqb (length s) new_form.record_length) (visit_fields_in new_form (bytes_number new_form s)) blank_visit

pub record ReadsVisit (s : List ℕ) (x : VisitFields) : Type 0 where
  pub fields : x ≡ visit_fields_of s
  -- the type `u8` gives it
  pub octets : AreBytes s
