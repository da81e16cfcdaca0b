-- Document 01, "Dates and records": the bytes of records of each kind, worked out by hand from the widths, and the records that are read from them; and
-- "Where a call stops", which of 1 to 5 comes first, their numbers, the blank record beside a refusal, and what bytes have as a visit. Proved in proofs/AtTheEdges.antt.
-- Assumes nothing.
use Rattle.std.specs.Prelude.{◌≡◌, Bool, true, false, List, [], ◌∷◌, map, ℕ, Ok, Err}
use Rattle.dates.specs.Laws.{ymd}
use Rattle.dates.specs.declared.Date.{Date}
use Rattle.records.specs.Examples.{filled, baseline_dated, visit_dated, therapy_dated, death_dated}
use Rattle.records.specs.declared.OwnRefusal.TheVariants as O
use Rattle.records.specs.declared.Record.{Record}
use Rattle.records.specs.declared.Status.{Status}
use Rattle.records.specs.declared.Status.TheVariants as S
use Rattle.records.specs.Forms.{old_form, new_form}
use Rattle.records.specs.Tenfold.{tenfold}
use Rattle.codec.specs.Bytes.{record_length, bytes_of}
use Rattle.codec.specs.Fields.{field_at, targets_at}
use Rattle.codec.specs.RawWith.{raw_with}
use Rattle.codec.specs.Reading.{read_number, refusal_of_bytes, record_of_bytes, visit_fields_of}
use Rattle.codec.specs.declared.ReadRefusal.TheVariants as R
use Rattle.codec.specs.declared.VisitFields.{VisitFields}

-- a record's bytes, the first of them as given
abbrev pub thirteen : List ℕ → List ℕ
thirteen first = filled 0 13 first

-- the baseline of the printed example, with the sizes of document 02, request 1, and its bytes:
-- 001 011111100100 0001 00001 1 1 010, 0 0000110010000, 1 0000011001000, then zeros
abbrev pub printed_baseline : Record
printed_baseline = baseline_dated (ymd 2020 1 1) true true 2 (false ∷ true ∷ []) (400 ∷ 200 ∷ [])

abbrev pub printed_bytes : List ℕ
printed_bytes = 0x2F ∷ 0xC8 ∷ 0x21 ∷ 0xD0 ∷ 0x32 ∷ 0x10 ∷ 0x64 ∷ 0x00 ∷ 0x00 ∷ 0x00 ∷ 0x00 ∷ 0x00 ∷ 0x00 ∷ []

-- five targets, each with its own size, none of them whole millimetres, nodes and others in turn:
-- 001 011111100100 0001 00001 1 1 101, 1 211, 0 322, 1 433, 0 544, 1 655, 00000
abbrev pub five_targets : Record
five_targets = baseline_dated (ymd 2020 1 1) true true 5 (true ∷ false ∷ true ∷ false ∷ true ∷ []) (211 ∷ 322 ∷ 433 ∷ 544 ∷ 655 ∷ [])

abbrev pub five_targets_bytes : List ℕ
five_targets_bytes = 0x2F ∷ 0xC8 ∷ 0x21 ∷ 0xEC ∷ 0x1A ∷ 0x60 ∷ 0xA1 ∷ 0x43 ∷ 0x62 ∷ 0x11 ∷ 0x04 ∷ 0x51 ∷ 0xE0 ∷ []

-- no non-target disease, one target of 20.0 mm
abbrev pub one_target : Record
one_target = baseline_dated (ymd 2020 1 1) true false 1 [] (200 ∷ [])

abbrev pub one_target_bytes : List ℕ
one_target_bytes = thirteen (0x2F ∷ 0xC8 ∷ 0x21 ∷ 0x88 ∷ 0x19 ∷ [])

-- baseline missing
abbrev pub missing : Record
missing = baseline_dated (ymd 2020 1 1) false false 0 [] []

abbrev pub missing_bytes : List ℕ
missing_bytes = thirteen (0x2F ∷ 0xC8 ∷ 0x21 ∷ [])

-- the first visit of the printed example
abbrev pub printed_visit : Record
printed_visit = visit_dated (ymd 2020 2 12) S.NN false (true ∷ true ∷ []) (240 ∷ 120 ∷ [])

abbrev pub printed_visit_bytes : List ℕ
printed_visit_bytes = thirteen (0x4F ∷ 0xC8 ∷ 0x4C ∷ 0x48 ∷ 0x3C ∷ 0x20 ∷ 0x78 ∷ [])

-- the last day in range, a new lesion, the third target not measured and the others each with its own size:
-- 010 100000110011 1100 11111 001 1, 1 111, 1 222, 0 0, 1 444, 1 5000, 000000
abbrev pub four_measured : Record
four_measured = visit_dated (ymd 2099 12 31) S.CR true (true ∷ true ∷ false ∷ true ∷ true ∷ []) (111 ∷ 222 ∷ 0 ∷ 444 ∷ 5000 ∷ [])

abbrev pub four_measured_bytes : List ℕ
four_measured_bytes = 0x50 ∷ 0x67 ∷ 0x9F ∷ 0x38 ∷ 0x1B ∷ 0xE0 ∷ 0xDE ∷ 0x00 ∷ 0x02 ∷ 0x1B ∷ 0xCC ∷ 0xE2 ∷ 0x00 ∷ []

-- visits of 2020-02-12 with a new lesion and no target measured, one for each status, and their bytes: the fourth is the status, the new lesion and the
-- mark of the first target
abbrev pub each_status : List Record
each_status = map (λ (s : Status). visit_dated (ymd 2020 2 12) s true [] []) (S.NA ∷ S.CR ∷ S.NN ∷ S.PD ∷ S.NE ∷ [])

abbrev pub each_status_bytes : List (List ℕ)
each_status_bytes = map (λ (n : ℕ). thirteen (0x4F ∷ 0xC8 ∷ 0x4C ∷ n ∷ [])) (0x10 ∷ 0x30 ∷ 0x50 ∷ 0x70 ∷ 0x90 ∷ [])

abbrev pub therapy_bytes : List ℕ
therapy_bytes = thirteen (0x6F ∷ 0xC8 ∷ 0x54 ∷ [])

abbrev pub death_bytes : List ℕ
death_bytes = thirteen (0x8F ∷ 0xC8 ∷ 0x54 ∷ [])

-- fields bit-packed, most significant first; kind 1 baseline, 2 visit, 3 therapy, 4 death; status 0 NA, 1 CR, 2 NN, 3 PD, 4 NE
pub record BytesOfEachKind : Type 0 where
  pub printed : bytes_of new_form printed_baseline ≡ printed_bytes
  pub targets : bytes_of new_form five_targets ≡ five_targets_bytes
  pub without_nontarget : bytes_of new_form one_target ≡ one_target_bytes
  pub baseline_missing : bytes_of new_form missing ≡ missing_bytes
  pub visit : bytes_of new_form printed_visit ≡ printed_visit_bytes
  pub measured : bytes_of new_form four_measured ≡ four_measured_bytes
  pub statuses : map (bytes_of new_form) each_status ≡ each_status_bytes
  pub therapy : bytes_of new_form (therapy_dated (ymd 2020 2 20)) ≡ therapy_bytes
  pub death : bytes_of new_form (death_dated (ymd 2020 2 20)) ≡ death_bytes

-- the same bytes read
pub record ReadOfEachKind : Type 0 where
  pub printed : record_of_bytes new_form printed_bytes ≡ printed_baseline
  pub targets : record_of_bytes new_form five_targets_bytes ≡ five_targets
  pub without_nontarget : record_of_bytes new_form one_target_bytes ≡ one_target
  pub baseline_missing : record_of_bytes new_form missing_bytes ≡ missing
  pub visit : record_of_bytes new_form printed_visit_bytes ≡ printed_visit
  pub measured : record_of_bytes new_form four_measured_bytes ≡ four_measured
  pub statuses : map (record_of_bytes new_form) each_status_bytes ≡ each_status
  pub therapy : record_of_bytes new_form therapy_bytes ≡ therapy_dated (ymd 2020 2 20)
  pub death : record_of_bytes new_form death_bytes ≡ death_dated (ymd 2020 2 20)
  -- a refusal carries its number and nothing else: beside it the blank record
  pub refused : record_of_bytes new_form [] ≡ therapy_dated (ymd 0 0 0)

-- 1 before 2, 2 before 3
pub record FirstRefusals : Type 0 where
  pub no_bytes : refusal_of_bytes new_form [] ≡ 1
  pub twelve_bytes : refusal_of_bytes new_form (filled 0 12 (0x6F ∷ 0xC8 ∷ 0x54 ∷ [])) ≡ 1
  pub fourteen_bytes : refusal_of_bytes new_form (filled 0 14 (0x6F ∷ 0xC8 ∷ 0x54 ∷ [])) ≡ 1
  pub kind0 : refusal_of_bytes new_form (thirteen []) ≡ 2
  pub kind5 : refusal_of_bytes new_form (thirteen (0xAF ∷ 0xC8 ∷ 0x54 ∷ [])) ≡ 2
  pub no_date : refusal_of_bytes new_form (thirteen (0x60 ∷ [])) ≡ 3
  -- a status of 5 in three bits
  pub status5 : refusal_of_bytes new_form (thirteen (0x4F ∷ 0xC8 ∷ 0x4C ∷ 0xA0 ∷ [])) ≡ 4
  -- the first and the last spare bit: 5 of a baseline, 6 of a visit, 80 of a therapy and of a death
  pub spare_of_baseline : map (λ (n : ℕ). refusal_of_bytes new_form (0x2F ∷ 0xC8 ∷ 0x21 ∷ 0x88 ∷ 0x19 ∷ 0 ∷ 0 ∷ 0 ∷ 0 ∷ 0 ∷ 0 ∷ 0 ∷ n ∷ [])) (0x10 ∷ 0x01 ∷ []) ≡ 5 ∷ 5 ∷ []
  pub spare_of_visit : map (λ (n : ℕ). refusal_of_bytes new_form (0x4F ∷ 0xC8 ∷ 0x4C ∷ 0x10 ∷ 0 ∷ 0 ∷ 0 ∷ 0 ∷ 0 ∷ 0 ∷ 0 ∷ 0 ∷ n ∷ [])) (0x20 ∷ 0x01 ∷ []) ≡ 5 ∷ 5 ∷ []
  pub first_of_therapy : refusal_of_bytes new_form (thirteen (0x6F ∷ 0xC8 ∷ 0x54 ∷ 0x80 ∷ [])) ≡ 5
  pub last_of_therapy : refusal_of_bytes new_form (0x6F ∷ 0xC8 ∷ 0x54 ∷ 0 ∷ 0 ∷ 0 ∷ 0 ∷ 0 ∷ 0 ∷ 0 ∷ 0 ∷ 0 ∷ 0x01 ∷ []) ≡ 5
  pub first_of_death : refusal_of_bytes new_form (thirteen (0x8F ∷ 0xC8 ∷ 0x54 ∷ 0x80 ∷ [])) ≡ 5
  pub last_of_death : refusal_of_bytes new_form (0x8F ∷ 0xC8 ∷ 0x54 ∷ 0 ∷ 0 ∷ 0 ∷ 0 ∷ 0 ∷ 0 ∷ 0 ∷ 0 ∷ 0 ∷ 0x01 ∷ []) ≡ 5
  pub bytes : record_length ≡ 13
  -- 1 not 13 bytes; 2 kind not 1 to 4; 3 to 5
  pub numbers : map read_number (Ok tt ∷ Err R.WrongLength ∷ Err R.NoSuchKind ∷ Err (R.Own O.NotZero) ∷ []) ≡ 0 ∷ 1 ∷ 2 ∷ 5 ∷ []

-- the old form, as document 01 has it: whole millimetres in 10 bits, 11 bytes, 4 spare bits of a baseline and 5 of a visit
abbrev pub old_baseline : Record
old_baseline = baseline_dated (ymd 2020 1 1) true true 2 (false ∷ true ∷ []) (40 ∷ 20 ∷ [])

abbrev pub old_baseline_bytes : List ℕ
old_baseline_bytes = 0x2F ∷ 0xC8 ∷ 0x21 ∷ 0xD0 ∷ 0x28 ∷ 0x82 ∷ 0x80 ∷ 0x00 ∷ 0x00 ∷ 0x00 ∷ 0x00 ∷ []

-- 010 100000110011 1100 11111 001 1, 1 11, 1 22, 0 0, 1 44, 1 500, 00000
abbrev pub old_visit : Record
old_visit = visit_dated (ymd 2099 12 31) S.CR true (true ∷ true ∷ false ∷ true ∷ true ∷ []) (11 ∷ 22 ∷ 0 ∷ 44 ∷ 500 ∷ [])

abbrev pub old_visit_bytes : List ℕ
old_visit_bytes = 0x50 ∷ 0x67 ∷ 0x9F ∷ 0x38 ∷ 0x17 ∷ 0x05 ∷ 0x80 ∷ 0x04 ∷ 0x2C ∷ 0xBE ∷ 0x80 ∷ []

pub record OldRecords : Type 0 where
  pub written : map (bytes_of old_form) (old_baseline ∷ old_visit ∷ []) ≡ old_baseline_bytes ∷ old_visit_bytes ∷ []
  pub read : map (record_of_bytes old_form) (old_baseline_bytes ∷ old_visit_bytes ∷ []) ≡ old_baseline ∷ old_visit ∷ []
  -- 1 not 11 bytes
  pub lengths : map (λ (n : ℕ). refusal_of_bytes old_form (filled 0 n (0x6F ∷ 0xC8 ∷ 0x54 ∷ []))) (10 ∷ 11 ∷ 12 ∷ 13 ∷ []) ≡ 1 ∷ 0 ∷ 1 ∷ 1 ∷ []
  -- 4: a target of 9 mm and one of 10, a node of 14 and one of 15, sizes measured of 500 and 501
  pub others : map (λ (n : ℕ). refusal_of_bytes old_form (filled 0 11 (0x2F ∷ 0xC8 ∷ 0x21 ∷ 0x88 ∷ n ∷ []))) (9 ∷ 10 ∷ []) ≡ 4 ∷ 0 ∷ []
  pub nodes : map (λ (n : ℕ). refusal_of_bytes old_form (filled 0 11 (0x2F ∷ 0xC8 ∷ 0x21 ∷ 0x8C ∷ n ∷ []))) (14 ∷ 15 ∷ []) ≡ 4 ∷ 0 ∷ []
  pub measured : map (λ (n : ℕ). refusal_of_bytes old_form (filled 0 11 (0x4F ∷ 0xC8 ∷ 0x4C ∷ 0x0B ∷ n ∷ []))) (0xE8 ∷ 0xEA ∷ []) ≡ 0 ∷ 4 ∷ []
  -- 5: the first and the last spare bit of a baseline, of a visit and of a death
  pub spare_of_baseline : map (λ (n : ℕ). refusal_of_bytes old_form (0x2F ∷ 0xC8 ∷ 0x21 ∷ 0x88 ∷ 0x14 ∷ 0 ∷ 0 ∷ 0 ∷ 0 ∷ 0 ∷ n ∷ [])) (0x08 ∷ 0x01 ∷ []) ≡ 5 ∷ 5 ∷ []
  pub spare_of_visit : map (λ (n : ℕ). refusal_of_bytes old_form (0x4F ∷ 0xC8 ∷ 0x4C ∷ 0x10 ∷ 0 ∷ 0 ∷ 0 ∷ 0 ∷ 0 ∷ 0 ∷ n ∷ [])) (0x10 ∷ 0x01 ∷ []) ≡ 5 ∷ 5 ∷ []
  pub spare_of_death : map (refusal_of_bytes old_form) (filled 0 11 (0x8F ∷ 0xC8 ∷ 0x54 ∷ 0x80 ∷ []) ∷ (0x8F ∷ 0xC8 ∷ 0x54 ∷ 0 ∷ 0 ∷ 0 ∷ 0 ∷ 0 ∷ 0 ∷ 0 ∷ 0x01 ∷ []) ∷ []) ≡ 5 ∷ 5 ∷ []
  -- what has no place in a record stays beside it
  pub beside_tenfold : raw_with tenfold (record { read = old_baseline; badstatus = true; spare = false }) ≡ record { read = printed_baseline; badstatus = true; spare = false }

-- kind, year, month, day, assessed, non-target and count of a baseline, and its targets from bit 29 on; the targets of two visits, from bit 28 on
pub record FieldsByTheirBits : Type 0 where
  pub head : field_at new_form five_targets_bytes 0 3 ∷ field_at new_form five_targets_bytes 3 12 ∷ field_at new_form five_targets_bytes 15 4 ∷ field_at new_form five_targets_bytes 19 5 ∷ field_at new_form five_targets_bytes 24 1 ∷ field_at new_form five_targets_bytes 25 1 ∷ field_at new_form five_targets_bytes 26 3 ∷ []
      ≡ 1 ∷ 2020 ∷ 1 ∷ 1 ∷ 1 ∷ 1 ∷ 5 ∷ []
  pub targets : targets_at new_form five_targets_bytes 29 ≡ 1 ∷ 211 ∷ 0 ∷ 322 ∷ 1 ∷ 433 ∷ 0 ∷ 544 ∷ 1 ∷ 655 ∷ []
  pub measured : targets_at new_form four_measured_bytes 28 ≡ 1 ∷ 111 ∷ 1 ∷ 222 ∷ 0 ∷ 0 ∷ 1 ∷ 444 ∷ 1 ∷ 5000 ∷ []
  pub visit : targets_at new_form printed_visit_bytes 28 ≡ 1 ∷ 240 ∷ 1 ∷ 120 ∷ 0 ∷ 0 ∷ 0 ∷ 0 ∷ 0 ∷ 0 ∷ []
  -- every bit of the sizes set and no mark, from bit 29 on
  pub sizes_alone : targets_at new_form (0 ∷ 0 ∷ 0 ∷ 0x03 ∷ 0xFF ∷ 0xEF ∷ 0xFF ∷ 0xBF ∷ 0xFE ∷ 0xFF ∷ 0xFB ∷ 0xFF ∷ 0xE0 ∷ []) 29
      ≡ 0 ∷ 8191 ∷ 0 ∷ 8191 ∷ 0 ∷ 8191 ∷ 0 ∷ 8191 ∷ 0 ∷ 8191 ∷ []
  -- the old form, from bit 28 on
  pub old_visit : targets_at old_form old_visit_bytes 28 ≡ 1 ∷ 11 ∷ 1 ∷ 22 ∷ 0 ∷ 0 ∷ 1 ∷ 44 ∷ 1 ∷ 500 ∷ []

-- the fields of a visit, with or without a new lesion, a status that is none and a spare bit that is set
abbrev pub fields_of : Bool → Date → Status → Bool → List Bool → List ℕ → Bool → Bool → VisitFields
fields_of isvisit d status new measured sizes badstatus spare =
    record {
      isvisit = isvisit;
      entry = record { date = d; status = status; newlesion = new };
      measured = filled false 5 measured;
      sizes = filled 0 5 sizes;
      badstatus = badstatus;
      spare = spare;
    }

pub record FieldsOfVisits : Type 0 where
  pub printed : visit_fields_of printed_visit_bytes ≡ fields_of true (ymd 2020 2 12) S.NN false (true ∷ true ∷ []) (240 ∷ 120 ∷ []) false false
  -- a new lesion with status 7, which is none; the last spare bit
  pub no_status : visit_fields_of (thirteen (0x4F ∷ 0xC8 ∷ 0x4C ∷ 0xF0 ∷ [])) ≡ fields_of true (ymd 2020 2 12) S.NA true [] [] true false
  pub spare_bit : visit_fields_of (0x4F ∷ 0xC8 ∷ 0x4C ∷ 0x10 ∷ 0 ∷ 0 ∷ 0 ∷ 0 ∷ 0 ∷ 0 ∷ 0 ∷ 0 ∷ 0x01 ∷ []) ≡ fields_of true (ymd 2020 2 12) S.NA true [] [] false true
  -- the date of another kind: of a therapy, and of a baseline
  pub therapy : visit_fields_of therapy_bytes ≡ fields_of false (ymd 2020 2 20) S.NA false [] [] false false
  pub baseline : visit_fields_of missing_bytes ≡ fields_of false (ymd 2020 1 1) S.NA false [] [] false false
  -- all zero beside no bytes, beside twelve, and beside the printed visit with a byte more
  pub no_bytes : visit_fields_of [] ≡ fields_of false (ymd 0 0 0) S.NA false [] [] false false
  pub twelve_bytes : visit_fields_of (filled 255 12 []) ≡ fields_of false (ymd 0 0 0) S.NA false [] [] false false
  pub fourteen_bytes : visit_fields_of (filled 0 14 (0x4F ∷ 0xC8 ∷ 0x4C ∷ 0x48 ∷ 0x3C ∷ 0x20 ∷ 0x78 ∷ [])) ≡ fields_of false (ymd 0 0 0) S.NA false [] [] false false
