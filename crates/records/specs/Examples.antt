-- Document 01, "Dates and records" and "Where a call stops", 3 to 5: records on either side of each limit, which of the three comes first, and the numbers
-- of kinds, statuses and refusals; proved in proofs/AtTheEdges.antt. No example is built with a number that it is to pin down: five places are written as 5.
-- Assumes nothing.
use Rattle.std.specs.Prelude.{◌≡◌, Bool, true, false, List, [], ◌∷◌, map, ℕ, zero, suc, Ok, Err}
use Rattle.dates.specs.Laws.{ymd}
use Rattle.dates.specs.declared.Date.{Date}
use Rattle.records.specs.Entries.{date_of, kind_number, status_number}
use Rattle.laws.specs.Refusals.{first}
use Rattle.records.specs.Refusals.{own_number, check_number, refusals_of_read, refusal_of_record}
use Rattle.records.specs.declared.OwnRefusal.TheVariants as O
use Rattle.records.specs.declared.Entry.{Entry}
use Rattle.records.specs.declared.Entry.TheVariants as E
use Rattle.records.specs.declared.Record.{Record}
use Rattle.records.specs.declared.Status.{Status}
use Rattle.records.specs.declared.Status.TheVariants as S
use Rattle.records.specs.Forms.{old_form, new_form, new_unit}
use Rattle.records.specs.Tenfold.{times_ten, tenfold}

-- so many places, the first of them as given
abbrev pub filled : {A : Type 0} → A → ℕ → List A → List A
filled blank zero xs = []
filled blank (suc n) [] = blank ∷ filled blank n []
filled blank (suc n) (x ∷ xs) = x ∷ filled blank n xs

abbrev pub five_places : {A : Type 0} → A → List A → List A
five_places blank xs = filled blank 5 xs

abbrev pub with_targets : Entry → List Bool → List ℕ → Record
with_targets e marks sizes = record { entry = e; sizes = five_places 0 sizes; marks = five_places false marks }

-- assessed, non-target disease, count, nodes and sizes
abbrev pub baseline_dated : Date → Bool → Bool → ℕ → List Bool → List ℕ → Record
baseline_dated d assessed nontarget count = with_targets (E.Baseline (record { date = d; assessed = assessed; nontarget = nontarget; count = count }))

-- status, new lesion, which targets were measured and the sizes
abbrev pub visit_dated : Date → Status → Bool → List Bool → List ℕ → Record
visit_dated d s new = with_targets (E.Visit (record { date = d; status = s; newlesion = new }))

abbrev pub therapy_dated : Date → Record
therapy_dated d = with_targets (E.Therapy d) [] []

abbrev pub death_dated : Date → Record
death_dated d = with_targets (E.Death d) [] []

-- an assessed baseline without non-target disease, by its count, nodes and sizes; a visit, by what was measured; a missing baseline
abbrev pub refusal_of_assessed : ℕ → List Bool → List ℕ → ℕ
refusal_of_assessed count nodes sizes = refusal_of_record new_unit (baseline_dated (ymd 2020 1 1) true false count nodes sizes)

abbrev pub refusal_of_visit : List Bool → List ℕ → ℕ
refusal_of_visit measured sizes = refusal_of_record new_unit (visit_dated (ymd 2020 2 12) S.NN false measured sizes)

abbrev pub refusal_of_missing : Bool → ℕ → List Bool → List ℕ → ℕ
refusal_of_missing nontarget count nodes sizes = refusal_of_record new_unit (baseline_dated (ymd 2020 1 1) false nontarget count nodes sizes)

-- a baseline that counts six targets of 10 mm and has six places
abbrev pub six_places : Record
six_places = record {
  entry = E.Baseline (record { date = ymd 2020 1 1; assessed = true; nontarget = false; count = 6 });
  sizes = 100 ∷ 100 ∷ 100 ∷ 100 ∷ 100 ∷ 100 ∷ [];
  marks = false ∷ false ∷ false ∷ false ∷ false ∷ false ∷ [];
}

-- an entry of each kind: baseline, visit, therapy, death
abbrev pub each_kind : Date → List Entry
each_kind d =
    E.Baseline (record { date = d; assessed = true; nontarget = true; count = 0 })
    ∷ E.Visit (record { date = d; status = S.NN; newlesion = false })
    ∷ E.Therapy d
    ∷ E.Death d
    ∷ []

pub record OwnRefusals : Type 0 where
  -- 4: a node from 15.0 mm, any other target from 10.0, each to 500.0
  pub node150 : refusal_of_assessed 1 (true ∷ []) (150 ∷ []) ≡ 0
  pub node149 : refusal_of_assessed 1 (true ∷ []) (149 ∷ []) ≡ 4
  pub other100 : refusal_of_assessed 1 [] (100 ∷ []) ≡ 0
  pub other99 : refusal_of_assessed 1 [] (99 ∷ []) ≡ 4
  pub size5000 : refusal_of_assessed 1 [] (5000 ∷ []) ≡ 0
  pub size5001 : refusal_of_assessed 1 [] (5001 ∷ []) ≡ 4
  -- every target within the count is judged, the fifth too
  pub five_targets : refusal_of_assessed 5 [] (100 ∷ 100 ∷ 100 ∷ 100 ∷ 100 ∷ []) ≡ 0
  pub fifth_target : refusal_of_assessed 5 [] (100 ∷ 100 ∷ 100 ∷ 100 ∷ 99 ∷ []) ≡ 4
  -- target count 0 to 5
  pub six_targets : refusal_of_record new_unit six_places ≡ 4
  -- assessed needs a target or non-target disease
  pub without_disease : refusal_of_assessed 0 [] [] ≡ 4
  pub nontarget_alone : refusal_of_record new_unit (baseline_dated (ymd 2020 1 1) true true 0 [] []) ≡ 0
  -- a size measured is from 0 to 500.0 mm, and a status is none of 5 to 7
  pub measured0 : refusal_of_visit (true ∷ []) (0 ∷ []) ≡ 0
  pub measured5000 : refusal_of_visit (true ∷ []) (5000 ∷ []) ≡ 0
  pub measured5001 : refusal_of_visit (true ∷ []) (5001 ∷ []) ≡ 4
  pub no_status : first (refusals_of_read new_unit (visit_dated (ymd 2020 2 12) S.NN false [] []) true false) ≡ 4
  -- 5 alone: targets beyond the count, the size of an unmeasured target, everything after a 0 assessed bit, and spare bits
  pub mark_beyond : refusal_of_assessed 1 (false ∷ true ∷ []) (100 ∷ []) ≡ 5
  pub size_beyond : refusal_of_assessed 1 [] (100 ∷ 5001 ∷ []) ≡ 5
  pub unmeasured : refusal_of_visit [] (5001 ∷ []) ≡ 5
  pub unmeasured1 : refusal_of_visit [] (1 ∷ []) ≡ 5
  pub missing_alone : refusal_of_missing false 0 [] [] ≡ 0
  pub missing_nontarget : refusal_of_missing true 0 [] [] ≡ 5
  pub missing_count1 : refusal_of_missing false 1 [] [] ≡ 5
  pub missing_count7 : refusal_of_missing false 7 [] [] ≡ 5
  pub missing_node : refusal_of_missing false 0 (true ∷ []) [] ≡ 5
  pub missing_size : refusal_of_missing false 0 [] (5001 ∷ []) ≡ 5
  -- therapy, death: what would be a measured size of 500.1 mm is 5 and not 4
  pub therapy_mark : refusal_of_record new_unit (with_targets (E.Therapy (ymd 2020 2 12)) (true ∷ []) []) ≡ 5
  pub therapy_target : refusal_of_record new_unit (with_targets (E.Therapy (ymd 2020 2 12)) (true ∷ []) (5001 ∷ [])) ≡ 5
  pub death_mark : refusal_of_record new_unit (with_targets (E.Death (ymd 2020 2 12)) (true ∷ []) []) ≡ 5
  pub death_size : refusal_of_record new_unit (with_targets (E.Death (ymd 2020 2 12)) [] (1 ∷ [])) ≡ 5
  pub death_target : refusal_of_record new_unit (with_targets (E.Death (ymd 2020 2 12)) (true ∷ []) (5001 ∷ [])) ≡ 5
  pub spare_bit : first (refusals_of_read new_unit (therapy_dated (ymd 2020 2 12)) false true) ≡ 5
  -- 3 before 4, and 4 before 5
  pub date_first : first (refusals_of_read new_unit (visit_dated (ymd 2021 2 29) S.NN false (true ∷ []) (5001 ∷ 1 ∷ [])) true true) ≡ 3
  pub limits_next : first (refusals_of_read new_unit (visit_dated (ymd 2020 2 12) S.NN false (true ∷ []) (5001 ∷ 1 ∷ [])) false true) ≡ 4

-- the forms of document 02, request 1, and each size times ten
pub record TwoForms : Type 0 where
  pub old : old_form ≡ record { record_length = 11; size_width = 10; unit = 1 }
  pub new : new_form ≡ record { record_length = 13; size_width = 13; unit = 10 }
  pub sizes : times_ten (0 ∷ 1 ∷ 40 ∷ []) ≡ 0 ∷ 10 ∷ 400 ∷ []
  pub whole : tenfold (visit_dated (ymd 2020 2 12) S.NN true (true ∷ true ∷ []) (24 ∷ 12 ∷ [])) ≡ visit_dated (ymd 2020 2 12) S.NN true (true ∷ true ∷ []) (240 ∷ 120 ∷ [])

pub record NumbersOfCases : Type 0 where
  -- 1 baseline, 2 visit, 3 therapy, 4 death
  pub kinds : map kind_number (each_kind (ymd 2020 1 1)) ≡ 1 ∷ 2 ∷ 3 ∷ 4 ∷ []
  pub dates : map date_of (each_kind (ymd 2020 1 1)) ≡ ymd 2020 1 1 ∷ ymd 2020 1 1 ∷ ymd 2020 1 1 ∷ ymd 2020 1 1 ∷ []
  -- 0 NA, 1 CR, 2 NN, 3 PD, 4 NE
  pub statuses : map status_number (S.NA ∷ S.CR ∷ S.NN ∷ S.PD ∷ S.NE ∷ []) ≡ 0 ∷ 1 ∷ 2 ∷ 3 ∷ 4 ∷ []
  -- 3 no such date in range; 4 field outside its limits; 5 something that must be zero isn't
  pub refusals : map own_number (O.NoSuchDate ∷ O.OutsideLimits ∷ O.NotZero ∷ []) ≡ 3 ∷ 4 ∷ 5 ∷ []
  pub answers : map check_number (Ok tt ∷ Err O.NotZero ∷ []) ≡ 0 ∷ 5 ∷ []
