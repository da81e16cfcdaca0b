-- Document 01, "Dates and records" and "Where a call stops", with the limits of document 02, request 1, in millimetres times the unit: the refusals 3, 4 and
-- 5 of any record.
-- Assumes nothing.
use Rattle.std.specs.Prelude.{◌≡◌, ℕ, ◌*◌, Bool, false, not, List, [], ◌∷◌, ltb, leb, eqb, get_or, Result, Ok, Err}
use Rattle.laws.specs.Choice.{both, either, pick, some}
use Rattle.laws.specs.Refusals.{Refusal, ◌when◌, first}
use Rattle.dates.specs.Calendar.{date_exists}
use Rattle.records.specs.Entries.{date_of}
use Rattle.records.specs.Forms.{new_unit}
use Rattle.records.specs.declared.Entry.{Entry}
use Rattle.records.specs.declared.Entry.TheVariants.{Baseline, Visit, Therapy, Death}
use Rattle.records.specs.declared.BaselineEntry.{BaselineEntry}
use Rattle.records.specs.declared.VisitEntry.{VisitEntry}
use Rattle.records.specs.declared.Record.{Record}
use Rattle.records.specs.declared.OwnRefusal.{OwnRefusal}
use Rattle.records.specs.declared.OwnRefusal.TheVariants.{NoSuchDate, OutsideLimits, NotZero}

-- the number of each case in document 01
abbrev pub own_number : OwnRefusal → ℕ
own_number NoSuchDate = 3
own_number OutsideLimits = 4
own_number NotZero = 5

-- 0 where no refusal meets
abbrev pub check_number : Result (Unit {0}) OwnRefusal → ℕ
check_number (Ok u) = 0
check_number (Err own) = own_number own

abbrev pub most_targets : ℕ
most_targets = 5

-- a target beyond the count is zero
unfoldable pub not_zero_beyond_count : ℕ → ℕ → Bool → ℕ → Bool
not_zero_beyond_count count i mark size = both (leb count i) (either mark (ltb 0 size))

-- the size of an unmeasured target is zero
unfoldable pub not_zero_unmeasured : Bool → ℕ → Bool
not_zero_unmeasured measured size = both (not measured) (ltb 0 size)

-- what one target, by its place, its mark and its size, can break
abbrev pub target_at : (ℕ → Bool → ℕ → Bool) → List Bool → List ℕ → ℕ → Bool
target_at f marks sizes i = f i (get_or marks i false) (get_or sizes i 0)

abbrev pub some_target : (ℕ → Bool → ℕ → Bool) → List Bool → List ℕ → Bool
some_target f marks sizes = some (target_at f marks sizes) most_targets

unfoldable pub without_disease : BaselineEntry → Bool
without_disease b = both (eqb b.count 0) (not b.nontarget)

-- 5: targets beyond the count, the size of an unmeasured target and everything after a 0 assessed bit are zero
unfoldable pub not_zero : Entry → List Bool → List ℕ → Bool
not_zero (Baseline b) marks sizes =
    pick b.assessed (some_target (not_zero_beyond_count b.count) marks sizes)
    (either b.nontarget (either (ltb 0 b.count) (some_target (not_zero_beyond_count 0) marks sizes)))
not_zero (Visit v) marks sizes = some_target (λ (i : ℕ). not_zero_unmeasured) marks sizes
not_zero (Therapy d) marks sizes = some_target (not_zero_beyond_count 0) marks sizes
not_zero (Death d) marks sizes = some_target (not_zero_beyond_count 0) marks sizes

-- of sizes of which a millimetre has so many units
module _ (unit : ℕ) where
  -- 500 mm
  abbrev pub largest_size : ℕ
  largest_size = 500 * unit

  -- a node (short axis) from 15 mm, any other target from 10
  abbrev pub least_size : Bool → ℕ
  least_size node = pick node (15 * unit) (10 * unit)

  -- a size within the count is from the least size to the largest
  unfoldable pub size_outside_limits : ℕ → ℕ → Bool → ℕ → Bool
  size_outside_limits count i node size = both (ltb i count) (either (ltb size (least_size node)) (ltb largest_size size))

  -- a size measured is at most the largest
  unfoldable pub measured_outside_limits : Bool → ℕ → Bool
  measured_outside_limits measured size = both measured (ltb largest_size size)

  -- 4: count, sizes within the count, sizes measured, and an assessed baseline without disease
  unfoldable pub outside_limits : Entry → List Bool → List ℕ → Bool
  outside_limits (Baseline b) marks sizes =
      both b.assessed
      (either (ltb most_targets b.count) (either (without_disease b) (some_target (size_outside_limits b.count) marks sizes)))
  outside_limits (Visit v) marks sizes = some_target (λ (i : ℕ). measured_outside_limits) marks sizes
  outside_limits (Therapy d) marks sizes = false
  outside_limits (Death d) marks sizes = false

  -- the refusals of fields, where their date is none or not, with a status that is none (4) or a spare bit that is set (5) beside them
  abbrev pub refusals_of_fields : Bool → Entry → List Bool → List ℕ → Bool → Bool → List Refusal
  refusals_of_fields no_date e marks sizes badstatus spare =
      3 when no_date
      ∷ 4 when either badstatus (outside_limits e marks sizes)
      ∷ 5 when either spare (not_zero e marks sizes)
      ∷ []

  -- of what was read as a record, and of what stands beside it
  unfoldable pub refusals_of_read : Record → Bool → Bool → List Refusal
  refusals_of_read r badstatus spare = refusals_of_fields (not (date_exists (date_of r.entry))) r.entry r.marks r.sizes badstatus spare

  -- a record value has neither
  abbrev pub refusals_of_record : Record → List Refusal
  refusals_of_record r = refusals_of_read r false false

  abbrev pub refusal_of_record : Record → ℕ
  refusal_of_record r = first (refusals_of_record r)

-- what checking the fields of a visit promises, whatever its entry: 4 and 5 alone
abbrev pub ChecksVisit : List Bool → List ℕ → Bool → Bool → Result (Unit {0}) OwnRefusal → Type 0
ChecksVisit measured sizes badstatus spare c =
    (v : VisitEntry) → check_number c ≡ first (refusals_of_fields new_unit false (Visit v) measured sizes badstatus spare)
