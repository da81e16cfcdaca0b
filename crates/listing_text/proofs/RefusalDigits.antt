-- The number of every refusal of a file has at most two digits.
-- Assumes nothing.
use mathlib.Core.Bool.{false}
use mathlib.Core.List.{List, [], ◌∷◌, reverse}
use Prim.Native.Nat.{ℕ, ◌<◌}
use native.Mathlib.Omega.{arith}
use Rattle.laws.specs.Refusals.{◌when◌, Each}
use Rattle.laws.proofs.FirstRefusal.{among, each_append}
use Rattle.records.specs.declared.Record.{Record}
use Rattle.records.specs.Entries.{date_of}
use Rattle.records.specs.Refusals.{refusals_of_record}
use Rattle.records.proofs.NoOwnRefusal.{each_own}
use Rattle.records.specs.Forms.{new_form, new_unit}
use Rattle.codec.specs.Reading.{refusals_of_bytes, record_of_bytes}
use Rattle.codec.proofs.NoRefusalOfBytes.{each_of_bytes}
use Rattle.outcome_rules.specs.StudyRecords.{StudyRecord, baseline, visit, therapy, death, on_study_day, on_study_days}
use Rattle.outcome_rules.specs.Adding.{refusals_of_study_record_in_order, not_baseline, refusals_of_opening, refusals_of_adding}
use Rattle.outcome_rules.proofs.RefusalsOfAdding.{each_behind}
use Rattle.file.specs.Verdict.{refusals_of_part, refusal_of_part}

-- a number of at most two digits
abbrev Small : ℕ → Type 0
Small n = n < 100

own_small : (r : Record) → Each Small (refusals_of_record new_unit r)
own_small r = each_own new_unit Small (omega arith) (omega arith) (omega arith) r false false

opening_small : (r : Record) → Each Small (refusals_of_opening new_unit r)
unfolding refusals_of_opening
opening_small r = each_append Small (refusals_of_record new_unit r) (7 when not_baseline r.entry ∷ []) (own_small r) (omega arith, tt)

after_small : (rs : List StudyRecord) (r : StudyRecord) → Each Small (refusals_of_study_record_in_order rs r)
after_small [] r = (omega arith, tt)
after_small (baseline b ∷ rs) r = each_behind Small (omega arith) (omega arith) (omega arith) (omega arith) b (reverse rs) r
after_small (visit d v ∷ rs) r = (omega arith, tt)
after_small (therapy d ∷ rs) r = (omega arith, tt)
after_small (death d ∷ rs) r = (omega arith, tt)

adding_small : (b : Record) (rs : List Record) (r : Record) → Each Small (refusals_of_adding new_unit (b ∷ rs) r)
unfolding refusals_of_adding
adding_small b rs r =
    let on_day_lem = on_study_day new_unit (date_of b.entry) r in
    each_append Small (refusals_of_record new_unit r) (refusals_of_study_record_in_order (on_study_days new_unit (b ∷ rs)) on_day_lem) (own_small r) (after_small (on_study_days new_unit (b ∷ rs)) on_day_lem)

part_each : (rs : List Record) (part : List ℕ) → Each Small (refusals_of_part new_form rs part)
part_each rs part = go rs (each_of_bytes new_form Small (omega arith) (omega arith) (omega arith) (omega arith) (omega arith) part)
  where
    go : (rs : List Record) → Each Small (refusals_of_bytes new_form part) → Each Small (refusals_of_part new_form rs part)
    go [] bytes = each_append Small (refusals_of_bytes new_form part) (refusals_of_opening new_unit (record_of_bytes new_form part)) bytes (opening_small (record_of_bytes new_form part))
    go (b ∷ rs) bytes = each_append Small (refusals_of_bytes new_form part) (refusals_of_adding new_unit (b ∷ rs) (record_of_bytes new_form part)) bytes (adding_small b rs (record_of_bytes new_form part))

pub part_small : (rs : List Record) (part : List ℕ) → Small (refusal_of_part new_form rs part)
part_small rs part = among Small (refusals_of_part new_form rs part) (omega arith) (part_each rs part)
