-- Document 01, "Settled", demand 3, of a replay: the calls that a byte string makes, and the claim on the last reading.
-- Assumes nothing.
use Rattle.std.specs.Prelude.{◌≡◌, List, [], ◌∷◌, map, ℕ, Result}
use Rattle.records.specs.declared.Record.{Record}
use Rattle.records.specs.Forms.{new_form, new_unit}
use Rattle.codec.specs.Reading.{record_of_bytes}
use Rattle.outcome_rules.specs.Adding.{refusal_of_opening, Call, add, read, accepted}
use Rattle.outcome.specs.ReadingOutcome.{refused, reading_values}
use Rattle.outcome.specs.Demand3.{Claim}
use Rattle.codec.specs.Parts.{parts_of}
use Rattle.outcome.specs.declared.OutcomeResult.{OutcomeResult}
use Rattle.outcome.specs.declared.OutOfRange.{OutOfRange}

-- the records of a byte string; bytes behind the last whole part are left
abbrev pub records_in : List ℕ → List Record
records_in l = map (record_of_bytes new_form) (parts_of new_form l)

-- each record is added, and the outcome is read
abbrev pub calls_of : List Record → List Call
calls_of [] = []
calls_of (r ∷ rs) = add r ∷ read ∷ calls_of rs

-- the claim of demand 3 where the first record opens a subject; else the reading is refused by 12
abbrev pub Replayed : List Record → Result OutcomeResult OutOfRange → Type 0
Replayed [] o = reading_values o ≡ refused 12
Replayed (b ∷ rs) o =
    (refusal_of_opening new_unit b ≡ 0 → Claim o (accepted new_unit b (calls_of rs))) × ((refusal_of_opening new_unit b ≡ 0 → ⊥) → reading_values o ≡ refused 12)
