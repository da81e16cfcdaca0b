-- The number of the first refusal that meets a record, from what the tests of the code say: `search` finds the premises by itself.
-- Assumes nothing.
use mathlib.Core.Path.{◌≡◌, ◌∙◌}
use mathlib.Core.Bool.{Bool, true, false, not, ◌||◌}
use mathlib.Core.List.{List, [], ◌∷◌}
use Prim.Native.Nat.{ℕ}
use Rattle.std.specs.Prelude.{Result}
use Rattle.laws.specs.Choice.{either}
use Rattle.laws.specs.Refusals.{◌when◌, first}
use Rattle.dates.specs.Calendar.{date_exists}
use Rattle.dates.specs.declared.Date.{Date}
use Rattle.records.specs.Entries.{date_of}
use Rattle.records.specs.Refusals.{check_number, measured_outside_limits, not_zero_unmeasured, some_target, outside_limits, not_zero, ChecksVisit, refusals_of_read}
use Rattle.records.specs.declared.Entry.{Entry}
use Rattle.records.specs.declared.Record.{Record}
use Rattle.records.specs.declared.OwnRefusal.{OwnRefusal}
use Rattle.records.specs.Forms.{new_unit}

module _ (r : Record) (badstatus spare : Bool) (d : Date) (v : Bool) (de : d ≡ date_of r.entry) (ve : v ≡ date_exists d) where
  pub no_date : not v ≡ true → 3 ≡ first (refusals_of_read new_unit r badstatus spare)
  unfolding refusals_of_read
  no_date h = rw (← de, ← ve, h)

  module _ (h : not v ≡ false) where
    pub no_status : badstatus ≡ true → 4 ≡ first (refusals_of_read new_unit r badstatus spare)
    unfolding refusals_of_read
    no_status q = rw (← de, ← ve, h, q)

    pub by_fields : (n : ℕ) → badstatus ≡ false → n ≡ first (4 when outside_limits new_unit r.entry r.marks r.sizes ∷ 5 when either spare (not_zero r.entry r.marks r.sizes) ∷ []) →
        n ≡ first (refusals_of_read new_unit r badstatus spare)
    unfolding refusals_of_read
    by_fields n u e = rw (← de, ← ve, h, u) e

pub visit_refusal : (measured : List Bool) (sizes : List ℕ) (badstatus spare large sized : Bool) (c : Result (Unit {0}) OwnRefusal) →
    large ≡ some_target (λ (i : ℕ). measured_outside_limits new_unit) measured sizes → sized ≡ some_target (λ (i : ℕ). not_zero_unmeasured) measured sizes →
    check_number c ≡ first (4 when (badstatus || large) ∷ 5 when (spare || sized) ∷ []) → ChecksVisit measured sizes badstatus spare c
unfolding outside_limits not_zero
visit_refusal measured sizes badstatus spare large sized c lq sq e v = e ∙ rw (lq, sq)
