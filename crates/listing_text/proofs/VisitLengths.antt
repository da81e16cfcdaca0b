-- Every line of a visit is short: the lines of one more record of a lawful list, and all of them together.
-- Assumes nothing.
use mathlib.Core.Path.{◌≡◌}
use mathlib.Core.Bool.{true, not}
use mathlib.Core.List.{List, [], ◌∷◌}
use Prim.Native.Nat.{ℕ, ◌*◌, ◌≤◌, ◌<◌}
use native.Mathlib.Omega.{arith}
use lib.Dec.{ltb}
use lib.ListN.{length, length-append}
use Rattle.laws.specs.Choice.{both}
use Rattle.laws.proofs.Tests.{both_true}
use Rattle.response_rules.specs.Inputs.{Visit}
use Rattle.outcome_rules.specs.StudyRecords.{Baseline, StudyRecord, baseline, visit, therapy, death, day_of, baseline_passes, fields_pass, all_pass}
use Rattle.outcome_rules.specs.LawfulLists.{Past, latest_day, died, fits, lawful_next, lawful_behind}
use Rattle.outcome_rules.specs.VisitLines.{VisitLine, line_of_visit, lines_of_record, visit_lines}
use Rattle.listing_text.specs.Text.{visit_text, lines_text}
use Rattle.listing_text.specs.Laws.{Short}
use Rattle.listing_text.proofs.TextLengths.{lines_append, visit_length}
use Rattle.listing_text.proofs.ChangeLengths.{change_short}

abbrev pub AllShort : List VisitLine → Type 0
AllShort [] = Unit {0}
AllShort (l ∷ ls) = Short l × AllShort ls

pub line_short : (b : Baseline) (p : Past) (d : ℕ) (v : Visit) → baseline_passes b ≡ true → fields_pass b.unit (visit d v) ≡ true →
    lawful_behind b (visit d v ∷ p) ≡ true → d < 100000 → Short (line_of_visit b p d v)
unfolding line_of_visit
line_short b p d v base passes lawfully h =
    let alive = (both_true (lawful_behind b p) (both (not (died p)) (both (ltb (latest_day p) d) (fits b v))) lawfully).1 in
    let later = (both_true (not (died p)) (both (ltb (latest_day p) d) (fits b v)) alive).1 in
    let change = change_short b d v base passes (both_true (ltb (latest_day p) d) (fits b v) later).1 in
    record { day = h; change = change.tenths; whole = visit_length (line_of_visit b p d v) h change.text }

pub next_short : (b : Baseline) (p : Past) (r : StudyRecord) → baseline_passes b ≡ true → fields_pass b.unit r ≡ true →
    lawful_behind b (r ∷ p) ≡ true → day_of r < 100000 → AllShort (lines_of_record b p r)
next_short b p (baseline x) base passes lawfully h = tt
next_short b p (visit d v) base passes lawfully h = (line_short b p d v base passes lawfully h, tt)
next_short b p (therapy d) base passes lawfully h = tt
next_short b p (death d) base passes lawfully h = tt

-- one record prints one line or none
lines_length : (b : Baseline) (p : Past) (r : StudyRecord) → AllShort (lines_of_record b p r) → length (lines_text (lines_of_record b p r)) ≤ 24
lines_length b p (baseline x) h = omega arith
lines_length b p (visit d v) h = let one = h.0.whole in omega (arith, length-append (visit_text (line_of_visit b p d v)) [])
lines_length b p (therapy d) h = omega arith
lines_length b p (death d) h = omega arith

pub visits_length : (b : Baseline) (p : Past) → baseline_passes b ≡ true → all_pass b.unit p ≡ true → lawful_behind b p ≡ true → latest_day p < 100000 →
    length (lines_text (visit_lines b p)) ≤ 24 * length p
visits_length b [] base passes lawfully h = omega arith
visits_length b (r ∷ p) base passes lawfully h =
    let pass = both_true (fields_pass b.unit r) (all_pass b.unit p) passes in
    let before = (both_true (lawful_behind b p) (both (not (died p)) (lawful_next b (latest_day p) r)) lawfully).0 in
    let earlier = visits_length b p base pass.1 before (omega arith) in
    let last = lines_length b p r (next_short b p r base pass.0 lawfully (omega arith)) in
    rw (lines_append (visit_lines b p) (lines_of_record b p r))
    (omega (arith, length-append (lines_text (visit_lines b p)) (lines_text (lines_of_record b p r))))
