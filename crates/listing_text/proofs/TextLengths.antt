-- How long the lines of a listing are, by the numbers in them, and that the text of lines one behind the other is their texts.
-- Assumes nothing.
use mathlib.Core.Path.{◌≡◌, refl, sym, ◌∙◌, ap}
use mathlib.Core.Bool.{Bool}
use mathlib.Core.List.{List, [], ◌∷◌, ◌++◌, append_assoc}
use Prim.Native.Nat.{ℕ, ◌+◌, ◌/◌, ◌%◌, ◌^◌, ◌≤◌, ◌<◌}
use native.Mathlib.Omega.{arith}
use lib.ListN.{length, length-append}
use Rattle.response_rules.specs.Words.{Word}
use Rattle.outcome_rules.specs.Values.{PfsWord, EVENT, CENSORED, Pfs, Duration, no_duration, for_days, Outcome}
use Rattle.outcome_rules.specs.VisitLines.{VisitLine}
use Rattle.subject.specs.Laws.{Within}
use Rattle.outcome.specs.Laws.{DurationWithin}
use Rattle.listing_text.specs.Decimal.{digit, decimal}
use Rattle.listing_text.specs.Text.{status_text, tenths_text, change_text, visit_text, pfs_text, best_text, duration_text, settled_text, outcome_text, refusal_text, lines_text}
use Rattle.listing_text.proofs.DecimalDigits.{decimal_length}

-- ---- lines

pub lines_append : (a b : List VisitLine) → lines_text (a ++ b) ≡ lines_text a ++ lines_text b
lines_append [] b = refl
lines_append (l ∷ a) b = ap (λ (t : List ℕ). visit_text l ++ t) (lines_append a b) ∙ sym (append_assoc (visit_text l) (lines_text a) (lines_text b))

pub visit_length : (l : VisitLine) → l.day < 100000 → length (change_text l.change) ≤ 6 → length (visit_text l) ≤ 24
unfolding visit_text
visit_length l d c =
    let day = decimal_length l.day 5 (omega arith) (omega arith) d in
    simp length-append (omega arith)

pub tenths_length : (n k : ℕ) → 1 ≤ k → k ≤ 20 → n / 10 < 10 ^ k → length (tenths_text n) ≤ k + 2
unfolding tenths_text
tenths_length n k l g h =
    let whole = decimal_length (n / 10) k l g h in
    omega (arith, length-append (decimal (n / 10)) (46 ∷ digit (n % 10) ∷ []))

-- ---- a refusal

pub refusal_length : (n k : ℕ) → n < 1000 → k < 100000 → length (refusal_text n k) ≤ 12
unfolding refusal_text
refusal_length n k f g =
    let number = decimal_length n 3 (omega arith) (omega arith) f in
    let index = decimal_length k 5 (omega arith) (omega arith) g in
    simp length-append (omega arith)

-- ---- an outcome

status_length : (s : PfsWord) → length (status_text s) ≤ 8
status_length EVENT = omega arith
status_length CENSORED = omega arith

-- a day or days within the range have at most five digits
within_length : (d : ℕ) → Within d → length (decimal d) ≤ 5
within_length d w = decimal_length d 5 (omega arith) (omega arith) (omega arith)

pfs_length : (p : Pfs) → Within p.day → length (pfs_text p) ≤ 17
unfolding pfs_text
pfs_length p w =
    let day = within_length p.day w in
    let status = status_length p.status in
    simp length-append (omega arith)

duration_length : (d : Duration) → DurationWithin d → length (duration_text d) ≤ 17
unfolding duration_text
duration_length no_duration w = omega arith
duration_length (for_days s n) w =
    let days = within_length n w in
    let status = status_length s in
    simp length-append (omega arith)

best_length : (w : Word) → length (best_text w) ≡ 5
unfolding best_text
best_length w = refl

settled_length : (pfs best duration : Bool) → length (settled_text pfs best duration) ≡ 8
unfolding settled_text
settled_length pfs best duration = refl

pub outcome_length : (o : Outcome) → Within o.pfs.day → DurationWithin o.duration → length (outcome_text o) ≤ 47
unfolding outcome_text
outcome_length o w d =
    let pfs = pfs_length o.pfs w in
    let best = best_length o.best in
    let duration = duration_length o.duration d in
    let settled = settled_length o.pfs_settled o.best_settled o.duration_settled in
    simp length-append (omega arith)
