-- Document 01, "Outcome": best response.
-- Assumes nothing.
use Rattle.std.specs.Prelude.{ℕ, ◌+◌, Bool, true, false, List, [], ◌∷◌, leb}
use Rattle.laws.specs.Choice.{both, either, pick}
use Rattle.response_rules.specs.Words.{Word, CR, PR, SD, PD, NE, NA, NN}
use Rattle.outcome_rules.specs.Values.{is_recorded}
use Rattle.outcome_rules.specs.Course.{Judged, Course, first_pd, counting_visits}

abbrev pub is_cr : Word → Bool
is_cr CR = true
is_cr PR = false
is_cr SD = false
is_cr PD = false
is_cr NE = false
is_cr NA = false
is_cr NN = false

-- CR or PR
abbrev pub is_response : Word → Bool
is_response CR = true
is_response PR = true
is_response SD = false
is_response PD = false
is_response NE = false
is_response NA = false
is_response NN = false

-- CR, PR or SD
abbrev pub is_stable_or_better : Word → Bool
is_stable_or_better CR = true
is_stable_or_better PR = true
is_stable_or_better SD = true
is_stable_or_better PD = false
is_stable_or_better NE = false
is_stable_or_better NA = false
is_stable_or_better NN = false

-- days between a response and its confirmation, and the day from which SD is a best response
abbrev pub confirmation_days : ℕ
confirmation_days = 28

abbrev pub stable_disease_from : ℕ
stable_disease_from = 36

-- 28 days or more apart
abbrev pub confirms : ℕ → ℕ → Bool
confirms earlier later = leb (earlier + confirmation_days) later

-- what may stand between two CR visits: CR or NE
abbrev pub allowed_between_cr : Word → Bool
allowed_between_cr CR = true
allowed_between_cr NE = true
allowed_between_cr PR = false
allowed_between_cr SD = false
allowed_between_cr PD = false
allowed_between_cr NA = false
allowed_between_cr NN = false

-- a CR visit 28 days or more before the day, with only CR or NE between
abbrev pub confirms_earlier_cr : ℕ → List Judged → Bool
confirms_earlier_cr d [] = false
confirms_earlier_cr d (j ∷ js) =
    either (both (is_cr j.answer) (confirms j.day d)) (both (allowed_between_cr j.answer) (confirms_earlier_cr d js))

-- two CR visits 28 days or more apart with only CR or NE between
abbrev pub confirmed_cr : List Judged → Bool
confirmed_cr [] = false
confirmed_cr (j ∷ js) = either (both (is_cr j.answer) (confirms_earlier_cr j.day js)) (confirmed_cr js)

-- a visit of CR or PR 28 days or more before the day
abbrev pub confirms_earlier_response : ℕ → List Judged → Bool
confirms_earlier_response d [] = false
confirms_earlier_response d (j ∷ js) = either (both (is_response j.answer) (confirms j.day d)) (confirms_earlier_response d js)

-- two visits of CR or PR 28 days or more apart
abbrev pub confirmed_response : List Judged → Bool
confirmed_response [] = false
confirmed_response (j ∷ js) = either (both (is_response j.answer) (confirms_earlier_response j.day js)) (confirmed_response js)

-- a CR, PR or SD on day 36 or later
abbrev pub stable_disease : List Judged → Bool
stable_disease [] = false
stable_disease (j ∷ js) = either (both (is_stable_or_better j.answer) (leb stable_disease_from j.day)) (stable_disease js)

-- the first that applies
abbrev pub best_of : Bool → Bool → Bool → Bool → Word
best_of cr pr sd pd = pick cr CR (pick pr PR (pick sd SD (pick pd PD NE)))

unfoldable pub best : Course → Word
best c = best_of (confirmed_cr (counting_visits c)) (confirmed_response (counting_visits c)) (stable_disease (counting_visits c)) (is_recorded (first_pd (counting_visits c)))
