-- What is held for PFS, best response and duration follows the list of the visits: one visit more makes of it what the longer list gives.
-- Assumes nothing.
use mathlib.Core.Path.{◌≡◌, refl, sym, ◌∙◌}
use mathlib.Core.Bool.{Bool, true, false}
use mathlib.Core.List.{List, [], ◌∷◌}
use Prim.Native.Nat.{ℕ, ◌+◌, ◌≤◌}
use native.Mathlib.Omega.{arith}
use lib.Dec.{leb}
use borrow.Author.Tests.{le-leb, leb-true}
use Rattle.std.specs.Prelude.{None}
use Rattle.laws.specs.Choice.{both, either, pick}
use Rattle.laws.proofs.Tests.{either_with_false}
use Rattle.response_rules.specs.Words.{Word, CR, PR, SD, PD, NE, NA, NN}
use Rattle.response_rules.specs.OverallAnswer.{is_pd, evaluable}
use Rattle.outcome_rules.specs.Values.{Day, none, on, is_recorded, ◌or_else◌, day_value, best_word}
use Rattle.outcome_rules.specs.Course.{Judged, first_pd}
use Rattle.outcome_rules.specs.BestResponse.{is_cr, is_response, is_stable_or_better, allowed_between_cr, stable_disease_from, confirmation_days, confirms, confirms_earlier_cr, confirmed_cr, confirms_earlier_response, confirmed_response, stable_disease, best_of}
use Rattle.outcome_rules.specs.Duration.{first_response}
use Rattle.subject.specs.Days.{at, maybe, first_recorded, confirmed_on}
use Rattle.subject.specs.OneVisitMore.{event_after, best_from, better_of, counting_after}
use Rattle.subject.specs.Summary.{cr_start, event_of, counting_of}
use Rattle.outcome_rules.proofs.PfsChanged.{Until}
use Rattle.subject.proofs.CountingDaysFall.{Falling}

pub day_of_maybe : (x : Day) → day_value (maybe x) ≡ x
day_of_maybe none = refl
day_of_maybe (on d) = refl

-- ---- the days of the event

pub event_follows : (j : Judged) (js : List Judged) → event_after (event_of js) j ≡ event_of (j ∷ js)
unfolding event_after event_of
event_follows j js = go (first_pd js) refl (is_pd j.answer) refl (evaluable j.answer) refl
  where
    go : (x : Day) → first_pd js ≡ x → (pd : Bool) → is_pd j.answer ≡ pd → (ev : Bool) → evaluable j.answer ≡ ev →
        event_after (event_of js) j ≡ event_of (j ∷ js)
    go (on d) e pd f ev g = rw e
    go none e true f ev g = rw (e, f)
    go none e false f true g = rw (e, f, g)
    go none e false f false g = rw (e, f, g)

-- ---- the counting visits

abbrev AtMost : Day → ℕ → Type 0
AtMost none d = Unit {0}
AtMost (on s) d = s ≤ d

first_at_most : (d : ℕ) (js : List Judged) → Until d js → AtMost (first_response js) d
first_at_most d [] u = tt
first_at_most d (j ∷ js) u = go (first_response js) (is_response j.answer) (first_at_most d js u.1)
  where
    go : (f : Day) (r : Bool) → AtMost f d → AtMost (f or_else pick r (on j.day) none) d
    go none true h = u.0
    go none false h = tt
    go (on s) r h = h

start_at_most : (d : ℕ) (js : List Judged) → Until d js → AtMost (cr_start js) d
start_at_most d [] u = tt
start_at_most d (j ∷ js) u = go (cr_start js) (is_cr j.answer) (allowed_between_cr j.answer) (start_at_most d js u.1)
  where
    go : (f : Day) (c m : Bool) → AtMost f d → AtMost (pick c (f or_else on j.day) (pick m f none)) d
    go none true m h = u.0
    go (on s) true m h = h
    go f false true h = h
    go f false false h = tt

-- of two days the earlier one decides
earlier_decides : (s t d : ℕ) → s ≤ t → either (confirms t d) (confirms s d) ≡ confirms s d
earlier_decides s t d h = go (confirms t d) refl
  where
    go : (x : Bool) → confirms t d ≡ x → either x (confirms s d) ≡ confirms s d
    go true e = let k = leb-true (t + confirmation_days) d e in sym (le-leb (s + confirmation_days) d (omega arith))
    go false e = refl

confirmed_on_either : (f : Day) (t d : ℕ) → AtMost f t → either (confirms t d) (confirmed_on (maybe f) d) ≡ confirmed_on (maybe (f or_else on t)) d
confirmed_on_either none t d h = either_with_false (confirms t d)
confirmed_on_either (on s) t d h = earlier_decides s t d h

confirms_earlier_cr_lem : (d : ℕ) (js : List Judged) → Falling js → confirms_earlier_cr d js ≡ confirmed_on (maybe (cr_start js)) d
confirms_earlier_cr_lem d [] s = refl
confirms_earlier_cr_lem d (j ∷ js) s = go j.answer (confirms_earlier_cr_lem d js s.1)
  where
    go : (a : Word) → confirms_earlier_cr d js ≡ confirmed_on (maybe (cr_start js)) d →
        either (both (is_cr a) (confirms j.day d)) (both (allowed_between_cr a) (confirms_earlier_cr d js))
        ≡ confirmed_on (maybe (pick (is_cr a) (cr_start js or_else on j.day) (pick (allowed_between_cr a) (cr_start js) none))) d
    go CR ih = rw ih (confirmed_on_either (cr_start js) j.day d (start_at_most j.day js s.0))
    go NE ih = ih
    go PR ih = refl
    go SD ih = refl
    go PD ih = refl
    go NA ih = refl
    go NN ih = refl

confirms_earlier_response_lem : (d : ℕ) (js : List Judged) → Falling js → confirms_earlier_response d js ≡ confirmed_on (maybe (first_response js)) d
confirms_earlier_response_lem d [] s = refl
confirms_earlier_response_lem d (j ∷ js) s = go (is_response j.answer) (confirms_earlier_response_lem d js s.1)
  where
    same : (f : Day) → confirmed_on (maybe f) d ≡ confirmed_on (maybe (f or_else none)) d
    same none = refl
    same (on x) = refl

    go : (r : Bool) → confirms_earlier_response d js ≡ confirmed_on (maybe (first_response js)) d →
        either (both r (confirms j.day d)) (confirms_earlier_response d js) ≡ confirmed_on (maybe (first_response js or_else pick r (on j.day) none)) d
    go true ih = rw ih (confirmed_on_either (first_response js) j.day d (first_at_most j.day js s.0))
    go false ih = ih ∙ same (first_response js)

module _ (d : ℕ) where
  first_follows : (f : Day) (r : Bool) → pick r (first_recorded (maybe f) (at d)) (maybe f) ≡ maybe (f or_else pick r (on d) none)
  first_follows none true = refl
  first_follows none false = refl
  first_follows (on s) true = refl
  first_follows (on s) false = refl

  start_follows : (f : Day) (c m : Bool) → pick c (first_recorded (maybe f) (at d)) (pick m (maybe f) None) ≡ maybe (pick c (f or_else on d) (pick m f none))
  start_follows none true m = refl
  start_follows (on s) true m = refl
  start_follows f false true = refl
  start_follows f false false = refl

  progression_follows : (f : Day) (pd : Bool) → either pd (is_recorded f) ≡ is_recorded (f or_else pick pd (on d) none)
  progression_follows none true = refl
  progression_follows none false = refl
  progression_follows (on s) true = refl
  progression_follows (on s) false = refl

-- what the earlier visits show, or the next one with them, is the better of the two
better_shown : (cr pr sd pd x y z w : Bool) →
    better_of (best_from (best_of cr pr sd pd)) (best_from (best_of x y z w)) ≡ best_from (best_of (either x cr) (either y pr) (either z sd) (either w pd))
better_shown true pr sd pd true y z w = refl
better_shown true pr sd pd false y z w = refl
better_shown false true sd pd true y z w = refl
better_shown false true sd pd false true z w = refl
better_shown false true sd pd false false true w = refl
better_shown false true sd pd false false false true = refl
better_shown false true sd pd false false false false = refl
better_shown false false true pd true y z w = refl
better_shown false false true pd false true z w = refl
better_shown false false true pd false false true w = refl
better_shown false false true pd false false false true = refl
better_shown false false true pd false false false false = refl
better_shown false false false true true y z w = refl
better_shown false false false true false true z w = refl
better_shown false false false true false false true w = refl
better_shown false false false true false false false true = refl
better_shown false false false true false false false false = refl
better_shown false false false false true y z w = refl
better_shown false false false false false true z w = refl
better_shown false false false false false false true w = refl
better_shown false false false false false false false true = refl
better_shown false false false false false false false false = refl

pub best_of_held : (cr pr sd pd : Bool) → best_word (best_from (best_of cr pr sd pd)) ≡ best_of cr pr sd pd
best_of_held true pr sd pd = refl
best_of_held false true sd pd = refl
best_of_held false false true pd = refl
best_of_held false false false true = refl
best_of_held false false false false = refl

pub counting_follows : (j : Judged) (js : List Judged) → Falling js → counting_after (counting_of js) j ≡ counting_of (j ∷ js)
unfolding counting_after counting_of
counting_follows j js s =
    let first = first_follows j.day (first_response js) (is_response j.answer) in
    let start = start_follows j.day (cr_start js) (is_cr j.answer) (allowed_between_cr j.answer) in
    let pd = progression_follows j.day (first_pd js) (is_pd j.answer) in
    let complete = sym (confirms_earlier_cr_lem j.day js s) in
    let response = sym (confirms_earlier_response_lem j.day js s) in
    let shown = better_shown (confirmed_cr js) (confirmed_response js) (stable_disease js) (is_recorded (first_pd js)) (both (is_cr j.answer) (confirmed_on (maybe (cr_start js)) j.day))
    (both (is_response j.answer) (confirmed_on (maybe (first_response js)) j.day)) (both (is_stable_or_better j.answer) (leb stable_disease_from j.day)) (is_pd j.answer) in
    let follows : best_from
    (best_of (either (both (is_cr j.answer) (confirmed_on (maybe (cr_start js)) j.day)) (confirmed_cr js))
    (either (both (is_response j.answer) (confirmed_on (maybe (first_response js)) j.day)) (confirmed_response js)) (stable_disease (j ∷ js))
    (either (is_pd j.answer) (is_recorded (first_pd js))))
    ≡ best_from (best_of (confirmed_cr (j ∷ js)) (confirmed_response (j ∷ js)) (stable_disease (j ∷ js)) (is_recorded (first_pd (j ∷ js)))) =
    λ i.
    best_from
    (best_of (either (both (is_cr j.answer) (complete i)) (confirmed_cr js)) (either (both (is_response j.answer) (response i)) (confirmed_response js))
    (stable_disease (j ∷ js)) (pd i)) in
    let best = shown ∙ follows in
    λ i. record { firstresponse = first i; crstart = start i; best = best i }
