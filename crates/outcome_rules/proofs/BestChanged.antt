-- Courses of which some further occurrences change best response or duration. The marks are not named here.
-- Assumes nothing.
use mathlib.Core.Path.{◌≡◌, refl, sym, ap, ◌∙◌}
use mathlib.Core.Bool.{Bool, true, false}
use mathlib.Core.List.{List, [], ◌∷◌}
use Prim.Native.Nat.{ℕ, suc, ◌+◌, ◌-◌, ◌≤◌}
use native.Mathlib.Omega.{arith}
use borrow.Author.Tests.{le-leb}
use Rattle.laws.specs.Choice.{both, either, pick}
use Rattle.laws.proofs.Tests.{never}
use Rattle.response_rules.specs.Words.{Word, CR, PR, SD, PD, NE, NA, NN}
use Rattle.outcome_rules.specs.Values.{Day, none, on, is_recorded, ◌or_else◌, or_day1, Pfs, PfsWord, Duration, no_duration, for_days, exists}
use Rattle.outcome_rules.specs.Course.{Judged, judged_visit, Course, latest_day_in, death_day_in, therapy_recorded, progression, counting_closed, counting_visits}
use Rattle.outcome_rules.specs.Pfs.{pfs}
use Rattle.outcome_rules.specs.BestResponse.{is_cr, is_response, confirmation_days, confirms_earlier_cr, confirmed_cr, confirms_earlier_response, confirmed_response, best}
use Rattle.outcome_rules.specs.Duration.{first_response, duration_of, duration}
use Rattle.outcome_rules.proofs.OneRecordMore.{recorded_on, from_day_1_in}
use Rattle.outcome_rules.proofs.BestUnchanged.{words_of_best, confirmed_best}
use Rattle.outcome_rules.proofs.RunsBuilt.{one_more, two_more}
use Rattle.outcome_rules.proofs.PfsChanged.{Until, counting_until, censored_until, open_pfs, one_more_pfs}

-- where best is CR or PR there is a first response
first_of_confirmed : (c : List Judged) → either (confirmed_cr c) (confirmed_response c) ≡ true → is_recorded (first_response c) ≡ true
first_of_confirmed [] e = absurd (never (sym e))
first_of_confirmed (j ∷ c) e = go j.answer (confirms_earlier_cr j.day c) (confirms_earlier_response j.day c) (first_response c) (first_of_confirmed c) e
  where
    go : (a : Word) (x y : Bool) (f : Day) → (either (confirmed_cr c) (confirmed_response c) ≡ true → is_recorded f ≡ true) →
        either (either (both (is_cr a) x) (confirmed_cr c)) (either (both (is_response a) y) (confirmed_response c)) ≡ true →
        is_recorded (f or_else (pick (is_response a) (on j.day) none)) ≡ true
    go a x y (on d) ih h = refl
    go CR x y none ih h = refl
    go PR x y none ih h = refl
    go SD x y none ih h = ih h
    go PD x y none ih h = ih h
    go NE x y none ih h = ih h
    go NA x y none ih h = ih h
    go NN x y none ih h = ih h

-- the first response is on a day up to the latest
first_until : (d : ℕ) (js : List Judged) → 1 ≤ d → Until d js → or_day1 (first_response js) ≤ d
first_until d [] one u = one
first_until d (j ∷ js) one u = go (first_response js) (is_response j.answer) (first_until d js one u.1)
  where
    go : (f : Day) (x : Bool) → or_day1 f ≤ d → or_day1 (f or_else (pick x (on j.day) none)) ≤ d
    go (on t) x h = h
    go none true h = u.0
    go none false h = h

abbrev days_of : Duration → ℕ
days_of no_duration = 0
days_of (for_days s n) = n

pub first_response_lem : (c : Course) → is_response (best c) ≡ true → is_recorded (first_response (counting_visits c)) ≡ true
first_response_lem c e = first_of_confirmed (counting_visits c) (sym (words_of_best c).1 ∙ e)

pub duration_exists : (c : Course) → exists (duration c) ≡ is_response (best c)
unfolding duration
duration_exists c = go (is_response (best c)) refl (first_response (counting_visits c)) refl
  where
    there : (x : Bool) (s : PfsWord) (n : ℕ) → exists (pick x (for_days s n) no_duration) ≡ x
    there true s n = refl
    there false s n = refl

    go : (x : Bool) → is_response (best c) ≡ x → (f : Day) → first_response (counting_visits c) ≡ f → exists (duration_of (best c) f (pfs c)) ≡ is_response (best c)
    go x e (on d) q = there (is_response (best c)) (pfs c).status ((pfs c).day - d + 1)
    go true e none q = absurd (never (sym (first_response_lem c e) ∙ ap is_recorded q))
    go false e none q = sym e

-- the days of a duration that exists, from the first response on
days_from : (c : Course) (first : ℕ) → first_response (counting_visits c) ≡ on first → exists (duration c) ≡ true → days_of (duration c) ≡ (pfs c).day - first + 1
unfolding duration
days_from c first q e = rw (q, sym (duration_exists c) ∙ e)

first_keeps : (c : Course) (j : Judged) (first : ℕ) → first_response (counting_visits c) ≡ on first → first_response (counting_visits (judged_visit j ∷ c)) ≡ on first
first_keeps c j first q = go (counting_closed c)
  where
    go : (x : Bool) → first_response (pick x (counting_visits c) (j ∷ counting_visits c)) ≡ on first
    go true = q
    go false = rw q

module _ (c : Course) (none_yet : progression c ≡ none) where
  module _ (untreated : therapy_recorded c ≡ false) where
    two_more_cr : best (two_more c) ≡ CR
    two_more_cr = confirmed_best (two_more c) (rw (untreated, none_yet, le-leb (suc (latest_day_in c) + confirmation_days) (suc (latest_day_in c) + confirmation_days) (omega arith)))

    pub best_changes : is_cr (best c) ≡ false → best (two_more c) ≡ best c → ⊥
    best_changes short same = never (sym (ap is_cr two_more_cr) ∙ ap is_cr same ∙ short)

    pub duration_begins : exists (duration c) ≡ false → duration (two_more c) ≡ duration c → ⊥
    duration_begins short same = never (sym (duration_exists (two_more c) ∙ ap is_response two_more_cr) ∙ ap exists same ∙ short)

  -- a CR visit on the day after the latest makes a duration longer
  pub duration_grows : death_day_in c ≡ none → exists (duration c) ≡ true → duration (one_more c) ≡ duration c → ⊥
  duration_grows alive there same =
      let first = recorded_on (first_response (counting_visits c)) (first_response_lem c (sym (duration_exists c) ∙ there)) in
      let now = days_from c first.0 first.1 there in
      let later = days_from (one_more c) first.0 (first_keeps c _ first.0 first.1) (ap exists same ∙ there) in
      let ends_now = ap (λ (x : Pfs). x.day) (open_pfs c alive none_yet) in
      let ends_later = ap (λ (x : Pfs). x.day) (one_more_pfs c alive none_yet) in
      let days = ap days_of same in
      let last = censored_until c in
      let begins = first_until (latest_day_in c) (counting_visits c) (from_day_1_in c) (counting_until (latest_day_in c) c (omega arith)) in
      let begun : first.0 ≤ latest_day_in c = rw first.1 at begins in
      omega arith
