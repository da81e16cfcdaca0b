-- Courses of which some further occurrence changes PFS. The mark is not named here.
-- Assumes nothing.
use mathlib.Core.Path.{◌≡◌, sym, ap, ◌∙◌}
use mathlib.Core.Bool.{Bool, true, false}
use mathlib.Core.List.{List, [], ◌∷◌}
use Prim.Native.Nat.{ℕ, suc, ◌-◌, ◌≤◌}
use native.Mathlib.Omega.{arith}
use borrow.Author.Tests.{le-leb}
use Rattle.laws.specs.Choice.{pick}
use Rattle.response_rules.specs.OverallAnswer.{evaluable}
use Rattle.outcome_rules.specs.Values.{none, on, is_recorded, or_day1, Pfs, EVENT, CENSORED, event, censored}
use Rattle.outcome_rules.specs.Course.{Judged, judged_visit, therapy_on, death_on, Course, latest_day_in, death_day_in, visits_in, first_pd, progression, counting_closed, counting_visits}
use Rattle.outcome_rules.specs.Pfs.{before_event, last_evaluable, early_death_limit, pfs}
use Rattle.outcome_rules.proofs.OneRecordMore.{from_day_1_in}
use Rattle.outcome_rules.proofs.BaselineMissing.{AllNE, no_progression, no_evaluable}
use Rattle.outcome_rules.proofs.RunsBuilt.{one_more, death_now}

-- every visit is on a day up to d
abbrev pub Until : ℕ → List Judged → Type 0
Until d [] = Unit {0}
Until d (j ∷ js) = (j.day ≤ d) × Until d js

visits_until : (d : ℕ) (c : Course) → latest_day_in c ≤ d → Until d (visits_in c)
visits_until d [] h = tt
visits_until d (judged_visit j ∷ c) h = (omega arith, visits_until d c (omega arith))
visits_until d (therapy_on t ∷ c) h = visits_until d c (omega arith)
visits_until d (death_on t ∷ c) h = visits_until d c (omega arith)

pub counting_until : (d : ℕ) (c : Course) → latest_day_in c ≤ d → Until d (counting_visits c)
counting_until d [] h = tt
counting_until d (judged_visit j ∷ c) h = go (counting_closed c) (counting_until d c (omega arith))
  where
    go : (x : Bool) → Until d (counting_visits c) → Until d (pick x (counting_visits c) (j ∷ counting_visits c))
    go true u = u
    go false u = (omega arith, u)
counting_until d (therapy_on t ∷ c) h = counting_until d c (omega arith)
counting_until d (death_on t ∷ c) h = counting_until d c (omega arith)

evaluable_until : (d : ℕ) (js : List Judged) → 1 ≤ d → Until d js → or_day1 (last_evaluable (before_event js)) ≤ d
evaluable_until d [] one u = one
evaluable_until d (j ∷ js) one u = before (is_recorded (first_pd (j ∷ js))) (evaluable_until d js one u.1)
  where
    at : (x : Bool) → or_day1 (last_evaluable (before_event js)) ≤ d → or_day1 (pick x (on j.day) (last_evaluable (before_event js))) ≤ d
    at true h = u.0
    at false h = h

    before : (x : Bool) → or_day1 (last_evaluable (before_event js)) ≤ d → or_day1 (last_evaluable (pick x (before_event js) (j ∷ before_event js))) ≤ d
    before true h = h
    before false h = at (evaluable j.answer) h

-- the day at which a course without progression and death is censored
unfoldable pub censored_on : Course → ℕ
censored_on c = or_day1 (last_evaluable (before_event (visits_in c)))

module _ (c : Course) where
  pub censored_until : censored_on c ≤ latest_day_in c
  unfolding censored_on
  censored_until = evaluable_until (latest_day_in c) (visits_in c) (from_day_1_in c) (visits_until (latest_day_in c) c (omega arith))

  module _ (alive : death_day_in c ≡ none) where
    pub open_pfs : progression c ≡ none → pfs c ≡ censored (censored_on c)
    unfolding pfs censored_on
    open_pfs e = rw (e, alive)

    pub one_more_pfs : progression c ≡ none → pfs (one_more c) ≡ censored (suc (latest_day_in c))
    unfolding pfs
    one_more_pfs e = rw (e, alive)

    pub pfs_changes : progression c ≡ none → pfs (one_more c) ≡ pfs c → ⊥
    pfs_changes e same =
        let days = ap (λ (x : Pfs). x.day) (sym (one_more_pfs e) ∙ same ∙ open_pfs e) in
        let last = censored_until in
        omega arith

    -- baseline missing: a death on the latest day, where it is an early one
    early_death_pfs : AllNE (visits_in c) → latest_day_in c - 1 ≤ early_death_limit → pfs (death_now c) ≡ event (latest_day_in c)
    unfolding pfs
    early_death_pfs u h = rw (no_progression (visits_in c) u, no_evaluable (visits_in c) u, alive, le-leb (latest_day_in c - 1) early_death_limit h)

    pub pfs_changes_missing : AllNE (visits_in c) → latest_day_in c - 1 ≤ early_death_limit → pfs (death_now c) ≡ pfs c → ⊥
    pfs_changes_missing u h same =
        let statuses : EVENT ≡ CENSORED = ap (λ (x : Pfs). x.status) (sym (early_death_pfs u h) ∙ same ∙ open_pfs (no_progression (visits_in c) u)) in
        let z : ◌≡◌ {A = ℕ} 0 1 = cc in
        omega arith
