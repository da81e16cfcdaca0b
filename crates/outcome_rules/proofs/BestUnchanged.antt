-- Reasons for which best response and duration stay unchanged: each further occurrence of a lawful list keeps them, and a reason for it. The marks are not named
-- here.
-- Assumes nothing.
use mathlib.Core.Path.{◌≡◌, refl, sym, ap, ◌∙◌}
use mathlib.Core.Bool.{Bool, true, false}
use mathlib.Core.List.{List, [], ◌∷◌}
use Rattle.laws.specs.Choice.{both, either, pick}
use Rattle.laws.proofs.Tests.{never, either_with_true}
use Rattle.response_rules.specs.Words.{Word, CR, NE}
use Rattle.outcome_rules.specs.Values.{Day, none, on, is_recorded, ◌or_else◌}
use Rattle.outcome_rules.specs.StudyRecords.{Baseline}
use Rattle.outcome_rules.specs.LawfulLists.{Past}
use Rattle.outcome_rules.specs.Course.{Judged, Occurrence, judged_visit, therapy_on, death_on, Course, course, death_day_in, therapy_recorded, visits_in, first_pd, progression, counting_closed, counting_visits}
use Rattle.outcome_rules.specs.Pfs.{pfs}
use Rattle.outcome_rules.specs.BestResponse.{is_cr, is_response, confirms_earlier_cr, confirmed_cr, confirmed_response, stable_disease, best_of, best}
use Rattle.outcome_rules.specs.Duration.{first_response, duration_of, duration}
use Rattle.outcome_rules.proofs.OneRecordMore.{recorded_keeps, Follows, unchanged_by, Unchanged}
use Rattle.outcome_rules.proofs.BaselineMissing.{AllNE}
use Rattle.outcome_rules.proofs.PfsUnchanged.{PfsOver, progressed, dead, late, pfs_keeps}

-- when best response is CR, and when it is CR or PR
pub words_of_best : (c : Course) →
    (is_cr (best c) ≡ confirmed_cr (counting_visits c)) × (is_response (best c) ≡ either (confirmed_cr (counting_visits c)) (confirmed_response (counting_visits c)))
unfolding best
words_of_best c = go (confirmed_cr (counting_visits c)) (confirmed_response (counting_visits c)) (stable_disease (counting_visits c)) (is_recorded (first_pd (counting_visits c)))
  where
    go : (cr pr sd pd : Bool) → (is_cr (best_of cr pr sd pd) ≡ cr) × (is_response (best_of cr pr sd pd) ≡ either cr pr)
    go true pr sd pd = (refl, refl)
    go false true sd pd = (refl, refl)
    go false false true pd = (refl, refl)
    go false false false true = (refl, refl)
    go false false false false = (refl, refl)

-- counting visits: none is to come, or none that is to come is evaluable
pub data CountingOver (assessed : Bool) (c : Course) : Type 0 where
  closed : counting_closed c ≡ true → CountingOver assessed c
  after_death : is_recorded (death_day_in c) ≡ true → CountingOver assessed c
  missing : assessed ≡ false → CountingOver assessed c

or_else_none : (x : Day) → (x or_else none) ≡ x
or_else_none none = refl
or_else_none (on d) = refl

one_more_ne : (t : Bool) (j : Judged) → j.answer ≡ NE → (js : List Judged) →
    (confirmed_cr (pick t js (j ∷ js)) ≡ confirmed_cr js)
    × (confirmed_response (pick t js (j ∷ js)) ≡ confirmed_response js)
    × (stable_disease (pick t js (j ∷ js)) ≡ stable_disease js)
    × (first_pd (pick t js (j ∷ js)) ≡ first_pd js)
    × (first_response (pick t js (j ∷ js)) ≡ first_response js)
one_more_ne true j e js = (refl, refl, refl, refl, refl)
one_more_ne false j e js = (rw e, rw e, rw e, rw (e, or_else_none (first_pd js)), rw (e, or_else_none (first_response js)))

module _ (c : Course) where
  counting_closed_lem : (e : Occurrence) → counting_closed c ≡ true → counting_closed (e ∷ c) ≡ true
  counting_closed_lem (judged_visit j) q = go (therapy_recorded c) (progression c) _ q
    where
      go : (t : Bool) (x y : Day) → either t (is_recorded x) ≡ true → either t (is_recorded (x or_else y)) ≡ true
      go true x y q = refl
      go false x y q = recorded_keeps x y q
  counting_closed_lem (therapy_on d) q = refl
  counting_closed_lem (death_on d) q = q

  module _ {assessed : Bool} where
    -- best response and the first response are those of the counting visits
    counting_same : (e : Occurrence) → Follows assessed c e → CountingOver assessed c →
        (best (e ∷ c) ≡ best c) × (first_response (counting_visits (e ∷ c)) ≡ first_response (counting_visits c))
    unfolding best
    counting_same (judged_visit j) f (closed q) = (rw q, rw q)
    counting_same (judged_visit j) f (after_death q) = absurd (never (sym q ∙ ap is_recorded f.alive))
    counting_same (judged_visit j) f (missing m) =
        let s = one_more_ne (counting_closed c) j (f.unassessed m).0 (counting_visits c) in
        (rw (s.0, s.1, s.2, s.3), s.4)
    counting_same (therapy_on d) f q = (refl, refl)
    counting_same (death_on d) f q = (refl, refl)

    counting_keeps : (e : Occurrence) → Follows assessed c e → CountingOver assessed c → CountingOver assessed (e ∷ c)
    counting_keeps e f (closed q) = closed (counting_closed_lem e q)
    counting_keeps e f (after_death q) = absurd (never (sym q ∙ ap is_recorded f.alive))
    counting_keeps e f (missing m) = missing m

-- with baseline missing no counting visit is a response
none_confirmed : (c : Course) → AllNE (visits_in c) → (confirmed_cr (counting_visits c) ≡ false) × (confirmed_response (counting_visits c) ≡ false)
none_confirmed [] u = (refl, refl)
none_confirmed (judged_visit j ∷ c) u =
    let s = one_more_ne (counting_closed c) j u.0 (counting_visits c) in
    let before = none_confirmed c u.1 in
    (s.0 ∙ before.0, s.1 ∙ before.1)
none_confirmed (therapy_on d ∷ c) u = none_confirmed c u
none_confirmed (death_on d ∷ c) u = none_confirmed c u

pub no_response : (c : Course) → AllNE (visits_in c) → is_response (best c) ≡ false
no_response c u = let n = none_confirmed c u in (words_of_best c).1 ∙ rw (n.0, n.1)

-- best response: that, or it is CR
pub data BestOver (assessed : Bool) (c : Course) : Type 0 where
  counted : CountingOver assessed c → BestOver assessed c
  complete : confirmed_cr (counting_visits c) ≡ true → BestOver assessed c

either_right : (x y : Bool) → y ≡ true → either x y ≡ true
either_right x y e = rw e (either_with_true x)

module _ (c : Course) where
  confirmed_keeps : (e : Occurrence) → confirmed_cr (counting_visits c) ≡ true → confirmed_cr (counting_visits (e ∷ c)) ≡ true
  confirmed_keeps (judged_visit j) q = go (counting_closed c)
    where
      go : (t : Bool) → confirmed_cr (pick t (counting_visits c) (j ∷ counting_visits c)) ≡ true
      go true = q
      go false = either_right (both (is_cr j.answer) (confirms_earlier_cr j.day (counting_visits c))) (confirmed_cr (counting_visits c)) q
  confirmed_keeps (therapy_on d) q = q
  confirmed_keeps (death_on d) q = q

  pub confirmed_best : confirmed_cr (counting_visits c) ≡ true → best c ≡ CR
  unfolding best
  confirmed_best q = rw q

best_keeps : {assessed : Bool} (c : Course) (e : Occurrence) → Follows assessed c e → BestOver assessed c → BestOver assessed (e ∷ c) × (best (e ∷ c) ≡ best c)
best_keeps c e f (counted q) = (counted (counting_keeps c e f q), (counting_same c e f q).0)
best_keeps c e f (complete q) =
    let k = confirmed_keeps c e q in
    (complete k, confirmed_best (e ∷ c) k ∙ sym (confirmed_best c q))

pub best_unchanged : (b : Baseline) (p : Past) → BestOver b.assessed (course b p) → Unchanged best b p
best_unchanged b p why = unchanged_by best (BestOver b.assessed) b best_keeps p why

-- duration: PFS stays unchanged, or there is none and no counting visit can make one
pub data DurationOver (assessed : Bool) (c : Course) : Type 0 where
  ended : PfsOver assessed c → DurationOver assessed c
  without : is_response (best c) ≡ false → CountingOver assessed c → DurationOver assessed c

module _ {assessed : Bool} (c : Course) where
  -- where PFS stays unchanged no evaluable visit is to be counted
  pfs_counting : PfsOver assessed c → CountingOver assessed c
  pfs_counting (progressed q) = closed (either_right (therapy_recorded c) (is_recorded (progression c)) q)
  pfs_counting (dead q) = after_death q
  pfs_counting (late m h) = missing m

  duration_keeps : (e : Occurrence) → Follows assessed c e → DurationOver assessed c → DurationOver assessed (e ∷ c) × (duration (e ∷ c) ≡ duration c)
  unfolding duration
  duration_keeps e f (ended q) =
      let k = pfs_keeps c e f q in
      let s = counting_same c e f (pfs_counting q) in
      (ended k.0, rw (s.0, s.1, k.1))
  duration_keeps e f (without n q) =
      let s = counting_same c e f q in
      (without (ap is_response s.0 ∙ n) (counting_keeps c e f q), rw (s.0, s.1) (none_both (best c) (first_response (counting_visits c)) n))
    where
      none_both : (a : Word) (x : Day) → is_response a ≡ false → duration_of a x (pfs (e ∷ c)) ≡ duration_of a x (pfs c)
      none_both a none n = refl
      none_both a (on d) n = rw n

pub duration_unchanged : (b : Baseline) (p : Past) → DurationOver b.assessed (course b p) → Unchanged duration b p
duration_unchanged b p why = unchanged_by duration (DurationOver b.assessed) b duration_keeps p why
