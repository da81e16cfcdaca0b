-- The days of a lawful list's counting visits fall to the past.
-- Assumes nothing.
use mathlib.Core.Path.{◌≡◌, sym}
use mathlib.Core.Bool.{Bool, true, false}
use mathlib.Core.List.{List, [], ◌∷◌}
use Prim.Native.Nat.{◌≤◌}
use native.Mathlib.Omega.{arith}
use Rattle.laws.specs.Choice.{pick}
use Rattle.laws.proofs.Tests.{never}
use Rattle.outcome_rules.specs.StudyRecords.{Baseline, StudyRecord, baseline, visit, therapy, death}
use Rattle.outcome_rules.specs.LawfulLists.{Past, latest_day, lawful_behind}
use Rattle.outcome_rules.specs.Course.{Judged, judge, course, latest_day_in, counting_closed, counting_visits}
use Rattle.outcome_rules.proofs.OneRecordMore.{Next, next, rising, latest_in}
use Rattle.outcome_rules.proofs.PfsChanged.{Until, counting_until}

abbrev pub Falling : List Judged → Type 0
Falling [] = Unit {0}
Falling (j ∷ js) = Until j.day js × Falling js

pub counting_falls : (b : Baseline) (p : Past) → lawful_behind b p ≡ true → Falling (counting_visits (course b p))
counting_falls b [] l = tt
counting_falls b (r ∷ p) l = go r (next b p r l) (counting_falls b p (next b p r l).before)
  where
    go : (r : StudyRecord) → Next b p r → Falling (counting_visits (course b p)) → Falling (counting_visits (course b (r ∷ p)))
    go (baseline x) n o = absurd (never (sym n.place))
    go (visit d v) n o = one_more (counting_closed (course b p))
      where
        one_more : (x : Bool) → Falling (pick x (counting_visits (course b p)) (judge b p d v ∷ counting_visits (course b p)))
        one_more true = o
        one_more false =
            let up = rising b (latest_day p) (visit d v) n.place in
            let until : latest_day_in (course b p) ≤ d = omega (arith, latest_in b p) in
            (counting_until d (course b p) until, o)
    go (therapy d) n o = o
    go (death d) n o = o
