-- A visit at which all disease has disappeared: behind any list it may be recorded on a later day, and its overall answer is CR.
-- Assumes nothing.
use mathlib.Core.Path.{◌≡◌, refl}
use mathlib.Core.Bool.{Bool, true, false, not}
use mathlib.Core.List.{List, [], ◌∷◌}
use Prim.Native.Nat.{ℕ, ◌*◌, ◌<◌}
use native.Mathlib.Omega.{arith}
use lib.Dec.{leb, ltb, eqb}
use lib.ListN.{length}
use borrow.Author.Tests.{le-leb, lt-leb, le-ltb, lt-ltb, ltb-true, ltb-false, not-true}
use Rattle.laws.specs.Choice.{both, either, pick}
use Rattle.laws.proofs.Tests.{never, both_true, either_false, either_with_true}
use Rattle.records.specs.declared.Status.TheVariants as S
use Rattle.records.specs.Entries.{status_number}
use Rattle.records.specs.declared.BaselineEntry.{BaselineEntry}
use Rattle.records.specs.declared.Entry.{Entry}
use Rattle.records.specs.declared.Entry.TheVariants as E
use Rattle.records.specs.Refusals.{most_targets, size_outside_limits, measured_outside_limits, not_zero_unmeasured, some_target, without_disease, outside_limits, not_zero}
use Rattle.response_rules.specs.Words.{CR, NA, status_word}
use Rattle.response_rules.specs.Inputs.{Visit}
use Rattle.response_rules.specs.SumOfDiameters.{all_measured}
use Rattle.response_rules.specs.TargetAnswer.{all_disappeared, target_answer}
use Rattle.response_rules.specs.OverallAnswer.{overall_by}
use Rattle.response_rules.specs.VisitAnswers.{overall_answer, target_answer_after, overall_answer_after}
use Rattle.outcome_rules.specs.StudyRecords.{Baseline, visit, disease, entry_passes, entry_of_baseline, baseline_passes, fields_pass}
use Rattle.outcome_rules.specs.LawfulLists.{Past, latest_day, died, measured_beyond, fits_by, fits, lawful_behind}
use Rattle.outcome_rules.specs.Course.{visits_of, overall_at}

-- every target measured with size 0, non-target disease CR where there was some
unfoldable pub complete_visit : Baseline → Visit
complete_visit b =
    record {
      status = pick b.nontarget S.CR S.NA;
      new_lesion = false;
      measured = ltb 0 b.count ∷ ltb 1 b.count ∷ ltb 2 b.count ∷ ltb 3 b.count ∷ ltb 4 b.count ∷ [];
      sizes = 0 ∷ 0 ∷ 0 ∷ 0 ∷ 0 ∷ [];
    }

-- at one place: within the count or beyond it
within_or_beyond : (count i : ℕ) → either (leb count i) (ltb i count) ≡ true
within_or_beyond count i = go (ltb i count) refl
  where
    go : (t : Bool) → ltb i count ≡ t → either (leb count i) t ≡ true
    go true e = either_with_true (leb count i)
    go false e = rw (le-leb count i (ltb-false i count e))

not_both : (count i : ℕ) → both (leb count i) (ltb i count) ≡ false
not_both count i = go (ltb i count) refl
  where
    go : (t : Bool) → ltb i count ≡ t → both (leb count i) t ≡ false
    go true e = rw (lt-leb count i (ltb-true i count e))
    go false e = rw (le-leb count i (ltb-false i count e))

not_large : (unit : ℕ) (m : Bool) → measured_outside_limits unit m 0 ≡ false
unfolding measured_outside_limits
not_large unit true = le-ltb (500 * unit) 0 (omega arith)
not_large unit false = refl

not_sized : (m : Bool) → not_zero_unmeasured m 0 ≡ false
unfolding not_zero_unmeasured
not_sized true = refl
not_sized false = refl

-- neither 4 nor 5 meets fields that pass
pub limits_and_zeros : (unit : ℕ) (e : Entry) (marks : List Bool) (sizes : List ℕ) → entry_passes unit e marks sizes ≡ true →
    (outside_limits unit e marks sizes ≡ false) × (not_zero e marks sizes ≡ false)
unfolding entry_passes
limits_and_zeros unit e marks sizes passes =
    let five = both (eqb (length marks) most_targets) (eqb (length sizes) most_targets) in
    let met = either (outside_limits unit e marks sizes) (not_zero e marks sizes) in
    either_false (outside_limits unit e marks sizes) (not_zero e marks sizes) (not-true met (both_true five (not met) passes).1)

-- so an assessed baseline has disease
with_disease : (unit : ℕ) (b : BaselineEntry) (marks : List Bool) (sizes : List ℕ) → outside_limits unit (E.Baseline b) marks sizes ≡ false → b.assessed ≡ true →
    without_disease b ≡ false
unfolding outside_limits without_disease
with_disease unit b marks sizes e assessed =
    let wrong = some_target (size_outside_limits unit b.count) marks sizes in
    let limits : either (ltb most_targets b.count) (either (without_disease b) wrong) ≡ false = rw assessed at e in
    (either_false (without_disease b) wrong (either_false (ltb most_targets b.count) (either (without_disease b) wrong) limits).1).0

module _ (b : Baseline) where
  complete_measured : all_measured b.count (complete_visit b).measured ≡ true
  unfolding all_measured complete_visit
  complete_measured =
      rw (within_or_beyond b.count 0, within_or_beyond b.count 1, within_or_beyond b.count 2, within_or_beyond b.count 3, within_or_beyond b.count 4)

  complete_disappeared : all_disappeared b.unit b.count b.nodes (complete_visit b).sizes ≡ true
  unfolding all_disappeared complete_visit
  complete_disappeared = simp either_with_true

  complete_target : (vs : List Visit) → target_answer_after b.unit (disease b) vs (complete_visit b) ≡ pick (eqb b.count 0) NA CR
  unfolding target_answer
  complete_target vs = rw (complete_measured, complete_disappeared)

  -- a target or non-target disease
  has_disease : baseline_passes b ≡ true → b.assessed ≡ true → both (eqb b.count 0) (not b.nontarget) ≡ false
  unfolding without_disease
  has_disease passes assessed =
      with_disease b.unit (entry_of_baseline b) b.nodes b.sizes (limits_and_zeros b.unit (E.Baseline (entry_of_baseline b)) b.nodes b.sizes passes).0 assessed

  complete_overall : (vs : List Visit) → baseline_passes b ≡ true → b.assessed ≡ true →
      overall_answer_after b.unit (disease b) vs (complete_visit b) ≡ CR
  unfolding overall_by overall_answer complete_visit
  complete_overall vs passes assessed = rw (complete_target vs, assessed) (go (eqb b.count 0) b.nontarget (has_disease passes assessed))
    where
      go : (z n : Bool) → both z (not n) ≡ false → overall_by true false (pick z NA CR) (status_word (pick n S.CR S.NA)) ≡ CR
      go true true e = refl
      go true false e = absurd (never e)
      go false true e = refl
      go false false e = refl

  pub complete_answer : (p : Past) → baseline_passes b ≡ true → b.assessed ≡ true → overall_at b p (complete_visit b) ≡ CR
  unfolding overall_at complete_visit
  complete_answer p passes assessed = complete_overall (visits_of p) passes assessed

  complete_fits : fits b (complete_visit b) ≡ true
  unfolding measured_beyond fits_by fits complete_visit
  complete_fits =
      rw (not_both b.count 0, not_both b.count 1, not_both b.count 2, not_both b.count 3, not_both b.count 4) (go b.nontarget)
    where
      go : (n : Bool) → pick n (not (eqb (status_number (pick n S.CR S.NA)) 0)) (eqb (status_number (pick n S.CR S.NA)) 0) ≡ true
      go true = refl
      go false = refl

  pub complete_passes : (d : ℕ) → fields_pass b.unit (visit d (complete_visit b)) ≡ true
  unfolding entry_passes outside_limits not_zero complete_visit
  complete_passes d = simp (not_large b.unit, not_sized)

  pub complete_lawful : (p : Past) (d : ℕ) → lawful_behind b p ≡ true → died p ≡ false → latest_day p < d →
      lawful_behind b (visit d (complete_visit b) ∷ p) ≡ true
  complete_lawful p d l alive h = rw (l, alive, lt-ltb (latest_day p) d h, complete_fits)
