-- Each mark is true exactly when no run changes its part. The marks are opened here alone.
-- Assumes nothing.
use mathlib.Core.Path.{◌≡◌, refl, sym, ap, ◌∙◌}
use mathlib.Core.Bool.{Bool, true, false}
use mathlib.Core.Logic.{◌↔◌}
use Prim.Native.Nat.{◌-◌, ◌≤◌}
use native.Mathlib.Omega.{arith}
use lib.Dec.{leb}
use borrow.Author.Tests.{leb-true, leb-false}
use Rattle.laws.proofs.Tests.{never, either_with_true}
use Rattle.outcome_rules.specs.Values.{none, is_recorded, exists}
use Rattle.outcome_rules.specs.StudyRecords.{Baseline, baseline_passes}
use Rattle.outcome_rules.specs.LawfulLists.{Past, lawful_behind}
use Rattle.outcome_rules.specs.Course.{Course, course, latest_day_in, death_day_in, therapy_recorded, progression}
use Rattle.outcome_rules.specs.Pfs.{early_death_limit, pfs}
use Rattle.outcome_rules.specs.BestResponse.{is_cr, is_response, best}
use Rattle.outcome_rules.specs.Duration.{duration}
use Rattle.outcome_rules.specs.Settled.{settled_from, pfs_settled_by, best_settled_by, duration_settled_by, pfs_settled, best_settled, duration_settled}
use Rattle.outcome_rules.specs.MarksExact.{EveryMarkExact}
use Rattle.outcome_rules.proofs.OneRecordMore.{absent, Unchanged}
use Rattle.outcome_rules.proofs.BaselineMissing.{missing_visits}
use Rattle.outcome_rules.proofs.PfsUnchanged.{PfsOver, progressed, dead, late, pfs_unchanged}
use Rattle.outcome_rules.proofs.BestUnchanged.{closed, after_death, missing, BestOver, counted, complete, words_of_best, confirmed_best, best_unchanged, ended, without, duration_unchanged, no_response}
use Rattle.outcome_rules.proofs.RunsBuilt.{same_after_one, same_after_two, same_after_death}
use Rattle.outcome_rules.proofs.PfsChanged.{pfs_changes, pfs_changes_missing}
use Rattle.outcome_rules.proofs.BestChanged.{duration_exists, best_changes, duration_begins, duration_grows}

holds : {m : Bool} {A : Type 0} → m ≡ true → A → (m ≡ true) ↔ A
holds e a = (λ t. a, λ x. e)

fails : {m : Bool} {A : Type 0} → m ≡ false → (A → ⊥) → (m ≡ true) ↔ A
fails e n = (λ t. absurd (never (sym t ∙ e)), λ x. absurd (n x))

module _ (assessed : Bool) (c : Course) {A : Type 0} where
  -- PFS's mark is true exactly when A holds, where A follows from each reason for PFS to stay unchanged and is false without one
  pfs_mark : (PfsOver assessed c → A) →
      (death_day_in c ≡ none → assessed ≡ true → progression c ≡ none → A → ⊥) →
      (death_day_in c ≡ none → assessed ≡ false → latest_day_in c - 1 ≤ early_death_limit → A → ⊥) →
      (pfs_settled assessed c ≡ true) ↔ A
  unfolding pfs_settled pfs_settled_by settled_from
  pfs_mark over assessed-open missing-open =
      go assessed refl (is_recorded (progression c)) refl (is_recorded (death_day_in c)) refl (leb settled_from (latest_day_in c)) refl
    where
      is : (a g d : Bool) → assessed ≡ a → is_recorded (progression c) ≡ g → is_recorded (death_day_in c) ≡ d → pfs_settled assessed c ≡ pfs_settled_by a g d (latest_day_in c)
      is a g d ea eg ed = cc

      go : (a : Bool) → assessed ≡ a → (g : Bool) → is_recorded (progression c) ≡ g → (d : Bool) → is_recorded (death_day_in c) ≡ d →
          (t : Bool) → leb settled_from (latest_day_in c) ≡ t → (pfs_settled assessed c ≡ true) ↔ A
      go true ea true eg d ed t et = holds (is true true d ea eg ed) (over (progressed eg))
      go true ea false eg true ed t et = holds (is true false true ea eg ed) (over (dead ed))
      go true ea false eg false ed t et = fails (is true false false ea eg ed) (assessed-open (absent (death_day_in c) ed) ea (absent (progression c) eg))
      go false ea g eg true ed t et = holds (is false g true ea eg ed) (over (dead ed))
      go false ea g eg false ed true et =
          let h = leb-true settled_from (latest_day_in c) et in
          holds (is false g false ea eg ed ∙ et) (over (late ea (omega arith)))
      go false ea g eg false ed false et =
          let h = leb-false settled_from (latest_day_in c) et in
          fails (is false g false ea eg ed ∙ et) (missing-open (absent (death_day_in c) ed) ea (omega arith))

  -- best response's mark likewise
  best_mark : (BestOver assessed c → A) →
      (death_day_in c ≡ none → assessed ≡ true → therapy_recorded c ≡ false → progression c ≡ none → is_cr (best c) ≡ false → A → ⊥) →
      (best_settled assessed c ≡ true) ↔ A
  unfolding best_settled best_settled_by
  best_mark over open-still =
      go (is_recorded (progression c)) refl (therapy_recorded c) refl (is_recorded (death_day_in c)) refl assessed refl (is_cr (best c)) refl
    where
      is : (g t d a : Bool) → is_recorded (progression c) ≡ g → therapy_recorded c ≡ t → is_recorded (death_day_in c) ≡ d → assessed ≡ a →
          best_settled assessed c ≡ best_settled_by g t d a (best c)
      is g t d a eg et ed ea = cc

      go : (g : Bool) → is_recorded (progression c) ≡ g → (t : Bool) → therapy_recorded c ≡ t → (d : Bool) → is_recorded (death_day_in c) ≡ d →
          (a : Bool) → assessed ≡ a → (x : Bool) → is_cr (best c) ≡ x → (best_settled assessed c ≡ true) ↔ A
      go true eg t et d ed a ea x ex = holds (is true t d a eg et ed ea) (over (counted (closed (rw eg (either_with_true (therapy_recorded c))))))
      go false eg true et d ed a ea x ex = holds (is false true d a eg et ed ea) (over (counted (closed (rw et))))
      go false eg false et true ed a ea x ex = holds (is false false true a eg et ed ea) (over (counted (after_death ed)))
      go false eg false et false ed false ea x ex = holds (is false false false false eg et ed ea) (over (counted (missing ea)))
      go false eg false et false ed true ea true ex =
          holds (is false false false true eg et ed ea ∙ ex) (over (complete (sym (words_of_best c).0 ∙ ex)))
      go false eg false et false ed true ea false ex =
          fails (is false false false true eg et ed ea ∙ ex) (open-still (absent (death_day_in c) ed) ea et (absent (progression c) eg) ex)

module _ (b : Baseline) (p : Past) (passes : baseline_passes b ≡ true) (lawfully : lawful_behind b p ≡ true) where
  abbrev c : Course
  c = course b p

  pfs_exact : (pfs_settled b.assessed c ≡ true) ↔ Unchanged pfs b p
  pfs_exact =
      pfs_mark b.assessed c (pfs_unchanged b p)
      (λ alive assessed e lasts. pfs_changes c alive e (same_after_one pfs b p lawfully alive lasts passes assessed))
      (λ alive m early lasts. pfs_changes_missing c alive (missing_visits b p m) early (same_after_death pfs b p lawfully alive lasts))

  best_exact : (best_settled b.assessed c ≡ true) ↔ Unchanged best b p
  best_exact =
      best_mark b.assessed c (best_unchanged b p)
      (λ alive assessed untreated e short lasts. best_changes c e untreated short (same_after_two best b p lawfully alive lasts passes assessed))

  -- where a duration exists, and where not
  grows : exists (duration c) ≡ true → (pfs_settled b.assessed c ≡ true) ↔ Unchanged duration b p
  grows there =
      pfs_mark b.assessed c (λ over. duration_unchanged b p (ended over))
      (λ alive assessed e lasts. duration_grows c e alive there (same_after_one duration b p lawfully alive lasts passes assessed))
      (λ alive m early lasts. never (sym there ∙ duration_exists c ∙ no_response c (missing_visits b p m)))

  begins : exists (duration c) ≡ false → (best_settled b.assessed c ≡ true) ↔ Unchanged duration b p
  begins not_there =
      best_mark b.assessed c by
      (λ alive assessed untreated e short lasts.
      duration_begins c e untreated not_there (same_after_two duration b p lawfully alive lasts passes assessed))
    where
      by : BestOver b.assessed c → Unchanged duration b p
      by (counted q) = duration_unchanged b p (without (sym (duration_exists c) ∙ not_there) q)
      by (complete q) = absurd (never (sym (ap is_response (confirmed_best c q)) ∙ sym (duration_exists c) ∙ not_there))

  duration_exact : (duration_settled b.assessed c ≡ true) ↔ Unchanged duration b p
  unfolding duration_settled duration_settled_by
  duration_exact = go (exists (duration c)) refl
    where
      go : (x : Bool) → exists (duration c) ≡ x → (duration_settled b.assessed c ≡ true) ↔ Unchanged duration b p
      go true e = rw e (grows e)
      go false e = rw e (begins e)

pub every_mark_exact : EveryMarkExact
every_mark_exact =
    record {
      exact = λ b p passes lawfully.
          record {
            pfs = pfs_exact b p passes lawfully;
            best = best_exact b p passes lawfully;
            duration = duration_exact b p passes lawfully;
          };
    }
