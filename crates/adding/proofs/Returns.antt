-- What the code answers, from what it found: `search` finds the premises by itself.
-- Assumes nothing.
use mathlib.Core.Path.{◌≡◌, refl, ◌∙◌, ap}
use mathlib.Core.Bool.{Bool, true, false, not}
use mathlib.Core.List.{List, [], ◌∷◌}
use Prim.Native.Nat.{ℕ}
use lib.Dec.{leb, ltb, eqb}
use Rattle.std.specs.Prelude.{Result, Ok, Err, is_err, Some}
use Rattle.laws.specs.Choice.{pick}
use Rattle.laws.specs.Refusals.{first}
use Rattle.dates.specs.declared.Date.{Date}
use Rattle.dates.specs.declared.StudyDay.{StudyDay}
use Rattle.records.specs.declared.Entry.{Entry}
use Rattle.records.specs.declared.Entry.TheVariants as E
use Rattle.records.specs.declared.BaselineEntry.{BaselineEntry}
use Rattle.records.specs.declared.VisitEntry.{VisitEntry}
use Rattle.records.proofs.NoOwnRefusal.{own_not_0}
use Rattle.response_rules.specs.Words.{target_word, status_word, overall_word}
use Rattle.response_rules.specs.Inputs.{visit_of}
use Rattle.response_rules.specs.Change.{change_values}
use Rattle.response.specs.declared.VisitAnswer.{VisitAnswer}
use Rattle.response.specs.Judging.{JudgesVisit}
use Rattle.outcome_rules.specs.LawfulLists.{fits_by}
use Rattle.outcome_rules.specs.VisitLines.{VisitLine}
use Rattle.subject.specs.declared.Enrolment.{Enrolment}
use Rattle.subject.specs.declared.FollowUp.{FollowUp}
use Rattle.adding.specs.declared.AddRefusal.{AddRefusal}
use Rattle.adding.specs.declared.AddRefusal.TheVariants as A
use Rattle.adding.specs.declared.Dated.{Dated}
use Rattle.adding.specs.declared.Step.{Step}
use Rattle.adding.specs.declared.VisitResponse.{VisitResponse}
use Rattle.adding.specs.OneRecordMore.{overall_held, judged_as, judged_added, visit_added, therapy_added, death_added}
use Rattle.adding.specs.Responses.{response_values, add_responses}
use Rattle.adding.specs.Refusals.{refusal_number, add_number, refusals_of_later_held, refusals_of_entry_held}
use Rattle.adding.specs.Stepping.{StepsBy, refusal_of_step_held, Steps, StepsLater}

-- ---- the first refusal

refusal_not_0 : (refusal : AddRefusal) → eqb (refusal_number refusal) 0 ≡ false
refusal_not_0 A.WrongLength = refl
refusal_not_0 A.NoSuchKind = refl
refusal_not_0 A.SecondBaseline = refl
refusal_not_0 A.AfterDeath = refl
refusal_not_0 A.TooEarly = refl
refusal_not_0 A.Misfit = refl
refusal_not_0 A.OutOfRange = refl
refusal_not_0 (A.Own own) = own_not_0 own

-- 0 exactly where the record was added
pub number_by_err : {T : Type 0} (answer : Result T AddRefusal) → eqb (add_number answer) 0 ≡ not (is_err answer)
number_by_err (Ok x) = refl
number_by_err (Err refusal) = refusal_not_0 refusal

pub refusal_as_tested : (e : Enrolment) (f : FollowUp) (day : StudyDay) (v : VisitEntry) (marks : List Bool) (fit : Bool) (a : Result (Unit {0}) AddRefusal) →
    fit ≡ fits_by e.disease.count e.nontarget v.status marks →
    add_number a ≡ first (refusals_of_later_held f (leb day.0 f.latestday.0) (not fit)) →
    add_number a ≡ first (refusals_of_entry_held e f day (E.Visit v) marks)
unfolding refusals_of_entry_held
refusal_as_tested e f day v marks fit a fq aq = aq ∙ rw fq

-- ---- a step

pub visit_placed : (e : Enrolment) (f next : FollowUp) (day : StudyDay) (v : VisitEntry) (measured : List Bool) (sizes : List ℕ) (a : VisitAnswer) (r : VisitResponse) →
    JudgesVisit e.disease f.earlier (visit_of v measured sizes) a →
    next ≡ judged_added f a.after (judged_as day a) →
    response_values r
    ≡ record { day = day.0; target = target_word a.target; nontarget = status_word v.status; overall = overall_word a.overall; change = change_values a.change } →
    StepsBy e f day (E.Visit v) measured sizes 0 (record { followup = next; answer = Ok (Some r) })
unfolding visit_added overall_held
visit_placed e f next day v measured sizes a r w n l =
    record {
      answer = refl;
      responses = ap (λ x. x ∷ []) l ∙ (λ i. record { day = day.0; target = w.target i; nontarget = status_word v.status; overall = w.overall i; change = w.change i } ∷ []);
      left =
          n ∙ (λ i. judged_added f (w.after i) (record { day = day.0; answer = w.overall i }));
    }

-- a refusal carries no responses
refused_by : {e : Enrolment} {f : FollowUp} {day : StudyDay} {r : Entry} {marks : List Bool} {sizes : List ℕ} {x : Step} (refusal : AddRefusal) (m : ℕ) →
    refusal_number refusal ≡ m → (x.answer ≡ Err refusal) × (x.followup ≡ f) → StepsBy e f day r marks sizes m x
refused_by refusal m p q =
    let met : eqb m 0 ≡ false = rw (← p) (refusal_not_0 refusal) in
    record { answer = ap add_number q.0 ∙ p; responses = ap add_responses q.0 ∙ rw met; left = q.1 ∙ rw met }

-- by the record's kind
module _ (inside : Bool) (e : Enrolment) (f : FollowUp) (d : Dated) (r : Entry) (x : Step) where
  abbrev Stepped : Type 0
  Stepped = Steps inside e f d.day (add_number d.own) r d.found.marks d.found.sizes x

  pub second_baseline : (b : BaselineEntry) (refusal : AddRefusal) → r ≡ E.Baseline b → refusal_number refusal ≡ refusal_of_step_held inside (add_number d.own) 8 →
      (x.answer ≡ Err refusal) × (x.followup ≡ f) → Stepped
  unfolding refusals_of_entry_held
  second_baseline b refusal k rq q = rw k (refused_by refusal _ rq q)

  pub of_visit : (v : VisitEntry) → r ≡ E.Visit v → Steps inside e f d.day (add_number d.own) (E.Visit v) d.found.marks d.found.sizes x → Stepped
  of_visit v k w = rw k w

  module _ (date : Date) (next : FollowUp) (w : StepsLater inside f d next x) where
    abbrev refusal : ℕ
    refusal = refusal_of_step_held inside (add_number d.own) (first (refusals_of_later_held f (ltb d.day.0 f.latestday.0) false))

    later_lines : (z : Bool) → ◌≡◌ {A = List VisitLine} [] (pick z [] [])
    later_lines true = refl
    later_lines false = refl

    pub of_therapy : r ≡ E.Therapy date → next ≡ therapy_added f d.day → Stepped
    unfolding refusals_of_entry_held
    of_therapy k q = rw k (record { answer = w.answer; responses = w.responses ∙ later_lines (eqb refusal 0); left = w.left ∙ rw (q, w.answer) })

    pub of_death : r ≡ E.Death date → next ≡ death_added f d.day → Stepped
    unfolding refusals_of_entry_held
    of_death k q = rw k (record { answer = w.answer; responses = w.responses ∙ later_lines (eqb refusal 0); left = w.left ∙ rw (q, w.answer) })
