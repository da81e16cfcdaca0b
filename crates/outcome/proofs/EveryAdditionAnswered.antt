-- Every addition has an answer: some responses have the values of a visit's line, and some case of the answer the number of a refusal.
-- Assumes nothing.
use mathlib.Core.Path.{◌≡◌, refl, sym, ◌∙◌, ap}
use mathlib.Core.Bool.{Bool, true, false, not}
use mathlib.Core.List.{List, [], ◌∷◌, ◌++◌}
use Prim.Native.Nat.{ℕ, zero, suc}
use lib.Dec.{ltb, eqb}
use lib.ListN.{get_or}
use borrow.Author.Tests.{eqb-true, eqb-false}
use Rattle.std.specs.Prelude.{Ok, Err, None, Some as Given}
use Rattle.std.specs.Prelude as P
use Rattle.laws.specs.Choice.{both, either}
use Rattle.laws.specs.Refusals.{◌when◌}
use Rattle.laws.proofs.SomeCase.{Some, pick_some}
use Rattle.laws.proofs.FirstRefusal.{among, each_append}
use Rattle.dates.specs.declared.StudyDay.{StudyDay}
use Rattle.records.specs.declared.Entry.{Entry}
use Rattle.records.specs.declared.Entry.TheVariants as E
use Rattle.records.specs.declared.VisitEntry.{VisitEntry}
use Rattle.records.specs.declared.Record.{Record}
use Rattle.records.specs.declared.OwnRefusal.TheVariants as N
use Rattle.records.specs.Refusals.{refusals_of_record}
use Rattle.records.proofs.NoOwnRefusal.{each_own}
use Rattle.records.specs.Forms.{new_unit}
use Rattle.response_rules.specs.declared.TargetAnswer.TheVariants as T
use Rattle.response_rules.specs.declared.OverallAnswer.TheVariants as O
use Rattle.response_rules.specs.declared.Change.TheVariants as C
use Rattle.response_rules.specs.Words.{Word, CR, PR, SD, NE, target_word, status_word, overall_word}
use Rattle.response_rules.specs.SumOfDiameters.{sum_of_diameters, all_measured}
use Rattle.response_rules.specs.TargetAnswer.{all_disappeared, progression_from_nadir, partial_response, target_answer}
use Rattle.response_rules.specs.Inputs.{Visit, visit_of}
use Rattle.response_rules.specs.OverallAnswer.{grid, row_of, column_of, is_pd, overall_by}
use Rattle.response_rules.specs.VisitAnswers.{overall_answer}
use Rattle.response_rules.specs.declared.BaselineDisease.{BaselineDisease}
use Rattle.response_rules.specs.declared.Earlier.{Earlier}
use Rattle.response_rules.specs.Change.{signed, rounded_change, change_values, change_between, change_of}
use Rattle.outcome_rules.specs.VisitLines.{VisitLine}
use Rattle.subject.specs.declared.Enrolment.{Enrolment}
use Rattle.subject.specs.declared.FollowUp.{FollowUp}
use Rattle.subject.specs.declared.Subject.{Subject}
use Rattle.subject.specs.Range.{in_range}
use Rattle.adding.specs.Refusals.{AddAnswer}
use Rattle.adding.specs.declared.AddRefusal.TheVariants as A
use Rattle.adding.specs.OneRecordMore.{overall_held}
use Rattle.adding.specs.Responses.{response_values, add_responses, line_held, lines_held}
use Rattle.adding.specs.Refusals.{add_number}
use Rattle.adding.proofs.SubjectKeptInRange.{each_on}
use Rattle.adding.specs.Promises.{study_day_held, refusals_of_record_held, responses_by, subject_by, refusal_of_adding_held, Adds}

-- ---- the responses at a visit

some_target_lem : (b : BaselineDisease) (earlier : Earlier) (v : Visit) → Some target_word (target_answer new_unit b earlier v)
unfolding target_answer
some_target_lem b earlier v =
    pick_some target_word (eqb b.count 0) _ _ (T.NA, refl)
    (pick_some target_word (both (all_measured b.count v.measured) (all_disappeared new_unit b.count b.nodes v.sizes)) _ _ (T.CR, refl)
    (pick_some target_word (progression_from_nadir new_unit earlier.nadir (sum_of_diameters v.measured v.sizes)) _ _ (T.PD, refl)
    (pick_some target_word (not (all_measured b.count v.measured)) _ _ (T.NE, refl)
    (pick_some target_word (partial_response b.baselinesum (sum_of_diameters v.measured v.sizes)) _ _ (T.PR, refl) (T.SD, refl)))))

-- the cells of the grid
abbrev AllSome : List Word → Type 0
AllSome [] = Unit {0}
AllSome (w ∷ ws) = Some overall_word w × AllSome ws

some_at : (ws : List Word) (i : ℕ) → AllSome ws → Some overall_word (get_or ws i NE)
some_at [] i a = (O.NE, refl)
some_at (w ∷ ws) zero a = a.0
some_at (w ∷ ws) (suc i) a = some_at ws i a.1

abbrev AllRows : List (List Word) → Type 0
AllRows [] = Unit {0}
AllRows (w ∷ ws) = AllSome w × AllRows ws

row_at : (ws : List (List Word)) (i : ℕ) → AllRows ws → AllSome (get_or ws i [])
row_at [] i a = tt
row_at (w ∷ ws) zero a = a.0
row_at (w ∷ ws) (suc i) a = row_at ws i a.1

cr : Some overall_word CR
cr = (O.CR, refl)

pr : Some overall_word PR
pr = (O.PR, refl)

sd : Some overall_word SD
sd = (O.SD, refl)

ne : Some overall_word NE
ne = (O.NE, refl)

four : {a b c d : Word} → Some overall_word a → Some overall_word b → Some overall_word c → Some overall_word d → AllSome (a ∷ b ∷ c ∷ d ∷ [])
four w x y z = (w, (x, (y, (z, tt))))

all_rows : AllRows grid
all_rows = (four cr pr pr cr, (four pr pr pr pr, (four sd sd sd sd, (four ne ne ne ne, (four cr sd ne ne, tt)))))

some_overall : (b : BaselineDisease) (earlier : Earlier) (v : Visit) → Some overall_word (overall_answer new_unit b earlier v)
unfolding overall_by overall_answer
some_overall b earlier v =
    let target = target_answer new_unit b earlier v in
    let nontarget = status_word v.status in
    pick_some overall_word (not b.assessed) _ _ (O.NE, refl)
    (pick_some overall_word (either v.new_lesion (either (is_pd target) (is_pd nontarget))) _ _ (O.PD, refl)
    (some_at (get_or grid (row_of target) []) (column_of nontarget) (row_at grid (row_of target) all_rows)))

some_change : (b : BaselineDisease) (v : Visit) → Some change_values (change_of b v)
unfolding change_of change_between
some_change b v =
    let sum = sum_of_diameters v.measured v.sizes in
    pick_some change_values (either (eqb b.count 0) (either (not (all_measured b.count v.measured)) (eqb b.baselinesum 0))) _ _ (P.None, refl)
    (go (rounded_change b.baselinesum sum) (both (ltb sum b.baselinesum) (ltb 0 (rounded_change b.baselinesum sum))))
  where
    go : (n : ℕ) (x : Bool) → Some change_values (signed x n)
    go n true = (P.Some (C.Decrease n), refl)
    go n false = (P.Some (C.Increase n), refl)

some_responses : (e : Enrolment) (f : FollowUp) (day : StudyDay) (v : VisitEntry) (measured : List Bool) (sizes : List ℕ) →
    Some response_values (line_held e f day v measured sizes)
unfolding overall_held
some_responses e f day v measured sizes =
    let target = some_target_lem e.disease f.earlier (visit_of v measured sizes) in
    let overall = some_overall e.disease f.earlier (visit_of v measured sizes) in
    let change = some_change e.disease (visit_of v measured sizes) in (
      record { day = day; target = target.0; nontarget = v.status; overall = overall.0; change = change.0 },
      λ i. record { day = day.0; target = target.1 i; nontarget = status_word v.status; overall = overall.1 i; change = change.1 i },
    )

-- ---- a refusal

abbrev number : AddAnswer → ℕ
number = add_number

some_refusal : (s : Subject) (r : Record) → Some number (refusal_of_adding_held s r)
unfolding refusal_of_adding_held
some_refusal s r =
    let own = each_own new_unit (Some number) (Err (A.Own N.NoSuchDate), refl) (Err (A.Own N.OutsideLimits), refl) (Err (A.Own N.NotZero), refl) r false false in
    let behind = each_on (Some number) (Err A.SecondBaseline, refl) (Err A.AfterDeath, refl) (Err A.TooEarly, refl) (Err A.Misfit, refl) s.enrolment s.followup (study_day_held s r)
    r.entry r.marks in
    among (Some number) (12 when not (in_range s) ∷ refusals_of_record new_unit r ++ refusals_of_record_held s r) (Ok None, refl)
    ((Err A.OutOfRange, refl), each_append (Some number) (refusals_of_record new_unit r) (refusals_of_record_held s r) own behind)

-- ---- an answer

-- the lines of a record, from an answer that says 'done'
some_done : (e : Enrolment) (f : FollowUp) (day : StudyDay) (r : Entry) (marks : List Bool) (sizes : List ℕ) →
    (a : AddAnswer) × (add_number a ≡ 0) × (add_responses a ≡ lines_held e f day r marks sizes)
some_done e f day (E.Baseline b) marks sizes = (Ok None, refl, refl)
some_done e f day (E.Visit v) marks sizes =
    let some = some_responses e f day v marks sizes in
    (Ok (Given some.0), refl, ap (λ (l : VisitLine). l ∷ []) some.1)
some_done e f day (E.Therapy d) marks sizes = (Ok None, refl, refl)
some_done e f day (E.Death d) marks sizes = (Ok None, refl, refl)

-- a refusal has no responses
none_beside : (a : AddAnswer) → eqb (add_number a) 0 ≡ false → add_responses a ≡ []
none_beside (Ok x) h = absurd (eqb-false 0 0 h refl)
none_beside (Err refusal) h = refl

pub some_answer : (s : Subject) (r : Record) (n : ℕ) → Some number n → (a : AddAnswer) × (add_number a ≡ n) × (add_responses a ≡ responses_by s r n)
some_answer s r n some = go (eqb n 0) refl
  where
    go : (x : Bool) → eqb n 0 ≡ x → (a : AddAnswer) × (add_number a ≡ n) × (add_responses a ≡ responses_by s r n)
    go true e =
        let done = some_done s.enrolment s.followup (study_day_held s r) r.entry r.marks r.sizes in
        (done.0, done.1 ∙ sym (eqb-true n 0 e), done.2 ∙ rw e)
    go false e = (some.0, some.1, none_beside some.0 (ap (λ (m : ℕ). eqb m 0) some.1 ∙ e) ∙ rw e)

pub some_addition : (s : Subject) (r : Record) → (a : AddAnswer) × Adds s r a (subject_by s r (refusal_of_adding_held s r))
some_addition s r =
    let some = some_answer s r (refusal_of_adding_held s r) (some_refusal s r) in
    (some.0, record { answer = some.1; responses = some.2; left = refl })
