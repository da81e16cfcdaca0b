-- Lists of records with each size times ten: every visit is judged as before, and days, deaths and the fit of visits have no sizes.
-- Assumes nothing.
use mathlib.Core.Path.{◌≡◌, refl, sym, ap, ◌∙◌}
use mathlib.Core.Bool.{Bool, true, false}
use mathlib.Core.List.{List, [], ◌∷◌, ◌++◌, map, map-append, reverse, reverse-append}
use Prim.Native.Nat.{ℕ, ◌*◌, max}
use lib.Dec.{ltb}
use Rattle.laws.specs.Refusals.{Refusal, ◌when◌}
use Rattle.dates.specs.declared.Date.{Date}
use Rattle.records.specs.Forms.{old_unit, new_unit}
use Rattle.records.specs.Tenfold.{times_ten, tenfold}
use Rattle.records.specs.Entries.{date_of}
use Rattle.records.specs.Refusals.{most_targets}
use Rattle.records.specs.declared.Entry.{Entry}
use Rattle.records.specs.declared.Entry.TheVariants as E
use Rattle.records.specs.declared.Record.{Record}
use Rattle.records.proofs.Tenfold.{same_refusals}
use Rattle.response_rules.specs.Words.{status_word}
use Rattle.response_rules.specs.SumOfDiameters.{baseline_sum}
use Rattle.response_rules.specs.Inputs.{Visit}
use Rattle.response_rules.specs.Change.{change_of}
use Rattle.response_rules.specs.VisitAnswers.{target_answer_after, overall_answer_after}
use Rattle.response_rules.specs.Tenfold.{tenfold_disease, tenfold_visit}
use Rattle.response_rules.specs.declared.BaselineDisease.{BaselineDisease}
use Rattle.response_rules.proofs.Tenfold.{sum_tenfold, tenfold_answers}
use Rattle.outcome_rules.specs.Values.{Day, on, is_recorded, ◌or_else◌}
use Rattle.outcome_rules.specs.StudyRecords.{Baseline, StudyRecord, baseline, visit, therapy, death, disease, entry_on_study_day, on_study_day, on_study_days}
use Rattle.outcome_rules.specs.LawfulLists.{Past, latest_day, death_day, died, fits}
use Rattle.outcome_rules.specs.Course.{visits_of, judged_visit, therapy_on, death_on, Course, overall_at, course}
use Rattle.outcome_rules.specs.VisitLines.{VisitLine, line_of_visit, lines_of_record, visit_lines, lines_in_order}
use Rattle.outcome_rules.specs.Adding.{is_baseline, too_early, misfits, refusals_of_study_record, refusals_of_study_record_in_order, not_baseline, refusals_of_opening, refusals_of_adding}
use Rattle.outcome_rules.specs.Tenfold.{tenfold_baseline, tenfold_record, TenfoldLists}

-- the newest of a list first, as before
pub turned : (rs : List StudyRecord) → reverse (map tenfold_record rs) ≡ map tenfold_record (reverse rs)
turned [] = refl
turned (r ∷ rs) =
    reverse-append (tenfold_record r ∷ []) (map tenfold_record rs) ∙ ap (λ (l : Past). l ++ (tenfold_record r ∷ [])) (turned rs)
    ∙ sym (map-append tenfold_record (reverse rs) (r ∷ [])) ∙ ap (map tenfold_record) (sym (reverse-append (r ∷ []) rs))

visits_tenfold : (p : Past) → visits_of (map tenfold_record p) ≡ map tenfold_visit (visits_of p)
visits_tenfold [] = refl
visits_tenfold (baseline b ∷ p) = visits_tenfold p
visits_tenfold (visit d v ∷ p) = ap (λ (vs : List Visit). tenfold_visit v ∷ vs) (visits_tenfold p)
visits_tenfold (therapy d ∷ p) = visits_tenfold p
visits_tenfold (death d ∷ p) = visits_tenfold p

module _ (b : Baseline) where
  disease_tenfold : disease (tenfold_baseline b) ≡ tenfold_disease (disease b)
  unfolding baseline_sum
  disease_tenfold =
      ap (λ (sum : ℕ). record { assessed = b.assessed; count = b.count; nodes = b.nodes; baselinesum = sum })
      (sum_tenfold (λ (i : ℕ). ltb i b.count) b.sizes most_targets)

  overall_tenfold : (p : Past) (v : Visit) → overall_at (tenfold_baseline b) (map tenfold_record p) (tenfold_visit v) ≡ overall_at b p v
  unfolding overall_at
  overall_tenfold p v =
      (λ i. overall_answer_after (10 * b.unit) (disease_tenfold i) (visits_tenfold p i) (tenfold_visit v))
      ∙ tenfold_answers.overall b.unit (disease b) (visits_of p) v

  pub same_course : (p : Past) → course (tenfold_baseline b) (map tenfold_record p) ≡ course b p
  same_course [] = refl
  same_course (baseline x ∷ p) = same_course p
  same_course (visit d v ∷ p) = λ i. judged_visit (record { day = d; answer = overall_tenfold p v i }) ∷ same_course p i
  same_course (therapy d ∷ p) = ap (λ (c : Course). therapy_on d ∷ c) (same_course p)
  same_course (death d ∷ p) = ap (λ (c : Course). death_on d ∷ c) (same_course p)

  same_line : (p : Past) (d : ℕ) (v : Visit) → line_of_visit (tenfold_baseline b) (map tenfold_record p) d (tenfold_visit v) ≡ line_of_visit b p d v
  unfolding line_of_visit
  same_line p d v =
      let target =
      (λ i. target_answer_after (10 * b.unit) (disease_tenfold i) (visits_tenfold p i) (tenfold_visit v))
      ∙ tenfold_answers.target b.unit (disease b) (visits_of p) v in
      let change = ap (λ (x : BaselineDisease). change_of x (tenfold_visit v)) disease_tenfold ∙ tenfold_answers.change (disease b) v in
      λ i. record { day = d; target = target i; nontarget = status_word v.status; overall = overall_tenfold p v i; change = change i }

  lines_of_record_lem : (p : Past) (r : StudyRecord) → lines_of_record (tenfold_baseline b) (map tenfold_record p) (tenfold_record r) ≡ lines_of_record b p r
  lines_of_record_lem p (baseline x) = refl
  lines_of_record_lem p (visit d v) = ap (λ (l : VisitLine). l ∷ []) (same_line p d v)
  lines_of_record_lem p (therapy d) = refl
  lines_of_record_lem p (death d) = refl

  same_visit_lines : (p : Past) → visit_lines (tenfold_baseline b) (map tenfold_record p) ≡ visit_lines b p
  same_visit_lines [] = refl
  same_visit_lines (r ∷ p) = λ i. same_visit_lines p i ++ lines_of_record_lem p r i

same_lines : (rs : List StudyRecord) → lines_in_order (map tenfold_record rs) ≡ lines_in_order rs
same_lines [] = refl
same_lines (baseline b ∷ rs) = ap (visit_lines (tenfold_baseline b)) (turned rs) ∙ same_visit_lines b (reverse rs)
same_lines (visit d v ∷ rs) = refl
same_lines (therapy d ∷ rs) = refl
same_lines (death d ∷ rs) = refl

-- ---- refusals

latest_tenfold : (p : Past) → latest_day (map tenfold_record p) ≡ latest_day p
latest_tenfold [] = refl
latest_tenfold (baseline b ∷ p) = ap (max 1) (latest_tenfold p)
latest_tenfold (visit d v ∷ p) = ap (max d) (latest_tenfold p)
latest_tenfold (therapy d ∷ p) = ap (max d) (latest_tenfold p)
latest_tenfold (death d ∷ p) = ap (max d) (latest_tenfold p)

death_tenfold : (p : Past) → death_day (map tenfold_record p) ≡ death_day p
death_tenfold [] = refl
death_tenfold (baseline b ∷ p) = death_tenfold p
death_tenfold (visit d v ∷ p) = death_tenfold p
death_tenfold (therapy d ∷ p) = death_tenfold p
death_tenfold (death d ∷ p) = ap (λ (x : Day). x or_else on d) (death_tenfold p)

behind_tenfold : (b : Baseline) (p : Past) (r : StudyRecord) → refusals_of_study_record (tenfold_baseline b) (map tenfold_record p) (tenfold_record r) ≡ refusals_of_study_record b p r
unfolding refusals_of_study_record fits
behind_tenfold b p r = go r (latest_tenfold p) (ap is_recorded (death_tenfold p))
  where
    go : (r : StudyRecord) → latest_day (map tenfold_record p) ≡ latest_day p → died (map tenfold_record p) ≡ died p →
        ◌≡◌ {A = List Refusal}
        (8 when is_baseline (tenfold_record r) ∷ 9 when died (map tenfold_record p) ∷ 10 when too_early (latest_day (map tenfold_record p)) (tenfold_record r) ∷ 11 when misfits (tenfold_baseline b) (tenfold_record r) ∷ [])
        (8 when is_baseline r ∷ 9 when died p ∷ 10 when too_early (latest_day p) r ∷ 11 when misfits b r ∷ [])
    go (baseline x) latest dead = λ i. 8 when is_baseline (baseline x) ∷ 9 when dead i ∷ 10 when too_early (latest i) (baseline x) ∷ 11 when misfits b (baseline x) ∷ []
    go (visit d v) latest dead = λ i. 8 when is_baseline (visit d v) ∷ 9 when dead i ∷ 10 when too_early (latest i) (visit d v) ∷ 11 when misfits b (visit d v) ∷ []
    go (therapy d) latest dead = λ i. 8 when is_baseline (therapy d) ∷ 9 when dead i ∷ 10 when too_early (latest i) (therapy d) ∷ 11 when misfits b (therapy d) ∷ []
    go (death d) latest dead = λ i. 8 when is_baseline (death d) ∷ 9 when dead i ∷ 10 when too_early (latest i) (death d) ∷ 11 when misfits b (death d) ∷ []

in_order_tenfold : (rs : List StudyRecord) (r : StudyRecord) → refusals_of_study_record_in_order (map tenfold_record rs) (tenfold_record r) ≡ refusals_of_study_record_in_order rs r
in_order_tenfold [] r = refl
in_order_tenfold (baseline b ∷ rs) r =
    ap (λ (p : Past). refusals_of_study_record (tenfold_baseline b) p (tenfold_record r)) (turned rs) ∙ behind_tenfold b (reverse rs) r
in_order_tenfold (visit d v ∷ rs) r = refl
in_order_tenfold (therapy d ∷ rs) r = refl
in_order_tenfold (death d ∷ rs) r = refl

-- ---- records of the old form

entry_on_day : (d : Date) (e : Entry) (marks : List Bool) (sizes : List ℕ) →
    entry_on_study_day new_unit d e marks (times_ten sizes) ≡ tenfold_record (entry_on_study_day old_unit d e marks sizes)
entry_on_day d (E.Baseline b) marks sizes = refl
entry_on_day d (E.Visit v) marks sizes = refl
entry_on_day d (E.Therapy t) marks sizes = refl
entry_on_day d (E.Death t) marks sizes = refl

on_day_lem : (d : Date) (r : Record) → on_study_day new_unit d (tenfold r) ≡ tenfold_record (on_study_day old_unit d r)
on_day_lem d r = entry_on_day d r.entry r.marks r.sizes

all_on_days : (d : Date) (rs : List Record) → map (on_study_day new_unit d) (map tenfold rs) ≡ map tenfold_record (map (on_study_day old_unit d) rs)
all_on_days d [] = refl
all_on_days d (r ∷ rs) = λ i. on_day_lem d r i ∷ all_on_days d rs i

on_days : (rs : List Record) → on_study_days new_unit (map tenfold rs) ≡ map tenfold_record (on_study_days old_unit rs)
on_days [] = refl
on_days (b ∷ rs) = all_on_days (date_of b.entry) (b ∷ rs)

opening : (r : Record) → refusals_of_opening new_unit (tenfold r) ≡ refusals_of_opening old_unit r
unfolding refusals_of_opening
opening r = ap (λ (rs : List Refusal). rs ++ 7 when not_baseline r.entry ∷ []) (same_refusals r false false)

adding : (rs : List Record) (r : Record) → refusals_of_adding new_unit (map tenfold rs) (tenfold r) ≡ refusals_of_adding old_unit rs r
unfolding refusals_of_adding
adding [] r = ap (λ (rs : List Refusal). rs ++ 7 when true ∷ []) (same_refusals r false false)
adding (b ∷ rs) r =
    let d = date_of b.entry in
    let behind = (λ i. refusals_of_study_record_in_order (on_days (b ∷ rs) i) (on_day_lem d r i)) ∙ in_order_tenfold (on_study_days old_unit (b ∷ rs)) (on_study_day old_unit d r) in
    λ i. same_refusals r false false i ++ behind i

pub tenfold_lists : TenfoldLists
tenfold_lists = record { same_course = same_course; same_lines = same_lines; on_days = on_days; opening = opening; adding = adding }
