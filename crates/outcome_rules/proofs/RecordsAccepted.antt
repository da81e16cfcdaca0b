-- The records that a list of calls accepts are a lawful list, and the marks of its outcome are exact.
-- Assumes nothing.
use mathlib.Core.Logic.{◌↔◌}
use mathlib.Core.Path.{◌≡◌, refl, sym}
use mathlib.Core.Bool.{Bool, true, false}
use mathlib.Core.List.{List, [], ◌∷◌, ◌++◌, map, map-append, reverse, reverse-append}
use Prim.Native.Nat.{ℕ}
use native.Mathlib.Omega.{arith}
use lib.Dec.{eqb}
use borrow.Author.Tests.{eqb-true}
use Rattle.laws.specs.Choice.{pick}
use Rattle.laws.specs.Refusals.{◌when◌, first}
use Rattle.laws.proofs.Tests.{never}
use Rattle.dates.specs.declared.Date.{Date}
use Rattle.records.specs.declared.Entry.{Entry}
use Rattle.records.specs.declared.Entry.TheVariants as E
use Rattle.records.specs.declared.Record.{Record}
use Rattle.records.specs.Entries.{date_of, Five}
use Rattle.records.specs.Refusals.{refusal_of_record}
use Rattle.records.proofs.NoOwnRefusal.{none_after_own}
use Rattle.records.specs.Forms.{new_unit}
use Rattle.outcome_rules.specs.StudyRecords.{StudyRecord, baseline, visit, therapy, death, fields_pass, entry_on_study_day, on_study_day, on_study_days}
use Rattle.outcome_rules.specs.LawfulLists.{lawful}
use Rattle.outcome_rules.specs.Adding.{refusals_of_study_record_in_order, not_baseline, refusals_of_opening, refusal_of_opening, refusals_of_adding, refusal_of_adding, Call, add, read, accepted_after, accepted}
use Rattle.outcome_rules.specs.MarksExact.{MarksExactOn}
use Rattle.outcome_rules.proofs.MarksExactInOrder.{every_mark_exact_in_order}
use Rattle.outcome_rules.proofs.RefusalsOfAdding.{one_more, own_passed}

-- one record more behind a list in the order recorded
one_more_in_order : (s : StudyRecord) (ss : List StudyRecord) (r : StudyRecord) → lawful (s ∷ ss) ≡ true →
    (first (refusals_of_study_record_in_order (s ∷ ss) r) ≡ 0) ↔ (lawful (s ∷ ss ++ (r ∷ [])) ≡ true)
one_more_in_order (baseline b) ss r l = rw (reverse-append ss (r ∷ [])) (one_more b (reverse ss) r l)
one_more_in_order (visit d v) ss r l = absurd (never (sym l))
one_more_in_order (therapy d) ss r l = absurd (never (sym l))
one_more_in_order (death d) ss r l = absurd (never (sym l))

pub one_more_accepted : (b : Record) (rs : List Record) (r : Record) → lawful (on_study_days new_unit (b ∷ rs)) ≡ true →
    (refusal_of_adding new_unit (b ∷ rs) r ≡ 0) ↔ ((refusal_of_record new_unit r ≡ 0) × (lawful (on_study_days new_unit (b ∷ rs ++ (r ∷ []))) ≡ true))
unfolding refusals_of_adding
one_more_accepted b rs r l =
    let on_day_lem = on_study_day new_unit (date_of b.entry) in
    let own = none_after_own new_unit r (refusals_of_study_record_in_order (on_study_days new_unit (b ∷ rs)) (on_day_lem r)) in
    let more = one_more_in_order (on_day_lem b) (map on_day_lem rs) (on_day_lem r) l in
    rw (map-append on_day_lem rs (r ∷ [])) (λ e. ((own.0 e).0, more.0 (own.0 e).1), λ e. own.1 (e.0, more.1 e.1))

accepted_from : (b : Record) (rs : List Record) (cs : List Call) → lawful (on_study_days new_unit (b ∷ rs)) ≡ true →
    lawful (on_study_days new_unit (accepted_after new_unit (b ∷ rs) cs)) ≡ true
accepted_from b rs [] l = l
accepted_from b rs (add r ∷ cs) l = go (eqb (refusal_of_adding new_unit (b ∷ rs) r) 0) refl (accepted_from b (rs ++ (r ∷ [])) cs) (accepted_from b rs cs l)
  where
    go : (x : Bool) → eqb (refusal_of_adding new_unit (b ∷ rs) r) 0 ≡ x →
        (lawful (on_study_days new_unit (b ∷ rs ++ (r ∷ []))) ≡ true → lawful (on_study_days new_unit (accepted_after new_unit (b ∷ rs ++ (r ∷ [])) cs)) ≡ true) →
        lawful (on_study_days new_unit (accepted_after new_unit (b ∷ rs) cs)) ≡ true →
        lawful (on_study_days new_unit (accepted_after new_unit (pick x (b ∷ rs ++ (r ∷ [])) (b ∷ rs)) cs)) ≡ true
    go true e more same = more ((one_more_accepted b rs r l).0 (eqb-true (refusal_of_adding new_unit (b ∷ rs) r) 0 e)).1
    go false e more same = same
accepted_from b rs (read ∷ cs) l = accepted_from b rs cs l

opens : (d : Date) (e : Entry) (marks : List Bool) (sizes : List ℕ) → first (7 when not_baseline e ∷ []) ≡ 0 →
    lawful (entry_on_study_day new_unit d e marks sizes ∷ []) ≡ true
opens d (E.Baseline b) marks sizes q = refl
opens d (E.Visit v) marks sizes q = absurd (let w : ⊥ = omega arith in w)
opens d (E.Therapy t) marks sizes q = absurd (let w : ⊥ = omega arith in w)
opens d (E.Death t) marks sizes q = absurd (let w : ⊥ = omega arith in w)

pub accepted_lawful : (b : Record) (cs : List Call) → refusal_of_opening new_unit b ≡ 0 → lawful (on_study_days new_unit (accepted new_unit b cs)) ≡ true
unfolding refusals_of_opening
accepted_lawful b cs e =
    accepted_from b [] cs
    (opens (date_of b.entry) b.entry b.marks b.sizes ((none_after_own new_unit b _).0 e).1)

-- a lawful list whose first record passes 4 and 5
exact_on : (s : StudyRecord) (ss : List StudyRecord) → fields_pass new_unit s ≡ true → lawful (s ∷ ss) ≡ true → MarksExactOn (s ∷ ss)
exact_on (baseline b) ss passed l = every_mark_exact_in_order.exact b ss passed l
exact_on (visit d v) ss passed l = never (sym l)
exact_on (therapy d) ss passed l = never (sym l)
exact_on (death d) ss passed l = never (sym l)

-- the opening record stays the first
pub opening_first : (b : Record) (rs : List Record) (cs : List Call) → (ss : List Record) × (accepted_after new_unit (b ∷ rs) cs ≡ b ∷ ss)
opening_first b rs [] = (rs, refl)
opening_first b rs (add r ∷ cs) = go (eqb (refusal_of_adding new_unit (b ∷ rs) r) 0) (opening_first b (rs ++ (r ∷ [])) cs) (opening_first b rs cs)
  where
    go : (x : Bool) → (ss : List Record) × (accepted_after new_unit (b ∷ rs ++ (r ∷ [])) cs ≡ b ∷ ss) → (ss : List Record) × (accepted_after new_unit (b ∷ rs) cs ≡ b ∷ ss) →
        (ss : List Record) × (accepted_after new_unit (pick x (b ∷ rs ++ (r ∷ [])) (b ∷ rs)) cs ≡ b ∷ ss)
    go true more same = more
    go false more same = same
opening_first b rs (read ∷ cs) = opening_first b rs cs

pub accepted_exact : (b : Record) (cs : List Call) → Five b → refusal_of_opening new_unit b ≡ 0 → MarksExactOn (on_study_days new_unit (accepted new_unit b cs))
unfolding refusals_of_opening
accepted_exact b cs five e =
    let later = opening_first b [] cs in
    let on_day_lem = on_study_day new_unit (date_of b.entry) in
    let passed = own_passed (date_of b.entry) b five ((none_after_own new_unit b _).0 e).0 in
    rw later.1 (exact_on (on_day_lem b) (map on_day_lem later.0) passed (rw later.1 at (accepted_lawful b cs e)))

pub added_exactly : (b : Record) (cs : List Call) (r : Record) → refusal_of_opening new_unit b ≡ 0 →
    (refusal_of_adding new_unit (accepted new_unit b cs) r ≡ 0) ↔ ((refusal_of_record new_unit r ≡ 0) × (lawful (on_study_days new_unit (accepted new_unit b cs ++ (r ∷ []))) ≡ true))
added_exactly b cs r e =
    let later = opening_first b [] cs in
    rw later.1 (one_more_accepted b later.0 r (rw later.1 at (accepted_lawful b cs e)))
