-- The marks are exact in the order recorded: a run behind a list is a run in front of the list with the newest first, reversed.
-- Assumes nothing.
use mathlib.Core.Path.{◌≡◌, refl, sym, ap, ◌∙◌}
use mathlib.Core.Bool.{true}
use Prim.Native.Nat.{ℕ}
use mathlib.Core.List.{List, [], ◌∷◌, ◌++◌, reverse, reverse-append, reverse-reverse}
use mathlib.Core.Logic.Iff
use mathlib.Core.Logic.{◌↔◌}
use Rattle.laws.proofs.Tests.{both_true}
use Rattle.outcome_rules.specs.Values.{Outcome}
use Rattle.outcome_rules.specs.StudyRecords.{Baseline, StudyRecord, fields_pass, all_pass}
use Rattle.outcome_rules.specs.LawfulLists.{Past, lawful_behind}
use Rattle.outcome_rules.specs.Settled.{outcome}
use Rattle.outcome_rules.specs.MarksExact.{NoRunChanges, NoRunChangesInOrder, EveryMarkExactInOrder}
use Rattle.outcome_rules.proofs.MarksExact.{every_mark_exact}

pass_append : (unit : ℕ) (rs ss : List StudyRecord) → all_pass unit rs ≡ true → all_pass unit ss ≡ true → all_pass unit (rs ++ ss) ≡ true
pass_append unit [] ss e f = f
pass_append unit (r ∷ rs) ss e f =
    let parts = both_true (fields_pass unit r) (all_pass unit rs) e in
    rw parts.0 (pass_append unit rs ss parts.1 f)

pass_reverse : (unit : ℕ) (rs : List StudyRecord) → all_pass unit rs ≡ true → all_pass unit (reverse rs) ≡ true
pass_reverse unit [] e = refl
pass_reverse unit (r ∷ rs) e =
    let parts = both_true (fields_pass unit r) (all_pass unit rs) e in
    ap (all_pass unit) (reverse-append (r ∷ []) rs) ∙ pass_append unit (reverse rs) (r ∷ []) (pass_reverse unit rs parts.1) (rw parts.0)

unchanged_in_order : {A : Type 0} (part : Outcome → A) (b : Baseline) (rs : List StudyRecord) → NoRunChanges part b (reverse rs) ↔ NoRunChangesInOrder part b rs
unchanged_in_order part b rs = (
  λ lasts run passes l.
      ap (λ (p : Past). part (outcome b p)) (reverse-append rs run)
      ∙ lasts (reverse run) (pass_reverse b.unit run passes) (ap (lawful_behind b) (sym (reverse-append rs run)) ∙ l),
  λ lasts run passes l.
      ap (λ (p : Past). part (outcome b p)) (sym (turned run)) ∙ lasts (reverse run) (pass_reverse b.unit run passes) (ap (lawful_behind b) (turned run) ∙ l),
)
  where
    turned : (run : Past) → reverse (rs ++ reverse run) ≡ run ++ reverse rs
    turned run = reverse-append rs (reverse run) ∙ ap (λ (x : Past). x ++ reverse rs) (reverse-reverse run)

pub every_mark_exact_in_order : EveryMarkExactInOrder
every_mark_exact_in_order =
    record {
      exact = λ b rs passes lawfully.
          let marks = every_mark_exact.exact b (reverse rs) passes lawfully in
          record {
            pfs = Iff.trans marks.pfs (unchanged_in_order (λ (o : Outcome). o.pfs) b rs);
            best = Iff.trans marks.best (unchanged_in_order (λ (o : Outcome). o.best) b rs);
            duration = Iff.trans marks.duration (unchanged_in_order (λ (o : Outcome). o.duration) b rs);
          };
    }
