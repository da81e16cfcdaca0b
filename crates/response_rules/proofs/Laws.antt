-- What the definitions say of every visit.
-- Assumes nothing.
use mathlib.Core.Path.{◌≡◌, refl, ◌∙◌, ap}
use mathlib.Core.Bool.{Bool, true, false}
use mathlib.Core.List.{List, [], ◌∷◌, reverse_aux, reverse}
use Prim.Native.Nat.{ℕ, ◌+◌, ◌*◌, ◌≤◌, ◌<◌, min}
use native.Mathlib.Nat.{div-add-mod, mod-lt}
use native.Mathlib.Omega.{arith}
use lib.Dec.{eqb}
use Rattle.laws.specs.Choice.{pick}
use Rattle.laws.proofs.Tests.{either_with_true}
use Rattle.response_rules.specs.Words.{Word, PD, NE, status_word}
use Rattle.response_rules.specs.SumOfDiameters.{sum_of_diameters, all_measured}
use Rattle.response_rules.specs.Inputs.{Visit}
use Rattle.response_rules.specs.Nadir.{complete_sums, least_of, nadir_of, earlier_of, after_visit}
use Rattle.response_rules.specs.OverallAnswer.{is_pd, overall_by}
use Rattle.response_rules.specs.Change.{none, nearest, change_of}
use Rattle.response_rules.specs.VisitAnswers.{overall_answer, target_answer_after, overall_answer_after}
use Rattle.response_rules.specs.Laws.{OverallLaws, NadirLaws, ChangeLaws}
use Rattle.response_rules.specs.declared.BaselineDisease.{BaselineDisease}

-- the overall answer of a visit, by what its parts are known to be
overall_is : (unit : ℕ) (b : BaselineDisease) (vs : List Visit) (v : Visit) (a n : Bool) (t s : Word) → b.assessed ≡ a → v.new_lesion ≡ n →
    target_answer_after unit b vs v ≡ t → status_word v.status ≡ s → overall_answer_after unit b vs v ≡ overall_by a n t s
unfolding overall_answer
overall_is unit b vs v a n t s e f g h =
    ap (λ (x : Bool). overall_by x v.new_lesion (target_answer_after unit b vs v) (status_word v.status)) e
    ∙ ap (λ (x : Bool). overall_by a x (target_answer_after unit b vs v) (status_word v.status)) f
    ∙ ap (λ (x : Word). overall_by a n x (status_word v.status)) g
    ∙ ap (λ (x : Word). overall_by a n t x) h

not_assessed : (n : Bool) (t s : Word) → overall_by false n t s ≡ NE
unfolding overall_by
not_assessed true t s = refl
not_assessed false t s = refl

newly_seen : (t s : Word) → overall_by true true t s ≡ PD
unfolding overall_by
newly_seen t s = refl

pd_target : (n : Bool) (s : Word) → overall_by true n PD s ≡ PD
unfolding overall_by
pd_target true s = refl
pd_target false s = refl

pd_nontarget : (n : Bool) (t : Word) → overall_by true n t PD ≡ PD
unfolding overall_by
pd_nontarget true t = refl
pd_nontarget false t = rw (either_with_true (is_pd t))

module _ (unit : ℕ) (b : BaselineDisease) (vs : List Visit) (v : Visit) where
  missing : b.assessed ≡ false → overall_answer_after unit b vs v ≡ NE
  missing e = overall_is unit b vs v false _ _ _ e refl refl refl ∙ not_assessed _ _ _

  new_lesion : b.assessed ≡ true → v.new_lesion ≡ true → overall_answer_after unit b vs v ≡ PD
  new_lesion e n = overall_is unit b vs v true true _ _ e n refl refl ∙ newly_seen _ _

  target_pd_lem : b.assessed ≡ true → target_answer_after unit b vs v ≡ PD → overall_answer_after unit b vs v ≡ PD
  target_pd_lem e t = overall_is unit b vs v true _ PD _ e refl t refl ∙ pd_target _ _

  nontarget_pd : b.assessed ≡ true → status_word v.status ≡ PD → overall_answer_after unit b vs v ≡ PD
  nontarget_pd e s = overall_is unit b vs v true _ _ PD e refl refl s ∙ pd_nontarget _ _

pub overall_laws : OverallLaws
overall_laws = record { missing = missing; new_lesion = new_lesion; target_pd = target_pd_lem; nontarget_pd = nontarget_pd }

-- one visit more by whether every target was measured
nadir_left : (b : BaselineDisease) (vs : List Visit) → (earlier_of b vs).nadir ≡ nadir_of b vs
unfolding nadir_of after_visit
nadir_left b [] = refl
nadir_left b (v ∷ vs) =
    go (all_measured b.count v.measured) (sum_of_diameters v.measured v.sizes) (earlier_of b vs).nadir (complete_sums b.count vs) (nadir_left b vs)
  where
    go : (m : Bool) (s n : ℕ) (ss : List ℕ) → n ≡ least_of b.baselinesum ss → pick m (min s n) n ≡ least_of b.baselinesum (pick m (s ∷ ss) ss)
    go true s n ss e = ap (min s) e
    go false s n ss e = e

least_moved : (s n : ℕ) (ms : List ℕ) → least_of (min s n) ms ≡ min s (least_of n ms)
least_moved s n [] = refl
least_moved s n (m ∷ ms) =
    let h = least_moved s n ms in
    let w : min m (min s (least_of n ms)) ≡ min s (min m (least_of n ms)) = omega arith in
    rw h w

-- the visits of a list put one by one before others, which is how `reverse` goes
least_turned : (count n : ℕ) (vs ws : List Visit) →
    least_of n (complete_sums count (reverse_aux vs ws)) ≡ least_of (least_of n (complete_sums count ws)) (complete_sums count vs)
least_turned count n [] ws = refl
least_turned count n (v ∷ vs) ws =
    least_turned count n vs (v ∷ ws)
    ∙ go (all_measured count v.measured) (sum_of_diameters v.measured v.sizes) (complete_sums count ws) (complete_sums count vs)
  where
    go : (m : Bool) (s : ℕ) (ms ss : List ℕ) → least_of (least_of n (pick m (s ∷ ms) ms)) ss ≡ least_of (least_of n ms) (pick m (s ∷ ss) ss)
    go true s ms ss = least_moved s (least_of n ms) ss
    go false s ms ss = refl

any_order : (b : BaselineDisease) (vs : List Visit) → nadir_of b (reverse vs) ≡ nadir_of b vs
unfolding nadir_of
any_order b vs = least_turned b.count b.baselinesum vs []

pub nadir_laws : NadirLaws
nadir_laws = record { nadir = nadir_left; any_order = any_order }

-- n / d to the nearest, by the quotient and the remainder of 2 × n + d by 2 × d
rounded : (n d : ℕ) → 1 ≤ d → (2 * d * nearest n d ≤ 2 * n + d) × (2 * n < 2 * d * nearest n d + d)
rounded n d l =
    let q = div-add-mod (2 * n + d) (2 * d) in
    let p : 1 ≤ 2 * d = omega arith in
    let r = mod-lt (2 * n + d) p in
    (omega arith, omega arith)

no_targets : (b : BaselineDisease) (v : Visit) → b.count ≡ 0 → change_of b v ≡ none
unfolding change_of
no_targets b v e = rw e

unmeasured : (b : BaselineDisease) (v : Visit) → all_measured b.count v.measured ≡ false → change_of b v ≡ none
unfolding change_of
unmeasured b v e = rw (e, either_with_true (eqb b.count 0))

pub change_laws : ChangeLaws
change_laws = record { rounded = rounded; no_targets = no_targets; unmeasured = unmeasured }
