-- Sums, the nadir, growth, a partial response and the change do not see a factor of ten, and so no answer does.
-- Assumes nothing.
use mathlib.Core.Path.{◌≡◌, refl, ap, ◌∙◌}
use mathlib.Core.Bool.{Bool, true, false, not}
use mathlib.Core.List.{List, [], ◌∷◌, map}
use Prim.Native.Nat.{ℕ, zero, suc, ◌+◌, ◌-◌, ◌*◌, min}
use native.Mathlib.Nat.{mul-div-mul_left}
use native.Mathlib.Omega.{arith}
use lib.Dec.{ltb, leb, eqb}
use lib.ListN.{get_or}
use Rattle.laws.specs.Choice.{both, either, pick}
use Rattle.laws.proofs.Tests.{leb_same, ltb_same, eqb_same}
use Rattle.laws.proofs.EveryNumber.{all_same}
use Rattle.records.specs.Refusals.{most_targets}
use Rattle.records.specs.Tenfold.{times_ten}
use Rattle.records.proofs.Tenfold.{size_at}
use Rattle.response_rules.specs.Words.{CR, PR, SD, PD, NE, NA, status_word}
use Rattle.response_rules.specs.SumOfDiameters.{sum_where, sum_of_diameters, all_measured}
use Rattle.response_rules.specs.Inputs.{Visit}
use Rattle.response_rules.specs.TargetAnswer.{partial_response, disappeared, all_disappeared, progression_from_nadir, target_answer}
use Rattle.response_rules.specs.Nadir.{after_visit, earlier_of}
use Rattle.response_rules.specs.OverallAnswer.{overall_by}
use Rattle.response_rules.specs.Change.{none, signed, nearest, rounded_change, change_between, change_of}
use Rattle.response_rules.specs.VisitAnswers.{overall_answer, target_answer_after, overall_answer_after}
use Rattle.response_rules.specs.Tenfold.{tenfold_disease, tenfold_visit, TenfoldAnswers}
use Rattle.response_rules.specs.declared.BaselineDisease.{BaselineDisease}
use Rattle.response_rules.specs.declared.Earlier.{Earlier}

-- ---- sums and the nadir

pub sum_tenfold : (marked : ℕ → Bool) (sizes : List ℕ) (n : ℕ) → sum_where marked (times_ten sizes) n ≡ 10 * sum_where marked sizes n
sum_tenfold marked sizes zero = refl
sum_tenfold marked sizes (suc n) = go (marked n) (size_at sizes n) (sum_tenfold marked sizes n)
  where
    go : (x : Bool) → get_or (times_ten sizes) n 0 ≡ 10 * get_or sizes n 0 → sum_where marked (times_ten sizes) n ≡ 10 * sum_where marked sizes n →
        sum_where marked (times_ten sizes) n + pick x (get_or (times_ten sizes) n 0) 0 ≡ 10 * (sum_where marked sizes n + pick x (get_or sizes n 0) 0)
    go true e h = omega arith
    go false e h = omega arith

diameters_tenfold : (measured : List Bool) (sizes : List ℕ) → sum_of_diameters measured (times_ten sizes) ≡ 10 * sum_of_diameters measured sizes
unfolding sum_of_diameters
diameters_tenfold measured sizes = sum_tenfold (λ (i : ℕ). get_or measured i false) sizes most_targets

abbrev tenfold_earlier : Earlier → Earlier
tenfold_earlier e = record { nadir = 10 * e.nadir }

nadir_tenfold : (x : Bool) (sum nadir : ℕ) → pick x (min (10 * sum) (10 * nadir)) (10 * nadir) ≡ 10 * pick x (min sum nadir) nadir
nadir_tenfold true sum nadir = omega arith
nadir_tenfold false sum nadir = refl

after_tenfold : (b : BaselineDisease) (e : Earlier) (v : Visit) → after_visit (tenfold_disease b) (tenfold_earlier e) (tenfold_visit v) ≡ tenfold_earlier (after_visit b e v)
unfolding after_visit
after_tenfold b e v =
    let complete = all_measured b.count v.measured in
    let sum = diameters_tenfold v.measured v.sizes in
    (λ i. record { nadir = pick complete (min (sum i) (10 * e.nadir)) (10 * e.nadir) })
    ∙ ap (λ (n : ℕ). record { nadir = n }) (nadir_tenfold complete (sum_of_diameters v.measured v.sizes) e.nadir)

earlier_tenfold : (b : BaselineDisease) (vs : List Visit) → earlier_of (tenfold_disease b) (map tenfold_visit vs) ≡ tenfold_earlier (earlier_of b vs)
earlier_tenfold b [] = refl
earlier_tenfold b (v ∷ vs) =
    ap (λ (e : Earlier). after_visit (tenfold_disease b) e (tenfold_visit v)) (earlier_tenfold b vs) ∙ after_tenfold b (earlier_of b vs) v

-- ---- the answers

module _ (unit : ℕ) where
  disappeared_tenfold : (node : Bool) (size : ℕ) → disappeared (10 * unit) node (10 * size) ≡ disappeared unit node size
  disappeared_tenfold node size =
      let zero_size : eqb (10 * size) 0 ≡ eqb size 0 = eqb_same (10 * size) 0 size 0 (λ e. omega arith) (λ e. omega arith) in
      let normal = ltb_same (10 * size) (10 * (10 * unit)) size (10 * unit) (omega arith) (omega arith) in
      λ i. either (zero_size i) (both node (normal i))

  all_disappeared_tenfold : (count : ℕ) (nodes : List Bool) (sizes : List ℕ) → all_disappeared (10 * unit) count nodes (times_ten sizes) ≡ all_disappeared unit count nodes sizes
  unfolding all_disappeared
  all_disappeared_tenfold count nodes sizes =
      all_same _ _ most_targets
      (λ i.
      ap (λ (size : ℕ). either (leb count i) (disappeared (10 * unit) (get_or nodes i false) size)) (size_at sizes i)
      ∙ ap (either (leb count i)) (disappeared_tenfold (get_or nodes i false) (get_or sizes i 0)))

  progression_tenfold : (nadir sum : ℕ) → progression_from_nadir (10 * unit) (10 * nadir) (10 * sum) ≡ progression_from_nadir unit nadir sum
  unfolding progression_from_nadir
  progression_tenfold nadir sum =
      let by = leb_same (10 * nadir + 5 * (10 * unit)) (10 * sum) (nadir + 5 * unit) sum (omega arith) (omega arith) in
      let to = leb_same (6 * (10 * nadir)) (5 * (10 * sum)) (6 * nadir) (5 * sum) (omega arith) (omega arith) in
      λ i. both (by i) (to i)

  partial_tenfold : (base sum : ℕ) → partial_response (10 * base) (10 * sum) ≡ partial_response base sum
  unfolding partial_response
  partial_tenfold base sum = leb_same (10 * (10 * sum)) (7 * (10 * base)) (10 * sum) (7 * base) (omega arith) (omega arith)

  module _ (b : BaselineDisease) (vs : List Visit) (v : Visit) where
    target_tenfold : target_answer_after (10 * unit) (tenfold_disease b) (map tenfold_visit vs) (tenfold_visit v) ≡ target_answer_after unit b vs v
    unfolding target_answer
    target_tenfold =
        let complete = all_measured b.count v.measured in
        let sum = sum_of_diameters v.measured v.sizes in
        let gone = all_disappeared_tenfold b.count b.nodes v.sizes in
        let grows = progression_tenfold (earlier_of b vs).nadir sum in
        let shrinks = partial_tenfold b.baselinesum sum in
        rw (earlier_tenfold b vs, diameters_tenfold v.measured v.sizes)
        (λ i.
        pick (eqb b.count 0) NA
        (pick (both complete (gone i)) CR (pick (grows i) PD (pick (not complete) NE (pick (shrinks i) PR SD)))))

    overall_tenfold : overall_answer_after (10 * unit) (tenfold_disease b) (map tenfold_visit vs) (tenfold_visit v) ≡ overall_answer_after unit b vs v
    unfolding overall_answer
    overall_tenfold = ap (λ w. overall_by b.assessed v.new_lesion w (status_word v.status)) target_tenfold

-- ---- the change

nearest_tenfold : (n d : ℕ) → nearest (10 * n) (10 * d) ≡ nearest n d
nearest_tenfold n d =
    let up : 2 * (10 * n) + 10 * d ≡ 10 * (2 * n + d) = omega arith in
    let down : 2 * (10 * d) ≡ 10 * (2 * d) = omega arith in
    rw (up, down) (mul-div-mul_left {m = 10} (2 * n + d) (2 * d) (omega arith))

rounded_tenfold : (base sum : ℕ) → rounded_change (10 * base) (10 * sum) ≡ rounded_change base sum
rounded_tenfold base sum =
    let part : 1000 * ((10 * sum - 10 * base) + (10 * base - 10 * sum)) ≡ 10 * (1000 * ((sum - base) + (base - sum))) = omega arith in
    ap (λ (n : ℕ). nearest n (10 * base)) part ∙ nearest_tenfold (1000 * ((sum - base) + (base - sum))) base

between_tenfold : (base sum : ℕ) → change_between (10 * base) (10 * sum) ≡ change_between base sum
unfolding change_between
between_tenfold base sum =
    let less = ltb_same (10 * sum) (10 * base) sum base (omega arith) (omega arith) in
    let change = rounded_tenfold base sum in
    λ i. signed (both (less i) (ltb 0 (change i))) (change i)

change_tenfold : (b : BaselineDisease) (v : Visit) → change_of (tenfold_disease b) (tenfold_visit v) ≡ change_of b v
unfolding change_of
change_tenfold b v =
    let no_base : eqb (10 * b.baselinesum) 0 ≡ eqb b.baselinesum 0 = eqb_same (10 * b.baselinesum) 0 b.baselinesum 0 (λ e. omega arith) (λ e. omega arith) in
    let between = between_tenfold b.baselinesum (sum_of_diameters v.measured v.sizes) in
    rw (diameters_tenfold v.measured v.sizes)
    (λ i. pick (either (eqb b.count 0) (either (not (all_measured b.count v.measured)) (no_base i))) none (between i))

pub tenfold_answers : TenfoldAnswers
tenfold_answers = record { target = target_tenfold; overall = overall_tenfold; change = change_tenfold }
