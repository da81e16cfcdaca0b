-- Document 01, "Examples at the edges", its wrong readings and the printed example, as far as they are of visits, cases in which one sentence of "Visit
-- responses" applies alone, and the words of the declared cases: stated here, proved in proofs/AtTheEdges.antt.
-- Assumes nothing.
use Rattle.std.specs.Prelude.{◌≡◌, Bool, true, false, None, Some, List, [], ◌∷◌, map, ℕ, length}
use Rattle.dates.specs.Laws.{ymd}
use Rattle.records.specs.declared.Status.{Status}
use Rattle.records.specs.declared.Status.TheVariants as S
use Rattle.records.specs.Forms.{new_unit, old_unit}
use Rattle.response_rules.specs.Words.{Word, CR, PR, SD, PD, NE, NA, NN, target_word, status_word, overall_word}
use Rattle.response_rules.specs.Inputs.{Visit, disease_of}
use Rattle.response_rules.specs.SumOfDiameters.{sum_of_diameters, baseline_sum}
use Rattle.response_rules.specs.Nadir.{after_visit, nadir_of}
use Rattle.response_rules.specs.OverallAnswer.{is_pd, overall_by, evaluable}
use Rattle.response_rules.specs.Change.{none, signed, change_values, change_between, change_of}
use Rattle.response_rules.specs.Tenfold.{tenfold_disease, tenfold_visit}
use Rattle.response_rules.specs.VisitAnswers.{target_answer_after, overall_answer_after}
use Rattle.response_rules.specs.declared.BaselineDisease.{BaselineDisease}
use Rattle.response_rules.specs.declared.Earlier.{Earlier}
use Rattle.response_rules.specs.declared.TargetAnswer.TheVariants as T
use Rattle.response_rules.specs.declared.OverallAnswer.TheVariants as O
use Rattle.response_rules.specs.declared.Change.TheVariants as C

-- an assessed baseline with non-target disease and these targets; a target without a mark is no node
abbrev pub baseline_with : List Bool → List ℕ → BaselineDisease
baseline_with nodes sizes = disease_of (record { date = ymd 2020 1 1; assessed = true; nontarget = true; count = length sizes }) nodes sizes

-- a visit at which these were measured, non-target NN, no new lesion; the targets that follow were not measured
abbrev pub marked : List ℕ → List Bool
marked [] = []
marked (size ∷ sizes) = true ∷ marked sizes

abbrev pub measuring : List ℕ → Visit
measuring sizes = record { status = S.NN; new_lesion = false; measured = marked sizes; sizes = sizes }

pub record Edges : Type 0 where
  -- 1: baseline sum 100 mm, here and below in tenths of a millimetre
  pub sum70 : target_answer_after new_unit (baseline_with [] (1000 ∷ [])) [] (measuring (700 ∷ [])) ≡ PR
  pub sum71 : target_answer_after new_unit (baseline_with [] (1000 ∷ [])) [] (measuring (710 ∷ [])) ≡ SD
  pub sum701 : target_answer_after new_unit (baseline_with [] (1000 ∷ [])) [] (measuring (701 ∷ [])) ≡ SD
  -- 2: an earlier visit left nadir 20 mm
  pub sum24 : is_pd (target_answer_after new_unit (baseline_with [] (1000 ∷ [])) (measuring (200 ∷ []) ∷ []) (measuring (240 ∷ []))) ≡ false
  pub sum25 : target_answer_after new_unit (baseline_with [] (1000 ∷ [])) (measuring (200 ∷ []) ∷ []) (measuring (250 ∷ [])) ≡ PD
  pub grown_by49 : is_pd (target_answer_after new_unit (baseline_with [] (1000 ∷ [])) (measuring (200 ∷ []) ∷ []) (measuring (249 ∷ []))) ≡ false
  pub grown_by50 : target_answer_after new_unit (baseline_with [] (1000 ∷ [])) (measuring (7 ∷ []) ∷ []) (measuring (57 ∷ [])) ≡ PD
  -- 3: an earlier visit left nadir 50 mm
  pub sum59 : is_pd (target_answer_after new_unit (baseline_with [] (1000 ∷ [])) (measuring (500 ∷ []) ∷ []) (measuring (590 ∷ []))) ≡ false
  pub sum60 : target_answer_after new_unit (baseline_with [] (1000 ∷ [])) (measuring (500 ∷ []) ∷ []) (measuring (600 ∷ [])) ≡ PD
  pub sum599 : is_pd (target_answer_after new_unit (baseline_with [] (1000 ∷ [])) (measuring (500 ∷ []) ∷ []) (measuring (599 ∷ []))) ≡ false
  -- 4: a node and another target; a node is normal up to 9.9 mm
  pub node9 : target_answer_after new_unit (baseline_with (true ∷ []) (200 ∷ 400 ∷ [])) [] (measuring (90 ∷ 0 ∷ [])) ≡ CR
  pub node10 : target_answer_after new_unit (baseline_with (true ∷ []) (200 ∷ 400 ∷ [])) [] (measuring (100 ∷ 0 ∷ [])) ≡ PR
  pub node99 : target_answer_after new_unit (baseline_with (true ∷ []) (200 ∷ 400 ∷ [])) [] (measuring (99 ∷ 0 ∷ [])) ≡ CR
  -- 14: two targets, nadir 50 mm, one measured 62
  pub one_measured : target_answer_after new_unit (baseline_with [] (700 ∷ 300 ∷ [])) (measuring (400 ∷ 100 ∷ []) ∷ []) (measuring (620 ∷ [])) ≡ PD

-- five targets of 20 mm
abbrev pub five_targets : BaselineDisease
five_targets = baseline_with [] (200 ∷ 200 ∷ 200 ∷ 200 ∷ 200 ∷ [])

pub record OrdersAndPlaces : Type 0 where
  -- 1 before every other: no targets
  pub no_targets : target_answer_after new_unit (baseline_with [] []) [] (measuring []) ≡ NA
  -- 2 before 3: a normal node, 9.0 mm above a nadir of 0
  pub complete_first : target_answer_after new_unit (baseline_with (true ∷ []) (200 ∷ [])) (measuring (0 ∷ []) ∷ []) (measuring (90 ∷ [])) ≡ CR
  -- any other target is 0: one of 0.1 mm is left
  pub other_of1 : target_answer_after new_unit (baseline_with [] (200 ∷ [])) [] (measuring (1 ∷ [])) ≡ PR
  -- the fifth target is one of them: in both sums, measured, and disappeared
  pub five70 : target_answer_after new_unit five_targets [] (measuring (140 ∷ 140 ∷ 140 ∷ 140 ∷ 140 ∷ [])) ≡ PR
  pub five71 : target_answer_after new_unit five_targets [] (measuring (140 ∷ 140 ∷ 140 ∷ 140 ∷ 150 ∷ [])) ≡ SD
  pub fifth_unmeasured : target_answer_after new_unit five_targets [] (measuring (200 ∷ 200 ∷ 200 ∷ 200 ∷ [])) ≡ NE
  pub fifth_left : target_answer_after new_unit five_targets [] (measuring (0 ∷ 0 ∷ 0 ∷ 0 ∷ 1 ∷ [])) ≡ PR
  -- no size beyond the count, and none that was not measured
  pub within_count : baseline_sum 1 (1000 ∷ 500 ∷ []) ≡ 1000
  pub measured_alone : sum_of_diameters (true ∷ false ∷ []) (400 ∷ 300 ∷ []) ≡ 400
  -- evaluable means other than NE
  pub evaluables : map evaluable (CR ∷ PR ∷ SD ∷ PD ∷ NE ∷ []) ≡ true ∷ true ∷ true ∷ true ∷ false ∷ []
  -- disease seen again after CR has no rule of its own
  pub seen_again : target_answer_after new_unit (baseline_with [] (1000 ∷ [])) (measuring (0 ∷ []) ∷ []) (measuring (40 ∷ [])) ≡ PR

-- a target row of the grid over the non-target answers CR, NN, NE and NA
abbrev pub row : Word → List Word
row target = map (λ (s : Status). overall_by true false target (status_word s)) (S.CR ∷ S.NN ∷ S.NE ∷ S.NA ∷ [])

pub record GridRows : Type 0 where
  pub over_cr : row CR ≡ CR ∷ PR ∷ PR ∷ CR ∷ []
  pub over_na : row NA ≡ CR ∷ SD ∷ NE ∷ NE ∷ []
  pub over_pr : row PR ≡ PR ∷ PR ∷ PR ∷ PR ∷ []
  pub over_sd : row SD ≡ SD ∷ SD ∷ SD ∷ SD ∷ []
  pub over_ne : row NE ≡ NE ∷ NE ∷ NE ∷ NE ∷ []

-- one target of 100 at baseline, by assessed and non-target disease, and a visit at which it is 100, by non-target status and new lesion
abbrev pub one_of100 : Bool → Bool → BaselineDisease
one_of100 assessed nontarget = disease_of (record { date = ymd 2020 1 1; assessed = assessed; nontarget = nontarget; count = 1 }) [] (1000 ∷ [])

abbrev pub unchanged : Status → Bool → Visit
unchanged s new = record { status = s; new_lesion = new; measured = true ∷ []; sizes = 1000 ∷ [] }

-- a new lesion or non-target PD alone gives PD; otherwise the grid; with baseline missing NE, new lesion or not
pub record OverallAlone : Type 0 where
  pub new_lesion : overall_answer_after new_unit (one_of100 true true) [] (unchanged S.NN true) ≡ PD
  pub nontarget_pd : overall_answer_after new_unit (one_of100 true true) [] (unchanged S.PD false) ≡ PD
  pub without_nontarget : overall_answer_after new_unit (one_of100 true false) [] (unchanged S.NA false) ≡ SD
  pub missing : overall_answer_after new_unit (one_of100 false false) [] (unchanged S.NA false) ≡ NE
  pub missing_new_lesion : overall_answer_after new_unit (one_of100 false false) [] (unchanged S.NA true) ≡ NE

-- two targets and nadir 60, and what is left after a visit by which were measured and their sizes
abbrev pub after60 : List Bool → List ℕ → Earlier
after60 measured sizes =
    after_visit (baseline_with [] (600 ∷ 400 ∷ [])) (record { nadir = 600 }) (record { status = S.NN; new_lesion = false; measured = measured; sizes = sizes })

-- the least of the baseline sum and the sums of all earlier visits with every target measured: the earlier visits stand newest first
pub record Nadirs : Type 0 where
  -- not the last sum, 55, but 50
  pub least_of_all : target_answer_after new_unit (baseline_with [] (1000 ∷ [])) (measuring (550 ∷ []) ∷ measuring (500 ∷ []) ∷ []) (measuring (600 ∷ [])) ≡ PD
  -- 50 of the visit before one with a target unmeasured
  pub before_incomplete : target_answer_after new_unit (baseline_with [] (600 ∷ 400 ∷ [])) (measuring (300 ∷ []) ∷ measuring (300 ∷ 200 ∷ []) ∷ []) (measuring (400 ∷ 200 ∷ [])) ≡ PD
  -- the baseline sum, 50, and not 58 of the visit
  pub baseline_least : target_answer_after new_unit (baseline_with [] (500 ∷ [])) (measuring (580 ∷ []) ∷ []) (measuring (600 ∷ [])) ≡ PD
  -- after one visit more: a lesser sum moves it; a larger one and one with a target unmeasured leave it
  pub lesser : after60 (true ∷ true ∷ []) (300 ∷ 200 ∷ []) ≡ record { nadir = 500 }
  pub larger : after60 (true ∷ true ∷ []) (400 ∷ 300 ∷ []) ≡ record { nadir = 600 }
  pub incomplete : after60 (true ∷ false ∷ []) (300 ∷ 0 ∷ []) ≡ record { nadir = 600 }

-- two targets of 60 and 40
abbrev pub two_targets : BaselineDisease
two_targets = baseline_with [] (600 ∷ 400 ∷ [])

-- the nadir itself; the earlier visits stand newest first
pub record NadirsByTheTerm : Type 0 where
  -- the baseline sum where there is no earlier visit, where none has every target measured, and where it is the least
  pub no_visit : nadir_of two_targets [] ≡ 1000
  pub none_complete : nadir_of two_targets (measuring (300 ∷ []) ∷ measuring [] ∷ []) ≡ 1000
  pub baseline_least : nadir_of two_targets (measuring (700 ∷ 500 ∷ []) ∷ measuring (600 ∷ 500 ∷ []) ∷ []) ≡ 1000
  -- the sums of all earlier visits: the least is the last, the first, behind which the next one is a progression, and one between
  pub last_least : nadir_of two_targets (measuring (300 ∷ 200 ∷ []) ∷ measuring (500 ∷ 400 ∷ []) ∷ measuring (400 ∷ 400 ∷ []) ∷ []) ≡ 500
  pub first_least : nadir_of two_targets (measuring (500 ∷ 400 ∷ []) ∷ measuring (400 ∷ 400 ∷ []) ∷ measuring (300 ∷ 200 ∷ []) ∷ []) ≡ 500
  pub between_least : nadir_of two_targets (measuring (500 ∷ 400 ∷ []) ∷ measuring (300 ∷ 200 ∷ []) ∷ measuring (400 ∷ 400 ∷ []) ∷ []) ≡ 500
  -- one with a target unmeasured does not count, and takes none before or behind it away
  pub incomplete_between : nadir_of two_targets (measuring (500 ∷ 400 ∷ []) ∷ measuring (100 ∷ []) ∷ measuring (300 ∷ 200 ∷ []) ∷ []) ≡ 500
  pub incomplete_first : nadir_of two_targets (measuring (300 ∷ 200 ∷ []) ∷ measuring (100 ∷ []) ∷ []) ≡ 500

pub record WrongReadings : Type 0 where
  -- growth against baseline alone: the sum is half the baseline's and three times the nadir
  pub against_nadir : target_answer_after new_unit (baseline_with [] (1000 ∷ [])) (measuring (150 ∷ []) ∷ []) (measuring (500 ∷ [])) ≡ PD
  -- PR before PD: the same sum is also at most 70 % of the baseline's
  pub progression_first : overall_answer_after new_unit (baseline_with [] (1000 ∷ [])) (measuring (150 ∷ []) ∷ []) (measuring (500 ∷ [])) ≡ PD
  -- an incomplete sum as nadir: one target of two was measured, with 10.0 mm
  pub incomplete_sum : target_answer_after new_unit (baseline_with [] (600 ∷ 400 ∷ [])) (measuring (100 ∷ []) ∷ []) (measuring (400 ∷ 350 ∷ [])) ≡ SD
  -- CR with a target unmeasured
  pub one_disappeared : target_answer_after new_unit (baseline_with [] (600 ∷ 400 ∷ [])) [] (measuring (0 ∷ [])) ≡ NE

-- the printed example: targets 40 and node 20; visits on days 43, 85 and 127
abbrev pub printed : BaselineDisease
printed = baseline_with (false ∷ true ∷ []) (400 ∷ 200 ∷ [])

abbrev pub day43 : Visit
day43 = measuring (240 ∷ 120 ∷ [])

abbrev pub day85 : Visit
day85 = measuring (0 ∷ 90 ∷ [])

abbrev pub day127 : Visit
day127 = measuring (0 ∷ 150 ∷ [])

pub record Printed : Type 0 where
  pub target43 : target_answer_after new_unit printed [] day43 ≡ PR
  pub overall43 : overall_answer_after new_unit printed [] day43 ≡ PR
  pub change43 : change_of printed day43 ≡ signed true 400
  pub target85 : target_answer_after new_unit printed (day43 ∷ []) day85 ≡ CR
  pub overall85 : overall_answer_after new_unit printed (day43 ∷ []) day85 ≡ PR
  pub change85 : change_of printed day85 ≡ signed true 850
  pub target127 : target_answer_after new_unit printed (day85 ∷ day43 ∷ []) day127 ≡ PD
  pub overall127 : overall_answer_after new_unit printed (day85 ∷ day43 ∷ []) day127 ≡ PD
  pub change127 : change_of printed day127 ≡ signed true 750

-- at a visit with targets, all measured, in tenths of a percent, signed, nearest, halves away from zero; else none
pub record Changes : Type 0 where
  pub one_target : change_of (baseline_with [] (1000 ∷ [])) (measuring (1500 ∷ [])) ≡ signed false 500
  pub no_targets : change_of (baseline_with [] []) (measuring []) ≡ none
  pub one_unmeasured : change_of (baseline_with [] (600 ∷ 400 ∷ [])) (measuring (600 ∷ [])) ≡ none
  -- upwards and downwards: 50.0 % either way
  pub upwards : change_between 100 150 ≡ signed false 500
  pub downwards : change_between 100 50 ≡ signed true 500
  -- halves away from zero: −0.05 %; zero has no sign: −0.04 % and, just below a half, −0.0499.. %
  pub half : change_between 2000 1999 ≡ signed true 1
  pub less_than_half : change_between 2500 2499 ≡ signed false 0
  pub barely_less : change_between 2001 2000 ≡ signed false 0

-- the old form's sizes: nodes of 9 and 10 mm, growth by 4 and 5 mm, sums of 70 and 71 % of the baseline's
pub record InMillimetres : Type 0 where
  pub node9 : target_answer_after old_unit (baseline_with (false ∷ true ∷ []) (40 ∷ 20 ∷ [])) [] (measuring (0 ∷ 9 ∷ [])) ≡ CR
  pub node10 : target_answer_after old_unit (baseline_with (false ∷ true ∷ []) (40 ∷ 20 ∷ [])) [] (measuring (0 ∷ 10 ∷ [])) ≡ PR
  pub sum24 : is_pd (target_answer_after old_unit (baseline_with [] (100 ∷ [])) (measuring (20 ∷ []) ∷ []) (measuring (24 ∷ []))) ≡ false
  pub sum25 : target_answer_after old_unit (baseline_with [] (100 ∷ [])) (measuring (20 ∷ []) ∷ []) (measuring (25 ∷ [])) ≡ PD
  pub sum70 : target_answer_after old_unit (baseline_with [] (100 ∷ [])) [] (measuring (70 ∷ [])) ≡ PR
  pub sum71 : target_answer_after old_unit (baseline_with [] (100 ∷ [])) [] (measuring (71 ∷ [])) ≡ SD

-- what a baseline leaves, and a visit, with each size times ten
pub record TimesTen : Type 0 where
  pub baseline : tenfold_disease (baseline_with (true ∷ []) (20 ∷ 40 ∷ [])) ≡ baseline_with (true ∷ []) (200 ∷ 400 ∷ [])
  pub missing : tenfold_disease (disease_of (record { date = ymd 2020 1 1; assessed = false; nontarget = false; count = 0 }) [] []) ≡ disease_of (record { date = ymd 2020 1 1; assessed = false; nontarget = false; count = 0 }) [] []
  pub visit : tenfold_visit (measuring (24 ∷ 12 ∷ [])) ≡ measuring (240 ∷ 120 ∷ [])
  pub new_lesion : tenfold_visit (record { status = S.PD; new_lesion = true; measured = false ∷ []; sizes = 0 ∷ [] }) ≡ record { status = S.PD; new_lesion = true; measured = false ∷ []; sizes = 0 ∷ [] }

-- the words and values of the declared cases
pub record WordsOfCases : Type 0 where
  pub targets : map target_word (T.CR ∷ T.PR ∷ T.SD ∷ T.PD ∷ T.NE ∷ T.NA ∷ []) ≡ CR ∷ PR ∷ SD ∷ PD ∷ NE ∷ NA ∷ []
  pub nontargets : map status_word (S.NA ∷ S.CR ∷ S.NN ∷ S.PD ∷ S.NE ∷ []) ≡ NA ∷ CR ∷ NN ∷ PD ∷ NE ∷ []
  pub overalls : map overall_word (O.CR ∷ O.PR ∷ O.SD ∷ O.PD ∷ O.NE ∷ []) ≡ CR ∷ PR ∷ SD ∷ PD ∷ NE ∷ []
  pub changes : map change_values (None ∷ Some (C.Increase 5) ∷ Some (C.Decrease 5) ∷ [])
      ≡ record { known = false; negative = false; tenths = 0 }
      ∷ record { known = true; negative = false; tenths = 5 }
      ∷ record { known = true; negative = true; tenths = 5 }
      ∷ []
