-- Document 01, "Change in size, file and listing": the lines and the listing of the printed example, and lines at the edges. Proved in
-- proofs/AtTheEdges.antt.
-- Assumes nothing.
use Rattle.std.specs.Prelude.{◌≡◌, true, false, [], ◌∷◌, ◌++◌}
use Rattle.response_rules.specs.Words.{CR, PR, SD, PD, NE, NA, NN}
use Rattle.response_rules.specs.Change.{none, signed}
use Rattle.outcome_rules.specs.Values.{CENSORED, censored, no_duration, for_days, Outcome}
use Rattle.outcome_rules.specs.StudyRecords.{baseline}
use Rattle.outcome_rules.specs.VisitLines.{VisitLine}
use Rattle.outcome_rules.specs.StarredExamples.{with_node}
use Rattle.outcome_rules.specs.FurtherExamples.{visit43, visit85, visit127}
use Rattle.codec.specs.Examples.{thirteen}
use Rattle.file.specs.Verdict as F
use Rattle.file.specs.Examples.{printed_file, printed_outcome}
use Rattle.listing_text.specs.Text.{change_text, visit_text, best_text, duration_text, settled_text, outcome_text, refusal_text, listing_text, listing_of, page_of}
use Rattle.records.specs.Forms.{new_form}

-- V 43 PR NN PR -40.0 and V 127 PD NN PD -75.0
abbrev first_visit : VisitLine
first_visit = record { day = 43; target = PR; nontarget = NN; overall = PR; change = signed true 400 }

abbrev last_visit : VisitLine
last_visit = record { day = 127; target = PD; nontarget = NN; overall = PD; change = signed true 750 }

-- V 85 CR NN PR -85.0
abbrev second_visit : VisitLine
second_visit = record { day = 85; target = CR; nontarget = NN; overall = PR; change = signed true 850 }

abbrev other_words : VisitLine
other_words = record { day = 7; target = NA; nontarget = NE; overall = SD; change = none }

-- SD 43, therapy 50; PR 43, PR 85, therapy 90; a baseline alone
abbrev after_stable : Outcome
after_stable =
    record { pfs = censored 43; best = SD; duration = no_duration; pfs_settled = false; best_settled = true; duration_settled = true }

abbrev after_response : Outcome
after_response =
    record { pfs = censored 85; best = PR; duration = for_days CENSORED 43; pfs_settled = false; best_settled = true; duration_settled = false }

abbrev baseline_alone : Outcome
baseline_alone =
    record { pfs = censored 1; best = NE; duration = no_duration; pfs_settled = false; best_settled = false; duration_settled = false }

pub record LinesAtTheEdges : Type 0 where
  pub first : visit_text first_visit ≡ 86 ∷ 32 ∷ 52 ∷ 51 ∷ 32 ∷ 80 ∷ 82 ∷ 32 ∷ 78 ∷ 78 ∷ 32 ∷ 80 ∷ 82 ∷ 32 ∷ 45 ∷ 52 ∷ 48 ∷ 46 ∷ 48 ∷ 10 ∷ []
  pub last : visit_text last_visit
      ≡ 86 ∷ 32 ∷ 49 ∷ 50 ∷ 55 ∷ 32 ∷ 80 ∷ 68 ∷ 32 ∷ 78 ∷ 78 ∷ 32 ∷ 80 ∷ 68 ∷ 32 ∷ 45 ∷ 55 ∷ 53 ∷ 46 ∷ 48 ∷ 10 ∷ []
  -- P EVENT 127, B PR, D EVENT 85, S 1 1 1
  pub outcome : outcome_text printed_outcome
      ≡ 80 ∷ 32 ∷ 69 ∷ 86 ∷ 69 ∷ 78 ∷ 84 ∷ 32 ∷ 49 ∷ 50 ∷ 55 ∷ 10
      ∷ 66 ∷ 32 ∷ 80 ∷ 82 ∷ 10
      ∷ 68 ∷ 32 ∷ 69 ∷ 86 ∷ 69 ∷ 78 ∷ 84 ∷ 32 ∷ 56 ∷ 53 ∷ 10
      ∷ 83 ∷ 32 ∷ 49 ∷ 32 ∷ 49 ∷ 32 ∷ 49 ∷ 10 ∷ []
  -- settled marks of PFS, best, duration, each another: P CENSORED 43, B SD, D none, S 0 1 1
  pub stable : outcome_text after_stable
      ≡ 80 ∷ 32 ∷ 67 ∷ 69 ∷ 78 ∷ 83 ∷ 79 ∷ 82 ∷ 69 ∷ 68 ∷ 32 ∷ 52 ∷ 51 ∷ 10
      ∷ 66 ∷ 32 ∷ 83 ∷ 68 ∷ 10
      ∷ 68 ∷ 32 ∷ 110 ∷ 111 ∷ 110 ∷ 101 ∷ 10
      ∷ 83 ∷ 32 ∷ 48 ∷ 32 ∷ 49 ∷ 32 ∷ 49 ∷ 10 ∷ []
  -- P CENSORED 85, B PR, D CENSORED 43, S 0 1 0
  pub response : outcome_text after_response
      ≡ 80 ∷ 32 ∷ 67 ∷ 69 ∷ 78 ∷ 83 ∷ 79 ∷ 82 ∷ 69 ∷ 68 ∷ 32 ∷ 56 ∷ 53 ∷ 10
      ∷ 66 ∷ 32 ∷ 80 ∷ 82 ∷ 10
      ∷ 68 ∷ 32 ∷ 67 ∷ 69 ∷ 78 ∷ 83 ∷ 79 ∷ 82 ∷ 69 ∷ 68 ∷ 32 ∷ 52 ∷ 51 ∷ 10
      ∷ 83 ∷ 32 ∷ 48 ∷ 32 ∷ 49 ∷ 32 ∷ 48 ∷ 10 ∷ []
  -- P CENSORED 1, B NE, D none, S 0 0 0
  pub nothing : outcome_text baseline_alone
      ≡ 80 ∷ 32 ∷ 67 ∷ 69 ∷ 78 ∷ 83 ∷ 79 ∷ 82 ∷ 69 ∷ 68 ∷ 32 ∷ 49 ∷ 10
      ∷ 66 ∷ 32 ∷ 78 ∷ 69 ∷ 10
      ∷ 68 ∷ 32 ∷ 110 ∷ 111 ∷ 110 ∷ 101 ∷ 10
      ∷ 83 ∷ 32 ∷ 48 ∷ 32 ∷ 48 ∷ 32 ∷ 48 ∷ 10 ∷ []
  -- V 7 NA NE SD - and B CR, for the other words
  pub words : visit_text other_words ≡ 86 ∷ 32 ∷ 55 ∷ 32 ∷ 78 ∷ 65 ∷ 32 ∷ 78 ∷ 69 ∷ 32 ∷ 83 ∷ 68 ∷ 32 ∷ 45 ∷ 10 ∷ []
  pub complete : best_text CR ≡ 66 ∷ 32 ∷ 67 ∷ 82 ∷ 10 ∷ []
  -- D CENSORED 29, D none, S 0 1 0
  pub censored : duration_text (for_days CENSORED 29) ≡ 68 ∷ 32 ∷ 67 ∷ 69 ∷ 78 ∷ 83 ∷ 79 ∷ 82 ∷ 69 ∷ 68 ∷ 32 ∷ 50 ∷ 57 ∷ 10 ∷ []
  pub no_days : duration_text no_duration ≡ 68 ∷ 32 ∷ 110 ∷ 111 ∷ 110 ∷ 101 ∷ 10 ∷ []
  pub best_alone : settled_text false true false ≡ 83 ∷ 32 ∷ 48 ∷ 32 ∷ 49 ∷ 32 ∷ 48 ∷ 10 ∷ []
  -- no plus sign, `-` if none, zero is 0.0: 0.5, -0.5, 0.0, -
  pub upwards : change_text (signed false 5) ≡ 48 ∷ 46 ∷ 53 ∷ []
  pub downwards : change_text (signed true 5) ≡ 45 ∷ 48 ∷ 46 ∷ 53 ∷ []
  pub zero : change_text (signed false 0) ≡ 48 ∷ 46 ∷ 48 ∷ []
  pub absent : change_text none ≡ 45 ∷ []
  -- the visits' lines in the order recorded, and behind them the outcome's; a refused file prints only R
  pub accepted : listing_text (F.accepted printed_outcome) (baseline with_node ∷ visit43 ∷ visit85 ∷ visit127 ∷ [])
      ≡ visit_text first_visit ++ (visit_text second_visit ++ (visit_text last_visit ++ outcome_text printed_outcome))
  pub stopped : listing_text (F.refused 11 1) (baseline with_node ∷ visit43 ∷ []) ≡ refusal_text 11 1
  -- prints just
  pub listing : listing_of new_form printed_file ≡ visit_text first_visit ++ (visit_text second_visit ++ (visit_text last_visit ++ outcome_text printed_outcome))
  -- R 13 0 and R 9 10: no zero in front
  pub refused : refusal_text 13 0 ≡ 82 ∷ 32 ∷ 49 ∷ 51 ∷ 32 ∷ 48 ∷ 10 ∷ []
  pub index10 : refusal_text 9 10 ≡ 82 ∷ 32 ∷ 57 ∷ 32 ∷ 49 ∷ 48 ∷ 10 ∷ []
  -- R 2 0, the listing of 13 bytes of kind 0, into a page of the bytes 1 to 11
  pub page : page_of (thirteen []) (1 ∷ 2 ∷ 3 ∷ 4 ∷ 5 ∷ 6 ∷ 7 ∷ 8 ∷ 9 ∷ 10 ∷ 11 ∷ []) ≡ 82 ∷ 32 ∷ 50 ∷ 32 ∷ 48 ∷ 10 ∷ 7 ∷ 8 ∷ 9 ∷ 10 ∷ 11 ∷ []
