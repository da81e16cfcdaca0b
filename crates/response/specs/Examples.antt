-- Document 01, the printed example and "Visit responses": whole answers at visits of the printed example's subject. Proved in proofs/AtTheEdges.antt.
-- Assumes nothing.
use Rattle.std.specs.Prelude.{Bool, true, false, None, Some, List, [], ◌∷◌, ℕ}
use Rattle.dates.specs.Laws.{ymd}
use Rattle.records.specs.Examples.{five_places}
use Rattle.records.specs.declared.Status.TheVariants as S
use Rattle.response_rules.specs.Inputs.{visit_of}
use Rattle.response_rules.specs.Examples.{printed}
use Rattle.response_rules.specs.declared.TargetAnswer.TheVariants as T
use Rattle.response_rules.specs.declared.OverallAnswer.TheVariants as O
use Rattle.response_rules.specs.declared.Change.TheVariants as C
use Rattle.response.specs.Judging.{JudgesVisit}
use Rattle.response.specs.declared.VisitAnswer.{VisitAnswer}

-- by the nadir so far, which of a target and a node were measured, and their sizes: non-target NN, no new lesion
abbrev pub answered : ℕ → List Bool → List ℕ → VisitAnswer → Type 0
answered nadir measured sizes =
    JudgesVisit printed (record { nadir = nadir })
    (visit_of (record { date = ymd 2020 2 12; status = S.NN; newlesion = false }) (five_places false measured) (five_places 0 sizes))

pub record JudgedVisits : Type 0 where
  -- days 43, 85 and 127
  pub day43 : answered 600 (true ∷ true ∷ []) (240 ∷ 120 ∷ [])
      (record { target = T.PR; overall = O.PR; change = Some (C.Decrease 400); after = record { nadir = 360 } })
  pub day85 : answered 360 (true ∷ true ∷ []) (0 ∷ 90 ∷ [])
      (record { target = T.CR; overall = O.PR; change = Some (C.Decrease 850); after = record { nadir = 90 } })
  pub day127 : answered 90 (true ∷ true ∷ []) (0 ∷ 150 ∷ [])
      (record { target = T.PD; overall = O.PD; change = Some (C.Decrease 750); after = record { nadir = 90 } })
  -- the node unmeasured; the target, which is no node, at 5.0 mm
  pub node_unmeasured : answered 360 (true ∷ []) (0 ∷ [])
      (record { target = T.NE; overall = O.NE; change = None; after = record { nadir = 360 } })
  pub other_left : answered 360 (true ∷ true ∷ []) (50 ∷ 90 ∷ [])
      (record { target = T.PR; overall = O.PR; change = Some (C.Decrease 767); after = record { nadir = 140 } })
