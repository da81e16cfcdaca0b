-- Document 01, "Examples at the edges": the starred ones as one list, each a question on a list of records with the paper's answer; proved in
-- proofs/AtTheEdges.antt.
-- Assumes nothing.
use Rattle.std.specs.Prelude.{◌≡◌, Bool, true, false, List, [], ◌∷◌, map, reverse, ℕ, length}
use Rattle.laws.specs.Choice.{both}
use Rattle.records.specs.declared.Status.{Status}
use Rattle.records.specs.declared.Status.TheVariants as S
use Rattle.records.specs.Examples.{five_places}
use Rattle.records.specs.Forms.{new_unit}
use Rattle.response_rules.specs.Words.{Word, CR, PR, SD, PD, NE}
use Rattle.response_rules.specs.OverallAnswer.{is_pd}
use Rattle.response_rules.specs.VisitAnswers.{target_answer_after}
use Rattle.response_rules.specs.Examples.{marked}
use Rattle.outcome_rules.specs.Values.{Pfs, event, censored, Duration, no_duration}
use Rattle.outcome_rules.specs.StudyRecords.{Baseline, StudyRecord, baseline, visit, therapy, death, disease, all_pass}
use Rattle.outcome_rules.specs.LawfulLists.{Past, lawful}
use Rattle.outcome_rules.specs.Course.{visits_of, Judged, course, visits_in}
use Rattle.outcome_rules.specs.BestResponse.{is_cr}
use Rattle.outcome_rules.specs.Settled.{outcome}

-- an assessed baseline: non-target disease or not, which targets are nodes, and the targets' sizes
abbrev pub with_targets : Bool → List Bool → List ℕ → Baseline
with_targets nontarget nodes sizes =
    record { unit = new_unit; assessed = true; nontarget = nontarget; count = length sizes; nodes = five_places false nodes; sizes = five_places 0 sizes }

-- one target of 100 mm and no other disease
abbrev pub one_target : Baseline
one_target = with_targets false [] (1000 ∷ [])

-- a target of 40 mm, a node of 20 mm and non-target disease
abbrev pub with_node : Baseline
with_node = with_targets true (false ∷ true ∷ []) (400 ∷ 200 ∷ [])

abbrev pub no_targets : Baseline
no_targets = with_targets true [] []

abbrev pub missing : Baseline
missing =
    record { unit = new_unit; assessed = false; nontarget = false; count = 0; nodes = five_places false []; sizes = five_places 0 [] }

-- a visit on a day: non-target status, new lesion, and the sizes of the first targets; the others are not measured
abbrev pub visit_on : ℕ → Status → Bool → List ℕ → StudyRecord
visit_on d s new sizes =
    visit d
    (record {
      status = s;
      new_lesion = new;
      measured = five_places false (marked sizes);
      sizes = five_places 0 sizes;
    })

-- without non-target lesions: one target measured, and none
abbrev pub measuring : ℕ → ℕ → StudyRecord
measuring d n = visit_on d S.NA false (n ∷ [])

abbrev pub unmeasured : ℕ → StudyRecord
unmeasured d = visit_on d S.NA false []

-- what document 01 answers in an example
pub data ExampleAnswer : Type 0 where
  target : Word → ExampleAnswer
  is : Bool → ExampleAnswer
  pfs_is : Pfs → ExampleAnswer
  best_is : Word → ExampleAnswer
  duration_is : Duration → ExampleAnswer

-- the target answer of the last visit; NE where there is no visit
abbrev pub last_target : Baseline → Past → Word
last_target b [] = NE
last_target b (baseline x ∷ p) = last_target b p
last_target b (visit d v ∷ p) = target_answer_after b.unit (disease b) (visits_of p) v
last_target b (therapy d ∷ p) = last_target b p
last_target b (death d ∷ p) = last_target b p

abbrev pub target_of : Baseline → Past → ExampleAnswer
target_of b p = target (last_target b p)

abbrev pub target_pd : Baseline → Past → ExampleAnswer
target_pd b p = is (is_pd (last_target b p))

abbrev pub target_cr : Baseline → Past → ExampleAnswer
target_cr b p = is (is_cr (last_target b p))

abbrev pub pfs_of_list : Baseline → Past → ExampleAnswer
pfs_of_list b p = pfs_is (outcome b p).pfs

abbrev pub best_of_list : Baseline → Past → ExampleAnswer
best_of_list b p = best_is (outcome b p).best

abbrev pub duration_of_list : Baseline → Past → ExampleAnswer
duration_of_list b p = duration_is (outcome b p).duration

abbrev pub pfs_settled_of_list : Baseline → Past → ExampleAnswer
pfs_settled_of_list b p = is (outcome b p).pfs_settled

abbrev pub best_settled_of_list : Baseline → Past → ExampleAnswer
best_settled_of_list b p = is (outcome b p).best_settled

abbrev pub duration_settled_of_list : Baseline → Past → ExampleAnswer
duration_settled_of_list b p = is (outcome b p).duration_settled

-- a baseline, the records behind it and the overall answers of its visits in the order recorded, the question, and the paper's answer
pub record Example : Type 0 where
  pub opening : Baseline
  pub behind : List StudyRecord
  pub visits : List Word
  pub question : Baseline → Past → ExampleAnswer
  pub paper : ExampleAnswer

abbrev pub example : Baseline → List StudyRecord → List Word → (Baseline → Past → ExampleAnswer) → ExampleAnswer → Example
example b rs ws f a = record { opening = b; behind = rs; visits = ws; question = f; paper = a }

-- 15: PR 43, therapy 50, PR 85, PD 127
abbrev pub after_therapy : (Baseline → Past → ExampleAnswer) → ExampleAnswer → Example
after_therapy = example one_target (measuring 43 600 ∷ therapy 50 ∷ measuring 85 600 ∷ measuring 127 2000 ∷ []) (PR ∷ PR ∷ PD ∷ [])

-- sizes are ten times those that document 01 prints, in tenths of a millimetre (document 02, request 1)
unfoldable pub starred : List Example
starred =
    -- 1: baseline sum 100, sum 70 PR, 71 SD
    example one_target (measuring 43 700 ∷ []) (PR ∷ []) target_of (target PR)
    ∷ example one_target (measuring 43 710 ∷ []) (SD ∷ []) target_of (target SD)
    -- 2: nadir 20, 24 no PD, 25 PD
    ∷ example one_target (measuring 43 200 ∷ measuring 85 240 ∷ []) (PR ∷ PR ∷ []) target_pd (is false)
    ∷ example one_target (measuring 43 200 ∷ measuring 85 250 ∷ []) (PR ∷ PD ∷ []) target_pd (is true)
    -- 3: nadir 50, 59 no PD, 60 PD
    ∷ example one_target (measuring 43 500 ∷ measuring 85 590 ∷ []) (PR ∷ PR ∷ []) target_pd (is false)
    ∷ example one_target (measuring 43 500 ∷ measuring 85 600 ∷ []) (PR ∷ PD ∷ []) target_pd (is true)
    -- 4: node 9, rest 0, CR; node 10 not
    ∷ example with_node (visit_on 43 S.CR false (0 ∷ 90 ∷ []) ∷ []) (CR ∷ []) target_cr (is true)
    ∷ example with_node (visit_on 43 S.CR false (0 ∷ 100 ∷ []) ∷ []) (PR ∷ []) target_cr (is false)
    -- 5: SD 119, PD 217 event, PD 218 censored 119
    ∷ example one_target (measuring 119 900 ∷ measuring 217 2000 ∷ []) (SD ∷ PD ∷ []) pfs_of_list (pfs_is (event 217))
    ∷ example one_target (measuring 119 900 ∷ measuring 218 2000 ∷ []) (SD ∷ PD ∷ []) pfs_of_list (pfs_is (censored 119))
    -- 6: SD 120, PD 232 event, 233 censored 120
    ∷ example one_target (measuring 120 900 ∷ measuring 232 2000 ∷ []) (SD ∷ PD ∷ []) pfs_of_list (pfs_is (event 232))
    ∷ example one_target (measuring 120 900 ∷ measuring 233 2000 ∷ []) (SD ∷ PD ∷ []) pfs_of_list (pfs_is (censored 120))
    -- 8: no visits, death day 92 event, 93 censored 1
    ∷ example one_target (death 92 ∷ []) [] pfs_of_list (pfs_is (event 92))
    ∷ example one_target (death 93 ∷ []) [] pfs_of_list (pfs_is (censored 1))
    -- 9: NE day 43, PD 141 event, 142 censored 1
    ∷ example one_target (unmeasured 43 ∷ measuring 141 2000 ∷ []) (NE ∷ PD ∷ []) pfs_of_list (pfs_is (event 141))
    ∷ example one_target (unmeasured 43 ∷ measuring 142 2000 ∷ []) (NE ∷ PD ∷ []) pfs_of_list (pfs_is (censored 1))
    -- 10: CR 43, CR 70 best SD, CR 71 CR
    ∷ example one_target (measuring 43 0 ∷ measuring 70 0 ∷ []) (CR ∷ CR ∷ []) best_of_list (best_is SD)
    ∷ example one_target (measuring 43 0 ∷ measuring 71 0 ∷ []) (CR ∷ CR ∷ []) best_of_list (best_is CR)
    -- 12: baseline missing, therapy day 92, PFS open; 93 settled
    ∷ example missing (therapy 92 ∷ []) [] pfs_settled_of_list (is false)
    ∷ example missing (therapy 93 ∷ []) [] pfs_settled_of_list (is true)
    -- 13: CR 43, PR 85 (target CR, non-target NE), CR 127, best PR
    ∷ example with_node (visit_on 43 S.CR false (0 ∷ 90 ∷ []) ∷ visit_on 85 S.NE false (0 ∷ 90 ∷ []) ∷ []) (CR ∷ PR ∷ []) target_cr (is true)
    ∷ example with_node (visit_on 43 S.CR false (0 ∷ 90 ∷ []) ∷ visit_on 85 S.NE false (0 ∷ 90 ∷ []) ∷ visit_on 127 S.CR false (0 ∷ 90 ∷ []) ∷ []) (CR ∷ PR ∷ CR ∷ []) best_of_list (best_is PR)
    -- 15: PFS event 127, best SD, no duration
    ∷ after_therapy pfs_of_list (pfs_is (event 127))
    ∷ after_therapy best_of_list (best_is SD)
    ∷ after_therapy duration_of_list (duration_is no_duration)
    ∷ []

-- the list is lawful, and neither 4 nor 5 meets its records
abbrev pub lawful_and_passing : List Example → Bool
lawful_and_passing [] = true
lawful_and_passing (e ∷ es) =
    both (both (lawful (baseline e.opening ∷ e.behind)) (all_pass new_unit (baseline e.opening ∷ e.behind))) (lawful_and_passing es)

abbrev pub overall_answers : Example → List Word
overall_answers e = map (λ (j : Judged). j.answer) (reverse (visits_in (course e.opening (reverse e.behind))))

abbrev pub answer_of : Example → ExampleAnswer
answer_of e = e.question e.opening (reverse e.behind)

-- every list is lawful, its visits have the overall answers given, and the question has the paper's answer
pub record Hold (es : List Example) : Type 0 where
  pub lists : lawful_and_passing es ≡ true
  pub visits : map overall_answers es ≡ map (λ (e : Example). e.visits) es
  pub answers : map answer_of es ≡ map (λ (e : Example). e.paper) es
