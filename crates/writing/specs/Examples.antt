-- Document 01, "Where a call stops", writing, with the length of document 02, request 1: 6 comes behind 3 to 5, and their numbers, proved in
-- proofs/AtTheEdges.antt; and the output at exit, proved in proofs/WorkedExamples.antt.
-- Assumes nothing.
use Rattle.std.specs.Prelude.{◌≡◌, true, false, List, [], ◌∷◌, ◌++◌, map, ℕ, Ok, Err}
use Rattle.dates.specs.Laws.{ymd}
use Rattle.records.specs.Examples.{filled, visit_dated, therapy_dated}
use Rattle.records.specs.declared.OwnRefusal.TheVariants as O
use Rattle.records.specs.declared.Status.TheVariants as S
use Rattle.codec.specs.Examples.{thirteen, five_targets, five_targets_bytes}
use Rattle.writing.specs.Writing.{write_number, refusal_of_writing, output_of}
use Rattle.writing.specs.declared.WriteRefusal.TheVariants as W

-- 3 to 5; after those, 6 output under 13 bytes
pub record FirstRefusals : Type 0 where
  pub bad_into_short : refusal_of_writing (therapy_dated (ymd 2021 2 29)) [] ≡ 3
  pub into_twelve : refusal_of_writing (therapy_dated (ymd 2020 2 20)) (filled 0 12 []) ≡ 6
  pub into_thirteen : refusal_of_writing (therapy_dated (ymd 2020 2 20)) (thirteen []) ≡ 0
  -- 4: sizes of 500.0 and of 500.1 mm
  pub sizes : map (λ (n : ℕ). refusal_of_writing (visit_dated (ymd 2020 2 12) S.NN false (true ∷ []) (n ∷ [])) (thirteen [])) (5000 ∷ 5001 ∷ []) ≡ 0 ∷ 4 ∷ []
  pub numbers : map write_number (Ok tt ∷ Err (W.Own O.NotZero) ∷ Err W.ShortOutput ∷ []) ≡ 0 ∷ 5 ∷ 6 ∷ []

-- the bytes 1 to 13
abbrev pub one_to_thirteen : List ℕ
one_to_thirteen = 1 ∷ 2 ∷ 3 ∷ 4 ∷ 5 ∷ 6 ∷ 7 ∷ 8 ∷ 9 ∷ 10 ∷ 11 ∷ 12 ∷ 13 ∷ []

-- output past 13 bytes is untouched, and all of it where a refusal meets
pub record Outputs : Type 0 where
  pub into_thirteen : output_of five_targets one_to_thirteen ≡ five_targets_bytes
  pub into_fifteen : output_of five_targets (one_to_thirteen ++ (14 ∷ 15 ∷ [])) ≡ five_targets_bytes ++ (14 ∷ 15 ∷ [])
  pub too_short : output_of five_targets (1 ∷ 2 ∷ []) ≡ 1 ∷ 2 ∷ []
  pub bad_record : output_of (therapy_dated (ymd 2021 2 29)) one_to_thirteen ≡ one_to_thirteen
