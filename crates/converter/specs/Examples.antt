-- Document 02, request 1: old files, their verdicts, listings and conversions, and what is left of the output. Proved in proofs/AtTheEdges.antt.
-- Assumes nothing.
use Rattle.std.specs.Prelude.{◌≡◌, List, [], ◌∷◌, ◌++◌, map, ℕ, Ok, Err}
use Rattle.records.specs.Forms.{old_form, new_form}
use Rattle.records.specs.Examples.{filled}
use Rattle.codec.specs.Examples.{old_baseline_bytes}
use Rattle.file.specs.Verdict as F
use Rattle.file.specs.Examples.{printed_file, printed_outcome}
use Rattle.listing_text.specs.Text.{listing_of}
use Rattle.converter.specs.Judging.{number_behind}
use Rattle.converter.specs.Conversion.{refused, written, converted, conversion_of, output_of, conversion_values}

-- an old record's bytes, the first of them as given
abbrev pub eleven : List ℕ → List ℕ
eleven first = filled 0 11 first

-- the printed example in the old form: 2020-01-01 (40 and 20 mm), 02-12 (24, 12), 03-25 (0, 9) and 05-06 (0, 15)
abbrev pub old_printed_file : List ℕ
old_printed_file =
    old_baseline_bytes
    ++ (eleven (0x4F ∷ 0xC8 ∷ 0x4C ∷ 0x48 ∷ 0x31 ∷ 0x03 ∷ [])
    ++ (eleven (0x4F ∷ 0xC8 ∷ 0x79 ∷ 0x48 ∷ 0x01 ∷ 0x02 ∷ 0x40 ∷ [])
    ++ eleven (0x4F ∷ 0xC8 ∷ 0xA6 ∷ 0x48 ∷ 0x01 ∷ 0x03 ∷ 0xC0 ∷ [])))

-- a therapy of 2020-01-01
abbrev pub old_therapy : List ℕ
old_therapy = eleven (0x6F ∷ 0xC8 ∷ 0x21 ∷ [])

pub record OldFiles : Type 0 where
  -- the two readings, each by its own form
  pub verdict : F.verdict_of old_form old_printed_file ≡ F.accepted printed_outcome
  pub listing : listing_of old_form old_printed_file ≡ listing_of new_form printed_file
  -- 13 by 11 bytes; 2, 7 and 8 with their index
  pub thirteen_bytes : F.verdict_of old_form (old_baseline_bytes ++ (0 ∷ 0 ∷ [])) ≡ F.refused 13 0
  pub kind0 : F.verdict_of old_form (old_baseline_bytes ++ eleven []) ≡ F.refused 2 1
  pub therapy_first : F.verdict_of old_form old_therapy ≡ F.refused 7 0
  pub second_baseline : F.verdict_of old_form (old_baseline_bytes ++ old_baseline_bytes) ≡ F.refused 8 1
  -- the number of opening, here 7, where reading refuses nothing, and else reading's: no bytes, a therapy of 13 bytes, and a kind that is none
  pub reading_first : map (λ (part : List ℕ). number_behind part 7) (old_therapy ∷ [] ∷ filled 0 13 (0x6F ∷ 0xC8 ∷ 0x21 ∷ []) ∷ eleven [] ∷ []) ≡ 7 ∷ 1 ∷ 1 ∷ 2 ∷ []

pub record ConversionsAtTheEdges : Type 0 where
  -- each size times ten, in the new form
  pub printed : converted old_printed_file ≡ printed_file
  -- room for exactly the file; 6 with index 0 below that, behind the refusals of the old file
  pub room : conversion_of old_printed_file (filled 7 52 []) ≡ written 52
  pub too_short : conversion_of old_printed_file (filled 7 51 []) ≡ refused 6 0
  pub seven : conversion_of old_therapy [] ≡ refused 7 0
  pub thirteen : conversion_of (old_baseline_bytes ++ (0 ∷ 0 ∷ [])) [] ≡ refused 13 0
  pub eight : conversion_of (old_baseline_bytes ++ old_baseline_bytes) [] ≡ refused 8 1
  -- bytes past what is written are untouched, and all of them where refused
  pub past : output_of old_printed_file (filled 7 55 []) ≡ printed_file ++ (7 ∷ 7 ∷ 7 ∷ [])
  pub left : output_of old_printed_file (filled 7 51 []) ≡ filled 7 51 []
  pub left_of_refused : output_of old_therapy (filled 7 13 []) ≡ filled 7 13 []
  pub left_of_late : output_of (old_baseline_bytes ++ old_baseline_bytes) (filled 7 27 []) ≡ filled 7 27 []
  -- the values of the declared cases
  pub values : map conversion_values (Ok 52 ∷ Err (record { number = 9; index = 10 }) ∷ []) ≡ written 52 ∷ refused 9 10 ∷ []
