-- Document 01, "Change in size, file and listing" and "Where a call stops", 13: lengths of a file, and the bytes of its records. Proved in
-- proofs/AtTheEdges.antt.
-- Assumes nothing.
use Rattle.std.specs.Prelude.{◌≡◌, true, false, List, [], ◌∷◌, ◌++◌, ℕ}
use Rattle.records.specs.Examples.{filled}
use Rattle.records.specs.Forms.{old_form, new_form}
use Rattle.codec.specs.Parts.{bad_length, parts_of, joined}

-- length 0, no multiple of 13, or over 52,000
pub record LengthsAtTheEdges : Type 0 where
  pub nothing : bad_length new_form 0 ≡ true
  pub twelve_bytes : bad_length new_form 12 ≡ true
  pub one_record : bad_length new_form 13 ≡ false
  pub one_byte_more : bad_length new_form 14 ≡ true
  pub two_records : bad_length new_form 26 ≡ false
  pub most_records : bad_length new_form 52000 ≡ false
  pub most_and_abyte : bad_length new_form 52001 ≡ true
  pub most_and_arecord : bad_length new_form 52013 ≡ true

-- two records, each byte another
abbrev pub one_to_twenty_six : List ℕ
one_to_twenty_six = 1 ∷ 2 ∷ 3 ∷ 4 ∷ 5 ∷ 6 ∷ 7 ∷ 8 ∷ 9 ∷ 10 ∷ 11 ∷ 12 ∷ 13 ∷ 14 ∷ 15 ∷ 16 ∷ 17 ∷ 18 ∷ 19 ∷ 20 ∷ 21 ∷ 22 ∷ 23 ∷ 24 ∷ 25 ∷ 26 ∷ []

abbrev pub two_parts : List (List ℕ)
two_parts = (1 ∷ 2 ∷ 3 ∷ 4 ∷ 5 ∷ 6 ∷ 7 ∷ 8 ∷ 9 ∷ 10 ∷ 11 ∷ 12 ∷ 13 ∷ []) ∷ (14 ∷ 15 ∷ 16 ∷ 17 ∷ 18 ∷ 19 ∷ 20 ∷ 21 ∷ 22 ∷ 23 ∷ 24 ∷ 25 ∷ 26 ∷ []) ∷ []

-- two parts, in their order, and nothing of twelve bytes behind them
pub record CutAtTheEdges : Type 0 where
  pub two_records : parts_of new_form one_to_twenty_six ≡ two_parts
  pub twelve_bytes_more : parts_of new_form (one_to_twenty_six ++ (27 ∷ 28 ∷ 29 ∷ 30 ∷ 31 ∷ 32 ∷ 33 ∷ 34 ∷ 35 ∷ 36 ∷ 37 ∷ 38 ∷ [])) ≡ two_parts
  pub joined_in_order : joined ((1 ∷ 2 ∷ []) ∷ (3 ∷ []) ∷ (4 ∷ 5 ∷ []) ∷ []) ≡ 1 ∷ 2 ∷ 3 ∷ 4 ∷ 5 ∷ []

-- the old form: no multiple of 11, or over 44,000
pub record OldLengths : Type 0 where
  pub nothing : bad_length old_form 0 ≡ true
  pub ten_bytes : bad_length old_form 10 ≡ true
  pub one_record : bad_length old_form 11 ≡ false
  pub thirteen_bytes : bad_length old_form 13 ≡ true
  pub most_records : bad_length old_form 44000 ≡ false
  pub most_and_arecord : bad_length old_form 44011 ≡ true
  pub no_record : parts_of old_form (filled 7 10 []) ≡ []
  pub two_records : parts_of old_form (1 ∷ 2 ∷ 3 ∷ 4 ∷ 5 ∷ 6 ∷ 7 ∷ 8 ∷ 9 ∷ 10 ∷ 11 ∷ 12 ∷ 13 ∷ 14 ∷ 15 ∷ 16 ∷ 17 ∷ 18 ∷ 19 ∷ 20 ∷ 21 ∷ 22 ∷ []) ≡ (1 ∷ 2 ∷ 3 ∷ 4 ∷ 5 ∷ 6 ∷ 7 ∷ 8 ∷ 9 ∷ 10 ∷ 11 ∷ []) ∷ (12 ∷ 13 ∷ 14 ∷ 15 ∷ 16 ∷ 17 ∷ 18 ∷ 19 ∷ 20 ∷ 21 ∷ 22 ∷ []) ∷ []
