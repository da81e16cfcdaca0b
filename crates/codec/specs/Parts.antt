-- Document 01, "Change in size, file and listing" and "Where a call stops", 13: a file of 1 to 4,000 records, in either form of document 02,
-- request 1.
-- Assumes nothing.
use Rattle.std.specs.Prelude.{◌≡◌, Bool, false, not, List, [], ◌∷◌, ◌++◌, ℕ, zero, suc, ◌*◌, ◌/◌, ◌%◌, ltb, eqb, length, take, drop}
use Rattle.laws.specs.Choice.{either}
use Rattle.records.specs.Forms.{Form}

abbrev pub most_records : ℕ
most_records = 4000

-- the parts one behind the other
abbrev pub joined : List (List ℕ) → List ℕ
joined [] = []
joined (part ∷ ps) = part ++ joined ps

module _ (form : Form) where
  -- 52,000 in the new form
  abbrev pub most_bytes : ℕ
  most_bytes = most_records * form.record_length

  -- 13: length 0, no multiple of a record's length, or too many records
  unfoldable pub bad_length : ℕ → Bool
  bad_length n = either (eqb n 0) (either (not (eqb (n % form.record_length) 0)) (ltb most_bytes n))

  -- the first n parts, each of a record's length
  abbrev pub parts : ℕ → List ℕ → List (List ℕ)
  parts zero s = []
  parts (suc n) s = take form.record_length s ∷ parts n (drop form.record_length s)

  abbrev pub parts_of : List ℕ → List (List ℕ)
  parts_of s = parts (length s / form.record_length) s

  abbrev pub AllWhole : List (List ℕ) → Type 0
  AllWhole [] = Unit {0}
  AllWhole (part ∷ ps) = (length part ≡ form.record_length) × AllWhole ps

  -- where 13 does not meet a file, each of its parts has a record's length, and joined they are the file; proved in proofs/PartsJoined.antt
  abbrev pub Cuts : Type 0
  Cuts = (s : List ℕ) → bad_length (length s) ≡ false → (joined (parts_of s) ≡ s) × AllWhole (parts_of s)
