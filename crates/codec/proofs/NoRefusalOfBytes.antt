-- The numbers of the refusals of bytes, and the refusals that come after them; what no refusal says of bytes, and of the record that they are read as.
-- Assumes nothing.
use mathlib.Core.Path.{◌≡◌, refl}
use mathlib.Core.Bool.{false}
use mathlib.Core.List.{List, ◌++◌}
use Prim.Native.Nat.{ℕ, ◌≤◌}
use native.Mathlib.Omega.{arith}
use lib.Dec.{leb, eqb}
use lib.ListN.{length}
use borrow.Author.Tests.{eq-eqb, eqb-true, leb-true, not-false}
use Rattle.laws.specs.Choice.{pick}
use Rattle.laws.specs.Refusals.{Refusal, first, Each, Numbered}
use Rattle.laws.proofs.Tests.{both_true}
use Rattle.laws.proofs.FirstRefusal.{none_meets, first_append}
use Rattle.records.proofs.NoOwnRefusal.{Passes, each_own, passes, no_refusal as no-refusal-of}
use Rattle.records.specs.Refusals.{refusal_of_record}
use Rattle.records.specs.Forms.{Form}
use Rattle.codec.specs.Bytes.{bytes_number}
use Rattle.codec.specs.Reading.{raw_in, kind_in, refusals_of_record_number, refusals_of_bytes, refusal_of_bytes, record_of_bytes}

module _ (form : Form) where
  -- a number that no refusal meets: its kind, and what is read of it
  pub record Fine (n : ℕ) : Type 0 where
    pub low : 1 ≤ kind_in form n
    pub high : kind_in form n ≤ 4
    pub passed : Passes form.unit (raw_in form (kind_in form n) n).read (raw_in form (kind_in form n) n).badstatus (raw_in form (kind_in form n) n).spare

  each_of_number : (P : ℕ → Type 0) → P 2 → P 3 → P 4 → P 5 → (n : ℕ) → Each P (refusals_of_record_number form n)
  unfolding refusals_of_record_number
  each_of_number P two three four five n = let w = raw_in form (kind_in form n) n in (two, each_own form.unit P three four five w.read w.badstatus w.spare)

  -- what holds of 1 to 5 holds of the number of each refusal of bytes
  pub each_of_bytes : (P : ℕ → Type 0) → P 1 → P 2 → P 3 → P 4 → P 5 → (s : List ℕ) → Each P (refusals_of_bytes form s)
  unfolding refusals_of_bytes
  each_of_bytes P one two three four five s = (one, each_of_number P two three four five (bytes_number form s))

  pub bytes_numbered : (s : List ℕ) → Numbered (refusals_of_bytes form s)
  bytes_numbered = each_of_bytes (λ (n : ℕ). 1 ≤ n) (omega arith) (omega arith) (omega arith) (omega arith) (omega arith)

  -- the refusals of bytes before others
  pub after_reading : (s : List ℕ) (others : List Refusal) → first (refusals_of_bytes form s ++ others) ≡ pick (eqb (refusal_of_bytes form s) 0) (first others) (refusal_of_bytes form s)
  after_reading s others = first_append (refusals_of_bytes form s) others (bytes_numbered s)

  pub fine : (n : ℕ) → first (refusals_of_record_number form n) ≡ 0 → Fine n
  unfolding refusals_of_record_number
  fine n e =
      let w = raw_in form (kind_in form n) n in
      let known = ((none_meets (refusals_of_record_number form n) (each_of_number (λ (k : ℕ). 1 ≤ k) (omega arith) (omega arith) (omega arith) (omega arith) n)).0 e).0 in
      let k = both_true (leb 1 (kind_in form n)) (leb (kind_in form n) 4) (not-false _ known) in
      record { low = leb-true 1 (kind_in form n) k.0; high = leb-true (kind_in form n) 4 k.1; passed = passes form.unit w.read w.badstatus w.spare (rw known at e) }

  module _ (s : List ℕ) (e : refusal_of_bytes form s ≡ 0) where
    pub whole : length s ≡ form.record_length
    unfolding refusals_of_bytes
    whole = eqb-true (length s) form.record_length (not-false _ ((none_meets (refusals_of_bytes form s) (bytes_numbered s)).0 e).0)

    pub no_refusal : first (refusals_of_record_number form (bytes_number form s)) ≡ 0
    unfolding refusals_of_bytes
    no_refusal = rw (eq-eqb (length s) form.record_length whole) at e

    pub found_fine : refusal_of_record form.unit (record_of_bytes form s) ≡ 0
    unfolding record_of_bytes
    found_fine =
        let n = bytes_number form s in
        let p = (fine n no_refusal).passed in
        rw e
        (no-refusal-of form.unit (raw_in form (kind_in form n) n).read false false
        (record { date = p.date; lawful = refl; limits = p.limits; clear = refl; zeros = p.zeros }))
