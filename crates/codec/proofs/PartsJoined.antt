-- Where 13 does not meet a file, each of its parts has a record's length, and joined they are the file.
-- Assumes nothing.
use mathlib.Core.Path.{◌≡◌, refl, sym, ◌∙◌, ap}
use mathlib.Core.Bool.{false, not}
use mathlib.Core.List.{List, [], ◌∷◌, ◌++◌}
use Prim.Native.Nat.{ℕ, zero, suc, ◌+◌, ◌-◌, ◌*◌, ◌/◌, ◌%◌, ◌≤◌, ◌<◌}
use native.Mathlib.Nat.{zero-mul, suc-mul, one-mul, add-mul, add-sub_cancel, add-sub_cancel_left, le-add_left, dvd_of_mod-eq-zero, div-mul_cancel}
use native.Mathlib.Omega.{arith}
use lib.Dec.{eqb}
use borrow.Author.Tests.{eqb-true, eqb-false, ltb-false, not-false}
use lib.ListN.{length, take, drop, take-append-drop, length-drop}
use lib.Seq.{length-take-le, drop-drop}
use Rattle.laws.proofs.Tests.{either_false}
use Rattle.records.specs.Forms.{Form}
use Rattle.codec.specs.Parts.{most_bytes, bad_length, parts, joined, AllWhole, Cuts}

module _ (form : Form) where
  abbrev size : ℕ
  size = form.record_length

  -- the bytes of part k, as a part of a slice has them, and the parts from k on, of count in all
  abbrev pub part_at : List ℕ → ℕ → List ℕ
  part_at l k = take (k * size + size - k * size) (drop (k * size) l)

  abbrev pub parts_from : List ℕ → ℕ → ℕ → List (List ℕ)
  parts_from l count k = parts form (count - k) (drop (k * size) l)

  one_more_size : (k : ℕ) → (k + 1) * size ≡ k * size + size
  one_more_size k = add-mul k 1 size ∙ ap (λ (n : ℕ). k * size + n) (one-mul size)

  pub one_more : (l : List ℕ) (count k : ℕ) → k < count → parts_from l count k ≡ part_at l k ∷ parts_from l count (k + 1)
  one_more l count k h =
      let e : count - k ≡ suc (count - (k + 1)) = omega arith in
      rw (e, add-sub_cancel_left (k * size) size)
      (ap (λ (m : List ℕ). take size (drop (k * size) l) ∷ parts form (count - (k + 1)) m)
      (drop-drop size (k * size) l ∙ ap (λ (j : ℕ). drop j l) (sym (one_more_size k))))

  -- what 13 leaves
  pub fair_length : (n : ℕ) → bad_length form n ≡ false → (1 ≤ n) × (n % size ≡ 0) × (n ≤ most_bytes form)
  unfolding bad_length
  fair_length n e =
      let some = either_false (eqb n 0) _ e in
      let rest = either_false (not (eqb (n % size) 0)) _ some.1 in
      let h = eqb-false n 0 some.0 in
      (omega arith, eqb-true (n % size) 0 (not-false (eqb (n % size) 0) rest.0), ltb-false (most_bytes form) n rest.1)

  whole_parts : (n : ℕ) → n % size ≡ 0 → n / size * size ≡ n
  whole_parts n e = div-mul_cancel size (dvd_of_mod-eq-zero size e)

  pub one_part : (s : List ℕ) → bad_length form (length s) ≡ false → length s / size ≡ suc (length s / size - 1)
  one_part s fair = let h = fair_length (length s) fair in go (length s / size) (whole_parts (length s) h.1) h.0
    where
      go : (q : ℕ) → q * size ≡ length s → 1 ≤ length s → q ≡ suc (q - 1)
      go zero e h = absurd (let z : length s ≡ 0 = sym e ∙ zero-mul size in let f : ⊥ = omega arith in f)
      go (suc q) e h = omega arith

  -- n parts of the bytes of n records
  cut_parts : (n : ℕ) (s : List ℕ) → length s ≡ n * size → (joined (parts form n s) ≡ s) × AllWhole form (parts form n s)
  cut_parts zero [] e = (refl, tt)
  cut_parts zero (b ∷ s) e = absurd (let f : ⊥ = omega arith in f)
  cut_parts (suc n) s e =
      let longer : length s ≡ n * size + size = e ∙ suc-mul n size in
      let rest = cut_parts n (drop size s) (simp length-drop (rw longer (add-sub_cancel (n * size) size))) in
      (ap (λ (l : List ℕ). take size s ++ l) rest.0 ∙ take-append-drop size s, (length-take-le size s (rw longer (le-add_left size (n * size))), rest.1))

  pub cut : Cuts form
  cut s fair = cut_parts (length s / size) s (sym (whole_parts (length s) (fair_length (length s) fair).1))

  pub length_parts : (n : ℕ) (s : List ℕ) → length (parts form n s) ≡ n
  length_parts zero s = refl
  length_parts (suc n) s = ap suc (length_parts n (drop size s))
