-- The record that bytes are read as has those bytes.
-- Assumes nothing.
use mathlib.Core.Path.{◌≡◌, refl, sym, ◌∙◌, ap}
use mathlib.Core.Bool.{Bool, true, false}
use mathlib.Core.List.{List}
use Prim.Native.Nat.{ℕ, ◌%◌, ◌^◌, ◌<◌, ◌≤◌}
use native.Mathlib.Omega.{arith}
use lib.Dec.{ltb, eqb}
use lib.ListN.{get_or}
use borrow.Author.Tests.{eqb-true, eqb-false, ltb-false}
use Rattle.laws.proofs.EveryNumber.{all_at}
use Rattle.laws.specs.Layout.{total, pack, unpack, Fit, bytes, AreBytes}
use Rattle.laws.proofs.PackUnpack.{pack_lt, unpack_pack, pack_unpack}
use Rattle.laws.proofs.FieldOfBytes.{bytes_fit}
use Rattle.records.specs.Entries.{status_number}
use Rattle.records.specs.Forms.{new_form}
use Rattle.records.specs.declared.Record.{Record}
use Rattle.codec.specs.Bytes.{record_length, bit, baseline_layout, visit_layout, spare_layout, layout_of, fields_of, record_number, bytes_of, bytes_number}
use Rattle.codec.specs.Reading.{is_one, status_from, baseline_in, visit_in, spare_in, raw_in, kind_in, refusal_of_bytes, record_of_bytes}
use Rattle.codec.proofs.NoRefusalOfBytes.{fine, whole, no_refusal}
use Rattle.writing.proofs.ReadBack.{layout_total}

-- a bit that was read is the bit of its mark
bit_mod : (n : ℕ) → bit (is_one (n % 2)) ≡ n % 2
bit_mod n = go (eqb (n % 2) 1) refl
  where
    go : (b : Bool) → eqb (n % 2) 1 ≡ b → bit (is_one (n % 2)) ≡ n % 2
    go true e = rw e (sym (eqb-true (n % 2) 1 e))
    go false e = rw e (omega (arith, eqb-false (n % 2) 1 e))

status_right : ℕ → Bool
status_right n = eqb (status_number (status_from n)) n

status_again : (n : ℕ) → n ≤ 4 → status_number (status_from n) ≡ n
unfolding status_right status_from
status_again n h = eqb-true (status_number (status_from n)) n (all_at status_right 5 refl n (omega arith))

-- the fields of what was read are those that it was read from
abbrev Again : ℕ → Record → Type 0
Again n r = fields_of r.entry r.marks r.sizes ≡ unpack (layout_of new_form r.entry) n

baseline_again : (n : ℕ) → kind_in new_form n ≡ 1 → (baseline_in new_form n).spare ≡ false → Again n (baseline_in new_form n).read
unfolding baseline_in
baseline_again n k p =
    let z : get_or (unpack (baseline_layout new_form) n) 17 0 ≡ 0 = omega (arith, ltb-false 0 (get_or (unpack (baseline_layout new_form) n) 17 0) p) in
    simp bit_mod (rw (k, z))

visit_again : (n : ℕ) → kind_in new_form n ≡ 2 → (visit_in new_form n).badstatus ≡ false → (visit_in new_form n).spare ≡ false → Again n (visit_in new_form n).read
unfolding visit_in
visit_again n k u p =
    let z : get_or (unpack (visit_layout new_form) n) 16 0 ≡ 0 = omega (arith, ltb-false 0 (get_or (unpack (visit_layout new_form) n) 16 0) p) in
    simp bit_mod (rw (k, z, status_again (get_or (unpack (visit_layout new_form) n) 4 0) (ltb-false 4 (get_or (unpack (visit_layout new_form) n) 4 0) u)))

spare_clear : (n : ℕ) → ltb 0 (get_or (unpack (spare_layout new_form) n) 4 0) ≡ false → get_or (unpack (spare_layout new_form) n) 4 0 ≡ 0
spare_clear n p = omega (arith, ltb-false 0 (get_or (unpack (spare_layout new_form) n) 4 0) p)

raw_again : (n k : ℕ) → kind_in new_form n ≡ k → 1 ≤ k → k ≤ 4 → (raw_in new_form k n).badstatus ≡ false → (raw_in new_form k n).spare ≡ false → Again n (raw_in new_form k n).read
unfolding raw_in spare_in
raw_again n k t l g u p = go (eqb k 1) refl (eqb k 2) refl (eqb k 3) refl
  where
    go : (a : Bool) → eqb k 1 ≡ a → (b : Bool) → eqb k 2 ≡ b → (c : Bool) → eqb k 3 ≡ c → Again n (raw_in new_form k n).read
    go true e b q c r =
        let k1 = eqb-true k 1 e in
        rw k1 (baseline_again n (t ∙ k1) (rw k1 at p))
    go false e true q c r =
        let k2 = eqb-true k 2 q in
        rw k2 (visit_again n (t ∙ k2) (rw k2 at u) (rw k2 at p))
    go false e false q true r =
        let k3 = eqb-true k 3 r in
        rw k3 (let z = spare_clear n (rw k3 at p) in let y = t ∙ k3 in rw (y, z))
    go false e false q false r =
        let k4 : k ≡ 4 = omega (arith, eqb-false k 1 e, eqb-false k 2 q, eqb-false k 3 r) in
        rw k4 (let z = spare_clear n (rw k4 at p) in let y = t ∙ k4 in rw (y, z))

number_again : (n : ℕ) (r : Record) → n < 2 ^ total (bytes record_length) → Again n r → record_number new_form r.entry r.marks r.sizes ≡ n
unfolding record_number
number_again n r h a =
    ap (λ (f : List ℕ). pack (layout_of new_form r.entry) f) a ∙ pack_unpack (layout_of new_form r.entry) n (rw (layout_total r.entry) h)

module _ (s : List ℕ) (b : AreBytes s) (e : refusal_of_bytes new_form s ≡ 0) where
  fit : Fit (bytes record_length) s
  fit = rw (whole new_form s e) at (bytes_fit s b)

  pub bytes_back : bytes_of new_form (record_of_bytes new_form s) ≡ s
  unfolding bytes_of record_of_bytes bytes_number
  bytes_back =
      let n = bytes_number new_form s in
      let f = fine new_form n (no_refusal new_form s e) in
      let a = raw_again n (kind_in new_form n) refl f.low f.high f.passed.lawful f.passed.clear in
      rw (e, number_again n (raw_in new_form (kind_in new_form n) n).read (pack_lt (bytes record_length) s fit) a) (unpack_pack (bytes record_length) s fit)
