-- The fields of a record that no refusal meets fit the layout, and the bytes of its number are those of its three parts.
-- Assumes nothing.
use mathlib.Core.Path.{◌≡◌, refl, sym, ◌∙◌, ap}
use mathlib.Core.Bool.{Bool, true, false}
use mathlib.Core.List.{List, [], ◌∷◌, ◌++◌}
use Prim.Native.Nat.{ℕ, ◌/◌, ◌%◌, ◌^◌, ◌<◌, ◌≤◌}
use native.Mathlib.Omega.{arith}
use lib.Dec.{lit<}
use lib.ListN.{get_or, drop}
use Rattle.laws.specs.Layout.{total, pack, unpack, Fit, bytes}
use Rattle.laws.proofs.PackUnpack.{pack_lt}
use Rattle.laws.proofs.LayoutsAppended.{pack_append, unpack_parts, fit_append}
use Rattle.dates.specs.Calendar.{date_exists}
use Rattle.dates.proofs.ClosedForms.{exists, day_small}
use Rattle.records.specs.Entries.{date_of, kind_number, status_number}
use Rattle.records.specs.Forms.{new_form, new_unit}
use Rattle.records.specs.Refusals.{most_targets, largest_size, outside_limits, not_zero}
use Rattle.records.specs.declared.Entry.{Entry}
use Rattle.records.specs.declared.Entry.TheVariants.{Baseline, Visit, Therapy, Death}
use Rattle.records.specs.declared.Status.{Status}
use Rattle.records.specs.declared.Status.TheVariants.{NA, CR, NN, PD, NE}
use Rattle.records.proofs.NoOwnRefusal.{small_baseline, small_sizes}
use Rattle.codec.specs.Bytes.{bit, head_layout, targets_layout, body_layout, head_fields, target_fields, body_fields, record_length, record_number}

bit_lt : (b : Bool) → bit b < 2
bit_lt true = omega arith
bit_lt false = omega arith

pub status_le : (s : Status) → status_number s ≤ 4
status_le NA = omega arith
status_le CR = omega arith
status_le NN = omega arith
status_le PD = omega arith
status_le NE = omega arith

pub kind_range : (e : Entry) → (1 ≤ kind_number e) × (kind_number e ≤ 4)
kind_range (Baseline b) = omega arith
kind_range (Visit v) = omega arith
kind_range (Therapy d) = omega arith
kind_range (Death d) = omega arith

pub head_fits : (e : Entry) → date_exists (date_of e) ≡ true → Fit head_layout (head_fields (kind_number e) (date_of e))
head_fits e h = let v = exists (date_of e) h in let k = kind_range e in omega (arith, day_small (date_of e) v)

targets_fit : (m : List Bool) (s : List ℕ) → ((k : ℕ) → k < most_targets → get_or s k 0 ≤ largest_size new_unit) → Fit (targets_layout new_form) (target_fields m s)
targets_fit m s h =
    omega (
      arith,
      h 0 (lit< tt),
      h 1 (lit< tt),
      h 2 (lit< tt),
      h 3 (lit< tt),
      h 4 (lit< tt),
      bit_lt (get_or m 0 false),
      bit_lt (get_or m 1 false),
      bit_lt (get_or m 2 false),
      bit_lt (get_or m 3 false),
      bit_lt (get_or m 4 false),
    )

-- a size has 13 bits, the last two targets 28
module _ (e : Entry) (m : List Bool) (s : List ℕ) (l : outside_limits new_unit e m s ≡ false) (z : not_zero e m s ≡ false) where
  pub sizes_below : (k : ℕ) → k < most_targets → get_or s k 0 < 8192
  sizes_below k h = let n = small_sizes e m s l z k h in omega arith

  pub last_targets_below : pack (drop 6 (targets_layout new_form)) (drop 6 (target_fields m s)) < 2 ^ 28
  last_targets_below = let f = targets_fit m s (small_sizes e m s l z) in pack_lt (drop 6 (targets_layout new_form)) (drop 6 (target_fields m s)) f.1.1.1.1.1.1

-- a body is its flags, its targets and spare bits that are zero
around_targets : (ws vs : List ℕ) (k : ℕ) (m : List Bool) (s : List ℕ) → Fit ws vs → ((i : ℕ) → i < most_targets → get_or s i 0 ≤ largest_size new_unit) → 0 < 2 ^ k →
    Fit (ws ++ (targets_layout new_form ++ (k ∷ []))) (vs ++ (target_fields m s ++ (0 ∷ [])))
around_targets ws vs k m s f h z =
    fit_append ws (targets_layout new_form ++ (k ∷ [])) vs (target_fields m s ++ (0 ∷ [])) f
    (fit_append (targets_layout new_form) (k ∷ []) (target_fields m s) (0 ∷ []) (targets_fit m s h) (z, tt))

pub body_fits : (e : Entry) (m : List Bool) (s : List ℕ) → outside_limits new_unit e m s ≡ false → not_zero e m s ≡ false →
    Fit (body_layout new_form e) (body_fields e m s)
body_fits (Baseline b) m s l z =
    let p = small_baseline b m s l z in
    around_targets (1 ∷ 1 ∷ 3 ∷ []) (bit b.assessed ∷ bit b.nontarget ∷ b.count ∷ []) 5 m s
    (bit_lt b.assessed, (bit_lt b.nontarget, (let n : b.count < 8 = omega arith in n, tt))) p.1 (omega arith)
body_fits (Visit v) m s l z =
    around_targets (3 ∷ 1 ∷ []) (status_number v.status ∷ bit v.newlesion ∷ []) 6 m s
    (let n : status_number v.status < 8 = omega (arith, status_le v.status) in n, (bit_lt v.newlesion, tt))
    (small_sizes (Visit v) m s l z) (omega arith)
body_fits (Therapy d) m s l z = omega arith
body_fits (Death d) m s l z = omega arith

body_total : (e : Entry) → total (body_layout new_form e) ≡ 80
body_total (Baseline b) = refl
body_total (Visit v) = refl
body_total (Therapy d) = refl
body_total (Death d) = refl

halves : (n : ℕ) → unpack (bytes 5) (n / 2 ^ 40) ++ unpack (bytes 5) (n % 2 ^ 40) ≡ unpack (bytes 10) n
halves n =
    sym (unpack_parts (bytes 5) (bytes 5) (n / 2 ^ 40) (n % 2 ^ 40) (omega arith)) ∙ ap (λ (k : ℕ). unpack (bytes 10) k) (omega arith)

pub three_parts : (e : Entry) (m : List Bool) (s : List ℕ) (head high low : ℕ) → date_exists (date_of e) ≡ true → outside_limits new_unit e m s ≡ false →
    not_zero e m s ≡ false → head ≡ pack head_layout (head_fields (kind_number e) (date_of e)) →
    high ≡ pack (body_layout new_form e) (body_fields e m s) / 2 ^ 40 → low ≡ pack (body_layout new_form e) (body_fields e m s) % 2 ^ 40 →
    unpack (bytes 3) head ++ (unpack (bytes 5) high ++ unpack (bytes 5) low) ≡ unpack (bytes record_length) (record_number new_form e m s)
unfolding record_number
three_parts e m s head high low d l z he hi lo =
    let body = pack (body_layout new_form e) (body_fields e m s) in
    let below : body < 2 ^ 80 = rw (body_total e) at (pack_lt (body_layout new_form e) (body_fields e m s) (body_fits e m s l z)) in
    rw (pack_append head_layout (body_layout new_form e) (head_fields (kind_number e) (date_of e)) (body_fields e m s) (head_fits e d), body_total e, ← he, hi, lo, halves body)
    (sym (unpack_parts (bytes 3) (bytes 10) head body below))
