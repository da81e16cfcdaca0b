-- The last bytes of a record: one of them is set where their number is not zero.
-- Assumes nothing.
use mathlib.Core.Path.{◌≡◌, refl, sym, ◌∙◌}
use mathlib.Core.List.{List, [], ◌∷◌}
use Prim.Native.Nat.{ℕ, zero, suc, ◌+◌, ◌-◌, ◌*◌, ◌%◌, ◌^◌, ◌≤◌, ◌<◌}
use native.Mathlib.Nat.{mul-pos, zero-mul, zero-add, mod-eq_of_lt}
use native.Mathlib.Omega.{arith}
use lib.Dec.{ltb}
use lib.ListN.{length, take, drop, length-drop}
use lib.Seq.{take-length}
use lib.Pow.{pow_pos, low, mod-mod-pow}
use borrow.Author.Tests.{lt-ltb}
use Rattle.std.specs.List.{list_any}
use Rattle.laws.specs.Layout.{total, pack, bytes, AreBytes}
use Rattle.laws.proofs.FieldOfBytes.{bytes_fit}
use Rattle.laws.proofs.PackUnpack.{pack_lt}
use Rattle.records.specs.Forms.{Form}
use Rattle.codec.specs.Bytes.{bytes_number}

some_byte : (s : List ℕ) → list_any (ltb 0) s ≡ ltb 0 (pack (bytes (length s)) s)
some_byte [] = refl
some_byte (zero ∷ s) = rw (zero-mul (2 ^ total (bytes (length s))), zero-add (pack (bytes (length s)) s)) (some_byte s)
some_byte (suc x ∷ s) =
    let one : 0 < suc x = omega arith in
    let above : 0 < suc x * 2 ^ total (bytes (length s)) + pack (bytes (length s)) s = omega (arith, mul-pos one (pow_pos (total (bytes (length s))))) in
    rw (lt-ltb 0 (suc x) one, lt-ltb 0 (suc x * 2 ^ total (bytes (length s)) + pack (bytes (length s)) s) above)

total_bytes : (k : ℕ) → total (bytes k) ≡ 8 * k
total_bytes zero = refl
total_bytes (suc k) = omega (arith, total_bytes k)

number_lt : (s : List ℕ) → AreBytes s → pack (bytes (length s)) s < 2 ^ (8 * length s)
number_lt s b = rw (total_bytes (length s)) at (pack_lt (bytes (length s)) s (bytes_fit s b))

last_bytes : (s : List ℕ) → AreBytes s → (n k : ℕ) → length s ≡ n + k → pack (bytes (length s)) s % 2 ^ (8 * k) ≡ pack (bytes (length (drop n s))) (drop n s)
last_bytes s b zero k e = mod-eq_of_lt (rw (let z : k ≡ length s = omega arith in z) (number_lt s b))
last_bytes [] b (suc n) k e = absurd (omega arith)
last_bytes (x ∷ s) b (suc n) k e =
    let rest : AreBytes s = λ i. b (suc i) in
    let l : total (bytes (length s)) ≡ 8 * n + 8 * k = omega (arith, total_bytes (length s)) in
    let p = pack (bytes (length s)) s in
    let small : p < 2 ^ (8 * n + 8 * k) = rw (← l) (pack_lt (bytes (length s)) s (bytes_fit s rest)) in
    rw l (sym (mod-mod-pow (x * 2 ^ (8 * n + 8 * k) + p) (8 * n) (8 * k)) ∙ rw (low x (8 * n + 8 * k) small) (last_bytes s rest n k (omega arith)))

-- of the bytes behind the first n
pub set_behind : (form : Form) (s : List ℕ) → AreBytes s → length s ≡ form.record_length → (n : ℕ) → n ≤ length s →
    list_any (ltb 0) (take (length s - n) (drop n s)) ≡ ltb 0 (bytes_number form s % 2 ^ (8 * (form.record_length - n)))
unfolding bytes_number
set_behind form s b l n h =
    rw (← length-drop n s, take-length (drop n s), some_byte (drop n s), ← l, last_bytes s b n (length s - n) (omega arith))
