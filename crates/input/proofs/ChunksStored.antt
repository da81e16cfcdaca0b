-- A chunk copied into the part behind the bytes read is stored there, bytes stored leave those past them as they were, and a read that brought none
-- answered 0 or failed.
-- Assumes nothing.
use mathlib.Core.Path.{◌≡◌, refl, sym, ◌∙◌, ap}
use mathlib.Core.List.{List, [], ◌++◌, append-nil, append_assoc}
use Prim.Native.Nat.{ℕ, zero, suc, ◌+◌, ◌-◌, ◌≤◌}
use native.Mathlib.Omega.{arith}
use lib.IntN.{ℤ, pos, negsuc}
use lib.ListN.{length, take, drop, length-drop, drop_of_length-le}
use lib.Seq.{paste, take_all, take-length, length-take-le, drop-drop, drop-paste}
use borrow.Rule.Slice.PartMut.{post_of, put_mid}
use Rattle.io.specs.Counts.{clamp_len}

pub stored : (bytes chunk part : List ℕ) (at n : ℕ) → n ≤ length chunk → at + n ≤ length bytes →
    part ≡ take (length (take n chunk)) (take n chunk) ++ drop (length (take n chunk)) (take (length bytes - at) (drop at bytes)) →
    put_mid at (length bytes - at) bytes part ≡ paste bytes at chunk n
stored bytes chunk part at n h k e =
    let rest : length (drop at bytes) ≤ length bytes - at = simp length-drop (omega arith) in
    let nothing : post_of at (length bytes - at) bytes ≡ [] = drop_of_length-le (drop at bytes) rest in
    let whole = take_all (length bytes - at) (drop at bytes) rest in
    let same : part ≡ take n chunk ++ drop (at + n) bytes = e ∙ rw (take-length (take n chunk), length-take-le n chunk h, whole, drop-drop n at bytes) in
    rw (same, nothing, append-nil) (sym (append_assoc (take at bytes) (take n chunk) (drop (at + n) bytes)))

pub rest_kept : (bytes₀ bytes chunk left : List ℕ) (at n : ℕ) → left ≡ paste bytes at chunk n → drop at bytes ≡ drop at bytes₀ → at ≤ length bytes →
    n ≤ length chunk → drop (at + n) left ≡ drop (at + n) bytes₀
rest_kept bytes₀ bytes chunk left at n stored e h k =
    ap (drop (at + n)) stored ∙ drop-paste bytes at chunk n h k ∙ sym (drop-drop n at bytes) ∙ ap (drop n) e ∙ drop-drop n at bytes₀

pub none_brought : (answer : ℤ) (most n : ℕ) → n ≡ clamp_len answer most → n ≡ 0 → 1 ≤ most → clamp_len answer 1 ≡ 0
none_brought (pos zero) most n e z h = refl
none_brought (pos (suc k)) most n e z h = absurd (let f : ⊥ = omega arith in f)
none_brought (negsuc k) most n e z h = refl
