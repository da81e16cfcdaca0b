-- The chunks that an iterator cuts from a file are its parts.
-- Assumes nothing.
use mathlib.Core.Path.{◌≡◌, sym, ap, ◌∙◌}
use mathlib.Core.List.{List, ◌++◌}
use Prim.Native.Nat.{ℕ, ◌+◌, ◌-◌, ◌*◌, ◌≤◌}
use native.Mathlib.Nat.{add-mul, one-mul, add-sub_cancel_left}
use native.Mathlib.Omega.{arith}
use lib.ListN.{length, take, drop, length-append, length-drop}
use lib.Seq.{take-length, take-append_seam, drop-append_seam, drop-drop}
use Rattle.records.specs.Forms.{Form}
use Rattle.codec.proofs.PartsJoined.{part_at}

-- a slice from a place on ends where the file does
pub whole_rest : (l : List ℕ) (n : ℕ) → take (length l - n) (drop n l) ≡ drop n l
whole_rest l n = rw (← length-drop n l) (take-length (drop n l))

-- what is left behind k parts, and the chunk that is cut from it
module _ (form : Form) (l left chunk next : List ℕ) (k : ℕ) (behind : left ≡ drop (k * form.record_length) l) (cut : left ≡ chunk ++ next)
    (whole : length chunk ≡ form.record_length) where
  pub chunk_is_part : chunk ≡ part_at form l k
  chunk_is_part =
      rw (add-sub_cancel_left (k * form.record_length) form.record_length)
      (sym (take-append_seam chunk next) ∙ ap (λ (n : ℕ). take n (chunk ++ next)) whole ∙ ap (take form.record_length) (sym cut ∙ behind))

  pub left_behind : next ≡ drop ((k + 1) * form.record_length) l
  left_behind =
      let one : (k + 1) * form.record_length ≡ k * form.record_length + form.record_length = add-mul k 1 form.record_length ∙ ap (λ (n : ℕ). k * form.record_length + n) (one-mul form.record_length) in
      sym (drop-append_seam chunk next) ∙ ap (λ (n : ℕ). drop n (chunk ++ next)) whole ∙ ap (drop form.record_length) (sym cut ∙ behind)
      ∙ drop-drop form.record_length (k * form.record_length) l ∙ ap (λ (n : ℕ). drop n l) (sym one)

  -- the chunk was there
  pub chunk_within : form.record_length ≤ length l - k * form.record_length
  chunk_within =
      let e : length l - k * form.record_length ≡ length chunk + length next = sym (length-drop (k * form.record_length) l) ∙ ap length (sym behind ∙ cut) ∙ length-append chunk next in
      omega (arith, e, whole)
