-- `writing::encode::store` meets its contract: the ends of three big-endian numbers are the list of the thirteen bytes.
-- Assumes nothing.
use mathlib.Core.Path.{◌≡◌, ap, ◌∙◌}
use mathlib.Core.List.{List, ◌++◌}
use Prim.Native.Nat.{ℕ}
use native.Mathlib.Nat.{div-one}
use lib.ListN.{drop}
use lib.Seq.{drop-drop}
use Rattle.std.specs.Int.{w32, w64, to_be_bytes}
use Rattle.writing.proofs.encode.store.Goals as goal

past : (l : List ℕ) → drop 5 (drop 5 (drop 3 l)) ≡ drop 13 l
past l = ap (drop 5) (drop-drop 5 3 l) ∙ drop-drop 5 8 l

pub returns : goal.returns
returns c =
    rw (c.copy_from_slice.ensures.after, c.copy_from_slice-2.ensures.after, c.copy_from_slice-3.ensures.after, c.to_be_bytes.ensures, c.to_be_bytes-2.ensures, c.to_be_bytes-3.ensures)
    (simp div-one
    (ap (λ (l : List ℕ). drop 1 (to_be_bytes w32 c.args.head) ++ (drop 3 (to_be_bytes w64 c.args.high) ++ (drop 3 (to_be_bytes w64 c.args.low) ++ l))) (past c.args.out.now)))
