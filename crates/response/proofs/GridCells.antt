-- The grid's table compared with the definition in every cell.
-- Assumes nothing.
use mathlib.Core.Path.{◌≡◌}
use mathlib.Core.Bool.{Bool, true}
use mathlib.Core.List.{List, []}
use Prim.Native.Nat.{ℕ, ◌≤◌, ◌<◌}
use lib.Dec.{eqb, leb}
use lib.ListN.{get_or}
use borrow.Author.Tests.{eqb-true, leb-true}
use Rattle.laws.specs.Choice.{both, all}
use Rattle.laws.proofs.EveryNumber.{all_at}
use Rattle.laws.proofs.Tests.{both_true}
use Rattle.response_rules.specs.Words.{PD, code_of}
use Rattle.response_rules.specs.OverallAnswer.{rows, columns, cell}

abbrev code_in : List (List ℕ) → ℕ → ℕ → ℕ
code_in table row column = get_or (get_or table row []) column 0

-- a cell of a table has the code that the definition's cell has, and none past PD's
abbrev pub right_cell : List (List ℕ) → ℕ → ℕ → Bool
right_cell table row column = both (eqb (code_in table row column) (code_of (cell row column))) (leb (code_in table row column) (code_of PD))

pub each_cell : (table : List (List ℕ)) → all (λ (row : ℕ). all (right_cell table row) columns) rows ≡ true →
    (row column : ℕ) → row < rows → column < columns →
    (code_in table row column ≡ code_of (cell row column)) × (code_in table row column ≤ code_of PD)
each_cell table e row column h k =
    let t = both_true (eqb (code_in table row column) (code_of (cell row column))) (leb (code_in table row column) (code_of PD))
    (all_at (right_cell table row) columns (all_at (λ (r : ℕ). all (right_cell table r) columns) rows e row h) column k) in
    (eqb-true (code_in table row column) (code_of (cell row column)) t.0, leb-true (code_in table row column) (code_of PD) t.1)
