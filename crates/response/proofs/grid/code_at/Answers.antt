-- `response::grid::code_at` meets its contract: one computed test compares every cell of the table with the definition.
-- Assumes nothing.
use mathlib.Core.Path.{refl}
use mathlib.Core.List.{List, [], ◌∷◌}
use Prim.Native.Nat.{ℕ}
use Rattle.response.proofs.GridCells.{each_cell}
use Rattle.response.proofs.grid.code_at.Goals as goal

-- the code's GRID
abbrev table : List (List ℕ)
table =
    (0 ∷ 1 ∷ 1 ∷ 0 ∷ [])
    ∷ (1 ∷ 1 ∷ 1 ∷ 1 ∷ [])
    ∷ (2 ∷ 2 ∷ 2 ∷ 2 ∷ [])
    ∷ (3 ∷ 3 ∷ 3 ∷ 3 ∷ [])
    ∷ (0 ∷ 2 ∷ 3 ∷ 3 ∷ [])
    ∷ []

pub returns : goal.returns
returns c = each_cell table refl c.args.row c.args.column c.requires.0 c.requires.1
