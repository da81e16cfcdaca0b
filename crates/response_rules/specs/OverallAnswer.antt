-- Document 01, "Visit responses": the grid, the overall answer, and which are evaluable.
-- Assumes nothing.
use Rattle.std.specs.Prelude.{ℕ, Bool, true, false, not, List, [], ◌∷◌, get_or}
use Rattle.laws.specs.Choice.{either, pick}
use Rattle.response_rules.specs.Words.{Word, CR, PR, SD, PD, NE, NA, NN}

-- target rows CR, PR, SD, NE, NA; non-target columns CR, NN, NE, NA
abbrev pub grid : List (List Word)
grid =
    (CR ∷ PR ∷ PR ∷ CR ∷ [])
    ∷ (PR ∷ PR ∷ PR ∷ PR ∷ [])
    ∷ (SD ∷ SD ∷ SD ∷ SD ∷ [])
    ∷ (NE ∷ NE ∷ NE ∷ NE ∷ [])
    ∷ (CR ∷ SD ∷ NE ∷ NE ∷ [])
    ∷ []

abbrev pub rows : ℕ
rows = 5

abbrev pub columns : ℕ
columns = 4

-- the row of a target answer and the column of a non-target answer; the words that have none stand past the last
abbrev pub row_of : Word → ℕ
row_of CR = 0
row_of PR = 1
row_of SD = 2
row_of NE = 3
row_of NA = 4
row_of PD = rows
row_of NN = rows

abbrev pub column_of : Word → ℕ
column_of CR = 0
column_of NN = 1
column_of NE = 2
column_of NA = 3
column_of PD = columns
column_of PR = columns
column_of SD = columns

-- NE where there is no such cell
abbrev pub cell : ℕ → ℕ → Word
cell row column = get_or (get_or grid row []) column NE

abbrev pub is_pd : Word → Bool
is_pd PD = true
is_pd CR = false
is_pd PR = false
is_pd SD = false
is_pd NE = false
is_pd NA = false
is_pd NN = false

-- the overall answer from whether the baseline was assessed, a new lesion, the target answer and the non-target answer
unfoldable pub overall_by : Bool → Bool → Word → Word → Word
overall_by assessed new_lesion target nontarget =
    pick (not assessed) NE
    (pick (either new_lesion (either (is_pd target) (is_pd nontarget))) PD
    (cell (row_of target) (column_of nontarget)))

-- evaluable, as document 01 defines it: other than NE
abbrev pub evaluable : Word → Bool
evaluable NE = false
evaluable CR = true
evaluable PR = true
evaluable SD = true
evaluable PD = true
evaluable NA = true
evaluable NN = true
