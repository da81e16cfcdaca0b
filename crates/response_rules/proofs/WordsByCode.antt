-- Words with one code are one word.
-- Assumes nothing.
use mathlib.Core.Path.{◌≡◌, refl, sym, ◌∙◌, ap}
use Prim.Native.Nat.{ℕ}
use lib.Dec.{eqb}
use Rattle.laws.specs.Choice.{pick}
use Rattle.response_rules.specs.Words.{Word, CR, PR, SD, PD, NE, NA, NN, code_of}

abbrev word_with : ℕ → Word
word_with n = pick (eqb n 0) CR (pick (eqb n 1) PR (pick (eqb n 2) SD (pick (eqb n 3) NE (pick (eqb n 4) PD (pick (eqb n 5) NA NN)))))

back : (w : Word) → word_with (code_of w) ≡ w
back CR = refl
back PR = refl
back SD = refl
back PD = refl
back NE = refl
back NA = refl
back NN = refl

pub same_code : (v w : Word) → code_of v ≡ code_of w → v ≡ w
same_code v w e = sym (back v) ∙ ap word_with e ∙ back w
