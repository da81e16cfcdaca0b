-- `codec::parts::bad_length_of` meets its contract.
-- Assumes nothing.
use mathlib.Core.Path.{sym, ◌∙◌}
use borrow.Author.Tests.{eq-eqb}
use Rattle.laws.proofs.Tests.{tests, either_with_true, never}
use Rattle.codec.specs.Parts.{bad_length}
use Rattle.codec.proofs.parts.bad_length_of.Goals as goal
use Rattle.codec.proofs.parts.bad_length_of.Goals.{then-n-eq0, else-n-eq0}

pub returns-then-n-ne0 : goal.returns-then-n-ne0
returns-then-n-ne0 g c = λ form e. unfold bad_length in rw c.if-n-ne0.true (elim c.if-n-eq0.branch [
  | then-n-eq0 w ↦ search tests
  | else-n-eq0 w ↦ rw (← e, sym w.value-is ∙ c.if-n-ne0.true) (search either_with_true)
])

pub returns-else-n-ne0 : goal.returns-else-n-ne0
returns-else-n-ne0 g c = λ form e. elim c.if-n-eq0.branch [
  | then-n-eq0 w ↦ absurd (never (sym (w.value-is ∙ eq-eqb _ _ w.if-n-eq0.true) ∙ c.if-n-ne0.false))
  | else-n-eq0 w ↦ unfold bad_length in rw (← e, sym w.value-is ∙ c.if-n-ne0.false) (search tests)
]
