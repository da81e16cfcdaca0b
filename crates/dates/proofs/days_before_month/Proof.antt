-- `dates::days_before_month` meets its contract: the closed form agrees with the definition at each month.
-- Assumes nothing.
use native.Mathlib.Omega.{arith}
use borrow.Author.Rules.{rules}
use Rattle.dates.proofs.ClosedForms.{before_march, from_march}
use Rattle.dates.proofs.days_before_month.Statement.{statement}
use Rattle.dates.proofs.days_before_month.Tie as tie

pub days_before_month_spec : {M : Type 1} → statement M
days_before_month_spec =
    tie.close
    (tie.spec
    (λ c. search rules)
    (λ c. search rules)
    (λ c. search rules)
    (λ c. before_march _ (omega arith))
    (λ c. from_march _ (omega arith) (omega arith)))
