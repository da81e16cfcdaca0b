-- `dates::days_before_year` meets its contract: the closed forms agree with the definition in each of the 110 years.
-- Assumes nothing.
use native.Mathlib.Omega.{arith}
use borrow.Author.Rules.{rules}
use Rattle.dates.proofs.ClosedForms.{without_leap_day, with_leap_day}
use Rattle.dates.proofs.days_before_year.Statement.{statement}
use Rattle.dates.proofs.days_before_year.Tie as tie

pub days_before_year_spec : {M : Type 1} → statement M
days_before_year_spec =
    tie.close
    (tie.spec
    (λ c. search rules)
    (λ c. search rules)
    (λ c. search rules)
    (λ c. search rules)
    (λ c. search rules)
    (λ c. search rules)
    (λ c. search rules)
    (λ c. search rules)
    (λ c. without_leap_day c.before.args.year c.before.args.month (omega arith) (omega arith) (omega arith))
    (λ c. with_leap_day c.before.args.year c.before.args.month (omega arith) (omega arith) (omega arith)))
