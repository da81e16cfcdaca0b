-- `dates::leap_year` meets its contract: at each return the tests that led there decide the definition's.
-- Assumes nothing.
use Rattle.laws.proofs.Tests.{tests}
use Rattle.dates.specs.Calendar.{leap_year}
use Rattle.dates.proofs.leap_year.Statement.{statement}
use Rattle.dates.proofs.leap_year.Tie as tie

pub leap_year_spec : {M : Type 1} → statement M
leap_year_spec =
    tie.close
    (tie.spec
    (λ c. unfold leap_year in search tests)
    (λ c. unfold leap_year in search tests)
    (λ c. unfold leap_year in search tests))
