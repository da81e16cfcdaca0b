-- `subject::opening::open_subject` meets its contract.
-- Assumes nothing.
use borrow.Author.Rules.{rules}
use Rattle.subject.proofs.OpeningReturns.{opens_refused, opens_passed}
use Rattle.subject.proofs.opening.open_subject.Goals as goal

pub returns-in-Err : goal.returns-in-Err
returns-in-Err c = opens_refused _ (record { sizes = search rules; marks = search rules }) _ c.check.ensures _ _ c.in-Err.is c.refused.ensures

pub returns-in-Ok : goal.returns-in-Ok
returns-in-Ok c = opens_passed _ (record { sizes = search rules; marks = search rules }) _ c.check.ensures _ c.in-Ok.is c.open_checked.ensures
