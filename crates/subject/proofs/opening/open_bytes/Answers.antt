-- `subject::opening::open_bytes` meets its contract.
-- Assumes nothing.
use Rattle.subject.proofs.OpeningReturns.{bytes_read, bytes_refused}
use Rattle.subject.proofs.opening.open_bytes.Goals as goal

pub returns-in-Ok : goal.returns-in-Ok
returns-in-Ok c = search bytes_read

pub returns-in-Err : goal.returns-in-Err
returns-in-Err c = search bytes_refused
