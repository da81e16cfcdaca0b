-- `records::check_read` meets its contract: `search` finds what the tests said.
-- Assumes nothing.
use Rattle.records.proofs.Returns.{no_date, no_status, by_fields}
use Rattle.records.proofs.check_read.Goals as goal

pub returns-then-not-date_exists : goal.returns-then-not-date_exists
returns-then-not-date_exists c = search no_date

pub returns-then-badstatus : goal.returns-then-badstatus
returns-then-badstatus c = search no_status

pub returns : goal.returns
returns c = search by_fields
