-- `converter::output::write_record` meets its contract.
-- Assumes nothing.
use Rattle.converter.proofs.TurnsOfWriting.{record_stored}
use Rattle.converter.proofs.output.write_record.Goals as goal

pub returns : goal.returns
returns c =
    record_stored c.args.part.now c.args.out.now _ c.args.at _ _ c.requires.0 c.requires.1 c.read_old-read.ensures c.write.ensures
