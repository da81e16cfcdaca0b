-- `converter::convert` meets its contract.
-- Assumes nothing.
use native.Mathlib.Omega.{arith}
use Rattle.std.proofs.lemmas.Result.{err_from_is_err_and}
use Rattle.converter.proofs.ConvertedFile.{converted_length}
use Rattle.converter.proofs.ConvertReturns.{converts_refused, parts_read, converts_short, converts_done}
use Rattle.converter.proofs.convert.Goals as goal

pub returns-in_err-judge_old : goal.returns-in_err-judge_old
returns-in_err-judge_old c =
    let passed = err_from_is_err_and c.from_residual.result c.from_residual.ensures.1 in
    rw (passed.1, passed.2) (converts_refused _ _ _ c.judge_old.ensures _ c.in_err-judge_old.was)

pub returns-then-out-size : goal.returns-then-out-size
returns-then-out-size c = converts_short _ _ _ c.judge_old.ensures _ c.in_ok-judge_old.was c.if-out-size.true

pub write_records-requires : goal.write_records-requires
write_records-requires c = (parts_read _ c.args.out.now _ c.judge_old.ensures _ c.in_ok-judge_old.was, omega (arith, converted_length c.args.old.now, c.if-out-size.false))

pub returns : goal.returns
returns c = converts_done _ _ _ c.judge_old.ensures _ c.in_ok-judge_old.was _ c.if-out-size.false c.write_records.ensures
