-- `writing::write` meets its contract.
-- Assumes nothing.
use mathlib.Core.Path.{refl}
use native.Mathlib.Omega.{arith}
use borrow.Author.Rules.{rules}
use Rattle.std.proofs.lemmas.Result.{err_from_is_err_and}
use Rattle.writing.proofs.WriteReturns.{writes_refused, writes_short, passed, writes_parts}
use Rattle.writing.proofs.write.Goals as goal

pub returns-in_err-check : goal.returns-in_err-check
returns-in_err-check c =
    let p = err_from_is_err_and c.from_residual.result c.from_residual.ensures.1 in
    rw (p.1, p.2) (writes_refused _ _ _ (record { sizes = search rules; marks = search rules }) c.in_err-check.ensures _ refl)

pub returns-then-out-lt-RECORD_LENGTH : goal.returns-then-out-lt-RECORD_LENGTH
returns-then-out-lt-RECORD_LENGTH c = writes_short _ _ _ (record { sizes = search rules; marks = search rules }) c.in_ok-check.ensures refl (omega (arith, c.if-out-lt-RECORD_LENGTH.true))

pub head_number-head-requires : goal.head_number-head-requires
head_number-head-requires c = (passed _ _ c.in_ok-check.ensures refl).date

pub high_number-high-requires : goal.high_number-high-requires
high_number-high-requires c = let p = passed _ _ c.in_ok-check.ensures refl in (p.limits, p.zeros)

pub low_number-low-requires : goal.low_number-low-requires
low_number-low-requires c = let p = passed _ _ c.in_ok-check.ensures refl in (p.limits, p.zeros)

pub returns : goal.returns
returns c = let g = c.well_formed in writes_parts _ _ _ _ _ _ _ (record { sizes = search (rules, g); marks = search (rules, g) }) c.in_ok-check.ensures refl c.if-out-lt-RECORD_LENGTH.false c.head_number-head.ensures c.high_number-high.ensures c.low_number-low.ensures c.store.ensures
