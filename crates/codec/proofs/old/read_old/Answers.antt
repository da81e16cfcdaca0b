-- `codec::old::read_old` meets its contract.
-- Assumes nothing.
use native.Mathlib.Omega.{arith}
use Rattle.codec.proofs.Returns.{reads_old, ten_times, reads_length, reads_no_kind, reads_judged}
use Rattle.codec.proofs.old.read_old.Goals as goal

pub returns-in_default : goal.returns-in_default
returns-in_default c = reads_old _ _ (λ k. omega (arith, c.type_inv.s k)) (reads_length ten_times c.in_default.ensures.cases c.refused.ensures)

pub returns-in_default-kind_in : goal.returns-in_default-kind_in
returns-in_default-kind_in c = reads_old _ _ (λ k. omega (arith, c.type_inv.s k)) (reads_no_kind ten_times c.in-Some.ensures.cases c.in_default-kind_in.ensures c.refused-in_default-kind_in.ensures)

pub returns : goal.returns
returns c = reads_old _ _ (λ k. omega (arith, c.type_inv.s k)) (reads_judged ten_times c.in-Some.ensures.cases _ c.in-Some-kind_in.ensures _ c.raw_in.ensures c.judged.ensures)
