-- `codec::visit_fields` meets its contract.
-- Assumes nothing.
use native.Mathlib.Omega.{arith}
use Rattle.codec.proofs.Returns.{fields_of_none, fields_read}
use Rattle.codec.proofs.visit_fields.Goals as goal

pub returns-in_default : goal.returns-in_default
returns-in_default c = fields_of_none _ _ (λ k. omega (arith, c.type_inv.s k)) c.in_default.ensures.cases c.blank_visit.ensures

pub returns : goal.returns
returns c = fields_read _ _ (λ k. omega (arith, c.type_inv.s k)) c.in-Some.ensures.cases c.visit_fields_in.ensures
