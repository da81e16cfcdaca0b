-- `listing::list` meets its contract.
-- Assumes nothing.
use borrow.Author.Rules.{rules}
use native.Mathlib.Omega.{arith}
use Rattle.listing.proofs.PageAfterListing.{small_index, reading_within, lists_refused, lists_accepted}
use Rattle.listing.proofs.list.Goals as goal

pub put_refusal-requires : goal.put_refusal-requires
put_refusal-requires c = (small_index _ _ c.in-Err.is c.judge_into-judged.ensures.index, search rules)

pub put_outcome-requires : goal.put_outcome-requires
put_outcome-requires c = (reading_within _ _ _ _ _ c.judge_into-judged.ensures (search rules) _ c.in-Ok.is, omega (arith, c.judge_into-judged.ensures.within, c.judge_into-judged.auto.page))

pub returns-in-Err : goal.returns-in-Err
returns-in-Err c = lists_refused _ _ _ _ _ c.judge_into-judged.ensures (search rules) _ _ _ _ c.in-Err.is c.copy.ensures c.put_refusal.ensures

pub returns-in-Ok : goal.returns-in-Ok
returns-in-Ok c = lists_accepted _ _ _ _ _ c.judge_into-judged.ensures (search rules) _ _ _ c.in-Ok.is c.put_outcome.ensures
