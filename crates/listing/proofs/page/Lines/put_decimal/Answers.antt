-- `listing::page::Lines::put_decimal` meets its contract.
-- Assumes nothing.
use borrow.Author.Rules.{rules}
use Rattle.listing.proofs.DigitsStored.{wrote_one, wrote_two, wrote_three, wrote_four, wrote_five}
use Rattle.listing.proofs.page.Lines.put_decimal.Goals as goal

pub returns-then-n-lt10 : goal.returns-then-n-lt10
returns-then-n-lt10 c = wrote_one _ _ _ _ c.digit-units.ensures c.if-n-lt10.true c.put.ensures

pub returns-then-n-lt100 : goal.returns-then-n-lt100
returns-then-n-lt100 c = wrote_two _ _ _ _ c.digit-units.ensures c.if-n-lt10.false _ c.digit-tens.ensures c.if-n-lt100.true c.put-then-n-lt100.ensures

pub returns-then-n-lt1000 : goal.returns-then-n-lt1000
returns-then-n-lt1000 c = wrote_three _ _ _ _ c.digit-units.ensures c.if-n-lt10.false _ c.digit-tens.ensures c.if-n-lt100.false _ c.digit-hundreds.ensures c.if-n-lt1000.true c.put-then-n-lt1000.ensures

pub returns-then-n-lt10000 : goal.returns-then-n-lt10000
returns-then-n-lt10000 c = wrote_four _ _ _ _ c.digit-units.ensures c.if-n-lt10.false _ c.digit-tens.ensures c.if-n-lt100.false _ c.digit-hundreds.ensures c.if-n-lt1000.false _ c.digit-thousands.ensures c.if-n-lt10000.true c.put-then-n-lt10000.ensures

pub returns : goal.returns
returns c = wrote_five _ _ _ _ c.digit-units.ensures c.if-n-lt10.false _ c.digit-tens.ensures c.if-n-lt100.false _ c.digit-hundreds.ensures c.if-n-lt1000.false _ c.digit-thousands.ensures c.if-n-lt10000.false (search rules) _ c.digit-first.ensures c.put-2.ensures
