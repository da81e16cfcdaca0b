-- What Weprane claims, in the order of document 01, then of document 02: one record whose fields are the published theorems. What a call does is claimed by its own `ensures`;
-- a theorem that is not here is not claimed. Proved in proofs/Claims.antt.
-- Assumes nothing.
use Rattle.laws.specs.Refusals.{FirstLaws}
use Rattle.dates.specs.Laws.{CalendarLaws}
use Rattle.dates.specs.DayByDay.{DayByDay}
use Rattle.writing.specs.Laws.{RoundTrips}
use Rattle.response_rules.specs.Examples.{GridRows}
use Rattle.response_rules.specs.Laws.{OverallLaws, NadirLaws, ChangeLaws}
use Rattle.outcome_rules.specs.Laws.{ListLaws, AddingLaws, CallLaws}
use Rattle.outcome_rules.specs.MarksExact.{EveryMarkExact, EveryMarkExactInOrder}
use Rattle.outcome_rules.specs.StarredExamples.{starred, Hold}
use Rattle.subject.specs.Laws.{RangeLaws}
use Rattle.outcome.specs.Demand3.{Demand3}
use Rattle.outcome.specs.HeldAfter.{HeldAfterCalls}
use Rattle.outcome.specs.Laws.{CallsInRange}
use Rattle.file.specs.FileAsCalls.{FileAsCalls}
use Rattle.listing_text.specs.Examples.{LinesAtTheEdges}
use Rattle.listing_text.specs.Laws.{Lengths}
use Rattle.records.specs.Tenfold.{TenfoldRefusals}
use Rattle.response_rules.specs.Tenfold.{TenfoldAnswers}
use Rattle.outcome_rules.specs.Tenfold.{TenfoldLists}
use Rattle.converter.specs.Laws.{OldFilesKept}

pub record Claims : Type 1 where
  -- "Dates and records": day numbers; what is written is read, and what is read is written, byte for byte
  pub calendar : CalendarLaws
  pub round_trips : RoundTrips
  -- "Visit responses": the grid as printed; PD, and a missing baseline; what earlier visits leave is the nadir
  pub grid : GridRows
  pub overall : OverallLaws
  pub nadir : NadirLaws
  -- "Dates and records" and "Outcome": lawful lists and their courses
  pub lists : ListLaws
  -- "Settled": each mark is true exactly when no lawful run of further records changes its part, newest first and in the order recorded
  pub marks : EveryMarkExact
  pub marks_in_order : EveryMarkExactInOrder
  -- demand 3, over a whole list of calls; what is held after one, and the records that it accepts
  pub demand3 : Demand3
  pub held : HeldAfterCalls
  pub calls : CallLaws
  -- "Change in size, file and listing": rounding; a file is judged as the calls on its records are; the printed listing, and how long one can be
  pub change : ChangeLaws
  pub file : FileAsCalls
  pub lines : LinesAtTheEdges
  pub lengths : Lengths
  -- "Where a call stops": the first refusal of a list; 8 to 11 and lawful lists; 12, and what it keeps
  pub first : FirstLaws
  pub adding : AddingLaws
  pub range : RangeLaws
  pub in_range : CallsInRange
  -- "Examples at the edges": the starred ones, as one list
  pub examples : Hold starred
  -- document 02, request 1: sizes times ten, by ten times as many units a millimetre, are refused and answered alike, record by record, visit by visit and
  -- list by list; and what converting keeps of an old file
  pub tenfold_refusals : TenfoldRefusals
  pub tenfold_answers : TenfoldAnswers
  pub tenfold_lists : TenfoldLists
  pub old_files : OldFilesKept
  -- document 02, request 2: each date in range but the first has a number one above that of the day before, and no other numbering does that
  pub day_by_day : DayByDay
