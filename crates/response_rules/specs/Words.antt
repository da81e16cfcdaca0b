-- Document 01, "Visit responses": the answers by its words, and the code of each in the grid's table.
-- Assumes nothing.
use Rattle.std.specs.Prelude.{ℕ}
use Rattle.records.specs.declared.Status.{Status}
use Rattle.records.specs.declared.Status.TheVariants as S
use Rattle.response_rules.specs.declared.TargetAnswer.{TargetAnswer}
use Rattle.response_rules.specs.declared.TargetAnswer.TheVariants as T
use Rattle.response_rules.specs.declared.OverallAnswer.{OverallAnswer}
use Rattle.response_rules.specs.declared.OverallAnswer.TheVariants as O

pub data Word : Type 0 where
  CR : Word
  PR : Word
  SD : Word
  PD : Word
  NE : Word
  NA : Word
  NN : Word

-- the grid has the first four
abbrev pub code_of : Word → ℕ
code_of CR = 0
code_of PR = 1
code_of SD = 2
code_of NE = 3
code_of PD = 4
code_of NA = 5
code_of NN = 6

-- the word of each case: a target answer, a non-target answer, an overall answer
abbrev pub target_word : TargetAnswer → Word
target_word T.NA = NA
target_word T.CR = CR
target_word T.PD = PD
target_word T.NE = NE
target_word T.PR = PR
target_word T.SD = SD

abbrev pub status_word : Status → Word
status_word S.NA = NA
status_word S.CR = CR
status_word S.NN = NN
status_word S.PD = PD
status_word S.NE = NE

abbrev pub overall_word : OverallAnswer → Word
overall_word O.CR = CR
overall_word O.PR = PR
overall_word O.SD = SD
overall_word O.PD = PD
overall_word O.NE = NE
