-- Document 01, "Change in size, file and listing": what reading standard input promises. Of the bytes that a read of standard input brings the library says nothing, so
-- that nothing is said of them here.
-- Assumes nothing.
use Rattle.std.specs.Prelude.{◌≡◌, ◌≢◌, List, ℕ, ◌<◌, ◌≤◌, length, drop}
use Rattle.codec.specs.Parts.{most_bytes}
use Rattle.input.specs.declared.End.TheVariants as End
use Rattle.input.specs.declared.Input.{Input}
use Rattle.records.specs.Forms.{new_form}

pub record Received (bytes : List ℕ) (x : Input) (left : List ℕ) : Type 0 where
  pub within : x.count ≤ length left
  -- every byte past those read is as it was
  pub rest : drop x.count left ≡ drop x.count bytes
  -- unless there are more bytes than a file may have, the last read failed or was at the end of input
  pub ended : x.count ≤ most_bytes new_form → x.end ≢ End.PastLongest
  -- and where there are more, the answer says so
  pub over : most_bytes new_form < x.count → x.end ≡ End.PastLongest
