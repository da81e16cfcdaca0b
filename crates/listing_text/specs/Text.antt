-- Document 01, "Change in size, file and listing": the lines of a listing, in ASCII, and the listing of a file, by the definitions on lists.
-- Assumes nothing.
use Rattle.std.specs.Prelude.{ℕ, ◌/◌, ◌%◌, Bool, List, [], ◌∷◌, ◌++◌, map, length, drop}
use Rattle.laws.specs.Choice.{pick}
use Rattle.records.specs.Forms.{Form, new_form}
use Rattle.codec.specs.Reading.{record_of_bytes}
use Rattle.response_rules.specs.Words.{Word, CR, PR, SD, PD, NE, NA, NN}
use Rattle.response_rules.specs.Change.{Tenths}
use Rattle.outcome_rules.specs.Values.{PfsWord, EVENT, CENSORED, Pfs, Duration, no_duration, for_days, Outcome}
use Rattle.outcome_rules.specs.StudyRecords.{StudyRecord, on_study_days}
use Rattle.outcome_rules.specs.VisitLines.{VisitLine, lines_in_order}
use Rattle.codec.specs.Parts.{parts_of}
use Rattle.file.specs.Verdict.{Verdict, refused, accepted, verdict_of}
use Rattle.listing_text.specs.Decimal.{digit, decimal}

-- A 65, B 66, C 67, D 68, E 69, N 78, O 79, P 80, R 82, S 83, T 84, V 86; e 101, n 110, o 111
abbrev pub first_letter : Word → ℕ
first_letter CR = 67
first_letter PR = 80
first_letter SD = 83
first_letter PD = 80
first_letter NE = 78
first_letter NA = 78
first_letter NN = 78

abbrev pub second_letter : Word → ℕ
second_letter CR = 82
second_letter PR = 82
second_letter SD = 68
second_letter PD = 68
second_letter NE = 69
second_letter NA = 65
second_letter NN = 78

abbrev pub word_text : Word → List ℕ
word_text w = first_letter w ∷ second_letter w ∷ []

-- EVENT or CENSORED
abbrev pub status_text : PfsWord → List ℕ
status_text EVENT = 69 ∷ 86 ∷ 69 ∷ 78 ∷ 84 ∷ []
status_text CENSORED = 67 ∷ 69 ∷ 78 ∷ 83 ∷ 79 ∷ 82 ∷ 69 ∷ 68 ∷ []

-- with one decimal, behind a point
unfoldable pub tenths_text : ℕ → List ℕ
tenths_text n = decimal (n / 10) ++ (46 ∷ digit (n % 10) ∷ [])

-- in percent with one decimal, a minus sign and no plus sign; `-` if none
abbrev pub change_text : Tenths → List ℕ
change_text t = pick t.known (pick t.negative (45 ∷ tenths_text t.tenths) (tenths_text t.tenths)) (45 ∷ [])

-- fields stand one space apart, and each line ends in a newline
abbrev pub line_of_fields : List (List ℕ) → List ℕ
line_of_fields [] = 10 ∷ []
line_of_fields (f ∷ []) = f ++ (10 ∷ [])
line_of_fields (f ∷ (g ∷ fs)) = f ++ (32 ∷ line_of_fields (g ∷ fs))

-- V: study day, target, non-target, overall, change
unfoldable pub visit_text : VisitLine → List ℕ
visit_text l =
    line_of_fields ((86 ∷ []) ∷ decimal l.day ∷ word_text l.target ∷ word_text l.nontarget ∷ word_text l.overall ∷ change_text l.change ∷ [])

-- P: EVENT or CENSORED, day
unfoldable pub pfs_text : Pfs → List ℕ
pfs_text p = line_of_fields ((80 ∷ []) ∷ status_text p.status ∷ decimal p.day ∷ [])

-- B: best
unfoldable pub best_text : Word → List ℕ
best_text w = line_of_fields ((66 ∷ []) ∷ word_text w ∷ [])

-- D: status and days, or `none`
unfoldable pub duration_text : Duration → List ℕ
duration_text no_duration = line_of_fields ((68 ∷ []) ∷ (110 ∷ 111 ∷ 110 ∷ 101 ∷ []) ∷ [])
duration_text (for_days status days) = line_of_fields ((68 ∷ []) ∷ status_text status ∷ decimal days ∷ [])

abbrev pub mark_text : Bool → List ℕ
mark_text mark = pick mark 49 48 ∷ []

-- S: settled marks of PFS, best, duration
unfoldable pub settled_text : Bool → Bool → Bool → List ℕ
settled_text pfs best duration = line_of_fields ((83 ∷ []) ∷ mark_text pfs ∷ mark_text best ∷ mark_text duration ∷ [])

unfoldable pub outcome_text : Outcome → List ℕ
outcome_text o = pfs_text o.pfs ++ (best_text o.best ++ (duration_text o.duration ++ settled_text o.pfs_settled o.best_settled o.duration_settled))

-- R, number, record index from 0
unfoldable pub refusal_text : ℕ → ℕ → List ℕ
refusal_text number index = line_of_fields ((82 ∷ []) ∷ decimal number ∷ decimal index ∷ [])

abbrev pub lines_text : List VisitLine → List ℕ
lines_text [] = []
lines_text (l ∷ ls) = visit_text l ++ lines_text ls

-- a refused file prints only R
abbrev pub listing_text : Verdict → List StudyRecord → List ℕ
listing_text (refused number index) rs = refusal_text number index
listing_text (accepted o) rs = lines_text (lines_in_order rs) ++ outcome_text o

-- of a file in either form of document 02, request 1
unfoldable pub listing_of : Form → List ℕ → List ℕ
listing_of form s = listing_text (verdict_of form s) (on_study_days form.unit (map (record_of_bytes form) (parts_of form s)))

-- 3,999 lines of 24 and 47 for the rest
abbrev pub longest_listing : ℕ
longest_listing = 96023

-- a page of that length: the text, and every byte past it as it was
unfoldable pub page_of : List ℕ → List ℕ → List ℕ
page_of s page = listing_of new_form s ++ drop (length (listing_of new_form s)) page
