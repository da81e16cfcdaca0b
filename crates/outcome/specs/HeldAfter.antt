-- Document 01, "Settled": what is held after any list of calls; each field is that of `summary` (subject/specs/Summary). Proved in proofs/Demand3.antt.
-- Assumes nothing.
use Rattle.std.specs.Prelude.{◌≡◌, List, [], ◌∷◌, reverse, Result}
use Rattle.records.specs.declared.Record.{Record}
use Rattle.records.specs.Entries.{date_of}
use Rattle.records.specs.Forms.{new_unit}
use Rattle.outcome_rules.specs.StudyRecords.{Baseline, StudyRecord, on_study_days, from_baseline}
use Rattle.outcome_rules.specs.Adding.{Call, accepted}
use Rattle.subject.specs.declared.Subject.{Subject}
use Rattle.subject.specs.Summary.{summary}
use Rattle.subject.specs.declared.OpenRefusal.{OpenRefusal}
use Rattle.subject.specs.Opening.{open_number, Opens}
use Rattle.outcome.specs.Demand3.{Reply, Calls}

-- the subject is the summary of records in the order recorded, baseline first
abbrev pub Summarises : List Record → Subject → Type 0
Summarises [] s = ⊥
Summarises (b ∷ rs) s =
    from_baseline ⊥ (λ (base : Baseline) (later : List StudyRecord). s ≡ summary (date_of b.entry) base (reverse later)) (on_study_days new_unit (b ∷ rs))

pub record HeldAfterCalls : Type 0 where
  -- after an accepted opening and any list of calls it is that of the records accepted
  pub summarises : {b : Record} {a : Result (Unit {0}) OpenRefusal} {s t : Subject} {cs : List Call} {ys : List Reply} →
      Opens b a s → open_number a ≡ 0 → Calls s cs ys t → Summarises (accepted new_unit b cs) t
