-- What converting answers, from what judging and writing did.
-- Assumes nothing.
use mathlib.Core.Path.{◌≡◌, sym, ap, ◌∙◌}
use mathlib.Core.List.{List, ◌++◌}
use Prim.Native.Nat.{ℕ, ◌*◌, ◌/◌, ◌≤◌, ◌<◌}
use lib.ListN.{length, drop}
use borrow.Author.Tests.{le-ltb, lt-ltb}
use Rattle.std.specs.Prelude.{Result, Ok, Err}
use Rattle.records.specs.Forms.{old_form}
use Rattle.codec.specs.Parts.{parts_of}
use Rattle.outcome.specs.declared.OutcomeResult.{OutcomeResult}
use Rattle.outcome.specs.ReadingOutcome.{outcome_values}
use Rattle.file.specs.declared.FileRefusal.{FileRefusal}
use Rattle.file.specs.Verdict as F
use Rattle.converter.specs.Conversion.{Conversion, refused, written, converted, conversion_by, conversion_of, output_by, output_of, Converts}
use Rattle.converter.specs.Judging.{JudgesOldFile, AllRead}
use Rattle.converter.proofs.ConvertedFile.{converted_length}
use Rattle.converter.proofs.TurnsOfJudging.{all_read}

module _ (s out : List ℕ) (f : Result OutcomeResult FileRefusal) (w : JudgesOldFile s f) where
  by_verdict : (v : F.Verdict) → F.file_values f ≡ v → conversion_of s out ≡ conversion_by v (length (converted s)) (length out)
  unfolding conversion_of
  by_verdict v e = ap (λ (x : F.Verdict). conversion_by x (length (converted s)) (length out)) (sym w.answer ∙ e)

  refused_as : (n k : ℕ) → conversion_of s out ≡ refused n k → out ≡ output_of s out
  unfolding output_of
  refused_as n k e = ap (λ (c : Conversion). output_by c (converted s) out) (sym e)

  pub converts_refused : (r : FileRefusal) → f ≡ Err r → Converts s out (Err r) out
  converts_refused r e =
      let stopped = by_verdict (F.refused r.number r.index) (ap F.file_values e) in
      record { answer = sym stopped; output = refused_as r.number r.index stopped }

  module _ (o : OutcomeResult) (e : f ≡ Ok o) where
    accepted : conversion_of s out ≡ conversion_by (F.accepted (outcome_values o)) (length (converted s)) (length out)
    accepted = by_verdict (F.accepted (outcome_values o)) (ap F.file_values e)

    pub parts_read : AllRead (parts_of old_form s)
    parts_read = all_read s (sym w.answer ∙ ap F.file_values e)

    pub converts_short : length out < length s / 11 * 13 → Converts s out (Err (record { number = 6; index = 0 })) out
    converts_short h =
        let small : length out < length (converted s) = rw (converted_length s) h in
        let short : conversion_of s out ≡ refused 6 0 = accepted ∙ rw (lt-ltb (length out) (length (converted s)) small) in
        record { answer = sym short; output = refused_as 6 0 short }

    pub converts_done : (left : List ℕ) → length s / 11 * 13 ≤ length out → left ≡ converted s ++ drop (length (converted s)) out →
        Converts s out (Ok (length s / 11 * 13)) left
    unfolding output_of
    converts_done left h l =
        let room : length (converted s) ≤ length out = rw (converted_length s) h in
        let done : conversion_of s out ≡ written (length (converted s)) = accepted ∙ rw (le-ltb (length out) (length (converted s)) room) in
        record {
          answer = ap written (sym (converted_length s)) ∙ sym done;
          output = l ∙ ap (λ (c : Conversion). output_by c (converted s) out) (sym done);
        }
