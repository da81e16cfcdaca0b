-- What a conversion that is done wrote is the converted file, and every other one leaves the output.
-- Assumes nothing.
use mathlib.Core.Path.{◌≡◌, refl, sym, ap, ◌∙◌, subst}
use mathlib.Core.Bool.{Bool, true, false}
use mathlib.Core.List.{List, ◌++◌}
use Prim.Native.Nat.{ℕ, ◌≤◌, ◌<◌}
use native.Mathlib.Omega.{arith}
use lib.Dec.{ltb}
use lib.ListN.{length, take, drop, length-append}
use lib.Seq.{take-append_seam}
use borrow.Author.Tests.{le-ltb, lt-ltb}
use Rattle.std.specs.Prelude.{Result, Ok}
use Rattle.laws.specs.Choice.{pick}
use Rattle.laws.proofs.Tests.{never}
use Rattle.records.specs.Forms.{old_form, new_form}
use Rattle.outcome_rules.specs.Values.{Outcome}
use Rattle.file.specs.Verdict as F
use Rattle.listing_text.specs.Text.{listing_of, page_of}
use Rattle.listing.specs.Writing.{ListsFile}
use Rattle.converter.specs.Conversion.{Conversion, refused, written, converted, conversion_by, conversion_of, output_by, output_of, conversion_values, Converts}
use Rattle.converter.specs.Laws.{OldFileKept, OldFilesKept}
use Rattle.converter.proofs.ConvertedFile.{same_verdict, same_lines, same_listing}
use Rattle.file.specs.declared.FileRefusal.{FileRefusal}

abbrev is_written : Conversion → Bool
is_written (refused n k) = false
is_written (written n) = true

abbrev size_in : Conversion → ℕ
size_in (refused n k) = 0
size_in (written n) = n

-- an accepted file, converted as a whole
record Whole (v : F.Verdict) (size n : ℕ) : Type 0 where
  outcome : Outcome
  accepts : v ≡ F.accepted outcome
  wrote : n ≡ size

whole : (v : F.Verdict) (size room n : ℕ) → conversion_by v size room ≡ written n → Whole v size n
whole (F.refused m k) size room n e = absurd (never (sym (ap is_written e)))
whole (F.accepted o) size room n e = go (ltb room size) e
  where
    go : (x : Bool) → pick x (refused 6 0) (written size) ≡ written n → Whole (F.accepted o) size n
    go true f = absurd (never (sym (ap is_written f)))
    go false f = record { outcome = o; accepts = refl; wrote = sym (ap size_in f) }

module _ {s out left : List ℕ} {a : Result ℕ FileRefusal} (w : Converts s out a left) where
  module _ {n : ℕ} (e : conversion_values a ≡ written n) where
    done : conversion_of s out ≡ written n
    done = sym w.answer ∙ e

    found : Whole (F.verdict_of old_form s) (length (converted s)) n
    unfolding conversion_of
    found = whole (F.verdict_of old_form s) (length (converted s)) (length out) n done

    what_was_written : take n left ≡ converted s
    unfolding output_of
    what_was_written =
        ap (take n) (w.output ∙ ap (λ (c : Conversion). output_by c (converted s) out) done)
        ∙ ap (λ (m : ℕ). take m (converted s ++ drop n out)) found.wrote
        ∙ take-append_seam (converted s) (drop n out)

    -- the text of a listing is the front of its page
    listed : (page shown : List ℕ) (m : ℕ) → ListsFile (converted s) page m shown → take m shown ≡ listing_of old_form s
    unfolding page_of
    listed page shown m v =
        let text = listing_of new_form (converted s) in
        ap (take m) v.whole ∙ ap (λ (j : ℕ). take j (text ++ drop (length text) page)) v.count
        ∙ take-append_seam text (drop (length text) page) ∙ same_listing s found.accepts

    kept : OldFileKept s (take n left)
    kept =
        subst (OldFileKept s) (sym what_was_written)
        (record {
          judged = λ f j. j.answer ∙ same_verdict s found.accepts;
          lines = same_lines s found.accepts;
          listed = listed;
        })

  -- what was written is within the output
  pub within_output : {n : ℕ} → a ≡ Ok n → n ≤ length left
  unfolding output_of
  within_output {n} q =
      let e = ap conversion_values q in
      let size = ap length (w.output ∙ ap (λ (c : Conversion). output_by c (converted s) out) (done e)) in
      omega (arith, size, length-append (converted s) (drop n out), (found e).wrote)

  by_verdict : (v : F.Verdict) → F.verdict_of old_form s ≡ v → conversion_values a ≡ conversion_by v (length (converted s)) (length out)
  unfolding conversion_of
  by_verdict v e = w.answer ∙ ap (λ (x : F.Verdict). conversion_by x (length (converted s)) (length out)) e

  room : {o : Outcome} → F.verdict_of old_form s ≡ F.accepted o → length (converted s) ≤ length out → conversion_values a ≡ written (length (converted s))
  room {o} e h = by_verdict (F.accepted o) e ∙ rw (le-ltb (length out) (length (converted s)) h)

  short : {o : Outcome} → F.verdict_of old_form s ≡ F.accepted o → length out < length (converted s) → conversion_values a ≡ refused 6 0
  short {o} e h = by_verdict (F.accepted o) e ∙ rw (lt-ltb (length out) (length (converted s)) h)

  untouched : {n k : ℕ} → conversion_values a ≡ refused n k → left ≡ out
  unfolding output_of
  untouched e = w.output ∙ ap (λ (c : Conversion). output_by c (converted s) out) (sym w.answer ∙ e)

pub old_files_kept : OldFilesKept
old_files_kept =
    record {
      kept = λ w e. kept w e;
      room = λ w e h. room w e h;
      short = λ w e h. short w e h;
      refuses = λ w e. by_verdict w _ e;
      untouched = λ w e. untouched w e;
    }
