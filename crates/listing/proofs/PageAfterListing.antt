-- What copying leaves, and the whole page behind a listing.
-- Assumes nothing.
use mathlib.Core.Path.{◌≡◌, sym, ◌∙◌, ap, subst}
use mathlib.Core.List.{List, ◌++◌}
use Prim.Native.Nat.{ℕ, ◌+◌, ◌≤◌, ◌<◌}
use native.Mathlib.Nat.{zero-add}
use native.Mathlib.Omega.{arith}
use lib.ListN.{length, length-append, take, drop, take-append-drop}
use lib.Seq.{take-length, length-take-le, drop-append_seam, sets-eq}
use Rattle.std.specs.Prelude.{Result, Ok, Err}
use Rattle.outcome.specs.ReadingOutcome.{outcome, outcome_values}
use Rattle.outcome.specs.Laws.{ReadingWithin}
use Rattle.outcome.specs.declared.OutcomeResult.{OutcomeResult}
use Rattle.file.specs.declared.FileRefusal.{FileRefusal}
use Rattle.file.specs.Verdict.{refused, accepted, verdict_of, file_values}
use Rattle.listing_text.specs.Text.{outcome_text, refusal_text, listing_of, longest_listing, page_of}
use Rattle.listing_text.proofs.ListingLength.{lengths}
use Rattle.listing.specs.Writing.{Wrote, SmallIndex, JudgesInto, ListsFile}
use Rattle.listing.proofs.TextsWritten.{then, as_text}
use Rattle.records.specs.Forms.{new_form}

-- the kit's copy of the first n bytes
pub copied : (from page left : List ℕ) (n : ℕ) → n ≤ length from → left ≡ take (length (take n from)) (take n from) ++ drop (length (take n from)) page →
    left ≡ take n from ++ drop n page
copied from page left n h e = e ∙ rw (take-length (take n from), length-take-le n from h)

-- a text written from the start on, where there is room
from_start : (page text left : List ℕ) (n : ℕ) → length text ≤ length page → Wrote page 0 text n left → (n ≡ length text) × (left ≡ text ++ drop (length text) page)
from_start page text left n h w =
    let z : 0 + length text ≡ length text = zero-add (length text) in
    (w.place ∙ z, w.stored ∙ sets-eq text page 0 (rw z h) ∙ ap (λ (k : ℕ). text ++ drop k page) z)

-- what is needed where a file is refused or accepted
pub small_index : (a : Result OutcomeResult FileRefusal) (r : FileRefusal) → a ≡ Err r → SmallIndex (file_values a) → r.index < 100000
small_index a r q h = rw q at h

module _ (s page : List ℕ) (a : Result OutcomeResult FileRefusal) (m : ℕ) (page₁ : List ℕ) (w : JudgesInto s page a m page₁) (size : length page ≡ longest_listing) where
  pub reading_within : (o : OutcomeResult) → a ≡ Ok o → ReadingWithin (outcome (outcome_values o))
  reading_within o q = (w.lines (outcome_values o) (sym w.answer ∙ rw q)).0

  -- the bytes that were there, copied over the text that was written, restore the page
  restored : (page₂ : List ℕ) → page₂ ≡ take m page ++ drop m page₁ → page₂ ≡ page
  restored page₂ e =
      let done = from_start page w.text page₁ m (omega (arith, w.within, w.written.place, size)) w.written in
      let rest : drop m page₁ ≡ drop m page =
      (λ i. drop (done.0 i) (done.1 i)) ∙ drop-append_seam w.text (drop (length w.text) page) ∙ ap (λ (k : ℕ). drop k page) (sym done.0) in
      e ∙ ap (λ (t : List ℕ). take m page ++ t) rest ∙ take-append-drop m page

  pub lists_refused : (page₂ left : List ℕ) (n : ℕ) (r : FileRefusal) → a ≡ Err r → page₂ ≡ take m page ++ drop m page₁ →
      Wrote page₂ 0 (refusal_text r.number r.index) n left → ListsFile s page n left
  unfolding listing_of page_of
  lists_refused page₂ left n r q e v =
      let verdict : verdict_of new_form s ≡ refused r.number r.index = sym w.answer ∙ rw q in
      let text : refusal_text r.number r.index ≡ listing_of new_form s = rw verdict in
      let again : Wrote page 0 (refusal_text r.number r.index) n left =
      subst (λ (p : List ℕ). Wrote p 0 (refusal_text r.number r.index) n left) (restored page₂ e) v in
      let done = from_start page (listing_of new_form s) left n (omega (arith, lengths.listing s, size)) (as_text text again) in
      record { count = done.0; whole = done.1 }

  pub lists_accepted : (left : List ℕ) (n : ℕ) (o : OutcomeResult) → a ≡ Ok o → Wrote page₁ m (outcome_text (outcome_values o)) n left → ListsFile s page n left
  unfolding listing_of page_of
  lists_accepted left n o q v =
      let verdict : verdict_of new_form s ≡ accepted (outcome_values o) = sym w.answer ∙ rw q in
      let text : w.text ++ outcome_text (outcome_values o) ≡ listing_of new_form s =
      ap (λ (t : List ℕ). t ++ outcome_text (outcome_values o)) (w.lines (outcome_values o) verdict).1 ∙ rw verdict in
      let done = from_start page (listing_of new_form s) left n (omega (arith, lengths.listing s, size)) (as_text text (then w.written v)) in
      record { count = done.0; whole = done.1 }

-- the text is within the page
pub within_page : (s page left : List ℕ) (n : ℕ) → ListsFile s page n left → n ≤ length left
unfolding page_of
within_page s page left n w = omega (arith, w.count, ap length w.whole, length-append (listing_of new_form s) (drop (length (listing_of new_form s)) page))
