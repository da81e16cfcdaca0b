-- A turn of the loop that writes the records: what is stored so far, with the rest of the parts, is the converted file, and everything past it is as it was.
-- Assumes nothing.
use mathlib.Core.Path.{◌≡◌, refl, sym, ap, ◌∙◌}
use mathlib.Core.List.{List, [], ◌∷◌, ◌++◌, map, append_assoc, append-nil}
use Prim.Native.Nat.{ℕ, ◌+◌, ◌-◌, ◌*◌, ◌/◌, ◌≤◌, ◌<◌}
use native.Mathlib.Nat.{sub-zero}
use native.Mathlib.Omega.{arith}
use borrow.Rule.Slice.PartMut.{post_of, put_mid}
use lib.ListN.{length, take, drop, length-append, length-drop, drop_of_length-le}
use lib.Seq.{take_all, drop-drop, take-append_seam, drop-append_seam}
use Rattle.std.specs.Prelude.{Result}
use Rattle.writing.specs.declared.WriteRefusal.{WriteRefusal}
use Rattle.records.specs.Forms.{old_form, new_form, new_unit}
use Rattle.codec.specs.Reading.{refusal_of_bytes}
use Rattle.codec.specs.OldReading.{ReadsOld}
use Rattle.codec.specs.Parts.{parts, parts_of, joined}
use Rattle.codec.specs.declared.ReadResult.{ReadResult}
use Rattle.codec.proofs.PartsJoined.{part_at, parts_from, one_more}
use Rattle.writing.specs.Writing.{Writes}
use Rattle.writing.proofs.RoundTrip.{stored}
use Rattle.records.specs.Refusals.{refusal_of_record}
use Rattle.codec.specs.Bytes.{bytes_of}
use Rattle.converter.specs.Conversion.{converted_part, converted}
use Rattle.converter.specs.Judging.{AllRead}
use Rattle.converter.proofs.ConvertedFile.{own, part_length}

-- ---- one record, into the part of the output from a place on

pub record_stored : (part out last : List ℕ) (at : ℕ) (x : ReadResult) (a : Result (Unit {0}) WriteRefusal) → refusal_of_bytes old_form part ≡ 0 → at + 13 ≤ length out →
    ReadsOld part x → Writes x.found (take (length out - at) (drop at out)) a last →
    put_mid at (length out - at) out last ≡ take at out ++ (converted_part part ++ drop 13 (drop at out))
record_stored part out last at x a e h r w =
    let rest : length (drop at out) ≤ length out - at = simp length-drop (omega arith) in
    let whole = take_all (length out - at) (drop at out) rest in
    let nothing : post_of at (length out - at) out ≡ [] = drop_of_length-le (drop at out) rest in
    let fine : refusal_of_record new_unit x.found ≡ 0 = ap (refusal_of_record new_unit) r.found ∙ own part e in
    let room : 13 ≤ length (take (length out - at) (drop at out)) = rw whole (simp length-drop (omega arith)) in
    let wrote : last ≡ converted_part part ++ drop 13 (drop at out) =
    stored x.found (take (length out - at) (drop at out)) last a fine room w
    ∙ (λ i. bytes_of new_form (r.found i) ++ drop 13 (whole i)) in
    rw (wrote, nothing, append-nil) refl

-- ---- the loop

abbrev from : List ℕ → ℕ → List (List ℕ)
from s k = parts_from old_form s (length s / 11) k

pub record Stored (s out now : List ℕ) (k : ℕ) : Type 0 where
  pub text : List ℕ
  pub size : length text ≡ k * 13
  pub whole : converted s ≡ text ++ joined (map converted_part (from s k))
  pub output : now ≡ text ++ drop (k * 13) out
  pub read : AllRead (from s k)

pub nothing_stored : (s out : List ℕ) → AllRead (parts_of old_form s) → Stored s out out 0
unfolding converted
nothing_stored s out read =
    let all : from s 0 ≡ parts_of old_form s = ap (λ (n : ℕ). parts old_form n s) (sub-zero (length s / 11)) in
    record {
      text = [];
      size = refl;
      whole = ap (λ (ps : List (List ℕ)). joined (map converted_part ps)) (sym all);
      output = refl;
      read = rw all read;
    }

module _ (s out now : List ℕ) (k : ℕ) (w : Stored s out now k) where
  module _ (h : k < length s / 11) where
    more : from s k ≡ part_at old_form s k ∷ from s (k + 1)
    more = one_more old_form s (length s / 11) k h

    next_read : AllRead (part_at old_form s k ∷ from s (k + 1))
    next_read = rw more at w.read

    pub part_read : refusal_of_bytes old_form (part_at old_form s k) ≡ 0
    part_read = next_read.0

    pub one_stored : (left : List ℕ) → left ≡ take (k * 13) now ++ (converted_part (part_at old_form s k) ++ drop 13 (drop (k * 13) now)) → Stored s out left (k + 1)
    one_stored left e =
        let part = converted_part (part_at old_form s k) in
        let front : take (k * 13) now ≡ w.text =
        ap (take (k * 13)) w.output ∙ ap (λ (n : ℕ). take n (w.text ++ drop (k * 13) out)) (sym w.size) ∙ take-append_seam w.text (drop (k * 13) out) in
        let behind : drop (k * 13) now ≡ drop (k * 13) out =
        ap (drop (k * 13)) w.output ∙ ap (λ (n : ℕ). drop n (w.text ++ drop (k * 13) out)) (sym w.size) ∙ drop-append_seam w.text (drop (k * 13) out) in
        let place : k * 13 + 13 ≡ (k + 1) * 13 = omega arith in
        record {
          text = w.text ++ part;
          size = omega (arith, length-append w.text part, w.size, part_length (part_at old_form s k));
          whole =
              w.whole ∙ ap (λ (ps : List (List ℕ)). w.text ++ joined (map converted_part ps)) more
              ∙ sym (append_assoc w.text part (joined (map converted_part (from s (k + 1)))));
          output =
              e ∙ (λ i. front i ++ (part ++ drop 13 (behind i)))
              ∙ ap (λ (l : List ℕ). w.text ++ (part ++ l)) (drop-drop 13 (k * 13) out ∙ ap (λ (n : ℕ). drop n out) place)
              ∙ sym (append_assoc w.text part (drop ((k + 1) * 13) out));
          read = next_read.1;
        }

  pub all_stored : length s / 11 ≤ k → now ≡ converted s ++ drop (length (converted s)) out
  all_stored h =
      let z : length s / 11 - k ≡ 0 = omega arith in
      let none : from s k ≡ [] = rw z in
      let whole : converted s ≡ w.text = w.whole ∙ ap (λ (ps : List (List ℕ)). w.text ++ joined (map converted_part ps)) none ∙ append-nil w.text in
      w.output ∙ ap (λ (n : ℕ). w.text ++ drop n out) (sym w.size) ∙ ap (λ (text : List ℕ). text ++ drop (length text) out) (sym whole)
