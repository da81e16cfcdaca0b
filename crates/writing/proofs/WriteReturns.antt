-- What writing answers, from what the code found. By its name this file is checked behind the round trips, so that a wrong output is refused there.
-- Assumes nothing.
use mathlib.Core.Path.{◌≡◌, sym, ◌∙◌, ap}
use mathlib.Core.Bool.{false}
use mathlib.Core.List.{List, [], ◌∷◌, ◌++◌}
use Prim.Native.Nat.{ℕ, ◌/◌, ◌%◌, ◌^◌, ◌≤◌, ◌<◌}
use lib.Dec.{ltb, eqb}
use lib.ListN.{length, drop}
use borrow.Author.Tests.{lt-ltb, le-ltb}
use Rattle.std.specs.Prelude.{Result, Ok, Err}
use Rattle.laws.specs.Choice.{pick}
use Rattle.laws.specs.Refusals.{◌when◌, first}
use Rattle.laws.specs.Layout.{pack, unpack, bytes}
use Rattle.records.specs.Entries.{date_of, kind_number, Five}
use Rattle.records.specs.Forms.{new_form, new_unit}
use Rattle.records.specs.Refusals.{own_number, check_number, refusal_of_record}
use Rattle.records.specs.declared.Record.{Record}
use Rattle.records.specs.declared.OwnRefusal.{OwnRefusal}
use Rattle.records.proofs.NoOwnRefusal.{own_not_0, Passes, passes, after_own}
use Rattle.codec.specs.Bytes.{head_layout, body_layout, head_fields, body_fields, record_length, bytes_of}
use Rattle.writing.specs.Writing.{refusal_of_writing, output_of, Writes}
use Rattle.writing.specs.declared.WriteRefusal.TheVariants as W
use Rattle.writing.proofs.FieldsFit.{three_parts}

module _ (r : Record) (out : List ℕ) (a : Result (Unit {0}) OwnRefusal) (f : Five r) (e : check_number a ≡ refusal_of_record new_unit r) where
  -- 3 to 5 as checked, or else 6
  checked_first : refusal_of_writing r out ≡ pick (eqb (check_number a) 0) (first (6 when ltb (length out) record_length ∷ [])) (check_number a)
  unfolding refusal_of_writing
  checked_first = rw e (after_own new_unit r (6 when ltb (length out) record_length ∷ []))

  pub writes_refused : (own : OwnRefusal) → a ≡ Err own → Writes r out (Err (W.Own own)) out
  unfolding output_of
  writes_refused own p =
      let w : refusal_of_writing r out ≡ own_number own = checked_first ∙ rw (p, own_not_0 own) in
      record { answer = sym w; left = rw (w, own_not_0 own); five = f }

  module _ (p : a ≡ Ok tt) where
    pub writes_short : length out < record_length → Writes r out (Err W.ShortOutput) out
    unfolding output_of
    writes_short h =
        let w : refusal_of_writing r out ≡ 6 = checked_first ∙ rw (p, lt-ltb (length out) record_length h) in
        record { answer = sym w; left = rw w; five = f }

    writes_stored : (last : List ℕ) → record_length ≤ length out → last ≡ bytes_of new_form r ++ drop record_length out → Writes r out (Ok tt) last
    unfolding output_of
    writes_stored last h l =
        let w : refusal_of_writing r out ≡ 0 = checked_first ∙ rw (p, le-ltb (length out) record_length h) in
        record { answer = sym w; left = l ∙ rw w; five = f }

pub passed : (r : Record) (a : Result (Unit {0}) OwnRefusal) → check_number a ≡ refusal_of_record new_unit r → a ≡ Ok tt → Passes new_unit r false false
passed r a e p = passes new_unit r false false (sym e ∙ ap check_number p)

-- what is left in the output where the three parts are stored
pub writes_parts : (r : Record) (out last : List ℕ) (a : Result (Unit {0}) OwnRefusal) (head high low : ℕ) → Five r → check_number a ≡ refusal_of_record new_unit r → a ≡ Ok tt →
    record_length ≤ length out → head ≡ pack head_layout (head_fields (kind_number r.entry) (date_of r.entry)) →
    high ≡ pack (body_layout new_form r.entry) (body_fields r.entry r.marks r.sizes) / 2 ^ 40 →
    low ≡ pack (body_layout new_form r.entry) (body_fields r.entry r.marks r.sizes) % 2 ^ 40 →
    last ≡ (unpack (bytes 3) head ++ (unpack (bytes 5) high ++ unpack (bytes 5) low)) ++ drop record_length out → Writes r out (Ok tt) last
unfolding bytes_of
writes_parts r out last a head high low f e p h he hi lo l =
    let q = passed r a e p in
    writes_stored r out a f e p last h
    (l ∙ ap (λ (b : List ℕ). b ++ drop record_length out) (three_parts r.entry r.marks r.sizes head high low q.date q.limits q.zeros he hi lo))
