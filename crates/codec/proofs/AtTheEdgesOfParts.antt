-- The examples are computed by the definitions. By its name this file is checked first, so that a wrong definition is refused at an example.
-- Assumes nothing.
use mathlib.Core.Path.{refl}
use Rattle.codec.specs.Parts.{bad_length}
use Rattle.codec.specs.PartsExamples.{LengthsAtTheEdges, CutAtTheEdges, OldLengths}

pub lengths_at_the_edges : LengthsAtTheEdges
unfolding bad_length
lengths_at_the_edges =
    record {
      nothing = refl;
      twelve_bytes = refl;
      one_record = refl;
      one_byte_more = refl;
      two_records = refl;
      most_records = refl;
      most_and_abyte = refl;
      most_and_arecord = refl;
    }

pub cut_at_the_edges : CutAtTheEdges
cut_at_the_edges = record { two_records = refl; twelve_bytes_more = refl; joined_in_order = refl }

pub old_lengths : OldLengths
unfolding bad_length
old_lengths =
    record {
      nothing = refl;
      ten_bytes = refl;
      one_record = refl;
      thirteen_bytes = refl;
      most_records = refl;
      most_and_arecord = refl;
      no_record = refl;
      two_records = refl;
    }
