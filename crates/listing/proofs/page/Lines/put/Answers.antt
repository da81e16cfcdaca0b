-- `listing::page::Lines::put` meets its contract.
-- Assumes nothing.
use mathlib.Core.Path.{refl, sym, ◌∙◌}
use native.Mathlib.Omega.{arith}
use lib.ListN.{length}
use lib.Seq.{take-length}
use Rattle.std.proofs.Math.Seq.{length-sets}
use Rattle.std.proofs.lemmas.Slice.{put_mid-paste}
use Rattle.std.proofs.lemmas.List.Edits.{sets-eq}
use Rattle.listing.proofs.page.Lines.put.Goals as goal

pub returns : goal.returns
returns c =
    let lines = c.args.self.now in
    let text = c.args.text.now in
    let stored = put_mid-paste lines.at _ lines.page.now _ text (length text) c.copy_from_slice.ensures.after (omega arith) refl ∙ rw take-length (sym (sets-eq text lines.page.now lines.at c.requires)) in
    record {
      same_page = refl;
      same_length = rw stored (length-sets lines.page.now lines.at text);
      wrote = record { place = refl; stored = stored };
    }
