-- `listing_text::blank_page` meets its contract.
-- Assumes nothing.
use mathlib.Core.Path.{refl, sym}
use Prim.Native.Nat.{ℕ}
use lib.ListN.{length-replicate}
use Rattle.listing_text.specs.Text.{longest_listing}
use Rattle.listing_text.proofs.blank_page.Goals as goal

pub returns : goal.returns
returns c = record { value = refl; longest_listing_value = sym (length-replicate {A = ℕ} longest_listing 0) }
