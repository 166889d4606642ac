-- What C gets of a value: its text, or of what is none zeros alone.
-- Assumes nothing.
use mathlib.Core.Path.{◌≡◌, sym}
use mathlib.Core.Bool.{Bool, true, false}
use Prim.Native.Nat.{ℕ}
use lib.ListN.{replicate}
use Rattle.octets.specs.Numbers.{bytes_of}
use Rattle.text.specs.Characters.{hex_text, decimal_text}
use Rattle.text.proofs.PlacedTexts.{placed_none}
use Rattle.dates.specs.Calendar.{is_date}
use Rattle.forms.specs.Identifiers.{is_text, is_cell_key}
use Rattle.spelling.specs.Spelling.{identifier_to, key_to, date_to, spelled}

module _ (test : ℕ → Bool) (n x : ℕ) where
  pub identifier_none : is_text test n x ≡ false → replicate 64 0 ≡ spelled (identifier_to test n x)
  unfolding identifier_to
  identifier_none e = rw e (sym (placed_none 0 (replicate 64 0)))

  pub identifier_text : is_text test n x ≡ true → spelled (bytes_of n x) ≡ spelled (identifier_to test n x)
  unfolding identifier_to
  identifier_text e = rw e

module _ (x : ℕ) where
  pub key_none : is_cell_key x ≡ false → replicate 64 0 ≡ spelled (key_to x)
  unfolding key_to
  key_none e = rw e (sym (placed_none 0 (replicate 64 0)))

  pub key_text : is_cell_key x ≡ true → spelled (hex_text 10 x) ≡ spelled (key_to x)
  unfolding key_to
  key_text e = rw e

  pub date_none : is_date x ≡ false → replicate 64 0 ≡ spelled (date_to x)
  unfolding date_to
  date_none e = rw e (sym (placed_none 0 (replicate 64 0)))

  pub date_text : is_date x ≡ true → spelled (decimal_text 8 x) ≡ spelled (date_to x)
  unfolding date_to
  date_text e = rw e
