-- HW_IDs with their letters raised: their bytes, and their form before and after.
-- Assumes nothing.
use mathlib.Core.Path.{◌≡◌, sym, ap, ◌∙◌}
use mathlib.Core.Bool.{true}
use mathlib.Core.List.{List}
use Prim.Native.Nat.{ℕ, ◌^◌, ◌≤◌, ◌<◌}
use native.Mathlib.Omega.{arith}
use borrow.Author.Tests.{lt-ltb, le-ltb, ltb-true, ltb-false}
use lib.Dec.{ltb}
use lib.ListN.{length, replicate, length-map}
use lib.Seq.{take_all}
use Rattle.octets.specs.Numbers.{Below, bytes_of, bytes_number}
use Rattle.octets.specs.Places.{number_at}
use Rattle.octets.proofs.Digits.{digits-length, digits_below, digits_value, value_below, value-digits_fit}
use Rattle.octets.proofs.Every.{either}
use Rattle.octets.proofs.Places.{number_within}
use Rattle.text.specs.Characters.{raised, raised_text, is_upper_hex}
use Rattle.text.specs.Texts.{placed}
use Rattle.text.proofs.PutTexts.{raised_whole}
use Rattle.text.proofs.Raising.{raised_below, hex_raised, written_stays}
use Rattle.forms.specs.Identifiers.{is_text, is_hw_id, is_upper_hw_id, raised_hw_id}
use Rattle.forms.specs.Laws.{RaisedForm, UpperStays}
use Rattle.forms.proofs.Fits.{text_fits, text_all}

module _ (x : ℕ) where
  pub raised_large : 256 ^ 5 ≤ x → raised_hw_id x ≡ x
  unfolding raised_hw_id
  raised_large large = rw (le-ltb x (256 ^ 5) large)

  size : length (raised_text (bytes_of 5 x)) ≡ 5
  size = length-map (bytes_of 5 x) raised ∙ digits-length 256 5 x

  module _ (small : x < 256 ^ 5) where
    value : raised_hw_id x ≡ bytes_number (raised_text (bytes_of 5 x))
    unfolding raised_hw_id
    value = rw (lt-ltb x (256 ^ 5) small)

    -- the number of the raised bytes, put into an array of five
    pub raised-put : (after : List ℕ) → after ≡ placed 0 (raised_text (bytes_of 5 x)) (replicate 5 0) → number_at 5 after 0 ≡ raised_hw_id x
    raised-put after put =
        let whole : after ≡ raised_text (bytes_of 5 x) = raised_whole 5 (bytes_of 5 x) after (digits-length 256 5 x) put in
        let five : length after ≡ 5 = ap length whole ∙ size in
        number_within 5 after 0 (omega arith) ∙ ap bytes_number (take_all 5 after (omega arith) ∙ whole) ∙ sym value

    below : Below 256 (raised_text (bytes_of 5 x))
    below = raised_below (bytes_of 5 x) (digits_below 256 5 x (omega arith))

    fits : raised_hw_id x < 256 ^ 5
    fits = rw value (rw size at (value_below (raised_text (bytes_of 5 x)) below))

    raised-bytes : bytes_of 5 (raised_hw_id x) ≡ raised_text (bytes_of 5 x)
    raised-bytes = ap (bytes_of 5) value ∙ rw size at (digits_value (raised_text (bytes_of 5 x)) below)

    small-form : is_upper_hw_id (raised_hw_id x) ≡ is_hw_id x
    unfolding is_text
    small-form = rw (lt-ltb (raised_hw_id x) (256 ^ 5) fits, lt-ltb x (256 ^ 5) small, raised-bytes) (hex_raised (bytes_of 5 x))

  large_form : 256 ^ 5 ≤ x → is_upper_hw_id (raised_hw_id x) ≡ is_hw_id x
  unfolding is_text
  large_form large = rw (raised_large large, le-ltb x (256 ^ 5) large)

pub raised_form : RaisedForm
raised_form x =
    either (ltb x (256 ^ 5)) (λ e. small-form x (ltb-true x (256 ^ 5) e)) (λ e. large_form x (ltb-false x (256 ^ 5) e))

pub upper_stays : UpperStays
upper_stays x upper =
    let small = text_fits is_upper_hex 5 x upper in
    value x small ∙ ap bytes_number (written_stays (bytes_of 5 x) (text_all is_upper_hex 5 x upper)) ∙ value-digits_fit 256 5 x (omega arith) small

-- so one in upper case may be given
pub upper_given : (x : ℕ) → is_upper_hw_id x ≡ true → is_hw_id x ≡ true
upper_given x upper = sym (raised_form x) ∙ ap is_upper_hw_id (upper_stays x upper) ∙ upper

-- and what is given has the form in use once it is raised
pub raised_upper : (x : ℕ) → is_hw_id x ≡ true → is_upper_hw_id (raised_hw_id x) ≡ true
raised_upper x given = raised_form x ∙ given

-- HW_IDs that differ in case alone have the form alike
pub same_form : (x y : ℕ) → raised_hw_id x ≡ raised_hw_id y → is_hw_id x ≡ is_hw_id y
same_form x y same = sym (raised_form x) ∙ ap is_upper_hw_id same ∙ raised_form y
