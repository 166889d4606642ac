-- Every text that C gets ends with a zero, and has none before it.
-- Assumes nothing.
use mathlib.Core.Path.{◌≡◌, refl, ap, ◌∙◌}
use mathlib.Core.Bool.{Bool, true, not}
use mathlib.Core.List.{List, [], ◌∷◌, ◌++◌}
use Prim.Native.Nat.{ℕ, zero, suc, ◌<◌}
use native.Mathlib.Omega.{arith}
use borrow.Author.Tests.{ne_eqb, not-true}
use lib.Dec.{eqb}
use lib.ListN.{length, drop, replicate}
use Rattle.octets.specs.Numbers.{bytes_of}
use Rattle.octets.specs.Every.{all_of}
use Rattle.octets.proofs.Digits.{digits-length}
use Rattle.octets.proofs.Every.{either, all_first, all_rest, all_weaken}
use Rattle.text.specs.Characters.{is_digit, is_upper_hex, is_name_character, hex_text, decimal_text}
use Rattle.text.proofs.Alphabets as alphabets
use Rattle.text.proofs.Notations.{hex, decimal, digit_low, between_low}
use Rattle.text.proofs.PlacedTexts.{placed_start}
use Rattle.dates.specs.Calendar.{is_date}
use Rattle.forms.specs.Identifiers.{is_text, raised_hw_id, is_cell_key}
use Rattle.forms.proofs.Fits.{text_all}
use Rattle.spelling.specs.Spelling.{identifier_to, key_to, date_to, spelled}
use Rattle.spelling.specs.Ends.{until_zero, ReadByC, TextsEnd}
use Rattle.spelling.proofs.Backs.{hex_names}

-- not the byte that ends a text
unfoldable pub is_plain : ℕ → Bool
is_plain c = not (eqb c 0)

zeros_end : (n k : ℕ) → until_zero (drop k (replicate n 0)) ≡ []
unfolding until_zero
zeros_end zero zero = refl
zeros_end zero (suc k) = refl
zeros_end (suc n) zero = refl
zeros_end (suc n) (suc k) = zeros_end n k

text_then : (t rest : List ℕ) → all_of is_plain t ≡ true → until_zero rest ≡ [] → until_zero (t ++ rest) ≡ t
unfolding until_zero is_plain
text_then [] rest all ends = ends
text_then (c ∷ t) rest all ends =
    rw (not-true (eqb c 0) (all_first is_plain c t all)) (ap (λ (s : List ℕ). c ∷ s) (text_then t rest (all_rest is_plain c t all) ends))

-- a text that may be handed out: short, and of plain bytes
abbrev pub Fine : List ℕ → Type 0
Fine t = (length t < 64) × (all_of is_plain t ≡ true)

pub fine_read : (t : List ℕ) → Fine t → (length t < 64) × (until_zero (spelled t) ≡ t)
fine_read t (short, all) =
    (short, ap until_zero (placed_start t (replicate 64 0) (omega (arith, short))) ∙ text_then t (drop (length t) (replicate 64 0)) all (zeros_end 64 (length t)))

nothing_fine : Fine []
unfolding all_of
nothing_fine = (omega arith, refl)

name_plain : (c : ℕ) → is_name_character c ≡ true → is_plain c ≡ true
unfolding is_name_character is_plain
name_plain c is =
    let above : 0 < c =
    either (is_digit c) (λ digit. omega (arith, digit_low c digit)) (λ letter. omega (arith, between_low 65 90 c (rw letter at is)))
    in
    rw (ne_eqb c 0 (λ e. omega arith))

names_plain : (t : List ℕ) → all_of is_name_character t ≡ true → all_of is_plain t ≡ true
names_plain = all_weaken is_name_character is_plain name_plain

hex_plain : (t : List ℕ) → all_of is_upper_hex t ≡ true → all_of is_plain t ≡ true
hex_plain t all = names_plain t (hex_names t all)

digits_plain : (t : List ℕ) → all_of is_digit t ≡ true → all_of is_plain t ≡ true
unfolding is_name_character
digits_plain t all = names_plain t (all_weaken is_digit is_name_character (λ c digit. rw digit) t all)

module _ (test : ℕ → Bool) (plain : (t : List ℕ) → all_of test t ≡ true → all_of is_plain t ≡ true) (n : ℕ) (short : n < 64) where
  identifiers_read : ReadByC (identifier_to test n)
  unfolding identifier_to
  identifiers_read x =
      fine_read (identifier_to test n x)
      (either (is_text test n x)
      (λ is. rw is (rw (digits-length 256 n x) short, plain (bytes_of n x) (text_all test n x is)))
      (λ none. rw none nothing_fine))

keys_read : ReadByC key_to
unfolding key_to
keys_read x =
    fine_read (key_to x)
    (either (is_cell_key x)
    (λ is. rw is (rw (alphabets.text_length_lem hex 10 x) (omega arith), hex_plain (hex_text 10 x) (alphabets.text_written_lem hex 10 x)))
    (λ none. rw none nothing_fine))

dates_read : ReadByC date_to
unfolding date_to
dates_read x =
    fine_read (date_to x)
    (either (is_date x)
    (λ is. rw is (rw (alphabets.text_length_lem decimal 8 x) (omega arith), digits_plain (decimal_text 8 x) (alphabets.text_written_lem decimal 8 x)))
    (λ none. rw none nothing_fine))

pub texts_end : TextsEnd
texts_end = (
  identifiers_read is_name_character names_plain 8 (omega arith),
  λ x. identifiers_read is_upper_hex hex_plain 5 (omega arith) (raised_hw_id x),
  identifiers_read is_name_character names_plain 2 (omega arith),
  keys_read,
  dates_read,
)
