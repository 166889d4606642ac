-- A text is taken exactly where it has its form, and text and value give each other back.
-- Assumes nothing.
use mathlib.Core.Path.{◌≡◌, refl, sym, ap, ◌∙◌}
use mathlib.Core.Bool.{Bool, true, false}
use mathlib.Core.List.{List}
use Prim.Native.Nat.{ℕ, ◌^◌, ◌<◌}
use native.Mathlib.Omega.{arith}
use borrow.Author.Tests.{eq-eqb, ltb-true, lt-ltb, le-leb}
use lib.Dec.{eqb}
use lib.ListN.{length, length-map}
use Rattle.octets.specs.Numbers.{digits, Below, bytes_of, bytes_number}
use Rattle.octets.specs.Every.{all_of}
use Rattle.octets.proofs.Digits.{digits-length, digits_value, value_below, value-digits_fit}
use Rattle.octets.proofs.Every.{and_first, and_second, either, all_weaken}
use Rattle.text.specs.Characters.{between, raised, raised_text, is_digit, is_hex, is_upper_hex, is_name_character, hex_text, hex_number, decimal_text, decimal_number}
use Rattle.text.proofs.Alphabets as alphabets
use Rattle.text.proofs.Notations.{hex, decimal, between_low, between_high}
use Rattle.text.proofs.NameTexts.{names_below}
use Rattle.text.proofs.Raising.{hex_raised, written_stays}
use Rattle.dates.specs.Calendar.{year, within, is_date}
use Rattle.dates.proofs.Parts.{date_fits}
use Rattle.forms.specs.Identifiers.{is_text, is_hw_id, is_upper_hw_id, raised_hw_id, is_cell_key}
use Rattle.forms.proofs.Fits.{text_fits, text_all}
use Rattle.forms.proofs.HwIds.{upper_stays, upper_given, raised_upper}
use Rattle.spelling.specs.Spelling.{is_word, identifier_read, key_read, date_read, none64, none32, identifier_from, identifier_to, hw_id_from, hw_id_to, key_from, key_to, is_date_word, date_from, date_to}
use Rattle.spelling.specs.ThereAndBack.{ThereAndBack, NamesBack, HwIdsBack, HwIdsEitherCase, CodesBack, KeysBack, DatesBack}
use Rattle.spelling.proofs.Words.{word_length}

pub word_all : (test : ℕ → Bool) (n : ℕ) (t : List ℕ) → is_word test n t ≡ true → all_of test t ≡ true
unfolding is_word
word_all test n t word = and_second (eqb (length t) n) (all_of test t) word

pub made_word : (test : ℕ → Bool) (n : ℕ) (t : List ℕ) → length t ≡ n → all_of test t ≡ true → is_word test n t ≡ true
unfolding is_word
made_word test n t same all = rw (eq-eqb (length t) n same, all)

-- identifiers of one form: those of so many characters that pass the test, if these are bytes and what another text gives is none
module _ (none : ℕ) (test : ℕ → Bool) (n : ℕ) (bytes : (t : List ℕ) → all_of test t ≡ true → Below 256 t) (is_none : is_text test n none ≡ false) where
  -- of a text of the form
  module _ (t : List ℕ) (word : is_word test n t ≡ true) where
    below : Below 256 t
    below = bytes t (word_all test n t word)

    same : length t ≡ n
    same = word_length test n t word

    bytes_back : bytes_of n (bytes_number t) ≡ t
    bytes_back = rw same at (digits_value t below)

    value : identifier_from none test n t ≡ bytes_number t
    unfolding identifier_read
    value = rw word

    taken : is_text test n (bytes_number t) ≡ true
    unfolding is_text
    taken =
        let fits : bytes_number t < 256 ^ n = rw same at (value_below t below) in
        rw (lt-ltb (bytes_number t) (256 ^ n) fits, bytes_back) (word_all test n t word)

    back : identifier_to test n (identifier_from none test n t) ≡ t
    unfolding identifier_to
    back = rw (value, taken) bytes_back

  other : (t : List ℕ) → is_word test n t ≡ false → is_text test n (identifier_from none test n t) ≡ false
  unfolding identifier_read
  other t miss = rw miss is_none

  again : (x : ℕ) → is_text test n x ≡ true → identifier_from none test n (identifier_to test n x) ≡ x
  unfolding identifier_to
  again x is =
      rw is
      (value (bytes_of n x) (made_word test n (bytes_of n x) (digits-length 256 n x) (text_all test n x is))
      ∙ value-digits_fit 256 n x (omega arith) (text_fits test n x is))

  identifiers_back : ThereAndBack (is_text test n) (is_word test n) (identifier_from none test n) (identifier_to test n)
  identifiers_back =
      ((λ t. either (is_word test n t) (λ word. (ap (is_text test n) (value t word) ∙ taken t word) ∙ sym word) (λ miss. other t miss ∙ sym miss)), back, again)

letter_name : (c : ℕ) → between 65 70 c ≡ true → between 65 90 c ≡ true
letter_name c is = rw (le-leb 65 c (between_low 65 70 c is), le-leb c 90 (omega (arith, between_high 65 70 c is)))

-- hex characters are among those of names
pub hex_names : (t : List ℕ) → all_of is_upper_hex t ≡ true → all_of is_name_character t ≡ true
unfolding is_upper_hex is_name_character
hex_names t all =
    all_weaken is_upper_hex is_name_character
    (λ c is. either (is_digit c) (λ digit. rw digit) (λ letter. rw letter (letter_name c (rw letter at is))))
    t all

pub names_back : NamesBack
unfolding is_text digits all_of is_name_character is_digit
names_back = identifiers_back none64 is_name_character 8 names_below refl

pub codes_back : CodesBack
unfolding is_text digits all_of is_name_character is_digit
codes_back = identifiers_back none32 is_name_character 2 names_below refl

upper_back : ThereAndBack is_upper_hw_id (is_word is_upper_hex 5) (identifier_from none64 is_upper_hex 5) (identifier_to is_upper_hex 5)
unfolding is_text digits all_of is_upper_hex is_digit
upper_back = identifiers_back none64 is_upper_hex 5 (λ t all. names_below t (hex_names t all)) refl

-- five characters of hex in either case are five in capitals once they are raised
word_raised : (t : List ℕ) → is_word is_upper_hex 5 (raised_text t) ≡ is_word is_hex 5 t
unfolding is_word
word_raised t = rw (length-map t raised, hex_raised t)

-- of a text of the form
module _ (t : List ℕ) (word : is_word is_hex 5 t ≡ true) where
  hw_id_upper : is_upper_hw_id (hw_id_from t) ≡ true
  hw_id_upper = upper_back.0 (raised_text t) ∙ word_raised t ∙ word

  hw_id_back : hw_id_to (hw_id_from t) ≡ raised_text t
  hw_id_back = ap (identifier_to is_upper_hex 5) (upper_stays (hw_id_from t) hw_id_upper) ∙ upper_back.1 (raised_text t) (word_raised t ∙ word)

hw_id_other : (t : List ℕ) → is_word is_hex 5 t ≡ false → is_hw_id (hw_id_from t) ≡ false
unfolding identifier_read is_text digits all_of is_hex raised is_upper_hex is_digit
hw_id_other t miss = rw (word_raised t ∙ miss)

hw_id_again : (x : ℕ) → is_hw_id x ≡ true → hw_id_from (hw_id_to x) ≡ raised_hw_id x
unfolding identifier_to
hw_id_again x is =
    let upper = raised_upper x is in
    let stays = written_stays (bytes_of 5 (raised_hw_id x)) (text_all is_upper_hex 5 (raised_hw_id x) upper) in
    let again : identifier_from none64 is_upper_hex 5 (bytes_of 5 (raised_hw_id x)) ≡ raised_hw_id x = rw upper at (upper_back.2 (raised_hw_id x) upper) in
    rw (upper, stays) again

pub hw_ids_back : HwIdsBack
hw_ids_back = (
  (λ t. either (is_word is_hex 5 t) (λ word. upper_given (hw_id_from t) (hw_id_upper t word) ∙ sym word) (λ miss. hw_id_other t miss ∙ sym miss)),
  hw_id_back,
  hw_id_again,
)

pub hw_ids_either_case : HwIdsEitherCase
hw_ids_either_case = ((λ t u same. ap (identifier_from none64 is_upper_hex 5) same), (λ x y same. ap (identifier_to is_upper_hex 5) same))

-- ten characters of hex in capitals
module _ (t : List ℕ) (word : is_word is_upper_hex 10 t ≡ true) where
  key_value : key_from t ≡ hex_number t
  unfolding key_read
  key_value = rw word

  key_size : length t ≡ 10
  key_size = word_length is_upper_hex 10 t word

  key_written : all_of is_upper_hex t ≡ true
  key_written = word_all is_upper_hex 10 t word

  key_small : is_cell_key (hex_number t) ≡ true
  key_small =
      let low : hex_number t < 16 ^ 10 = rw key_size at (alphabets.number_below hex t (alphabets.written_is_read hex t key_written)) in
      lt-ltb (hex_number t) (256 ^ 5) (omega arith)

  key_back : key_to (key_from t) ≡ t
  unfolding key_to
  key_back = rw (key_value, key_small) (rw key_size at (alphabets.text_of_number hex t key_written))

key_other : (t : List ℕ) → is_word is_upper_hex 10 t ≡ false → is_cell_key (key_from t) ≡ false
unfolding key_read
key_other t miss = rw miss

key_again : (x : ℕ) → is_cell_key x ≡ true → key_from (key_to x) ≡ x
unfolding key_to
key_again x is =
    rw is
    (key_value (hex_text 10 x) (made_word is_upper_hex 10 (hex_text 10 x) (alphabets.text_length_lem hex 10 x) (alphabets.text_written_lem hex 10 x))
    ∙ alphabets.number_of_text_fit hex 10 x (omega (arith, ltb-true x (256 ^ 5) is)))

pub keys_back : KeysBack
keys_back =
    ((λ t. either (is_word is_upper_hex 10 t) (λ word. (ap is_cell_key (key_value t word) ∙ key_small t word) ∙ sym word) (λ miss. key_other t miss ∙ sym miss)), key_back, key_again)

-- eight digits that are a date
module _ (t : List ℕ) (word : is_date_word t ≡ true) where
  date_value : date_from t ≡ decimal_number t
  unfolding date_read
  date_value = rw word

  date_digits : is_word is_digit 8 t ≡ true
  unfolding is_date_word
  date_digits = and_first (is_word is_digit 8 t) (is_date (decimal_number t)) word

  date_good : is_date (decimal_number t) ≡ true
  unfolding is_date_word
  date_good = and_second (is_word is_digit 8 t) (is_date (decimal_number t)) word

  date_back : date_to (date_from t) ≡ t
  unfolding date_to
  date_back =
      rw (date_value, date_good)
      (rw (word_length is_digit 8 t date_digits) at (alphabets.text_of_number decimal t (word_all is_digit 8 t date_digits)))

date_other : (t : List ℕ) → is_date_word t ≡ false → is_date (date_from t) ≡ false
unfolding date_read is_date year within
date_other t miss = rw miss

date_again : (x : ℕ) → is_date x ≡ true → date_from (date_to x) ≡ x
unfolding date_to is_date_word
date_again x is =
    let number = alphabets.number_of_text_fit decimal 8 x (date_fits x is) in
    let digits : is_word is_digit 8 (decimal_text 8 x) ≡ true =
    made_word is_digit 8 (decimal_text 8 x) (alphabets.text_length_lem decimal 8 x) (alphabets.text_written_lem decimal 8 x)
    in
    rw is (date_value (decimal_text 8 x) (rw (digits, number) is) ∙ number)

pub dates_back : DatesBack
dates_back =
    ((λ t. either (is_date_word t) (λ word. (ap is_date (date_value t word) ∙ date_good t word) ∙ sym word) (λ miss. date_other t miss ∙ sym miss)), date_back, date_again)
