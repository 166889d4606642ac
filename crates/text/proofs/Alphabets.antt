-- A number's text and a text's number undo one another, over any alphabet.
-- Assumes nothing.
use Rattle.std.proofs.Common.{◌≡◌, ℕ, zero, suc, ◌%◌, ◌^◌, ◌<◌, Bool, true, ltb, List, [], ◌∷◌, map, length, sym, refl, ap, ◌∙◌, ap₂, mod-eq_of_lt, ltb-true}
use lib.ListN.{length-map}
use Rattle.octets.specs.Numbers.{digits, value, Below}
use Rattle.octets.specs.Every.{all_of}
use Rattle.octets.proofs.Digits.{digits-length, digits_below, value-digits, value_below, digits_value}
use Rattle.octets.proofs.Every.{all_first, all_rest, all_more, all_weaken}

-- characters for the values below b; more characters may be read than are written
pub record Alphabet (b : ℕ) (character value_of : ℕ → ℕ) (read written : ℕ → Bool) : Type 0 where
  pub positive : 0 < b
  pub exactly : (c : ℕ) → read c ≡ ltb (value_of c) b
  pub value_back : (v : ℕ) → v < b → value_of (character v) ≡ v
  pub character_written : (v : ℕ) → v < b → written (character v) ≡ true
  pub character_back : (c : ℕ) → written c ≡ true → character (value_of c) ≡ c
  pub written_read : (c : ℕ) → written c ≡ true → read c ≡ true

module _ {b : ℕ} {character value_of : ℕ → ℕ} {read written : ℕ → Bool} (alphabet : Alphabet b character value_of read written) where
  -- the same alphabet, read after something is done to each character that leaves those that are written
  pub read_after : (first : ℕ → ℕ) → ((c : ℕ) → written c ≡ true → first c ≡ c)
      → Alphabet b character (λ (c : ℕ). value_of (first c)) (λ (c : ℕ). read (first c)) written
  read_after first leaves =
      record {
        positive = alphabet.positive;
        exactly = λ c. alphabet.exactly (first c);
        value_back = λ v fits. ap value_of (leaves (character v) (alphabet.character_written v fits)) ∙ alphabet.value_back v fits;
        character_written = alphabet.character_written;
        character_back = λ c is. ap (λ (d : ℕ). character (value_of d)) (leaves c is) ∙ alphabet.character_back c is;
        written_read = λ c is. ap read (leaves c is) ∙ alphabet.written_read c is;
      }

  pub values_below : (s : List ℕ) → all_of read s ≡ true → Below b (map value_of s)
  values_below [] all i = alphabet.positive
  values_below (c ∷ s) all zero = ltb-true (value_of c) b (sym (alphabet.exactly c) ∙ all_first read c s all)
  values_below (c ∷ s) all (suc i) = values_below s (all_rest read c s all) i

  values_back : (ds : List ℕ) → Below b ds → map value_of (map character ds) ≡ ds
  values_back [] below = refl
  values_back (d ∷ ds) below =
      ap₂ (λ (e : ℕ) (es : List ℕ). e ∷ es) (alphabet.value_back d (below 0)) (values_back ds (λ i. below (suc i)))

  characters_back : (s : List ℕ) → all_of written s ≡ true → map character (map value_of s) ≡ s
  characters_back [] all = refl
  characters_back (c ∷ s) all =
      ap₂ (λ (e : ℕ) (es : List ℕ). e ∷ es)
      (alphabet.character_back c (all_first written c s all))
      (characters_back s (all_rest written c s all))

  characters_written : (ds : List ℕ) → Below b ds → all_of written (map character ds) ≡ true
  unfolding all_of
  characters_written [] below = refl
  characters_written (d ∷ ds) below =
      all_more written (character d) (map character ds)
      (alphabet.character_written d (below 0))
      (characters_written ds (λ i. below (suc i)))

  pub text_length_lem : (n x : ℕ) → length (map character (digits b n x)) ≡ n
  text_length_lem n x = length-map (digits b n x) character ∙ digits-length b n x

  pub text_written_lem : (n x : ℕ) → all_of written (map character (digits b n x)) ≡ true
  text_written_lem n x = characters_written (digits b n x) (digits_below b n x alphabet.positive)

  pub written_is_read : (s : List ℕ) → all_of written s ≡ true → all_of read s ≡ true
  written_is_read = all_weaken written read alphabet.written_read

  pub number_of_text : (n x : ℕ) → value b (map value_of (map character (digits b n x))) ≡ x % b ^ n
  number_of_text n x =
      ap (value b) (values_back (digits b n x) (digits_below b n x alphabet.positive))
      ∙ value-digits b n x alphabet.positive

  pub number_of_text_fit : (n x : ℕ) → x < b ^ n → value b (map value_of (map character (digits b n x))) ≡ x
  number_of_text_fit n x fits = number_of_text n x ∙ mod-eq_of_lt fits

  pub number_below : (s : List ℕ) → all_of read s ≡ true → value b (map value_of s) < b ^ length s
  number_below s all = rw length-map at (value_below (map value_of s) (values_below s all))

  pub text_of_number : (s : List ℕ) → all_of written s ≡ true → map character (digits b (length s) (value b (map value_of s))) ≡ s
  text_of_number s all =
      ap (map character) (rw length-map at (digits_value (map value_of s) (values_below s (written_is_read s all))))
      ∙ characters_back s all

  -- written texts of one length are told apart by their number
  pub text_injective : (s t : List ℕ) → all_of written s ≡ true → all_of written t ≡ true → length s ≡ length t
      → value b (map value_of s) ≡ value b (map value_of t) → s ≡ t
  text_injective s t s-all t-all same_length same =
      sym (text_of_number s s-all)
      ∙ ap₂ (λ (n x : ℕ). map character (digits b n x)) same_length same
      ∙ text_of_number t t-all
