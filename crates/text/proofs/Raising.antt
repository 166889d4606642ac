-- Texts with their letters raised: which stay as they are, where their parts stand, and what hex in either case says of them.
-- Assumes nothing.
use Rattle.std.proofs.Common.{◌≡◌, ℕ, zero, suc, ◌+◌, ◌-◌, ◌<◌, Bool, true, ◌&&◌, eqb, List, [], ◌∷◌, map, length, get_or, take, drop, sym, refl, ap, ◌∙◌, ap₂, arith, ne_eqb}
use mathlib.Core.List.{map-map}
use lib.ListN.{length-map, get_or-map}
use Rattle.octets.specs.Numbers.{value, Below}
use Rattle.octets.specs.Every.{all_of}
use Rattle.octets.proofs.Every.{either, all_first, all_rest}
use Rattle.text.specs.Characters.{between, raised, raised_text, is_digit, is_upper_hex, is_hex, is_name_character, upper_hex_value, hex_value, hex_number}
use Rattle.text.specs.Texts.{part}
use Rattle.text.proofs.Alphabets.{text_injective}
use Rattle.text.proofs.Notations.{upper, between_low, between_high, digit_stays, name_stays, upper_stays}

-- a text of characters that stay
text_stays : (test : ℕ → Bool) → ((c : ℕ) → test c ≡ true → raised c ≡ c) → (s : List ℕ) → all_of test s ≡ true → raised_text s ≡ s
text_stays test stays [] all = refl
text_stays test stays (c ∷ s) all =
    ap₂ (λ (d : ℕ) (l : List ℕ). d ∷ l) (stays c (all_first test c s all)) (text_stays test stays s (all_rest test c s all))

pub digits_stay : (s : List ℕ) → all_of is_digit s ≡ true → raised_text s ≡ s
digits_stay = text_stays is_digit digit_stays

pub names_stay : (s : List ℕ) → all_of is_name_character s ≡ true → raised_text s ≡ s
names_stay = text_stays is_name_character name_stays

pub written_stays : (s : List ℕ) → all_of is_upper_hex s ≡ true → raised_text s ≡ s
written_stays = text_stays is_upper_hex upper_stays

-- bytes, one by one and at their places
raised_byte : (c : ℕ) → c < 256 → raised c < 256
unfolding raised
raised_byte c low = either (between 97 122 c) (λ e. rw e (omega (arith, between_high 97 122 c e))) (λ e. rw e low)

-- what is no letter is raised from itself alone
pub low_raised : (c k : ℕ) → k < 65 → eqb (raised c) k ≡ eqb c k
unfolding raised
low_raised c k low =
    either (between 97 122 c)
    (λ e.
    let letter = between_low 97 122 c e in
    rw (e, ne_eqb (c - 97 + 65) k (λ is. omega arith), ne_eqb c k (λ is. omega arith)))
    (λ e. rw e)

pub raised_at : (s : List ℕ) (i : ℕ) → get_or (raised_text s) i 0 ≡ raised (get_or s i 0)
unfolding raised
raised_at s i = get_or-map raised s i 0

pub raised_below : (s : List ℕ) → Below 256 s → Below 256 (raised_text s)
raised_below s below i = rw (raised_at s i) (raised_byte (get_or s i 0) (below i))

take-raised : (n : ℕ) (s : List ℕ) → take n (raised_text s) ≡ raised_text (take n s)
take-raised zero s = refl
take-raised (suc n) [] = refl
take-raised (suc n) (c ∷ s) = ap (λ (l : List ℕ). raised c ∷ l) (take-raised n s)

pub drop-raised : (n : ℕ) (s : List ℕ) → drop n (raised_text s) ≡ raised_text (drop n s)
drop-raised zero s = refl
drop-raised (suc n) [] = refl
drop-raised (suc n) (c ∷ s) = drop-raised n s

pub part-raised : (n : ℕ) (s : List ℕ) (at : ℕ) → part n (raised_text s) at ≡ raised_text (part n s at)
part-raised n s at = ap (take n) (drop-raised at s) ∙ take-raised n (drop at s)

-- hex in either case is hex in capitals of the text raised
pub hex_raised : (s : List ℕ) → all_of is_upper_hex (raised_text s) ≡ all_of is_hex s
unfolding all_of is_hex
hex_raised [] = refl
hex_raised (c ∷ s) = ap (λ (b : Bool). is_upper_hex (raised c) && b) (hex_raised s)

pub number_raised : (s : List ℕ) → value 16 (map upper_hex_value (raised_text s)) ≡ hex_number s
unfolding hex_value
number_raised s = ap (value 16) (map-map upper_hex_value raised s)

-- so texts that differ in case alone are read alike
module _ (s t : List ℕ) (same : raised_text s ≡ raised_text t) where
  pub same_hex : all_of is_hex s ≡ all_of is_hex t
  same_hex = sym (hex_raised s) ∙ ap (all_of is_upper_hex) same ∙ hex_raised t

  pub same_number : hex_number s ≡ hex_number t
  same_number = sym (number_raised s) ∙ ap (λ (l : List ℕ). value 16 (map upper_hex_value l)) same ∙ number_raised t

  pub same_part : (n at : ℕ) → raised_text (part n s at) ≡ raised_text (part n t at)
  same_part n at = sym (part-raised n s at) ∙ ap (λ (l : List ℕ). part n l at) same ∙ part-raised n t at

  pub same_length : length s ≡ length t
  same_length = sym (length-map s raised) ∙ ap length same ∙ length-map t raised

-- and texts of one length with one number differ in case alone
pub same_letters : (s t : List ℕ) → all_of is_hex s ≡ true → all_of is_hex t ≡ true → length s ≡ length t → hex_number s ≡ hex_number t → raised_text s ≡ raised_text t
same_letters s t s-hex t-hex size number =
    text_injective upper (raised_text s) (raised_text t) (hex_raised s ∙ s-hex) (hex_raised t ∙ t-hex)
    (length-map s raised ∙ size ∙ sym (length-map t raised))
    (number_raised s ∙ number ∙ sym (number_raised t))
