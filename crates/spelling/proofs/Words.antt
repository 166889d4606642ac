-- A text that is exactly so many characters: what stands at its start is all of it.
-- Assumes nothing.
use mathlib.Core.Path.{◌≡◌, ap, ◌∙◌}
use mathlib.Core.Bool.{Bool, true, false}
use mathlib.Core.List.{List}
use Prim.Native.Nat.{ℕ, ◌+◌, ◌≤◌}
use native.Mathlib.Omega.{arith}
use borrow.Author.Tests.{eqb-true, eq-eqb, le-leb}
use lib.Dec.{eqb}
use lib.ListN.{length, length-map}
use lib.Seq.{take_all}
use Rattle.std.specs.Prelude.{Some, None}
use Rattle.octets.specs.Places.{number_at}
use Rattle.octets.specs.Every.{all_of}
use Rattle.octets.proofs.Every.{and_first, and_second, all_weaken}
use Rattle.text.specs.Characters.{raised, raised_text, is_upper_hex, is_hex, is_digit}
use Rattle.text.specs.Texts.{part, all_at, hex_at}
use Rattle.text.proofs.Notations.{hex}
use Rattle.forms.specs.DateText.{is_date_at, date_at}
use Rattle.spelling.specs.Spelling.{is_word, identifier_read, hw_id_read, key_read, is_date_word, date_read}

module _ (test : ℕ → Bool) (n : ℕ) (t : List ℕ) where
  pub other_length : eqb (length t) n ≡ false → is_word test n t ≡ false
  unfolding is_word
  other_length e = rw e

  pub word_length : is_word test n t ≡ true → length t ≡ n
  unfolding is_word
  word_length e = eqb-true _ _ (and_first (eqb (length t) n) (all_of test t) e)

word_weaken : (test other : ℕ → Bool) (n : ℕ) (t : List ℕ) → ((c : ℕ) → test c ≡ true → other c ≡ true) → is_word test n t ≡ true → is_word other n t ≡ true
unfolding is_word
word_weaken test other n t passes word =
    rw (eq-eqb (length t) n (word_length test n t word))
    (all_weaken test other passes t (and_second (eqb (length t) n) (all_of test t) word))

module _ (n : ℕ) (t : List ℕ) (same : length t ≡ n) where
  pub whole : part n t 0 ≡ t
  whole = take_all n t (omega arith)

  pub whole_within : 0 + n ≤ length t
  whole_within = omega arith

  pub whole_word : (test : ℕ → Bool) → all_at test n t 0 ≡ is_word test n t
  unfolding all_at is_word
  whole_word test = rw (le-leb (0 + n) (length t) whole_within, eq-eqb (length t) n same, whole)

module _ (test : ℕ → Bool) (n : ℕ) (t : List ℕ) where
  pub no_identifier : is_word test n t ≡ false → None ≡ identifier_read test n t
  unfolding identifier_read
  no_identifier e = rw e

  pub identifier_of : is_word test n t ≡ true → Some (number_at n t 0) ≡ identifier_read test n t
  unfolding identifier_read number_at
  identifier_of e =
      let same : length t ≡ n = word_length test n t e in
      rw (e, le-leb (0 + n) (length t) (whole_within n t same), whole n t same)

-- a HW_ID: five characters, raised
pub no_hw_id : (t : List ℕ) → eqb (length t) 5 ≡ false → None ≡ hw_id_read t
no_hw_id t other =
    no_identifier is_upper_hex 5 (raised_text t) (other_length is_upper_hex 5 (raised_text t) (ap (λ (n : ℕ). eqb n 5) (length-map t raised) ∙ other))

-- a cell key: what is read at the start of ten characters
module _ (t : List ℕ) where
  pub no_key : is_word is_upper_hex 10 t ≡ false → None ≡ key_read t
  unfolding key_read
  no_key e = rw e

  pub key_word : is_word is_upper_hex 10 t ≡ true → hex_at 10 t 0 ≡ key_read t
  unfolding key_read hex_at
  key_word word =
      let same = word_length is_upper_hex 10 t word in
      let read : all_at is_hex 10 t 0 ≡ true = whole_word 10 t same is_hex ∙ word_weaken is_upper_hex is_hex 10 t hex.written_read word in
      rw (word, read, whole 10 t same)

-- a date: what is read at the start of eight characters
module _ (t : List ℕ) where
  pub no_date_length : eqb (length t) 8 ≡ false → None ≡ date_read t
  unfolding date_read is_date_word
  no_date_length e = rw (other_length is_digit 8 t e)

  pub date_word : length t ≡ 8 → date_at t 0 ≡ date_read t
  unfolding date_at is_date_at date_read is_date_word
  date_word same = rw (whole_word 8 t same is_digit, whole 8 t same)
