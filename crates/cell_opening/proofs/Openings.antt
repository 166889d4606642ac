-- What opening answers and writes, return by return. Assumes nothing.
use mathlib.Core.Path.{◌≡◌, refl, sym, ap, ap₂, ◌∙◌}
use mathlib.Core.Bool.{Bool, true, false, cond, ◌&&◌, ◌||◌}
use mathlib.Core.List.{List, ◌++◌}
use Prim.Native.Nat.{ℕ, ◌+◌, ◌-◌, ◌%◌, ◌≤◌, ◌<◌}
use native.Mathlib.Omega.{arith}
use borrow.Author.Tests.{leb-true, le-leb, eq-eqb}
use lib.Dec.{leb, eqb}
use lib.ListN.{length, take, drop}
use lib.Seq.{length-take-le}
use Rattle.octets.specs.NoChoice.{AnswerAndLent}
use Rattle.octets.proofs.Every.{and_first, and_second}
use Rattle.crc32.specs.Crc32.{crc32_of}
use Rattle.blowfish.specs.Cipher.{decipher_of}
use Rattle.forms.specs.Order.{demand}
use Rattle.cell_file.specs.Enciphering.{most, cell_words}
use Rattle.cell_file.proofs.Calls.{largest, is_key_lem}
use Rattle.cell_opening.specs.Opening.{
  deciphered,
  padding_of,
  is_padded_file,
  unpadded_file,
  gives_padding,
  text_under,
  is_right_key,
  Opened,
  opened,
  refused,
  has_blocks,
  opened_file,
}
use Rattle.cell_opening.specs.Judging.{wholes, judged, neither, opened_by}
use Rattle.std.specs.Prelude.{Result, Ok, Err}
use Rattle.forms.specs.Refusals.{by}
use Rattle.forms.specs.declared.refusals.Refusal.{Refusal}
use Rattle.cell_opening.specs.declared.OpenedFile.{OpenedFile}
use Rattle.cell_opening.specs.Answers.{file_answer, file_lent}
use Rattle.cell_opening.proofs.LastBlock.{blocks_say}
use Rattle.cell_opening.proofs.KeyJudged.{all_length, all_is}

-- what opening answers and the lent output afterwards are those of what it gives
abbrev pub FileAnswered : Opened → List ℕ → Result OpenedFile Refusal → List ℕ → Type 0
FileAnswered o before answer after = AnswerAndLent (file_answer o) (file_lent o before) answer after

-- what a key gives, by its two tests
abbrev verdict : Bool → Bool → ℕ → Result ℕ Refusal
verdict padded same n = cond padded (cond same (Ok n) (Err (by 16))) (Err (by 21))

right_tests : (padded same : Bool) (k n : ℕ) → verdict padded same k ≡ Ok n → (padded ≡ true) × ((same ≡ true) × (n ≡ k))
right_tests true true k n e = (refl, (refl, cc))
right_tests true false k n e = let z : ◌≡◌ {A = ℕ} 0 1 = cc in absurd (omega arith)
right_tests false same k n e = let z : ◌≡◌ {A = ℕ} 0 1 = cc in absurd (omega arith)

not_right : (padded same : Bool) (k : ℕ) (r : Refusal) → verdict padded same k ≡ Err r → (padded && same) ≡ false
not_right true true k r e = let z : ◌≡◌ {A = ℕ} 0 1 = cc in absurd (omega arith)
not_right true false k r e = refl
not_right false same k r e = refl

-- what comes of two keys, by their four tests
abbrev chosen : Bool → Bool → Bool → Bool → Opened → Opened → Opened
chosen p₁ s₁ p₂ s₂ one two = demand (p₁ || p₂) (refused (by 21)) (demand ((p₁ && s₁) || (p₂ && s₂)) (refused (by 16)) (cond (p₁ && s₁) one two))

second_chosen : (p s : Bool) (one two : Opened) → (p && s) ≡ false → chosen p s true true one two ≡ two
second_chosen true true one two e = let z : ◌≡◌ {A = ℕ} 0 1 = cc in absurd (omega arith)
second_chosen true false one two e = refl
second_chosen false s one two e = refl

-- a refusal that a key gave is one of the two
said : (r₁ r₂ : Refusal) → ◌≡◌ {A = Result ℕ Refusal} (Err r₁) (Err r₂) → r₂ ≡ r₁
said r₁ r₂ e = cc

-- what is refused, by the refusals of both
none_chosen : (p₁ s₁ p₂ s₂ : Bool) (k₁ k₂ : ℕ) (r₁ r₂ : Refusal) (one two : Opened) → verdict p₁ s₁ k₁ ≡ Err r₁ → verdict p₂ s₂ k₂ ≡ Err r₂
    → chosen p₁ s₁ p₂ s₂ one two ≡ refused (neither r₁ r₂)
none_chosen true true p₂ s₂ k₁ k₂ r₁ r₂ one two e f = let z : ◌≡◌ {A = ℕ} 0 1 = cc in absurd (omega arith)
none_chosen true false true true k₁ k₂ r₁ r₂ one two e f = let z : ◌≡◌ {A = ℕ} 0 1 = cc in absurd (omega arith)
none_chosen true false true false k₁ k₂ r₁ r₂ one two e f = rw (said _ _ e)
none_chosen true false false s₂ k₁ k₂ r₁ r₂ one two e f = rw (said _ _ e)
none_chosen false s₁ true true k₁ k₂ r₁ r₂ one two e f = let z : ◌≡◌ {A = ℕ} 0 1 = cc in absurd (omega arith)
none_chosen false s₁ true false k₁ k₂ r₁ r₂ one two e f = rw (said _ _ e, said _ _ f)
none_chosen false s₁ false s₂ k₁ k₂ r₁ r₂ one two e f = rw (said _ _ e, said _ _ f)

-- the text under a key that gives right padding, and its length
module _ (key : ℕ) (file : List ℕ) (form : has_blocks file ≡ true) (padded : gives_padding key file ≡ true) where
  text_size : (length (text_under key file) ≡ length file - padding_of (deciphered key file)) × ((1 ≤ padding_of (deciphered key file)) × (padding_of (deciphered key file) ≤ 8))
  unfolding gives_padding is_padded_file text_under unpadded_file
  text_size =
      let t = deciphered key file in
      let size : length t ≡ length file = all_length key 0 file (cell_words key) form refl in
      let bounds : (leb 1 (padding_of t) && leb (padding_of t) 8) ≡ true = and_first _ _ padded in (
        length-take-le (length t - padding_of t) t (omega arith) ∙ omega (arith, size),
        (leb-true 1 (padding_of t) (and_first _ _ bounds), leb-true (padding_of t) 8 (and_second (leb 1 (padding_of t)) _ bounds)),
      )

  pub text_again : take (length (text_under key file)) (deciphered key file) ≡ text_under key file
  unfolding text_under unpadded_file
  text_again =
      let t = deciphered key file in
      ap (λ (k : ℕ). take k t) (length-take-le (length t - padding_of t) t (omega arith))

-- a key that was judged right: what is asked of whoever writes the text
module _ (crc key n : ℕ) (file : List ℕ) (form : has_blocks file ≡ true) (right : judged crc key file ≡ Ok n) where
  right_says : (gives_padding key file ≡ true) × ((eqb (crc32_of (text_under key file)) crc ≡ true) × (n ≡ length (text_under key file)))
  unfolding judged
  right_says = right_tests (gives_padding key file) (eqb (crc32_of (text_under key file)) crc) (length (text_under key file)) n right

  pub size_fits : (n < length file) × (length file ≤ n + 8)
  size_fits =
      let says = right_says in
      let size = text_size key file form says.0 in
      let long = blocks_say file form in
      (omega (arith, says.1.1, size.0, size.1.0, size.1.1, long.0), omega (arith, says.1.1, size.0, size.1.0, size.1.1, long.0))

  -- and what was written is the text
  text_written_lem : (words before after : List ℕ) → words ≡ cell_words key → after ≡ take n (wholes (decipher_of words) file) ++ drop n before
      → after ≡ text_under key file ++ drop (length (text_under key file)) before
  text_written_lem words before after w is =
      let says = right_says in
      is
      ∙ ap₂ (λ (k : ℕ) (l : List ℕ). take k l ++ drop k before) says.1.1 (all_is key 0 file words form w)
      ∙ ap (λ (l : List ℕ). l ++ drop (length (text_under key file)) before) (text_again key file form says.0)

  wrote : (o : Opened) (which : ℕ) (words before after : List ℕ) → o ≡ opened which (text_under key file) → words ≡ cell_words key
      → after ≡ take n (wholes (decipher_of words) file) ++ drop n before
      → FileAnswered o before (Ok (record { length = n; key = which })) after
  wrote o which words before after e w is = (
    ap (λ (k : ℕ). Ok (record { length = k; key = which })) right_says.1.1 ∙ sym (ap file_answer e),
    text_written_lem words before after w is ∙ sym (ap (λ (p : Opened). file_lent p before) e),
  )

module _ (file : List ℕ) (one two crc : ℕ) (form : has_blocks file ≡ true) where
  -- whether the CRC-32 under a key is the one that was given
  abbrev same : ℕ → Bool
  same key = eqb (crc32_of (text_under key file)) crc

  is_chosen : opened_by file one two crc ≡ chosen (gives_padding one file) (same one) (gives_padding two file) (same two) (opened 1 (text_under one file)) (opened 2 (text_under two file))
  unfolding opened_by is_right_key
  is_chosen = refl

  pub first_opened : (n : ℕ) (words before after : List ℕ) → judged crc one file ≡ Ok n → words ≡ cell_words one → after ≡ take n (wholes (decipher_of words) file) ++ drop n before
      → FileAnswered (opened_by file one two crc) before (Ok (record { length = n; key = 1 })) after
  first_opened n words before after right w is =
      let says = right_says crc one n file form right in
      wrote crc one n file form right (opened_by file one two crc) 1 words before after (is_chosen ∙ rw (says.0, says.1.0)) w is

  module _ (r₁ : Refusal) (first : judged crc one file ≡ Err r₁) where
    first_wrong : (gives_padding one file && same one) ≡ false
    unfolding judged
    first_wrong = not_right (gives_padding one file) (same one) (length (text_under one file)) r₁ first

    pub second_opened : (n : ℕ) (words before after : List ℕ) → judged crc two file ≡ Ok n → words ≡ cell_words two
        → after ≡ take n (wholes (decipher_of words) file) ++ drop n before
        → FileAnswered (opened_by file one two crc) before (Ok (record { length = n; key = 2 })) after
    second_opened n words before after right w is =
        let says = right_says crc two n file form right in
        wrote crc two n file form right (opened_by file one two crc) 2 words before after
        (is_chosen
        ∙ ap₂ (λ (p s : Bool). chosen (gives_padding one file) (same one) p s (opened 1 (text_under one file)) (opened 2 (text_under two file))) says.0 says.1.0
        ∙ second_chosen (gives_padding one file) (same one) (opened 1 (text_under one file)) (opened 2 (text_under two file)) first_wrong)
        w is

    pub none_opened : (r₂ r : Refusal) (before : List ℕ) → judged crc two file ≡ Err r₂ → r ≡ neither r₁ r₂
        → FileAnswered (opened_by file one two crc) before (Err r) before
    unfolding judged
    none_opened r₂ r before second is =
        let o : opened_by file one two crc ≡ refused (neither r₁ r₂) =
        is_chosen
        ∙ none_chosen (gives_padding one file) (same one) (gives_padding two file) (same two) (length (text_under one file)) (length (text_under two file)) r₁ r₂
        (opened 1 (text_under one file)) (opened 2 (text_under two file)) first second in
        (ap Err is ∙ sym (ap file_answer o), sym (ap (λ (p : Opened). file_lent p before) o))

module _ (file : List ℕ) (one two crc room : ℕ) where
  module _ (k : one ≤ largest) (l : two ≤ largest) where
    module _ (fits : length file ≤ most + 8) where
      module _ (enough : length file ≤ room) where
        pub by_keys : has_blocks file ≡ true → opened_file file one two crc room ≡ opened_by file one two crc
        unfolding opened_file opened_by
        by_keys form = rw (is_key_lem one k, is_key_lem two l, le-leb (length file) (most + 8) fits, le-leb (length file) room enough, form)

-- a length that is no zero and a multiple of 8
pub form_is : (file : List ℕ) → 1 ≤ length file → length file % 8 ≡ 0 → has_blocks file ≡ true
form_is file some whole = rw (le-leb 1 (length file) some, eq-eqb (length file % 8) 0 whole)

-- what opening by two keys answered is what opening answers
pub by_keys_answered : (o p : Opened) (before after : List ℕ) (answer : Result OpenedFile Refusal) → o ≡ p → FileAnswered p before answer after → FileAnswered o before answer after
by_keys_answered o p before after answer e is = (is.0 ∙ sym (ap file_answer e), is.1 ∙ sym (ap (λ (q : Opened). file_lent q before) e))
