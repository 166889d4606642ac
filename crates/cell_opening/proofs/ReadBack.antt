-- What was enciphered is opened again, by the first key that is right; and files are kept apart.
-- Assumes nothing.
use mathlib.Core.Path.{◌≡◌, refl, sym, ap, ◌∙◌}
use mathlib.Core.Bool.{Bool, true, false, cond, ◌&&◌, ◌||◌}
use mathlib.Core.List.{List}
use Prim.Native.Nat.{ℕ, ◌+◌, ◌*◌, ◌/◌, ◌%◌, ◌^◌, ◌≤◌}
use native.Mathlib.Omega.{arith}
use borrow.Author.Tests.{le-leb, leb-true, eq-eqb}
use lib.Dec.{leb}
use lib.ListN.{length, replicate}
use lib.Seq.{take_all}
use Rattle.octets.specs.Numbers.{Below, bytes_of}
use Rattle.octets.proofs.Digits.{append_below, digits_below, replicate_below}
use Rattle.octets.proofs.Every.{and_first, and_second}
use Rattle.crc32.specs.Crc32.{crc32_of}
use Rattle.blowfish.specs.Cipher.{encipher_of, decipher_of}
use Rattle.blowfish.proofs.Words.{number_back, blocks_stay_blocks, keys_have_words}
use Rattle.blocks.specs.Blocks.{each_block}
use Rattle.blocks.proofs.BackAgain.{each_back}
use Rattle.forms.specs.Identifiers.{is_cell_key}
use Rattle.forms.specs.Order.{demand}
use Rattle.forms.specs.Output.{Output, text, refusal}
use Rattle.forms.specs.Refusals.{by}
use Rattle.forms.proofs.Demands.{passed}
use Rattle.cell_file.specs.Enciphering.{most, cell_words, enciphered, added, padded_file, file_written}
use Rattle.cell_file.proofs.WholeBlocks.{enciphered-length, padded-length, file_length}
use Rattle.cell_file.proofs.CutAnywhere.{no_refusal}
use Rattle.cell_opening.specs.Opening.{deciphered, gives_padding, text_under, is_right_key, has_blocks, opened, refused, opened_number, opened_file}
use Rattle.cell_opening.specs.ReadBack.{OpensUnderOne, OpensUnderTwo, WhichComes, KeepsApart}
use Rattle.cell_opening.proofs.FilePadding.{padded_right, unpadded_again}

-- the words of a cell key have 32 bits
cell_words_lem : (key : ℕ) → Below (2 ^ 32) (cell_words key)
unfolding cell_words
cell_words_lem key = keys_have_words (bytes_of 5 key) (digits_below 256 5 key (omega arith))

padded_below : (s : List ℕ) → Below 256 s → Below 256 (padded_file s)
unfolding padded_file
padded_below s below = append_below s (replicate (added s) (added s)) below (replicate_below 256 (added s) (added s) (omega arith))

-- deciphering gives the padded file back
deciphered_again : (key : ℕ) (s : List ℕ) → Below 256 s → deciphered key (enciphered key (padded_file s)) ≡ padded_file s
unfolding deciphered enciphered
deciphered_again key s below =
    let w = cell_words key in
    let n = length (padded_file s) / 8 in
    let whole : length (enciphered key (padded_file s)) / 8 ≡ n = omega (arith, enciphered-length key (padded_file s)) in
    let all : length (padded_file s) ≤ 8 * n = omega (arith, padded-length s) in
    ap (λ (k : ℕ). each_block (decipher_of w) k (enciphered key (padded_file s))) whole
    ∙ each_back (encipher_of w) (decipher_of w) (λ x h. (blocks_stay_blocks w (cell_words_lem key) x h).0) (λ x h. number_back w (cell_words_lem key) x h)
    n (padded_file s) (padded_below s below) (omega arith)
    ∙ take_all (8 * n) (padded_file s) all

module _ (key : ℕ) (file : List ℕ) (below : Below 256 file) where
  -- under its own key a file has right padding
  own_padding : gives_padding key (enciphered key (padded_file file)) ≡ true
  unfolding gives_padding
  own_padding = rw (deciphered_again key file below) (padded_right file)

  -- and before it stands the file
  own_text : text_under key (enciphered key (padded_file file)) ≡ file
  unfolding text_under
  own_text = rw (deciphered_again key file below) (unpadded_again file)

  -- so that its own CRC-32 agrees
  own_right : is_right_key (crc32_of file) key (enciphered key (padded_file file)) ≡ true
  unfolding is_right_key
  own_right = rw (own_padding, own_text) (eq-eqb (crc32_of file) (crc32_of file) refl)

-- what a file's enciphering that was done says: the key is a cell key, the file has at most 16 MiB, and what was written
file_says : (key room : ℕ) (file t : List ℕ) → file_written key file room ≡ text t
    → (is_cell_key key ≡ true) × ((length file ≤ most) × (t ≡ enciphered key (padded_file file)))
unfolding file_written
file_says key room file t e =
    let first = passed (λ (o : Output). o ≡ text t) (is_cell_key key && leb (length file) most) (refusal (by 103)) _ (no_refusal _ t) e in
    let second = passed (λ (o : Output). o ≡ text t) (leb (8 * (length file / 8 + 1)) room) (refusal (by 108)) _ (no_refusal _ t) first.1 in
    (and_first _ _ first.0, (leb-true _ _ (and_second (is_cell_key key) (leb (length file) most) first.0), cc second.1))

-- keys, lengths and blocks as they must be: the padding and the CRC-32 decide
decided : (file : List ℕ) (one two crc room : ℕ)
    → is_cell_key one ≡ true → is_cell_key two ≡ true → length file ≤ most + 8 → length file ≤ room → has_blocks file ≡ true
    → opened_file file one two crc room
    ≡ demand (gives_padding one file || gives_padding two file) (refused (by 21))
    (demand (is_right_key crc one file || is_right_key crc two file) (refused (by 16))
    (cond (is_right_key crc one file) (opened 1 (text_under one file)) (opened 2 (text_under two file))))
unfolding opened_file
decided file one two crc room good_one good_two fits enough blocks =
    rw (good_one, good_two, le-leb (length file) (most + 8) fits, le-leb (length file) room enough, blocks)

by_numbers : (padding right first : Bool) (t u : List ℕ)
    → opened_number (demand padding (refused (by 21)) (demand right (refused (by 16)) (cond first (opened 1 t) (opened 2 u)))) ≡ cond padding (cond right 0 16) 21
by_numbers false right first t u = refl
by_numbers true false first t u = refl
by_numbers true true true t u = refl
by_numbers true true false t u = refl

pub which_comes : WhichComes
which_comes file one two crc room good_one good_two fits enough blocks =
    ap opened_number (decided file one two crc room good_one good_two fits enough blocks)
    ∙ by_numbers (gives_padding one file || gives_padding two file) (is_right_key crc one file || is_right_key crc two file) (is_right_key crc one file)
    (text_under one file) (text_under two file)

module _ (file t : List ℕ) (one two room : ℕ) (good_one : is_cell_key one ≡ true) (good_two : is_cell_key two ≡ true) (enough : length t ≤ room) where
  -- a file that was enciphered under some key passes what is asked first
  first_passed : (key : ℕ) → t ≡ enciphered key (padded_file file) → length file ≤ most
      → opened_file t one two (crc32_of file) room
      ≡ demand (gives_padding one t || gives_padding two t) (refused (by 21))
      (demand (is_right_key (crc32_of file) one t || is_right_key (crc32_of file) two t) (refused (by 16))
      (cond (is_right_key (crc32_of file) one t) (opened 1 (text_under one t)) (opened 2 (text_under two t))))
  first_passed key e fits =
      let size = ap length e ∙ file_length key file in
      decided t one two (crc32_of file) room good_one good_two (omega (arith, size)) enough
      (rw (le-leb 1 (length t) (omega (arith, size)), eq-eqb (length t % 8) 0 (omega (arith, size))))

pub opens_under_one : OpensUnderOne
opens_under_one file t one two written room below e good_two enough =
    let says = file_says one written file t e in
    let is = says.1.1 in
    let padding : gives_padding one t ≡ true = ap (gives_padding one) is ∙ own_padding one file below in
    let right : is_right_key (crc32_of file) one t ≡ true = ap (is_right_key (crc32_of file) one) is ∙ own_right one file below in
    let plain : text_under one t ≡ file = ap (text_under one) is ∙ own_text one file below in
    first_passed file t one two room says.0 good_two enough one is says.1.0 ∙ rw (padding, right, plain)

either_true : (a : Bool) → (a || true) ≡ true
either_true true = refl
either_true false = refl

pub opens_under_two : OpensUnderTwo
opens_under_two file t one two written room below e good_one enough =
    let says = file_says two written file t e in
    let is = says.1.1 in
    let padding : gives_padding two t ≡ true = ap (gives_padding two) is ∙ own_padding two file below in
    let right : is_right_key (crc32_of file) two t ≡ true = ap (is_right_key (crc32_of file) two) is ∙ own_right two file below in
    let plain : text_under two t ≡ file = ap (text_under two) is ∙ own_text two file below in
    first_passed file t one two room good_one says.0 enough two is says.1.0
    ∙ rw (padding, right, plain, either_true (gives_padding one t), either_true (is_right_key (crc32_of file) one t))

pub keeps_apart : KeepsApart
keeps_apart key room room' file file' t below below' e e' =
    sym (own_text key file below)
    ∙ ap (text_under key) (sym (file_says key room file t e).1.1 ∙ (file_says key room' file' t e').1.1)
    ∙ own_text key file' below'
