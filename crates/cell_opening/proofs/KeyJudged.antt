-- What a key is judged to give, return by return, and the text that is written under it.
-- Assumes nothing.
use mathlib.Core.Path.{◌≡◌, refl, sym, ap, ap₂, ◌∙◌}
use mathlib.Core.Bool.{true, false}
use mathlib.Core.List.{List, ◌++◌}
use Prim.Native.Nat.{ℕ, ◌+◌, ◌-◌, ◌/◌, ◌≤◌, ◌<◌}
use native.Mathlib.Omega.{arith}
use borrow.Author.Tests.{leb-true, eq-eqb, ne_eqb}
use lib.Dec.{leb, eqb}
use lib.ListN.{length, take, drop, length-append, take-append-drop}
use lib.Seq.{length-take-le, take-append-add}
use Rattle.octets.proofs.Every.{either, and_first, and_second}
use Rattle.text.specs.Texts.{placed}
use Rattle.text.proofs.PlacedTexts.{placed_start, placed-next}
use Rattle.crc32.specs.Crc32.{crc32_of}
use Rattle.blowfish.specs.Cipher.{decipher_of}
use Rattle.blocks.specs.Blocks.{each_block, blocks_put}
use Rattle.blocks.proofs.EachBlocks.{each_block-length}
use Rattle.blocks.proofs.Cuts.{each_before}
use Rattle.blocks.proofs.Puts.{put_start}
use Rattle.cell_file.specs.Enciphering.{cell_words}
use Rattle.cell_opening.specs.Opening.{deciphered, padding_of, is_padded_file, unpadded_file, gives_padding, text_under, has_blocks}
use Rattle.cell_opening.specs.Judging.{padding_in, wholes, judged}
use Rattle.std.specs.Prelude.{Option, Some, None, Ok, Err}
use Rattle.forms.specs.Refusals.{by}
use Rattle.cell_opening.proofs.LastBlock.{blocks_say, same_found, before, last, in_two, last_length, before_length, last_put}

-- what is no Some is None
pub none_left : (o : Option ℕ) → ((n : ℕ) → o ≡ Some n → ⊥) → o ≡ None
none_left None h = refl
none_left (Some n) h = absurd (h n refl)

-- where there is padding it is right, of 1 to 8 bytes
some_padding : (s : List ℕ) (n : ℕ) → Some n ≡ padding_in s → (is_padded_file s ≡ true) × ((n ≡ padding_of s) × (n ≤ 8))
unfolding padding_in is_padded_file
some_padding s n e =
    either (is_padded_file s)
    (λ right.
    let both : Some n ≡ Some (padding_of s) = e ∙ rw right in
    let is : n ≡ padding_of s = cc both in
    (right, (is, omega (arith, is, leb-true (padding_of s) 8 (and_second (leb 1 (padding_of s)) _ (and_first _ _ right))))))
    (λ wrong. let none : Some n ≡ None = e ∙ rw wrong in let z : ◌≡◌ {A = ℕ} 0 1 = cc none in absurd (omega arith))

-- where there is none it is wrong
no_padding : (s : List ℕ) → None ≡ padding_in s → is_padded_file s ≡ false
unfolding padding_in
no_padding s e =
    either (is_padded_file s)
    (λ right. let some : None ≡ Some (padding_of s) = e ∙ rw right in let z : ◌≡◌ {A = ℕ} 0 1 = cc some in absurd (omega arith))
    (λ wrong. wrong)

module _ (key crc : ℕ) (file words : List ℕ) (form : has_blocks file ≡ true) (w : words ≡ cell_words key) where
  pub all_is : wholes (decipher_of words) file ≡ deciphered key file
  unfolding deciphered
  all_is = ap (λ (l : List ℕ). wholes (decipher_of l) file) w

  pub all_length : length (deciphered key file) ≡ length file
  unfolding deciphered
  all_length = let says = blocks_say file form in each_block-length (decipher_of (cell_words key)) (length file / 8) file ∙ omega (arith, says.1)

  module _ (found : Option ℕ) (eight zeros : List ℕ) (size : length zeros ≡ 8)
      (put : eight ≡ blocks_put (decipher_of words) (take (length file - (length file - 8)) (drop (length file - 8) file)) zeros) (is : found ≡ padding_in eight) where
    found_in : found ≡ padding_in (deciphered key file)
    found_in =
        let d = decipher_of words in
        is
        ∙ ap padding_in (put ∙ last_put d file form zeros size)
        ∙ sym (same_found (before d file form) (last d file form) (last_length d file form))
        ∙ ap padding_in (sym (in_two d file form) ∙ all_is)

    pub wrongly_padded : found ≡ None → Err (by 21) ≡ judged crc key file
    unfolding judged gives_padding
    wrongly_padded e = sym (rw (no_padding (deciphered key file) (sym e ∙ found_in)))

    module _ (n : ℕ) (some : found ≡ Some n) where
      pub padding_fits : n ≤ 8
      padding_fits = (some_padding (deciphered key file) n (sym some ∙ found_in)).1.1

      text_is : take (length file - n) (wholes (decipher_of words) file) ≡ text_under key file
      unfolding text_under unpadded_file
      text_is =
          let says = some_padding (deciphered key file) n (sym some ∙ found_in) in
          ap₂ (λ (k : ℕ) (l : List ℕ). take k l) (ap₂ (λ (a b : ℕ). a - b) (sym all_length) says.1.0) all_is

      text_length_lem : length (text_under key file) ≡ length file - n
      text_length_lem = ap length (sym text_is) ∙ length-take-le (length file - n) (wholes (decipher_of words) file) (omega (arith, ap length all_is, all_length))

      module _ (r : ℕ) (sum : r ≡ crc32_of (take (length file - n) (wholes (decipher_of words) file))) where
        crc_is : r ≡ crc32_of (text_under key file)
        crc_is = sum ∙ ap crc32_of text_is

        pub other_crc : (r ≡ crc → ⊥) → Err (by 16) ≡ judged crc key file
        unfolding judged gives_padding
        other_crc other =
            let right = (some_padding (deciphered key file) n (sym some ∙ found_in)).0 in
            let differs : eqb (crc32_of (text_under key file)) crc ≡ false = ne_eqb _ _ (λ e. other (crc_is ∙ e)) in
            sym (rw (right, differs))

        pub right_key : r ≡ crc → Ok (length file - n) ≡ judged crc key file
        unfolding judged gives_padding
        right_key same =
            let right = (some_padding (deciphered key file) n (sym some ∙ found_in)).0 in
            let agrees : eqb (crc32_of (text_under key file)) crc ≡ true = eq-eqb _ _ (sym crc_is ∙ same) in
            sym (rw (right, agrees) (ap Ok text_length_lem))

-- the text is written: the blocks but the last, and as many bytes of the last as belong to the text
pub text_put : (d : ℕ → ℕ) (file out o eight zeros after : List ℕ) (size : ℕ) → has_blocks file ≡ true → length file ≤ length out
    → size < length file → length file ≤ size + 8 → length zeros ≡ 8 → o ≡ blocks_put d (take (length file - 8) file) out
    → eight ≡ blocks_put d (take (length file - (length file - 8)) (drop (length file - 8) file)) zeros
    → after ≡ placed (length file - 8) (take (size - (length file - 8)) eight) o
    → after ≡ take size (wholes d file) ++ drop size out
text_put d file out o eight zeros after size form room short long z e l is =
    let says = blocks_say file form in
    let whole = length file - 8 in
    let a = before d file form in
    let b = last d file form in
    let k = size - whole in
    let size_a : length a ≡ whole = before_length d file form in
    let size_b : length b ≡ 8 = last_length d file form in
    let front : length (take whole file) ≡ whole = length-take-le whole file (omega arith) in
    let blocks : length (take whole file) / 8 ≡ length file / 8 - 1 = omega (arith, front, says.0, says.1) in
    let same : wholes d (take whole file) ≡ a =
    ap (λ (m : ℕ). each_block d m (take whole file)) blocks
    ∙ sym (each_before d (length file / 8 - 1) (take whole file) (drop whole file) (omega (arith, front, says.0)))
    ∙ ap (each_block d (length file / 8 - 1)) (take-append-drop whole file) in
    let start : o ≡ placed 0 a out =
    e ∙ put_start d (take whole file) out (omega (arith, front)) ∙ ap (λ (t : List ℕ). t ++ drop (length t) out) same ∙ sym (placed_start a out (omega (arith, size_a))) in
    let t = a ++ take k b in
    let size_k : length (take k b) ≡ k = length-take-le k b (omega (arith, size_b)) in
    let all : length a + k ≡ size = omega (arith, size_a) in
    let text : t ≡ take size (wholes d file) = sym (take-append-add a b k) ∙ ap₂ take all (sym (in_two d file form)) in
    let size_t : length t ≡ size = length-append a (take k b) ∙ omega (arith, size_k) in
    is
    ∙ ap₂ (placed whole) (ap (take k) (l ∙ last_put d file form zeros z)) start
    ∙ placed-next 0 whole a (take k b) out (omega (arith, size_a)) (omega (arith, size_a, size_k))
    ∙ placed_start t out (omega (arith, size_t))
    ∙ ap₂ (λ (x : List ℕ) (n : ℕ). x ++ drop n out) text size_t
