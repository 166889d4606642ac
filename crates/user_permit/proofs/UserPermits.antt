-- The parts of a user permit, and what each step of making and reading one answers.
-- Assumes nothing.
use Rattle.std.specs.Prelude.{Some}
use mathlib.Core.Path.{◌≡◌, refl, sym, ap, ap₂, ◌∙◌}
use mathlib.Core.Bool.{true, ◌&&◌}
use mathlib.Core.List.{List, [], ◌++◌, append_assoc, append-nil}
use Prim.Native.Nat.{ℕ, ◌≤◌, ◌<◌, ◌^◌}
use native.Mathlib.Omega.{arith}
use borrow.Author.Tests.{eq-eqb, le-leb, eqb-true}
use lib.Dec.{eqb}
use lib.ListN.{length, take, drop, length-append}
use lib.Seq.{take_all, take_at}
use Rattle.octets.specs.Numbers.{bytes_of}
use Rattle.octets.specs.Every.{all_of}
use Rattle.octets.specs.Padding.{pad_of, unpad_of}
use Rattle.octets.proofs.Digits.{digits-length}
use Rattle.octets.proofs.Every.{and_first, and_second, same_tests}
use Rattle.text.specs.Characters.{raised_text, is_upper_hex, is_hex, hex_text, hex_number}
use Rattle.text.specs.Texts.{part, all_at, placed}
use Rattle.text.proofs.Alphabets.{text_length_lem, text_written_lem, written_is_read}
use Rattle.text.proofs.Notations.{hex}
use Rattle.text.proofs.NumbersAt.{hex_bound}
use Rattle.text.proofs.PlacedTexts.{placed_start, placed-next}
use Rattle.text.proofs.TextsAt.{part_front, all_append, all_inside, all_join, all_left, all_right}
use Rattle.crc32.specs.Crc32.{crc32_of}
use Rattle.blowfish.specs.Cipher.{encipher_of, decipher_of}
use Rattle.blowfish.specs.Schedule.{schedule, scheduled}
use Rattle.blowfish.proofs.Keys.{taken}
use Rattle.forms.specs.Identifiers.{is_hw_id, raised_hw_id}
use Rattle.forms.specs.Output.{text}
use Rattle.user_permit.specs.Register.{is_register, key_of}
use Rattle.user_permit.specs.UserPermit.{maker_words, hw_id_part, crc_part, m_id_part, user_permit, made, is_permit_text, is_crc_right, permit_mId, ship_of, permit_says, read_permit}
use Rattle.user_permit.specs.Laws.{ReadUndamaged}

-- an M_KEY is a key of five bytes, so its words are found
pub maker_words_lem : (key : ℕ) (bytes before words : List ℕ) → bytes ≡ bytes_of 5 key → words ≡ scheduled bytes before → words ≡ maker_words key
maker_words_lem key bytes before words e done =
    let five : length bytes ≡ 5 = ap length e ∙ digits-length 256 5 key in
    done ∙ sym (taken bytes before (omega arith) (omega arith)).1 ∙ ap schedule e

crc_length : (s : List ℕ) → length (crc_part s) ≡ 8
unfolding crc_part
crc_length s = text_length_lem hex 8 (crc32_of s)

module _ (key hw m : ℕ) where
  pub hw_id_length : length (hw_id_part key hw) ≡ 16
  unfolding hw_id_part
  hw_id_length = text_length_lem hex 16 (encipher_of (maker_words key) (pad_of 5 (raised_hw_id hw)))

  m_id_length : length (m_id_part m) ≡ 4
  unfolding m_id_part
  m_id_length = text_length_lem hex 4 m

  pub permit_length : length (user_permit key hw m) ≡ 28
  unfolding user_permit
  permit_length = simp (length-append, crc_length) (omega (arith, hw_id_length, m_id_length))

  pub first_part : part 16 (user_permit key hw m) 0 ≡ hw_id_part key hw
  unfolding user_permit
  first_part = part_front 16 0 [] (hw_id_part key hw) _ refl hw_id_length

  pub second_part : part 8 (user_permit key hw m) 16 ≡ crc_part (hw_id_part key hw)
  unfolding user_permit
  second_part = part_front 8 16 (hw_id_part key hw) (crc_part (hw_id_part key hw)) (m_id_part m) hw_id_length (crc_length (hw_id_part key hw))

  pub third_part : part 4 (user_permit key hw m) 24 ≡ m_id_part m
  unfolding user_permit
  third_part =
      ap (λ (l : List ℕ). part 4 l 24)
      (sym (append_assoc (hw_id_part key hw) (crc_part (hw_id_part key hw)) (m_id_part m))
      ∙ ap (λ (l : List ℕ). (hw_id_part key hw ++ crc_part (hw_id_part key hw)) ++ l) (sym (append-nil (m_id_part m))))
      ∙ part_front 4 24 (hw_id_part key hw ++ crc_part (hw_id_part key hw)) (m_id_part m) []
      (simp (length-append, crc_length) (omega (arith, hw_id_length)))
      m_id_length

  pub hw_id_written : all_of is_upper_hex (hw_id_part key hw) ≡ true
  unfolding hw_id_part
  hw_id_written = text_written_lem hex 16 (encipher_of (maker_words key) (pad_of 5 (raised_hw_id hw)))

  pub permit_written : all_of is_upper_hex (user_permit key hw m) ≡ true
  unfolding user_permit crc_part m_id_part
  permit_written =
      simp all_append
      (rw (hw_id_written, text_written_lem hex 8 (crc32_of (hw_id_part key hw)), text_written_lem hex 4 m))

  pub permit_hex : all_of is_hex (user_permit key hw m) ≡ true
  permit_hex = written_is_read hex (user_permit key hw m) permit_written

  -- the three parts put one after the other, the CRC-32 being that of the first as it stands
  pub parts_put : (before first second third : List ℕ) (block crc : ℕ) → 28 ≤ length before
      → block ≡ encipher_of (maker_words key) (pad_of 5 (raised_hw_id hw)) → first ≡ placed 0 (hex_text 16 block) before
      → crc ≡ crc32_of (take 16 first) → second ≡ placed 16 (hex_text 8 crc) first
      → third ≡ placed 24 (hex_text 4 m) second → third ≡ user_permit key hw m ++ drop 28 before
  unfolding user_permit hw_id_part crc_part m_id_part
  parts_put before first second third block crc long is put₁ of put₂ put₃ =
      let a = hw_id_part key hw in
      let b = crc_part a in
      let l₁ : length a ≡ 16 = hw_id_length in
      let l₂ : length b ≡ 8 = crc_length a in
      let l₃ : length (m_id_part m) ≡ 4 = m_id_length in
      let l₁₂ : length (a ++ b) ≡ 24 = simp length-append (omega arith) in
      let p₁ : first ≡ placed 0 a before = put₁ ∙ ap (λ (x : ℕ). placed 0 (hex_text 16 x) before) is in
      let start : first ≡ a ++ drop (length a) before = p₁ ∙ placed_start a before (omega arith) in
      let c : crc ≡ crc32_of a = of ∙ ap crc32_of (ap (take 16) start ∙ take_at a (drop (length a) before) 16 l₁) in
      let p₂ : second ≡ placed 0 (a ++ b) before =
      put₂ ∙ ap₂ (λ (x : ℕ) (l : List ℕ). placed 16 (hex_text 8 x) l) c p₁ ∙ placed-next 0 16 a b before (omega arith) (omega arith) in
      let p₃ : third ≡ placed 0 ((a ++ b) ++ m_id_part m) before =
      put₃ ∙ ap (placed 24 (m_id_part m)) p₂ ∙ placed-next 0 24 (a ++ b) (m_id_part m) before (omega arith) (omega arith) in
      p₃
      ∙ ap (λ (l : List ℕ). placed 0 l before) (append_assoc a b (m_id_part m))
      ∙ placed_start (user_permit key hw m) before (omega (arith, permit_length))
      ∙ ap (λ (n : ℕ). user_permit key hw m ++ drop n before) permit_length

-- 28 characters are hex where those of the three parts are
module _ (permit : List ℕ) where
  pub permit_text_lem : length permit ≡ 28 → all_of is_hex permit ≡ true → is_permit_text permit ≡ true
  unfolding is_permit_text
  permit_text_lem h all = rw (eq-eqb (length permit) 28 h, all)

  module _ (size : length permit ≡ 28) where
    by_parts : is_permit_text permit ≡ all_at is_hex 28 permit 0
    unfolding is_permit_text
    by_parts =
        rw (eq-eqb (length permit) 28 size)
        (sym (all_inside is_hex 28 permit 0 (omega arith) ∙ ap (all_of is_hex) (take_all 28 permit (omega arith))))

  pub text_size : is_permit_text permit ≡ true → length permit ≡ 28
  unfolding is_permit_text
  text_size e = eqb-true (length permit) 28 (and_first (eqb (length permit) 28) (all_of is_hex permit) e)

  pub text_hex : is_permit_text permit ≡ true → all_at is_hex 28 permit 0 ≡ true
  text_hex e = sym (by_parts (text_size e)) ∙ e

  pub first_hex : all_at is_hex 28 permit 0 ≡ true → all_at is_hex 16 permit 0 ≡ true
  first_hex = all_left is_hex 16 12 permit 0

  pub second_hex : all_at is_hex 28 permit 0 ≡ true → all_at is_hex 8 permit 16 ≡ true
  second_hex all = all_left is_hex 8 4 permit 16 (all_right is_hex 16 12 permit 0 all)

  pub third_hex : all_at is_hex 28 permit 0 ≡ true → all_at is_hex 4 permit 24 ≡ true
  third_hex all = all_right is_hex 8 4 permit 16 (all_right is_hex 16 12 permit 0 all)

  -- there are 28, and each of the three parts is hex
  pub text_by_parts : is_permit_text permit ≡ (eqb (length permit) 28 && (all_at is_hex 16 permit 0 && (all_at is_hex 8 permit 16 && all_at is_hex 4 permit 24)))
  text_by_parts =
      same_tests (is_permit_text permit) _
      (λ is. let all = text_hex is in rw (eq-eqb (length permit) 28 (text_size is), first_hex all, second_hex all, third_hex all))
      (λ is.
      let three = and_second (eqb (length permit) 28) _ is in
      let last = and_second (all_at is_hex 16 permit 0) _ three in
      by_parts (eqb-true (length permit) 28 (and_first (eqb (length permit) 28) _ is))
      ∙ all_join is_hex 16 12 permit 0 (and_first (all_at is_hex 16 permit 0) _ three)
      (all_join is_hex 8 4 permit 16 (and_first (all_at is_hex 8 permit 16) _ last) (and_second (all_at is_hex 8 permit 16) _ last)))

  pub m_id_fits : all_at is_hex 4 permit 24 ≡ true → hex_number (part 4 permit 24) < 2 ^ 32
  m_id_fits four = omega (arith, hex_bound 4 permit 24 four)

  pub crc_right : (check crc : ℕ) → check ≡ hex_number (part 8 permit 16) → crc ≡ crc32_of (raised_text (part 16 permit 0)) → check ≡ crc → is_crc_right permit ≡ true
  unfolding is_crc_right
  crc_right check crc is of same = eq-eqb (hex_number (part 8 permit 16)) (crc32_of (raised_text (part 16 permit 0))) (sym is ∙ same ∙ of)

module _ (register : List ℕ) (hw m room : ℕ) where
  pub made-text : is_register register ≡ true → 28 ≤ room → is_hw_id hw ≡ true → (key : ℕ) → key_of register m ≡ Some key
      → made register hw m room ≡ text (user_permit key hw m)
  unfolding made
  made-text good long right key found = rw (good, le-leb 28 room long, right, found)

module _ (register permit : List ℕ) where
  pub says-known : is_permit_text permit ≡ true → is_crc_right permit ≡ true → (key : ℕ) → key_of register (permit_mId permit) ≡ Some key
      → permit_says register permit ≡ ship_of (unpad_of 5 (decipher_of (maker_words key) (hex_number (part 16 permit 0)))) (permit_mId permit)
  unfolding permit_says
  says-known hex_text right key found = rw (hex_text, right, found)

pub read_undamaged : ReadUndamaged
unfolding read_permit
read_undamaged register permit good = rw good
