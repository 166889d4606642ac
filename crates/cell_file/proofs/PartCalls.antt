-- What the call on a part answers and writes, return by return.
-- Assumes nothing.
use mathlib.Core.Path.{◌≡◌, refl, sym, ap, ap₂, ◌∙◌}
use mathlib.Core.Bool.{true}
use mathlib.Core.List.{List, [], ◌++◌, append_assoc}
use Prim.Native.Nat.{ℕ, ◌+◌, ◌-◌, ◌*◌, ◌/◌, ◌^◌, ◌≤◌, ◌<◌}
use native.Mathlib.Nat.{one-le-pow, pow-le-pow_right, lt_of_lt_of_le}
use native.Mathlib.Omega.{arith}
use lib.Arith.{digits_lt}
use lib.Pow.{pow-add}
use lib.ListN.{length, take, drop, take-append-drop, length-append, length-drop}
use lib.Seq.{take_all, length-take-le, drop-append-add}
use Rattle.octets.specs.Numbers.{Below, bytes_of, bytes_number}
use Rattle.octets.proofs.Digits.{digits-length, value_append, value_below, value-digits_fit, take_below}
use Rattle.octets.specs.NoChoice.{AnswerAndLent}
use Rattle.text.specs.Texts.{placed}
use Rattle.text.proofs.PlacedTexts.{placed_start}
use Rattle.blowfish.specs.Cipher.{encipher_of}
use Rattle.blocks.specs.Blocks.{each_block, blocks_put}
use Rattle.blocks.proofs.EachBlocks.{each_block-length}
use Rattle.blocks.proofs.BackAgain.{one_block}
use Rattle.blocks.proofs.Puts.{put_next}
use Rattle.cell_file.specs.Enciphering.{most, cell_words, enciphered, is_carried, PartOutput, blocks, carried_on, part_written}
use Rattle.cell_file.specs.Answers.{part_answer, part_lent}
use Rattle.std.specs.Prelude.{Result, Ok}
use Rattle.forms.specs.declared.refusals.Refusal.{Refusal}
use Rattle.cell_file.specs.declared.Part.{Part}
use Rattle.cell_file.proofs.WholeBlocks.{enciphered-length}
use Rattle.cell_file.proofs.CutAnywhere.{part_done_lem}
use Rattle.cell_file.proofs.Pieces.{first_bytes, part_pieces}
use Rattle.cell_file.proofs.Calls.{largest, is_key_lem}

module _ (n x : ℕ) (part : List ℕ) (few : n ≤ 7) (fits : x < 256 ^ n) (enough : 8 ≤ n + length part) where
  -- the bytes of the part that make the carried ones a block
  abbrev head : List ℕ
  head = take (8 - n) part

  pub head_length : length head ≡ 8 - n
  head_length = length-take-le (8 - n) part (omega arith)

  pub head_fits : (length head ≤ 8) × (x < 256 ^ (8 - length head))
  head_fits = let e : 8 - length head ≡ n = omega (arith, head_length) in (omega (arith, head_length), rw e fits)

  -- those after them, as the part that is lent
  abbrev tail : List ℕ
  tail = take (length part - (8 - n)) (drop (8 - n) part)

  tail_is : tail ≡ drop (8 - n) part
  tail_is = take_all (length part - (8 - n)) (drop (8 - n) part) (omega (arith, length-drop (8 - n) part))

  -- the number that is gathered of the first block
  module _ (below : Below 256 part) (y : ℕ) (gathered : y ≡ x * 256 ^ length head + bytes_number head) where
    first-is : bytes_of 8 y ≡ bytes_of n x ++ head
    first-is = ap (bytes_of 8) gathered ∙ first_bytes n x head fits (take_below (8 - n) part below) (omega (arith, head_length))

    y-fits : y < 2 ^ 64
    y-fits =
        let low : bytes_number head < 256 ^ (8 - n) = rw head_length at (value_below head (take_below (8 - n) part below)) in
        let both : x * 256 ^ (8 - n) + bytes_number head < 256 ^ n * 256 ^ (8 - n) = digits_lt fits low in
        let eight : n + (8 - n) ≡ 8 = omega arith in
        let size : 256 ^ n * 256 ^ (8 - n) ≡ 256 ^ 8 = sym (pow-add 256 n (8 - n)) ∙ ap (λ (m : ℕ). 256 ^ m) eight in
        let is : y ≡ x * 256 ^ (8 - n) + bytes_number head = gathered ∙ ap (λ (m : ℕ). x * 256 ^ m + bytes_number head) head_length in
        omega (arith, both, size, is)

    all_is : bytes_of n x ++ part ≡ bytes_of 8 y ++ tail
    all_is =
        ap (λ (l : List ℕ). bytes_of n x ++ l) (sym (take-append-drop (8 - n) part))
        ∙ sym (append_assoc (bytes_of n x) head (drop (8 - n) part))
        ∙ ap₂ (λ (a b : List ℕ). a ++ b) (sym first-is) (sym tail_is)

    -- both pieces are the whole blocks of the carried bytes and the part
    pub both-pieces : (f : ℕ → ℕ)
        → each_block f ((n + length part) / 8) (bytes_of n x ++ part) ≡ bytes_of 8 (f y) ++ each_block f (length tail / 8) tail
    both-pieces f =
        let size : n + length part ≡ length (bytes_of n x ++ part) = sym (length-append (bytes_of n x) part ∙ ap (λ (m : ℕ). m + length part) (digits-length 256 n x)) in
        ap (λ (m : ℕ). each_block f (m / 8) (bytes_of n x ++ part)) size
        ∙ ap (λ (l : List ℕ). each_block f (length l / 8) l) all_is
        ∙ part_pieces (bytes_of 8 y) tail (digits-length 256 8 y) f
        ∙ ap (λ (l : List ℕ). l ++ each_block f (length tail / 8) tail) (one_block f y y-fits)

    -- the first block is put at the start, and the others after it
    pub part_put : (words out o block ys : List ℕ) → 8 * ((n + length part) / 8) ≤ length out
        → block ≡ bytes_of 8 (encipher_of words y) → o ≡ placed 0 block out → ys ≡ blocks_put (encipher_of words) tail (take (length o - 8) (drop 8 o))
        → take 8 o ++ (ys ++ drop (length o - 8) (drop 8 o))
        ≡ placed 0 (each_block (encipher_of words) ((n + length part) / 8) (bytes_of n x ++ part)) out
    part_put words out o block ys room b e put =
        let f = encipher_of words in
        let t = each_block f ((n + length part) / 8) (bytes_of n x ++ part) in
        let eight : length block ≡ 8 = ap length b ∙ digits-length 256 8 (f y) in
        let size : length t ≡ 8 * ((n + length part) / 8) = each_block-length f ((n + length part) / 8) (bytes_of n x ++ part) in
        let rest : length tail ≡ length part - (8 - n) = ap length tail_is ∙ length-drop (8 - n) part in
        let pieces : block ++ each_block f (length tail / 8) tail ≡ t = ap (λ (l : List ℕ). l ++ each_block f (length tail / 8) tail) b ∙ sym (both-pieces f) in
        ap (λ (l : List ℕ). take 8 o ++ (l ++ drop (length o - 8) (drop 8 o))) put
        ∙ put_next f tail block out o 8 eight (e ∙ placed_start block out (omega arith)) (omega arith)
        ∙ ap (λ (l : List ℕ). l ++ drop (length l) out) pieces
        ∙ sym (placed_start t out (omega arith))

-- what a call on a part answers and the lent output afterwards are those of what it gives
abbrev pub PartAnswered : PartOutput → List ℕ → Result Part Refusal → List ℕ → Type 0
PartAnswered o before answer after = AnswerAndLent (part_answer o) (part_lent o before) answer after

part_answered : (o : PartOutput) (t c before after : List ℕ) (size x n : ℕ) → o ≡ blocks t c → size ≡ length t → x ≡ bytes_number c → n ≡ length c → after ≡ t ++ drop (length t) before
    → PartAnswered o before (Ok (record { length = size; carried = x; count = n })) after
part_answered o t c before after size x n e size_is x_is n_is is =
    (rw (size_is, x_is, n_is) (sym (ap part_answer e)), is ∙ sym (ap (λ (p : PartOutput). part_lent p before) e))

module _ (n x : ℕ) (part : List ℕ) (few : n ≤ 7) (fits : x < 256 ^ n) where
  -- the carried bytes and the part
  abbrev pub both : List ℕ
  both = bytes_of n x ++ part

  both_length : length both ≡ n + length part
  both_length = length-append (bytes_of n x) part ∙ ap (λ (m : ℕ). m + length part) (digits-length 256 n x)

  both_number : bytes_number both ≡ x * 256 ^ length part + bytes_number part
  both_number = value_append 256 (bytes_of n x) part ∙ ap (λ (y : ℕ). y * 256 ^ length part + bytes_number part) (value-digits_fit 256 n x (omega arith) fits)

  -- they make no block
  module _ (none : n + length part < 8) where
    pub few_fit : (length part ≤ 8) × (x < 256 ^ (8 - length part))
    few_fit =
        let places : n ≤ 8 - length part = omega arith in
        (omega arith, lt_of_lt_of_le fits (pow-le-pow_right {n = 256} (omega arith) places))

    pub part_kept : (key y : ℕ) (before : List ℕ) → key ≤ largest → length part ≤ most → is_carried n x ≡ true → y ≡ x * 256 ^ length part + bytes_number part
        → PartAnswered (part_written key x n part (length before)) before (Ok (record { length = 0; carried = y; count = n + length part })) before
    unfolding enciphered each_block
    part_kept key y before k h carried gathered =
        let whole : length both / 8 ≡ 0 = omega (arith, both_length) in
        let nothing : enciphered key both ≡ [] = ap (λ (m : ℕ). each_block (encipher_of (cell_words key)) m both) whole in
        let all : carried_on both ≡ both = ap (λ (m : ℕ). drop (8 * m) both) whole in
        part_answered (part_written key x n part (length before)) [] both before before 0 y (n + length part)
        (part_done_lem key x n part (length before) (is_key_lem key k) carried h (omega arith) ∙ ap₂ blocks nothing all)
        refl (gathered ∙ sym both_number) (sym both_length) refl

  -- they make some
  module _ (some : 8 ≤ n + length part) where
    -- what is left of the part, as the part that is lent
    abbrev pub left : List ℕ
    left = take (length part - (8 * ((n + length part) / 8) - n)) (drop (8 * ((n + length part) / 8) - n) part)

    left_is : left ≡ carried_on both
    left_is =
        let r = 8 * ((n + length part) / 8) - n in
        let place : length (bytes_of n x) + r ≡ 8 * (length both / 8) = omega (arith, both_length, digits-length 256 n x) in
        take_all (length part - r) (drop r part) (omega (arith, length-drop r part))
        ∙ sym (drop-append-add (bytes_of n x) part r)
        ∙ ap (λ (m : ℕ). drop m both) place

    left_length : length left ≡ length part - (8 * ((n + length part) / 8) - n)
    left_length = ap length left_is ∙ length-drop (8 * (length both / 8)) both ∙ omega (arith, both_length)

    pub left_fits : (length left ≤ 8) × (0 < 256 ^ (8 - length left))
    left_fits = (omega (arith, left_length), one-le-pow (8 - length left) 256 (omega arith))

    pub part_wrote : (key y : ℕ) (words before after : List ℕ) → key ≤ largest → length part ≤ most → is_carried n x ≡ true
        → 8 * ((n + length part) / 8) ≤ length before → words ≡ cell_words key
        → after ≡ placed 0 (each_block (encipher_of words) ((n + length part) / 8) both) before
        → y ≡ 0 * 256 ^ length left + bytes_number left
        → PartAnswered (part_written key x n part (length before)) before
        (Ok (record { length = 8 * ((n + length part) / 8); carried = y; count = length part - (8 * ((n + length part) / 8) - n) })) after
    unfolding enciphered
    part_wrote key y words before after k h carried room w is gathered =
        let t = enciphered key both in
        let size : length t ≡ 8 * ((n + length part) / 8) = enciphered-length key both ∙ omega (arith, both_length) in
        let written : after ≡ placed 0 t before =
        is
        ∙ ap₂ (λ (l : List ℕ) (m : ℕ). placed 0 (each_block (encipher_of l) (m / 8) both) before) w (sym both_length) in
        let rest : y ≡ bytes_number (carried_on both) = gathered ∙ omega arith ∙ ap bytes_number left_is in
        part_answered (part_written key x n part (length before)) t (carried_on both) before after _ y _
        (part_done_lem key x n part (length before) (is_key_lem key k) carried h room)
        (sym size) rest (sym left_length ∙ ap length left_is) (written ∙ placed_start t before (omega arith))
