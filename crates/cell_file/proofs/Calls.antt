-- What the calls on whole files and on the end answer and write, return by return.
-- Assumes nothing.
use mathlib.Core.Path.{◌≡◌, sym, ap, ap₂, ◌∙◌}
use mathlib.Core.Bool.{true, false}
use mathlib.Core.List.{List, ◌++◌}
use Prim.Native.Nat.{ℕ, ◌+◌, ◌-◌, ◌*◌, ◌/◌, ◌%◌, ◌^◌, ◌≤◌, ◌<◌}
use native.Mathlib.Omega.{arith}
use borrow.Author.Tests.{lt-ltb, le-ltb, le-leb, leb-true, ltb-true}
use lib.Dec.{leb}
use Rattle.std.specs.Prelude.{Ok}
use native.Mathlib.Nat.{one-le-pow}
use lib.ListN.{length, take, drop, length-append, length-drop}
use lib.Seq.{take_all}
use Rattle.octets.specs.Numbers.{Below, bytes_of, bytes_number}
use Rattle.octets.specs.Padding.{pad_of}
use Rattle.octets.proofs.Digits.{digits-length, drop_below, value_below}
use Rattle.octets.proofs.Every.{and_first, and_second}
use Rattle.text.specs.Texts.{placed}
use Rattle.text.proofs.PlacedTexts.{placed_start, placed-next}
use Rattle.blowfish.specs.Cipher.{encipher_of}
use Rattle.blocks.specs.Blocks.{blocks_put}
use Rattle.blocks.proofs.Puts.{put_start}
use Rattle.forms.specs.Identifiers.{is_cell_key}
use Rattle.forms.specs.Output.{text, Answered}
use Rattle.forms.proofs.Outputs.{wrote}
use Rattle.cell_file.specs.Enciphering.{most, cell_words, enciphered, padded_file, file_written, is_carried, carried_on, end_written}
use Rattle.cell_file.proofs.WholeBlocks.{carried-length, enciphered-length}
use Rattle.cell_file.proofs.CutAnywhere.{file_done}
use Rattle.cell_file.proofs.Pieces.{file_pieces, rest_enciphered, last_enciphered}

-- the largest cell key
abbrev pub largest : ℕ
largest = 0xFFFFFFFFFF

pub is_key_lem : (key : ℕ) → key ≤ largest → is_cell_key key ≡ true
is_key_lem key h = lt-ltb key (256 ^ 5) (omega arith)

pub no_key : (key : ℕ) → largest < key → is_cell_key key ≡ false
no_key key h = le-ltb key (256 ^ 5) (omega arith)

-- what carried bytes are
pub carried_says : (n x : ℕ) → is_carried n x ≡ true → (n ≤ 7) × (x < 256 ^ n)
unfolding is_carried
carried_says n x e = (leb-true n 7 (and_first _ _ e), ltb-true x (256 ^ n) (and_second (leb n 7) _ e))

-- the end was written
pub end_wrote : (key x n : ℕ) (words before after : List ℕ) → key ≤ largest → is_carried n x ≡ true → 8 ≤ length before
    → words ≡ cell_words key → after ≡ placed 0 (bytes_of 8 (encipher_of words (pad_of n x))) before
    → Answered (end_written key x n (length before)) before (Ok 8) after
unfolding end_written
end_wrote key x n words before after k carried room w is =
    let says = carried_says n x carried in
    let t = enciphered key (padded_file (bytes_of n x)) in
    let block : bytes_of 8 (encipher_of words (pad_of n x)) ≡ t = ap (λ (l : List ℕ). bytes_of 8 (encipher_of l (pad_of n x))) w ∙ sym (last_enciphered key n x says.0 says.1) in
    let size : length t ≡ 8 = ap length (sym block) ∙ digits-length 256 8 (encipher_of words (pad_of n x)) in
    wrote (end_written key x n (length before)) t 8 before after
    (rw (is_key_lem key k, carried, le-leb 8 (length before) room))
    size
    (is ∙ ap (λ (l : List ℕ). placed 0 l before) block ∙ placed_start t before (omega arith) ∙ ap (λ (m : ℕ). t ++ drop m before) size)

-- what stands after the whole blocks of s, as the part that is lent
pub rest_lent : (s : List ℕ) → take (length s - 8 * (length s / 8)) (drop (8 * (length s / 8)) s) ≡ carried_on s
rest_lent s =
    let whole = 8 * (length s / 8) in
    take_all (length s - whole) (carried_on s) (omega (arith, length-drop whole s))

module _ (s : List ℕ) (below : Below 256 s) where
  -- as the part that is lent, and the number that is gathered of it
  abbrev pub rest : List ℕ
  rest = take (length s - 8 * (length s / 8)) (drop (8 * (length s / 8)) s)

  rest_length : length rest ≡ length s % 8
  rest_length = ap length (rest_lent s) ∙ carried-length s

  pub rest_fits : (length rest ≤ 8) × (0 < 256 ^ (8 - length rest))
  rest_fits = (omega (arith, rest_length), one-le-pow (8 - length rest) 256 (omega arith))

  pub rest_number : (x : ℕ) → x ≡ 0 * 256 ^ length rest + bytes_number rest → x ≡ bytes_number (carried_on s)
  rest_number x e = e ∙ omega arith ∙ ap bytes_number (rest_lent s)

  pub rest_carried : (x : ℕ) → x ≡ 0 * 256 ^ length rest + bytes_number rest → (length s - 8 * (length s / 8) ≤ 7) × (x < 256 ^ (length s - 8 * (length s / 8)))
  rest_carried x e =
      let size : length (carried_on s) ≡ length s - 8 * (length s / 8) = length-drop (8 * (length s / 8)) s in
      (omega arith, rw (rest_number x e) (rw size at (value_below (carried_on s) (drop_below (8 * (length s / 8)) s below))))

-- a file was written: its whole blocks, and the last block after them
pub file_wrote : (key x : ℕ) (file words before middle after : List ℕ) → Below 256 file → key ≤ largest → length file ≤ most
    → 8 * (length file / 8) + 8 ≤ length before → words ≡ cell_words key → middle ≡ blocks_put (encipher_of words) file before
    → x ≡ bytes_number (carried_on file)
    → after ≡ placed (8 * (length file / 8)) (bytes_of 8 (encipher_of words (pad_of (length file - 8 * (length file / 8)) x))) middle
    → Answered (file_written key file (length before)) before (Ok (8 * (length file / 8) + 8)) after
unfolding enciphered
file_wrote key x file words before middle after below k fits room w m e is =
    let whole = 8 * (length file / 8) in
    let c = carried_on file in
    let left : length c ≡ length file - whole = length-drop whole file in
    let a = enciphered key file in
    let b = enciphered key (padded_file c) in
    let size_a : length a ≡ whole = enciphered-length key file in
    let block : bytes_of 8 (encipher_of words (pad_of (length file - whole) x)) ≡ b =
    ap₂ (λ (l : List ℕ) (y : ℕ). bytes_of 8 (encipher_of l (pad_of (length file - whole) y))) w e
    ∙ ap (λ (n : ℕ). bytes_of 8 (encipher_of (cell_words key) (pad_of n (bytes_number c)))) (sym left)
    ∙ sym (rest_enciphered key c (drop_below whole file below) (omega (arith, left))) in
    let size_b : length b ≡ 8 = ap length (sym block) ∙ digits-length 256 8 (encipher_of words (pad_of (length file - whole) x)) in
    let start : middle ≡ placed 0 a before =
    m ∙ ap (λ (l : List ℕ). blocks_put (encipher_of l) file before) w ∙ put_start (encipher_of (cell_words key)) file before (omega arith)
    ∙ sym (placed_start a before (omega arith)) in
    let all : after ≡ placed 0 (a ++ b) before =
    is ∙ ap₂ (placed whole) block start ∙ placed-next 0 whole a b before (omega arith) (omega arith) in
    let size : length (a ++ b) ≡ whole + 8 = length-append a b ∙ omega arith in
    wrote (file_written key file (length before)) (a ++ b) (whole + 8) before after
    (file_done key file (length before) (is_key_lem key k) fits (omega arith) ∙ ap text (file_pieces key file))
    size
    (all ∙ placed_start (a ++ b) before (omega arith) ∙ ap (λ (n : ℕ). (a ++ b) ++ drop n before) size)
