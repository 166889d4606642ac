-- The CRC-32 of a text that is deciphered piece by piece. Assumes nothing.
use mathlib.Core.Path.{◌≡◌, sym, ap, ap₂, ◌∙◌}
use mathlib.Core.List.{List}
use Prim.Native.Nat.{ℕ, ◌+◌, ◌-◌, ◌*◌, ◌/◌, ◌%◌, ◌≤◌, ◌<◌, min}
use native.Mathlib.Omega.{arith}
use borrow.Author.Tests.{leb-true, leb-false, ltb-true, ltb-false}
use lib.Dec.{leb, ltb}
use lib.ListN.{length, take, drop, length-take, length-drop, take-append-drop, drop_of_length-le}
use lib.Seq.{take_all, drop_at, take-take, take-add, take-append-le, drop-drop, length-take-le}
use Rattle.octets.proofs.Every.{either}
use Rattle.crc32.specs.Crc32.{all_ones, feed_all, crc32_of}
use Rattle.crc32.proofs.Feeding.{fed_more}
use Rattle.blocks.specs.Blocks.{each_block, blocks_of_both, blocks_put}
use Rattle.blocks.proofs.EachBlocks.{each_block-length, worked_length}
use Rattle.blocks.proofs.Cuts.{each_cut}
use Rattle.cell_opening.specs.Judging.{wholes}

module _ (d : ℕ → ℕ) (file out : List ℕ) where
  -- what is put has room, and is all that stands there or all that has room
  both_say : (8 * blocks_of_both file out ≤ length out) × ((blocks_of_both file out ≤ length file / 8) × (length out / 8 ≤ blocks_of_both file out + (length out / 8 - length file / 8)))
  both_say =
      either (ltb (length file) (length out))
      (λ less. let h = ltb-true (length file) (length out) less in rw less (omega arith, (omega arith, omega arith)))
      (λ more. let h = ltb-false (length file) (length out) more in rw more (omega arith, (omega arith, omega arith)))

  put_length : length (blocks_put d file out) ≡ length out
  unfolding blocks_put
  put_length = worked_length d file out (blocks_of_both file out) both_say.0

  -- the first n bytes that are put are those of all blocks
  first_bytes : (n : ℕ) → n ≤ length out → length out % 8 ≡ 0 → n ≤ 8 * (length file / 8) → take n (blocks_put d file out) ≡ take n (wholes d file)
  unfolding blocks_put
  first_bytes n room whole fits =
      let k = blocks_of_both file out in
      let says = both_say in
      let rest = length file / 8 - k in
      let all : length file / 8 ≡ k + rest = omega (arith, says.1.0) in
      let size = each_block-length d k file in
      let within : n ≤ length (each_block d k file) = omega (arith, size, says.0, says.1.0, says.1.1) in
      take-append-le n (each_block d k file) (drop (8 * k) out) within
      ∙ sym (ap (λ (m : ℕ). take n (each_block d m file)) all
      ∙ ap (take n) (each_cut d k rest file (omega (arith, says.1.0)))
      ∙ take-append-le n (each_block d k file) (each_block d rest (drop (8 * k) file)) within)

  pub piece_length : (n : ℕ) (piece : List ℕ) → piece ≡ blocks_put d file out → n ≤ length out → n ≡ length (take n piece)
  piece_length n piece e h = sym (length-take-le n piece (omega (arith, ap length e, put_length)))

  pub piece_fed : (n state r : ℕ) (piece : List ℕ) → piece ≡ blocks_put d file out → n ≤ length out → length out % 8 ≡ 0 → n ≤ 8 * (length file / 8)
      → r ≡ feed_all state (take n piece) → r ≡ feed_all state (take n (wholes d file))
  piece_fed n state r piece e room whole fits is = is ∙ ap (λ (l : List ℕ). feed_all state (take n l)) e ∙ ap (feed_all state) (first_bytes n room whole fits)

module _ (d : ℕ → ℕ) (file : List ℕ) (size : ℕ) (fits : size ≤ 8 * (length file / 8)) where
  -- the text: the first bytes of what is deciphered
  abbrev pub plain : List ℕ
  plain = take size (wholes d file)

  plain_length_lem : length plain ≡ size
  plain_length_lem = length-take-le size (wholes d file) (omega (arith, each_block-length d (length file / 8) file))

  module _ (at : ℕ) (whole : at % 8 ≡ 0) (more : at < size) where
    -- the part of the file from there on, as it is lent
    abbrev pub onward : List ℕ
    onward = take (length file - at) (drop at file)

    onward_is : onward ≡ drop at file
    onward_is = take_all (length file - at) (drop at file) (omega (arith, length-drop at file))

    pub onward_fits : (n : ℕ) → n ≡ min 1024 (size - at) → (n ≤ 1024) × (n ≤ 8 * (length onward / 8))
    onward_fits n e =
        let left : length onward ≡ length file - at = ap length onward_is ∙ length-drop at file in
        (omega arith, omega (arith, left))

    -- what is deciphered from there on is what follows there in all
    later : wholes d onward ≡ drop at (wholes d file)
    later =
        let m = at / 8 in
        let rest = length file / 8 - m in
        let place : 8 * m ≡ at = omega arith in
        let all : length file / 8 ≡ m + rest = omega arith in
        let count : length (drop at file) / 8 ≡ rest = omega (arith, length-drop at file) in
        ap (wholes d) onward_is
        ∙ ap₂ (λ (k n : ℕ). each_block d k (drop n file)) count (sym place)
        ∙ sym (ap (drop at) (ap (λ (k : ℕ). each_block d k file) all ∙ each_cut d m rest file (omega arith))
        ∙ drop_at (each_block d m file) (each_block d rest (drop (8 * m) file)) at (each_block-length d m file ∙ place))

    left_plain : drop at plain ≡ take (size - at) (drop at (wholes d file))
    left_plain =
        let w = wholes d file in
        let long : size ≤ length w = omega (arith, each_block-length d (length file / 8) file) in
        let all : size ≡ at + (size - at) = omega arith in
        ap (λ (k : ℕ). drop at (take k w)) all
        ∙ ap (drop at) (take-add at (size - at) w)
        ∙ drop_at (take at w) (take (size - at) (drop at w)) at (length-take-le at w (omega arith))

    piece_is : (n : ℕ) → n ≡ min 1024 (size - at) → take n (wholes d onward) ≡ take 1024 (drop at plain)
    piece_is n e =
        let x = drop at (wholes d file) in
        ap (take n) later
        ∙ either (leb 1024 (size - at))
        (λ many. let h = leb-true 1024 (size - at) many in let whole_piece : n ≡ 1024 = omega arith in
        ap (λ (k : ℕ). take k x) whole_piece ∙ sym (take-take 1024 (size - at) x h))
        (λ few. let h = leb-false 1024 (size - at) few in let last_piece : n ≡ size - at = omega arith in
        ap (λ (k : ℕ). take k x) last_piece ∙ sym (take_all 1024 (take (size - at) x) (omega (arith, length-take (size - at) x))))
        ∙ ap (take 1024) (sym left_plain)

    -- the next piece comes in
    pub piece_in : (state next n : ℕ) → n ≡ min 1024 (size - at) → next ≡ feed_all state (take n (wholes d onward)) → feed_all state (drop at plain) ≡ feed_all all_ones plain
        → feed_all next (drop (at + 1024) plain) ≡ feed_all all_ones plain
    piece_in state next n e is so_far =
        let l = drop at plain in
        ap₂ (λ (c : ℕ) (s : List ℕ). feed_all c s) (is ∙ ap (feed_all state) (piece_is n e)) (sym (drop-drop 1024 at plain))
        ∙ sym (fed_more state (take 1024 l) (drop 1024 l))
        ∙ ap (feed_all state) (take-append-drop 1024 l)
        ∙ so_far

  -- all have come in
  pub all_in : (at state : ℕ) → size ≤ at → feed_all state (drop at plain) ≡ feed_all all_ones plain → all_ones - state ≡ crc32_of plain
  unfolding crc32_of feed_all
  all_in at state end so_far =
      ap (λ (c : ℕ). all_ones - c) (ap (feed_all state) (sym (drop_of_length-le plain {i = at} (omega (arith, plain_length_lem)))) ∙ so_far)
