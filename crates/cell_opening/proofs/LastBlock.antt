-- The padding of a file stands in its last block. Assumes nothing.
use mathlib.Core.Path.{◌≡◌, refl, sym, ap, ap₂, ◌∙◌}
use mathlib.Core.Bool.{Bool, true, false, cond, ◌&&◌}
use mathlib.Core.List.{List, ◌++◌, append-nil}
use Prim.Native.Nat.{ℕ, ◌+◌, ◌-◌, ◌*◌, ◌/◌, ◌%◌, ◌≤◌}
use native.Mathlib.Omega.{arith}
use borrow.Author.Tests.{leb-true, eqb-true}
use lib.Dec.{leb, eqb}
use Rattle.std.specs.Prelude.{Some, None}
use Rattle.std.specs.List.{list_all}
use lib.ListN.{length, get_or, take, drop, length-append, length-drop}
use lib.Seq.{take_all, drop-length, drop-append-add, get_or-append-add}
use Rattle.octets.proofs.Every.{either, and_first, and_second}
use Rattle.blocks.specs.Blocks.{each_block, blocks_put}
use Rattle.blocks.proofs.EachBlocks.{each_block-length}
use Rattle.blocks.proofs.Cuts.{each_cut}
use Rattle.blocks.proofs.Puts.{put_start}
use Rattle.cell_opening.specs.Opening.{padding_of, is_padded_file, has_blocks}
use Rattle.cell_opening.proofs.AllSame.{all_listed}
use Rattle.cell_opening.specs.Judging.{all_are, padding_in, wholes}

-- what a file's form says of its length
pub blocks_say : (file : List ℕ) → has_blocks file ≡ true → (8 ≤ length file) × (length file % 8 ≡ 0)
blocks_say file e =
    let some = leb-true 1 (length file) (and_first _ _ e) in
    let whole = eqb-true (length file % 8) 0 (and_second (leb 1 (length file)) _ e) in
    (omega arith, whole)

module _ (a b : List ℕ) (eight : length b ≡ 8) where
  -- the last byte of both is that of b
  same_count : padding_of (a ++ b) ≡ padding_of b
  same_count =
      let last : length (a ++ b) - 1 ≡ length a + (length b - 1) = omega (arith, length-append a b) in
      ap (λ (n : ℕ). get_or (a ++ b) n 0) last ∙ get_or-append-add a b (length b - 1) 0

  -- so the last block decides on the padding
  pub same_padding : is_padded_file (a ++ b) ≡ is_padded_file b
  unfolding is_padded_file
  same_padding =
      let n = padding_of b in
      ap (λ (k : ℕ). leb 1 k && leb k 8 && all_are k (drop (length (a ++ b) - k) (a ++ b))) same_count
      ∙ either (leb n 8)
      (λ few.
      let at : length (a ++ b) - n ≡ length a + (length b - n) = omega (arith, length-append a b, leb-true n 8 few) in
      ap (λ (l : List ℕ). leb 1 n && leb n 8 && all_are n l) (ap (λ (k : ℕ). drop k (a ++ b)) at ∙ drop-append-add a b (length b - n)))
      (λ many. fails (leb 1 n) (leb n 8) _ _ many)
    where
      fails : (x y z w : Bool) → y ≡ false → (x && y && z) ≡ (x && y && w)
      fails true y z w e = rw e
      fails false y z w e = refl

  pub same_found : padding_in (a ++ b) ≡ padding_in b
  unfolding padding_in
  same_found = ap₂ (λ (t : Bool) (n : ℕ). cond t (Some n) None) same_padding same_count

module _ (d : ℕ → ℕ) (file : List ℕ) (form : has_blocks file ≡ true) where
  -- the blocks but the last, and the last
  abbrev pub before : List ℕ
  before = each_block d (length file / 8 - 1) file

  abbrev pub last : List ℕ
  last = wholes d (drop (length file - 8) file)

  pub in_two : wholes d file ≡ before ++ last
  in_two =
      let says = blocks_say file form in
      let m = length file / 8 - 1 in
      let all : length file / 8 ≡ m + 1 = omega (arith, says.0) in
      let place : 8 * m ≡ length file - 8 = omega (arith, says.0, says.1) in
      let one : 1 ≡ length (drop (length file - 8) file) / 8 = omega (arith, says.0, length-drop (length file - 8) file) in
      ap (λ (n : ℕ). each_block d n file) all
      ∙ each_cut d m 1 file (omega (arith, says.0, says.1))
      ∙ ap₂ (λ (k n : ℕ). before ++ each_block d n (drop k file)) place one

  pub last_length : length last ≡ 8
  last_length =
      let says = blocks_say file form in
      each_block-length d (length (drop (length file - 8) file) / 8) (drop (length file - 8) file) ∙ omega (arith, says.0, length-drop (length file - 8) file)

  pub before_length : length before ≡ length file - 8
  before_length = let says = blocks_say file form in each_block-length d (length file / 8 - 1) file ∙ omega (arith, says.0, says.1)

  -- the last block is deciphered into eight bytes
  pub last_put : (zeros : List ℕ) → length zeros ≡ 8 → blocks_put d (take (length file - (length file - 8)) (drop (length file - 8) file)) zeros ≡ last
  last_put zeros eight =
      let says = blocks_say file form in
      let s = drop (length file - 8) file in
      let size : length s ≡ 8 = length-drop (length file - 8) file ∙ omega (arith, says.0) in
      let left : length zeros ≡ length last = eight ∙ sym last_length in
      ap (λ (l : List ℕ). blocks_put d l zeros) (take_all (length file - (length file - 8)) s (omega (arith, says.0)))
      ∙ put_start d s zeros (omega arith)
      ∙ ap (λ (l : List ℕ). last ++ l) (ap (λ (n : ℕ). drop n zeros) (sym left) ∙ drop-length zeros)
      ∙ append-nil last

-- what the last byte of eight says of their padding
module _ (s : List ℕ) (eight : length s ≡ 8) where
  count_is : padding_of s ≡ get_or s 7 0
  count_is = let e : length s - 1 ≡ 7 = omega arith in ap (λ (n : ℕ). get_or s n 0) e

  found : padding_in s ≡ cond (leb 1 (get_or s 7 0) && leb (get_or s 7 0) 8 && all_are (get_or s 7 0) (drop (8 - get_or s 7 0) s)) (Some (get_or s 7 0)) None
  unfolding padding_in is_padded_file
  found = ap₂ (λ (n size : ℕ). cond (leb 1 n && leb n 8 && all_are n (drop (size - n) s)) (Some n) None) count_is eight

-- with the bytes that should be padding as the part that is lent, and the test of the library
pub found_lent : (s : List ℕ) → length s ≡ 8
    → padding_in s
    ≡ cond (leb 1 (get_or s 7 0) && leb (get_or s 7 0) 8 && list_all (λ (c : ℕ). eqb c (get_or s 7 0)) (take (8 - (8 - get_or s 7 0)) (drop (8 - get_or s 7 0) s)))
    (Some (get_or s 7 0)) None
found_lent s eight =
    let n = get_or s 7 0 in
    let k = 8 - n in
    let lent : take (8 - k) (drop k s) ≡ drop k s = take_all (8 - k) (drop k s) (omega (arith, length-drop k s)) in
    found s eight
    ∙ ap (λ (t : Bool). cond (leb 1 n && leb n 8 && t) (Some n) None)
    (sym (all_listed (λ (c : ℕ). eqb c n) (take (8 - k) (drop k s)) ∙ ap (all_are n) lent))
