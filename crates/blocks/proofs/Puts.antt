-- Blocks put at an output's start, and after what was put there before.
-- Assumes nothing.
use mathlib.Core.Path.{◌≡◌, sym, ap, ap₂, ◌∙◌}
use mathlib.Core.List.{List, ◌++◌, append_assoc, append-nil}
use Prim.Native.Nat.{ℕ, ◌+◌, ◌-◌, ◌*◌, ◌/◌, ◌≤◌}
use native.Mathlib.Omega.{arith}
use borrow.Author.Tests.{ltb-false}
use lib.Dec.{ltb}
use lib.ListN.{length, take, drop, length-append, length-drop}
use lib.Seq.{take_all, take_at, drop_at, drop-length, drop-drop}
use Rattle.octets.proofs.Every.{either}
use Rattle.blocks.specs.Blocks.{each_block, blocks_of_both, blocks_put}
use Rattle.blocks.proofs.EachBlocks.{each_block-length}

-- where there is room for all whole blocks of s, all are put
pub all_of_both : (s out : List ℕ) → 8 * (length s / 8) ≤ length out → blocks_of_both s out ≡ length s / 8
all_of_both s out room =
    either (ltb (length s) (length out))
    (λ less. rw less)
    (λ more. let m = ltb-false (length s) (length out) more in let e : length out / 8 ≡ length s / 8 = omega arith in rw more e)

-- t at the start of out, and then what stood there
abbrev pub start_of_four : List ℕ → List ℕ → List ℕ
start_of_four t out = t ++ drop (length t) out

module _ (f : ℕ → ℕ) (s : List ℕ) where
  -- the whole blocks of s
  abbrev pub wholes : List ℕ
  wholes = each_block f (length s / 8) s

  pub put_start : (out : List ℕ) → 8 * (length s / 8) ≤ length out → blocks_put f s out ≡ start_of_four wholes out
  unfolding blocks_put
  put_start out room =
      ap (λ (n : ℕ). each_block f n s ++ drop (8 * n) out) (all_of_both s out room)
      ∙ ap (λ (n : ℕ). wholes ++ drop n out) (sym (each_block-length f (length s / 8) s))

  -- blocks put into the part after a, where a stands at the start: they stand after a
  pub put_next : (a out o : List ℕ) (at : ℕ) → length a ≡ at → o ≡ start_of_four a out → at + 8 * (length s / 8) ≤ length out
      → take at o ++ (blocks_put f s (take (length o - at) (drop at o)) ++ drop (length o - at) (drop at o)) ≡ start_of_four (a ++ wholes) out
  put_next a out o at n e room =
      let q = drop (length a) out in
      let after : drop at o ≡ q = ap (drop at) e ∙ drop_at a q at n in
      let size : length o - at ≡ length q = omega (arith, ap length e ∙ length-append a q) in
      let left : length q ≡ length out - length a = length-drop (length a) out in
      let lent : take (length o - at) (drop at o) ≡ q = ap₂ take size after ∙ take_all (length q) q (omega arith) in
      ap₂ (λ (x y : List ℕ). x ++ (blocks_put f s (take (length o - at) (drop at o)) ++ y))
      (ap (take at) e ∙ take_at a q at n)
      (ap₂ drop size after ∙ drop-length q)
      ∙ ap (λ (l : List ℕ). a ++ l) (append-nil (blocks_put f s (take (length o - at) (drop at o))) ∙ ap (blocks_put f s) lent ∙ put_start q (omega (arith, left)))
      ∙ sym (append_assoc a wholes (drop (length wholes) q))
      ∙ ap (λ (l : List ℕ). (a ++ wholes) ++ l) (drop-drop (length wholes) (length a) out ∙ ap (λ (n : ℕ). drop n out) (sym (length-append a wholes)))
