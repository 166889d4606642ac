-- One turn of the loop: up to four blocks more.
-- Assumes nothing.
use mathlib.Core.Path.{◌≡◌, ap, ◌∙◌}
use mathlib.Core.List.{List}
use Prim.Native.Nat.{ℕ, zero, suc, ◌+◌, ◌-◌, ◌*◌, ◌≤◌, ◌<◌}
use native.Mathlib.Omega.{arith}
use lib.Dec.{leb}
use lib.ListN.{length, get_or, take, drop, length-drop}
use lib.Seq.{take_all, drop-drop}
use Rattle.octets.specs.Places.{number_at}
use Rattle.octets.proofs.Places.{room}
use Rattle.blowfish.specs.Cipher.{F, cipher, block_number}
use Rattle.blowfish.specs.declared.Block.{Block}
use Rattle.blocks.specs.declared.Four.{Four}
use Rattle.blocks.specs.Fours.{listed, first_four, cipher_by, all_put}
use Rattle.blocks.proofs.EachBlocks.{worked, worked_length, worked_more}

-- four blocks worked, as numbers
abbrev numbers : List ℕ → (ℕ → ℕ) → Four → List ℕ
numbers w p b = listed (λ (x : Block). block_number (cipher (F w) p x)) b

-- a place of what is left of s
number_further : (s : List ℕ) (j k : ℕ) → j ≤ length s → number_at 8 (drop j s) k ≡ number_at 8 s (j + k)
unfolding number_at
number_further s j k h =
    let tests : leb (k + 8) (length (drop j s)) ≡ leb (j + k + 8) (length s) =
    ap (leb (k + 8)) (length-drop j s) ∙ room (k + 8) (length s) j h ∙ (let e : j + (k + 8) ≡ j + k + 8 = omega arith in ap (λ (n : ℕ). leb n (length s)) e) in
    rw (tests, drop-drop)

further : (w : List ℕ) (p : ℕ → ℕ) (s : List ℕ) (n k : ℕ) → 8 * n ≤ length s → cipher_by w p (number_at 8 (drop (8 * n) s) (8 * k)) ≡ cipher_by w p (number_at 8 s (8 * (n + k)))
further w p s n k room =
    let place : 8 * n + 8 * k ≡ 8 * (n + k) = omega arith in
    ap (cipher_by w p) (number_further s (8 * n) (8 * k) room ∙ ap (number_at 8 s) place)

-- those of the four blocks from block n on
four_numbers : (w : List ℕ) (p : ℕ → ℕ) (s : List ℕ) (n : ℕ) → 8 * n ≤ length s → (k : ℕ) → k < 4
    → get_or (numbers w p (first_four (drop (8 * n) s))) k 0 ≡ cipher_by w p (number_at 8 s (8 * (n + k)))
four_numbers w p s n room zero h = further w p s n 0 room
four_numbers w p s n room (suc zero) h = further w p s n 1 room
four_numbers w p s n room (suc (suc zero)) h = further w p s n 2 room
four_numbers w p s n room (suc (suc (suc zero))) h = further w p s n 3 room
four_numbers w p s n room (suc (suc (suc (suc k)))) h = absurd (omega arith)

pub one_turn : (w : List ℕ) (p : ℕ → ℕ) (s out : List ℕ) (i k : ℕ) {before after xs : List ℕ} {b : Four} → k ≤ 4 → 8 * i ≤ length s → 8 * (i + k) ≤ length out
    → before ≡ worked (cipher_by w p) s out i → b ≡ first_four (take (length s - 8 * i) (drop (8 * i) s)) → xs ≡ numbers w p b → after ≡ all_put xs (8 * i) k before
    → (length after ≡ length out) × (after ≡ worked (cipher_by w p) s out (i + k))
one_turn w p s out i k {before} {after} {xs} {b} few within room so_far read made put =
    let all_left : length (drop (8 * i) s) ≤ length s - 8 * i = simp length-drop (omega arith) in
    let here = read ∙ ap first_four (take_all (length s - 8 * i) (drop (8 * i) s) all_left) in
    let all : after ≡ worked (cipher_by w p) s out (i + k) =
    put
    ∙ ap (λ (l : List ℕ). all_put l (8 * i) k before) (made ∙ ap (numbers w p) here)
    ∙ ap (all_put (numbers w p (first_four (drop (8 * i) s))) (8 * i) k) so_far
    ∙ worked_more (cipher_by w p) s out i (numbers w p (first_four (drop (8 * i) s))) (four_numbers w p s i within) k few in
    (ap length all ∙ worked_length (cipher_by w p) s out (i + k) room, all)
