-- `crc32_long::table::Table::new` makes a table that follows its rule: a computed test of the whole table, each hex digit's entry by the rule and each byte's by its digits.
use mathlib.Core.Path.{◌≡◌, ap₂, sym, ◌∙◌}
use mathlib.Core.Bool.{Bool}
use mathlib.Core.List.{List}
use Prim.Native.Nat.{ℕ, ◌+◌, ◌*◌, ◌/◌, ◌%◌, ◌<◌}
use native.Mathlib.Omega.{arith}
use lib.Bits.{bit_xor}
use lib.Dec.{T, eqb, eqb→eq}
use lib.ListN.{get_or, replicate}
use Rattle.octets.proofs.Tables.{each, computed}
use Rattle.crc32.specs.Crc32.{shift, shifts}
use Rattle.crc32_long.specs.Streams.{byte_out, IsTable}
use Rattle.crc32_long.proofs.Lookup.{high_out, byte_by_digits}
use Rattle.crc32_long.proofs.table.Table.new.Goals as goal

-- where the entry of a byte's low digit stands
abbrev low : ℕ → ℕ → ℕ
low place n = 256 * place + n

-- where that of its high digit stands
abbrev high : ℕ → ℕ → ℕ
high place n = 256 * place + 16 * n

-- the test of a digit's entry by the rule
by_rule : List ℕ → (ℕ → ℕ → ℕ) → (ℕ → ℕ → ℕ) → ℕ → Bool
by_rule t index out k = eqb (get_or t (index (k / 16) (k % 16)) 0) (out (k / 16) (k % 16))

-- the test of a byte's entry: the exclusive or of those of its two digits
by_digits : List ℕ → ℕ → Bool
by_digits t k = eqb (get_or t k 0) (bit_xor (get_or t (low (k / 256) (k % 256 % 16)) 0) (get_or t (high (k / 256) (k % 256 / 16)) 0))

-- a test of every place
abbrev Passed : ℕ → (ℕ → Bool) → Type 0
Passed n test = T (each (λ (k x : ℕ). test k) 0 (replicate n 0))

-- the rule at each digit
at_digit : (t : List ℕ) (index out : ℕ → ℕ → ℕ) → Passed 64 (by_rule t index out)
    → (place n : ℕ) → place < 4 → n < 16 → get_or t (index place n) 0 ≡ out place n
unfolding by_rule
at_digit t index out passed place n hp hn =
    let k = 16 * place + n in
    let p : k / 16 ≡ place = omega arith in
    let q : k % 16 ≡ n = omega arith in
    ap₂ (λ (i m : ℕ). get_or t (index i m) 0) (sym p) (sym q)
    ∙ eqb→eq (get_or t (index (k / 16) (k % 16)) 0) (out (k / 16) (k % 16)) (computed 64 (by_rule t index out) passed k (omega arith))
    ∙ ap₂ out p q

-- the rule at each byte
tested : (t : List ℕ) → Passed 64 (by_rule t low byte_out) → Passed 64 (by_rule t high high_out) → Passed 1024 (by_digits t) → IsTable t
unfolding by_digits
tested t lows highs bytes = record { entry = at }
  where
    at : (place n : ℕ) → place < 4 → n < 256 → get_or t (256 * place + n) 0 ≡ byte_out place n
    at place n hp hn =
        let k = 256 * place + n in
        let p : k / 256 ≡ place = omega arith in
        let q : k % 256 ≡ n = omega arith in
        eqb→eq (get_or t k 0) _ (computed 1024 (by_digits t) bytes k (omega arith))
        ∙ ap₂ bit_xor
        (ap₂ (λ (i m : ℕ). get_or t (low i (m % 16)) 0) p q ∙ at_digit t low byte_out lows place (n % 16) hp (omega arith))
        (ap₂ (λ (i m : ℕ). get_or t (high i (m / 16)) 0) p q ∙ at_digit t high high_out highs place (n / 16) hp (omega arith))
        ∙ sym (byte_by_digits place n hp hn)

pub invariant_of-result : goal.invariant_of-result
unfolding by_rule by_digits shifts shift
invariant_of-result c = record { ruled = tested _ tt tt tt }
