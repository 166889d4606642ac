-- `crc32::table::Table::new` makes a table that follows its rule: one computed test of the whole table.
use mathlib.Core.Path.{◌≡◌, refl, ap₂, ◌∙◌}
use mathlib.Core.Bool.{Bool}
use mathlib.Core.List.{List}
use Prim.Native.Nat.{ℕ, ◌+◌, ◌*◌, ◌/◌, ◌%◌, ◌<◌}
use native.Mathlib.Omega.{arith}
use lib.Dec.{T, eqb, eqb→eq}
use lib.ListN.{length, get_or}
use Rattle.octets.proofs.Tables.{each, at_each}
use Rattle.crc32.specs.Crc32.{shift, shifts}
use Rattle.crc32.specs.Table.{digit_out, IsTable}
use Rattle.crc32.proofs.table.Table.new.Goals as goal

right : ℕ → ℕ → Bool
right k x = eqb x (digit_out (k / 16) (k % 16))

tested : (t : List ℕ) → length t ≡ 128 → T (each right 0 t) → IsTable t
unfolding right
tested t long passed = record { entry = at }
  where
    at : (place n : ℕ) → place < 8 → n < 16 → get_or t (16 * place + n) 0 ≡ digit_out place n
    at place n hp hn =
        let k = 16 * place + n in
        let p : k / 16 ≡ place = omega arith in
        let q : k % 16 ≡ n = omega arith in
        let within : k < length t = omega (arith, long) in
        eqb→eq (get_or t k 0) (digit_out (k / 16) (k % 16)) (at_each right t passed k within) ∙ ap₂ digit_out p q

pub invariant_of-result : goal.invariant_of-result
unfolding right shifts shift
invariant_of-result c = record { ruled = tested _ refl tt }
