-- The register: what its entries must be, and the M_KEY that is found in it.
-- Assumes nothing.
use Rattle.std.specs.Prelude.{Some}
use mathlib.Core.Path.{◌≡◌}
use mathlib.Core.Bool.{true, false}
use mathlib.Core.List.{List}
use Prim.Native.Nat.{ℕ, zero, suc, ◌+◌, ◌-◌, ◌*◌, ◌/◌, ◌^◌, ◌<◌}
use native.Mathlib.Nat.{suc-add, zero-add}
use native.Mathlib.Omega.{arith}
use borrow.Author.Tests.{eqb-true}
use lib.Dec.{eqb}
use lib.ListN.{length}
use Rattle.octets.specs.Numbers.{Below}
use Rattle.octets.proofs.Every.{and_first, and_second, either}
use Rattle.octets.proofs.Places.{number_at_below}
use Rattle.user_permit.specs.Register.{m_id_of, is_entry, are_entries, key_among, key_of}

module _ (register : List ℕ) where
  entry_there : (k i : ℕ) → are_entries register (k + suc i) ≡ true → is_entry register i ≡ true
  unfolding are_entries
  entry_there zero i all = and_second (are_entries register i) (is_entry register i) (rw zero-add at all)
  entry_there (suc k) i all =
      entry_there k i (and_first (are_entries register (k + suc i)) (is_entry register (k + suc i)) (rw suc-add at all))

  pub entry_wrong : (n i : ℕ) → i < n → is_entry register i ≡ false → are_entries register n ≡ false
  entry_wrong n i h wrong =
      let e : n ≡ n - suc i + suc i = omega arith in
      either (are_entries register n)
      (λ all. cc (entry_there (n - suc i) i (rw e at all)))
      (λ bad. bad)

  module _ (m : ℕ) where
    -- an M_ID that is found has two bytes
    found_among : (n key : ℕ) → Below 256 register → key_among register m n ≡ Some key → m < 256 ^ 2
    unfolding key_among
    found_among zero key below found = let z : ◌≡◌ {A = ℕ} 0 1 = cc in omega arith
    found_among (suc n) key below found =
        either (eqb (m_id_of register n) m)
        (λ here. rw (eqb-true (m_id_of register n) m here) at (number_at_below 2 register (7 * n) below))
        (λ other. found_among n key below (rw other at found))

    pub found-id : (key : ℕ) → Below 256 register → key_of register m ≡ Some key → m < 256 ^ 2
    unfolding key_of
    found-id key below found = found_among (length register / 7) key below found
