-- The sizes of both versions of the book: where records follow each other, and that the used length tells how many there are.
-- Assumes nothing.
use mathlib.Core.Path.{◌≡◌}
use Prim.Native.Nat.{ℕ, suc, ◌+◌, ◌-◌, ◌/◌, ◌^◌, ◌≤◌, ◌<◌}
use native.Mathlib.Omega.{arith}
use Rattle.layout.specs.Layout.{Version, one, two, records_place, record_size_by, used_length_by, book_size_by, record_place_by}

pub place_next : (v : Version) (i : ℕ) → record_place_by v (suc i) ≡ record_place_by v i + record_size_by v
place_next one i = omega arith
place_next two i = omega arith

pub used_most : (v : Version) (n : ℕ) → n ≤ 512 → used_length_by v n ≤ book_size_by v
used_most one n few = omega arith
used_most two n few = omega arith

pub used_below : (v : Version) (n : ℕ) → n ≤ 512 → used_length_by v n < 256 ^ 4
used_below one n few = omega arith
used_below two n few = omega arith

pub used_counts : (v : Version) (n : ℕ) → (used_length_by v n - records_place) / record_size_by v ≡ n
used_counts one n = omega arith
used_counts two n = omega arith

pub record_within : (v : Version) (i n : ℕ) → i < n → record_place_by v i + record_size_by v ≤ used_length_by v n
record_within one i n h = omega arith
record_within two i n h = omega arith
