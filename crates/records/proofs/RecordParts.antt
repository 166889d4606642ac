-- A cell read field by field, its name being the eight bytes after the tenant's.
-- Assumes nothing.
use mathlib.Core.Path.{◌≡◌, refl, ◌∙◌}
use mathlib.Core.List.{List}
use Prim.Native.Nat.{ℕ, ◌+◌}
use Rattle.octets.specs.Numbers.{Below}
use Rattle.octets.specs.Places.{number_at}
use Rattle.tenants.specs.declared.Held.{Held}
use Rattle.tenants.specs.Together.{cell_in}
use Rattle.layout.specs.Layout.{record_at_by, record_place, record_at}
use Rattle.layout.proofs.Indexed.{record_name}

pub cell_read : (s : List ℕ) (i name edition key1 key2 last : ℕ) → Below 256 s → name ≡ number_at 8 s (record_place i + 1)
    → edition ≡ number_at 2 s (record_place i + 9) → key1 ≡ number_at 5 s (record_place i + 11) → key2 ≡ number_at 5 s (record_place i + 16)
    → last ≡ number_at 4 s (record_place i + 24)
    → ◌≡◌ {A = Held} (record { name = name; edition = edition; key1 = key1; key2 = key2; last = last }) (cell_in (record_at s i))
unfolding record_at_by
cell_read s i name edition key1 key2 last below a b c d e = rw (a ∙ record_name s i below, b, c, d, e) refl
