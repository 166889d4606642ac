-- Where each tenant's records start: the first tenant's at nought, each next one's after those of the one before, and after all no tenant's.
-- Assumes nothing.
use mathlib.Core.Path.{◌≡◌, refl}
use mathlib.Core.Bool.{true}
use mathlib.Core.List.{List, [], ◌∷◌}
use Prim.Native.Nat.{ℕ, suc, ◌+◌, ◌≤◌, ◌<◌}
use native.Mathlib.Omega.{arith}
use borrow.Author.Tests.{leb-true, lt-ltb, le-ltb, ltb-true, ltb-false, eqb-true, eqb-false, ne_eqb}
use lib.Dec.{leb, ltb, eqb}
use lib.ListN.{length}
use Rattle.octets.proofs.Every.{and_first, either}
use Rattle.tenants.specs.Rules.{is_tenant, is_held}
use Rattle.tenants.specs.Together.{cell_in, BookRecord, tenant_of, cells_of, is_record, are_records}
use Rattle.judging.specs.Starts.{start_of}
use Rattle.judging.proofs.OnePart.{right_parts}

-- the records before a tenant's and its own are those before the next one's
pub start_next : (t : ℕ) (records : List BookRecord) → start_of (suc t) records ≡ start_of t records + length (cells_of t records)
unfolding start_of cells_of
start_next t [] = refl
start_next t (r ∷ records) =
    either (ltb (tenant_of r) t)
    (λ low. let h : tenant_of r < t = ltb-true _ _ low in
    rw (lt-ltb (tenant_of r) (suc t) (omega arith), low, ne_eqb (tenant_of r) t (λ e. omega arith)) (omega (arith, start_next t records)))
    (λ not.
    either (eqb (tenant_of r) t)
    (λ same. let e : tenant_of r ≡ t = eqb-true _ _ same in
    rw (lt-ltb (tenant_of r) (suc t) (omega arith), not, same) (omega (arith, start_next t records)))
    (λ other. let apart : tenant_of r ≡ t → ⊥ = eqb-false _ _ other in
    let high : t ≤ tenant_of r = omega (arith, ltb-false (tenant_of r) t not) in
    rw (le-ltb (tenant_of r) (suc t) (omega arith), not, other) (omega (arith, start_next t records))))

pub start_none : (records : List BookRecord) → start_of 0 records ≡ 0
unfolding start_of
start_none [] = refl
start_none (r ∷ records) = rw (le-ltb (tenant_of r) 0 (omega arith)) (omega (arith, start_none records))

tenant_low : (r : BookRecord) → is_record r ≡ true → tenant_of r ≤ 15
unfolding is_record is_tenant
tenant_low r right = leb-true (tenant_of r) 15 (and_first (leb (tenant_of r) 15) (is_held (cell_in r)) right)

-- all records are of tenants below 16
pub start_all : (t : ℕ) (records : List BookRecord) → 16 ≤ t → are_records records ≡ true → start_of t records ≡ length records
unfolding start_of
start_all t [] high right = refl
start_all t (r ∷ records) high right =
    let facts = right_parts r records right in
    rw (lt-ltb (tenant_of r) t (omega (arith, tenant_low r facts.it))) (omega (arith, start_all t records high facts.rest))
