-- How many records the bytes say, each record and setting by its index, a record's name by its bytes, that the setting of a tenant's number
-- is its own, and whose list it reads.
-- Assumes nothing.
use mathlib.Core.Path.{◌≡◌, sym, ap, ◌∙◌}
use mathlib.Core.Bool.{cond}
use mathlib.Core.List.{List}
use Prim.Native.Nat.{ℕ, ◌+◌, ◌-◌, ◌%◌, ◌≤◌, ◌<◌}
use native.Mathlib.Omega.{arith}
use borrow.Author.Tests.{leb-true, leb-false, eq-eqb, ne_eqb}
use lib.Dec.{leb, eqb}
use lib.ListN.{length, get_or, get_or-eq_default}
use Rattle.octets.specs.Numbers.{Below}
use Rattle.octets.specs.Places.{number_at}
use Rattle.octets.proofs.Every.{either}
use Rattle.octets.proofs.Places.{number_beyond, number_join, number_at_below}
use Rattle.tenants.specs.Rules.{names_none}
use Rattle.tenants.specs.Together.{BookRecord, names, name_of, no_setting, list_of, own_of}
use Rattle.tenants.specs.declared.Setting.{Setting}
use Rattle.layout.specs.Layout.{record_at_by, book_of_by, setting_place, record_place, setting_at, record_at, record_count, book_of, list_in, own_in}
use Rattle.layout.proofs.Each.{each_count, each_is}
use Rattle.layout.proofs.Told.{byte_number}

module _ (s : List ℕ) where
  pub book_count : length (book_of s).records ≡ record_count s
  unfolding book_of_by
  book_count = each_count (record_at s) 0 (record_count s)

  pub book_record : (i : ℕ) (none : BookRecord) → i < record_count s → get_or (book_of s).records i none ≡ record_at s i
  unfolding book_of_by
  book_record i none h = each_is (record_at s) (record_count s) i none h

  -- of nine bytes the last eight are the name
  name_of_nine : (at : ℕ) → Below 256 s → number_at 8 s (at + 1) ≡ number_at 9 s at % names
  name_of_nine at below =
      either (leb (at + 9) (length s))
      (λ within. omega (arith, number_join 1 8 s at (leb-true _ _ within), number_at_below 8 s (at + 1) below))
      (λ beyond.
      let out : length s < at + 9 = leb-false _ _ beyond in
      omega (arith, number_beyond 8 s (at + 1) (omega arith), number_beyond 9 s at out))

  -- the name of record i is the eight bytes after the tenant's
  pub record_name : (i : ℕ) → Below 256 s → number_at 8 s (record_place i + 1) ≡ name_of (record_at s i)
  unfolding record_at_by
  record_name i below = name_of_nine (record_place i) below

  pub book_setting : (t : ℕ) (none : Setting) → t < 16 → get_or (book_of s).settings t none ≡ setting_at s t
  unfolding book_of_by
  book_setting t none h = each_is (setting_at s) 16 t none h

  pub own_setting : (t : ℕ) → t ≤ 15 → (own_in s t).setting ≡ setting_at s t
  unfolding own_of
  own_setting t few = book_setting t no_setting (omega arith)

  -- whose list a tenant reads, by the last byte of its setting; a number that is no tenant's has none
  list_by : (t principal : ℕ) → (get_or (book_of s).settings t no_setting).principal ≡ principal → list_in s t ≡ cond (eqb principal 0) t (principal - 1)
  unfolding list_of names_none
  list_by t principal is = ap (λ (p : ℕ). cond (eqb p 0) t (p - 1)) is

  pub list_beyond : (t : ℕ) → 15 < t → t ≡ list_in s t
  unfolding book_of_by
  list_beyond t many =
      let past : length (book_of s).settings ≤ t = omega (arith, each_count (setting_at s) 0 16) in
      sym (list_by t 0 (ap (λ (x : Setting). x.principal) (get_or-eq_default (book_of s).settings no_setting past)))

  module _ (t principal : ℕ) (few : t ≤ 15) (is : principal ≡ get_or s (setting_place t + 5) 0) where
    list_read : list_in s t ≡ cond (eqb principal 0) t (principal - 1)
    unfolding setting_at
    list_read = list_by t principal (ap (λ (x : Setting). x.principal) (book_setting t no_setting (omega arith)) ∙ byte_number s (setting_place t + 5) ∙ sym is)

    pub list-own : principal ≡ 0 → t ≡ list_in s t
    list-own none = sym (list_read ∙ rw (eq-eqb principal 0 none))

    pub list-principal : (principal ≡ 0 → ⊥) → principal - 1 ≡ list_in s t
    list-principal named = sym (list_read ∙ rw (ne_eqb principal 0 named))
