-- Which records are later in order than a tenant's cell: those whose full name is above its own. In a list that is in order they are those after it.
-- And what a change that enters a cell moves: none where the name is held, and else the later ones.
-- Assumes nothing.
use mathlib.Core.Path.{◌≡◌, refl, ap, ◌∙◌}
use mathlib.Core.Bool.{true, false}
use mathlib.Core.List.{List, [], ◌∷◌, ◌++◌}
use mathlib.Core.Option.{none, some}
use Prim.Native.Nat.{ℕ, suc, ◌≤◌, ◌<◌}
use native.Mathlib.Omega.{arith}
use borrow.Author.Tests.{ltb-false, eqb-true, lt-ltb, le-ltb, eq-eqb}
use lib.Dec.{ltb, eqb}
use lib.ListN.{length}
use Rattle.octets.specs.Every.{count_of}
use Rattle.octets.proofs.Every.{either}
use Rattle.octets.proofs.Counts.{count_append, count-passes, count-fails}
use Rattle.tenants.specs.declared.Held.{Held}
use Rattle.tenants.specs.Cells.{cell_of}
use Rattle.tenants.specs.Rules.{enters}
use Rattle.tenants.specs.Together.{Book, BookRecord, names, full_name, full, tenant_of, name_of, own_of, changed}
use Rattle.tenants.specs.House.{is_later, later_in, moved_by}
use Rattle.tenants.proofs.Ordered.{Above, Below}

module _ (t name : ℕ) (small : name < names) where
  module _ (r : BookRecord) where
    pub later-above : full_name t name < full r → is_later t name r ≡ true
    unfolding is_later
    later-above above =
        either (ltb t (tenant_of r))
        (λ later. rw later)
        (λ no.
        let few : tenant_of r ≤ t = ltb-false t (tenant_of r) no in
        let mine : tenant_of r ≡ t = omega arith in
        let higher : name < name_of r = omega arith in
        rw (no, eq-eqb (tenant_of r) t mine, lt-ltb name (name_of r) higher))

    pub later-not : full r ≤ full_name t name → is_later t name r ≡ false
    unfolding is_later
    later-not low =
        let few : tenant_of r ≤ t = omega arith in
        rw (le-ltb t (tenant_of r) few)
        (either (eqb (tenant_of r) t)
        (λ own.
        let mine : tenant_of r ≡ t = eqb-true (tenant_of r) t own in
        let lower : name_of r ≤ name = omega arith in
        rw (own, le-ltb name (name_of r) lower))
        (λ other. rw other))

  none_later : (front : List BookRecord) → Below (full_name t name) front → count_of (is_later t name) front ≡ 0
  unfolding count_of
  none_later [] below = refl
  none_later (r ∷ front) below =
      let low : full r < full_name t name = below.0 in
      count-fails (is_later t name) r front (later-not r (omega arith)) ∙ none_later front below.1

  all_later : (back : List BookRecord) → Above (full_name t name) back → count_of (is_later t name) back ≡ length back
  unfolding count_of
  all_later [] above = refl
  all_later (r ∷ back) above =
      count-passes (is_later t name) r back (later-above r above.0) ∙ ap suc (all_later back above.1)

  module _ (front back : List BookRecord) (below : Below (full_name t name) front) (above : Above (full_name t name) back) where
    -- where the cell is not among them
    pub later-around : count_of (is_later t name) (front ++ back) ≡ length back
    later-around = omega (arith, count_append (is_later t name) front back, none_later front below, all_later back above)

    -- and where it is
    pub later-around-it : (it : BookRecord) → full it ≡ full_name t name → count_of (is_later t name) (front ++ (it ∷ back)) ≡ length back
    later-around-it it same =
        omega (
          arith,
          count_append (is_later t name) front (it ∷ back),
          count-fails (is_later t name) it back (later-not it (omega arith)),
          none_later front below,
          all_later back above,
        )

module _ (t : ℕ) (cell : Held) (book : Book) where
  pub replaced_moves_none : (c : Held) → cell_of cell.name (own_of t book).cells ≡ some c → moved_by t (enters cell) book ≡ 0
  replaced_moves_none c held = rw held

  pub new_moves_later : cell_of cell.name (own_of t book).cells ≡ none
      → moved_by t (enters cell) book ≡ later_in (changed t (enters cell) book) t cell.name
  new_moves_later absent = rw absent
