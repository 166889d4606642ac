-- How a tenant's part goes on, record by record: as it is defined, and as a loop goes along it, with the spare bytes taken together.
-- Assumes nothing.
use mathlib.Core.Path.{◌≡◌, refl, sym, ap, ◌∙◌}
use mathlib.Core.Bool.{true, false, cond}
use mathlib.Core.List.{List}
use Prim.Native.Nat.{ℕ, suc, ◌+◌, ◌-◌, ◌/◌, ◌%◌, ◌≤◌, ◌<◌}
use native.Mathlib.Omega.{arith}
use borrow.Author.Tests.{eq-eqb, ne_eqb}
use lib.Bits.{bit_or}
use lib.Dec.{leb}
use lib.ListN.{get_or}
use Rattle.octets.specs.Places.{number_at}
use Rattle.octets.proofs.Every.{either}
use Rattle.text.specs.Texts.{part}
use Rattle.layout.specs.Layout.{record_size}
use Rattle.judging.specs.Judging.{cell_test, spare_of, record_test, part_from}
use Rattle.std.specs.Prelude.{Option, None, Some}
use Rattle.judging.proofs.RecordTests.{or_spare}

-- how a part goes on: at a record of another tenant, at a wrong one, at a right one
module _ (s : List ℕ) (t name at left : ℕ) where
  pub part_other : (get_or s at 0 ≡ t → ⊥) → part_from s t name at (suc left) ≡ Some at
  unfolding part_from
  part_other other = rw (ne_eqb (get_or s at 0) t other)

  pub part_wrong : get_or s at 0 ≡ t → record_test (part record_size s at) name ≡ false → part_from s t name at (suc left) ≡ None
  unfolding part_from
  part_wrong its wrong = rw (eq-eqb (get_or s at 0) t its, wrong)

  pub part_more : get_or s at 0 ≡ t → record_test (part record_size s at) name ≡ true
      → part_from s t name at (suc left) ≡ part_from s t (number_at 8 s (at + 1)) (at + record_size) left
  unfolding part_from
  part_more its right = rw (eq-eqb (get_or s at 0) t its, right)

module _ (s : List ℕ) (t first used : ℕ) where
  -- the whole part
  abbrev all : Option ℕ
  all = part_from s t 0 first ((used - first) / record_size)

  -- right so far, if the spare bytes are, the last record had this name, and the others are left at a place
  pub record PartLeft (name spare at : ℕ) : Type 0 where
    pub most : at ≤ used
    pub fits : (used - at) % record_size ≡ 0
    pub same : all ≡ cond (leb spare 255) (part_from s t name at ((used - at) / record_size)) None

  pub left_all : first ≤ used → (used - first) % record_size ≡ 0 → PartLeft 0 0 first
  left_all most fits = record { most = most; fits = fits; same = refl }

  module _ {name spare at : ℕ} (so_far : PartLeft name spare at) where
    pub left_none : used ≤ at → cond (leb spare 255) (Some at) None ≡ all
    unfolding part_from
    left_none done =
        let none : (used - at) / record_size ≡ 0 = omega arith in
        sym (rw none at so_far.same)

    module _ (more : at < used) where
      pub one-within : at + record_size ≤ used
      one-within = omega (arith, so_far.fits)

      abbrev others : ℕ
      others = (used - (at + record_size)) / record_size

      now : all ≡ cond (leb spare 255) (part_from s t name at (suc others)) None
      now = let left : (used - at) / record_size ≡ suc others = omega (arith, so_far.fits) in rw left at so_far.same

      pub left_other : (get_or s at 0 ≡ t → ⊥) → cond (leb spare 255) (Some at) None ≡ all
      left_other other = sym (now ∙ ap (λ (p : Option ℕ). cond (leb spare 255) p None) (part_other s t name at others other))

      module _ (its : get_or s at 0 ≡ t) where
        pub left-wrong : cell_test (part record_size s at) name ≡ false → None ≡ all
        left-wrong wrong =
            sym (now
            ∙ ap (λ (p : Option ℕ). cond (leb spare 255) p None) (part_wrong s t name at others its (rw wrong refl))
            ∙ either (leb spare 255) (λ e. rw e refl) (λ e. rw e refl))

        module _ (right : cell_test (part record_size s at) name ≡ true) (x : ℕ) (is : x ≡ spare_of (part record_size s at)) where
          -- both halves of the record's test, with what was taken together
          together : cond (leb spare 255) (part_from s t name at (suc others)) None
              ≡ cond (leb (bit_or spare x) 255) (part_from s t (number_at 8 s (at + 1)) (at + record_size) others) None
          together =
              rw (or_spare spare x)
              (either (leb spare 255)
              (λ low. rw low
              (either (leb x 255)
              (λ zeros. rw zeros (part_more s t name at others its (rw (right, sym is) zeros)))
              (λ not. rw not (part_wrong s t name at others its (rw (right, sym is) not)))))
              (λ high. rw high refl))

          pub left-next : PartLeft (number_at 8 s (at + 1)) (bit_or spare x) (at + record_size)
          left-next = record { most = one-within; fits = omega (arith, so_far.fits); same = now ∙ together }
