-- How the tenants' parts go on, one after the other: as they are defined, as a loop goes along them, and in two stretches that meet.
-- Assumes nothing.
use mathlib.Core.Path.{◌≡◌, refl, sym, ap, ◌∙◌}
use mathlib.Core.List.{List}
use Prim.Native.Nat.{ℕ, zero, suc, ◌+◌, ◌-◌, ◌*◌, ◌/◌, ◌%◌, ◌≤◌, ◌<◌}
use native.Mathlib.Nat.{add-zero, zero-add, suc-add}
use native.Mathlib.Numerals.{add-one}
use native.Mathlib.Omega.{arith}
use borrow.Author.Tests.{le-leb, lt-leb, leb-true, leb-false, eqb-true, eqb-false}
use lib.Dec.{leb, eqb}
use lib.ListN.{get_or}
use Rattle.std.specs.Option.{option_and_then}
use Rattle.octets.specs.Places.{number_at}
use Rattle.octets.proofs.Every.{either}
use Rattle.text.specs.Texts.{part}
use Rattle.layout.specs.Layout.{record_size, setting_place}
use Rattle.judging.specs.Judging.{record_test, part_from, parts_from}
use Rattle.std.specs.Prelude.{Option, None, Some}
use Rattle.std.proofs.lemmas.Option.{none-some, same_Some}
use Rattle.judging.proofs.PartSteps.{part_other, part_wrong, part_more}

-- a part ends or is wrong
pub ends_or_wrong : {P : Type 0} (p : Option ℕ) → ((end : ℕ) → p ≡ Some end → P) → (p ≡ None → P) → P
ends_or_wrong (Some end) one other = one end refl
ends_or_wrong None one other = other refl

-- a place from which whole records are left up to the used length
pub record Whole (used at : ℕ) : Type 0 where
  pub most : at ≤ used
  pub fits : (used - at) % record_size ≡ 0

module _ (s : List ℕ) (used t : ℕ) where
  whole_part : (left name at end : ℕ) → Whole used at → (used - at) / record_size ≡ left → part_from s t name at left ≡ Some end
      → (at ≤ end) × Whole used end
  unfolding part_from
  whole_part zero name at end whole count ends = let here : at ≡ end = same_Some _ _ ends in rw (sym here) (omega arith, whole)
  whole_part (suc left) name at end whole count ends =
      either (eqb (get_or s at 0) t)
      (λ same.
      let its : get_or s at 0 ≡ t = eqb-true _ _ same in
      either (record_test (part record_size s at) name)
      (λ passed.
      let after = whole_part left (number_at 8 s (at + 1)) (at + record_size) end
      (record { most = omega (arith, whole.most, whole.fits); fits = omega (arith, whole.fits) }) (omega (arith, whole.fits))
      (sym (part_more s t name at left its passed) ∙ ends) in
      (omega (arith, after.0), after.1))
      (λ failed. absurd (none-some _ (sym (part_wrong s t name at left its failed) ∙ ends))))
      (λ other. let here : at ≡ end = same_Some _ _ (sym (part_other s t name at left (eqb-false _ _ other)) ∙ ends) in
      rw (sym here) (omega arith, whole))

  -- a part that ends leaves whole records
  pub part_leaves : (at end : ℕ) → Whole used at → part_from s t 0 at ((used - at) / record_size) ≡ Some end → (at ≤ end) × Whole used end
  part_leaves at end whole ends = whole_part ((used - at) / record_size) 0 at end whole refl ends

  -- how the parts go on with tenant t's: it is wrong, it is longer than the quota, or it is neither
  module _ (m at : ℕ) where
    pub parts-wrong : part_from s t 0 at ((used - at) / record_size) ≡ None → parts_from s used t at (suc m) ≡ None
    unfolding parts_from
    parts-wrong wrong = rw wrong refl

    module _ (end : ℕ) (ends : part_from s t 0 at ((used - at) / record_size) ≡ Some end) where
      pub parts-long : record_size * number_at 2 s (setting_place t) < end - at → parts_from s used t at (suc m) ≡ None
      unfolding parts_from
      parts-long long = rw (ends, lt-leb _ _ long) refl

      pub parts_more : end - at ≤ record_size * number_at 2 s (setting_place t) → parts_from s used t at (suc m) ≡ parts_from s used (suc t) end m
      unfolding parts_from
      parts_more short = rw (ends, le-leb _ _ short) refl

module _ (s : List ℕ) (used start to first : ℕ) where
  -- the parts of all the tenants
  abbrev all : Option ℕ
  all = parts_from s used start first (to - start)

  -- right so far, and those from tenant t on are left at a place
  pub record PartsLeft (at t : ℕ) : Type 0 where
    pub low : start ≤ t
    pub high : t ≤ to
    pub whole : Whole used at
    pub same : all ≡ parts_from s used t at (to - t)

  pub left_all : start ≤ to → Whole used first → PartsLeft first start
  left_all high whole = record { low = omega arith; high = high; whole = whole; same = refl }

  module _ {at t : ℕ} (so_far : PartsLeft at t) where
    pub left_none : to ≤ t → Some at ≡ all
    unfolding parts_from
    left_none done = let none : to - t ≡ 0 = omega arith in sym (rw none at so_far.same)

    module _ (more : t < to) where
      now : all ≡ parts_from s used t at (suc (to - suc t))
      now = let left : to - t ≡ suc (to - suc t) = omega arith in rw left at so_far.same

      pub left-wrong : part_from s t 0 at ((used - at) / record_size) ≡ None → None ≡ all
      left-wrong wrong = sym (now ∙ parts-wrong s used t (to - suc t) at wrong)

      module _ (end : ℕ) (ends : part_from s t 0 at ((used - at) / record_size) ≡ Some end) (quota : ℕ) (is : quota ≡ number_at 2 s (setting_place t)) where
        pub left-long : record_size * quota < end - at → None ≡ all
        left-long long = sym (now ∙ parts-long s used t (to - suc t) at end ends (omega arith))

        pub left-next : end - at ≤ record_size * quota → PartsLeft end (t + 1)
        left-next short =
            record {
              low = omega (arith, so_far.low);
              high = omega arith;
              whole = (part_leaves s used t at end so_far.whole ends).1;
              same = now ∙ parts_more s used t (to - suc t) at end ends (omega arith) ∙ rw add-one refl;
            }

-- the parts of some tenants, and then of others
pub parts_join : (s : List ℕ) (used a b t at : ℕ)
    → parts_from s used t at (a + b) ≡ option_and_then (λ (end : ℕ). parts_from s used (t + a) end b) (parts_from s used t at a)
parts_join s used zero b t at = unfold parts_from in rw (zero-add b, add-zero t) refl
parts_join s used (suc a) b t at =
    ends_or_wrong (part_from s t 0 at ((used - at) / record_size))
    (λ end ends.
    either (leb (end - at) (record_size * number_at 2 s (setting_place t)))
    (λ short. let few = leb-true _ _ short in
    let one : suc t + a ≡ t + suc a = omega arith in
    ap (parts_from s used t at) (suc-add a b)
    ∙ parts_more s used t (a + b) at end ends few
    ∙ parts_join s used a b (suc t) end
    ∙ ap (λ (u : ℕ). option_and_then (λ (end : ℕ). parts_from s used u end b) (parts_from s used (suc t) end a)) one
    ∙ ap (λ (p : Option ℕ). option_and_then (λ (end : ℕ). parts_from s used (t + suc a) end b) p) (sym (parts_more s used t a at end ends few)))
    (λ long. let many = leb-false _ _ long in
    ap (parts_from s used t at) (suc-add a b)
    ∙ parts-long s used t (a + b) at end ends many
    ∙ ap (λ (p : Option ℕ). option_and_then (λ (end : ℕ). parts_from s used (t + suc a) end b) p) (sym (parts-long s used t a at end ends many))))
    (λ wrong.
    ap (parts_from s used t at) (suc-add a b)
    ∙ parts-wrong s used t (a + b) at wrong
    ∙ ap (λ (p : Option ℕ). option_and_then (λ (end : ℕ). parts_from s used (t + suc a) end b) p) (sym (parts-wrong s used t a at wrong)))

-- parts that end leave whole records
pub parts_leave : (s : List ℕ) (used m t at end : ℕ) → Whole used at → parts_from s used t at m ≡ Some end → (at ≤ end) × Whole used end
parts_leave s used zero t at end whole ends = let here : at ≡ end = same_Some _ _ (unfold parts_from in ends) in rw (sym here) (omega arith, whole)
parts_leave s used (suc m) t at end whole ends =
    ends_or_wrong (part_from s t 0 at ((used - at) / record_size))
    (λ next is.
    let one = part_leaves s used t at next whole is in
    either (leb (next - at) (record_size * number_at 2 s (setting_place t)))
    (λ short. let then = parts_leave s used m (suc t) next end one.1
    (sym (parts_more s used t m at next is (leb-true _ _ short)) ∙ ends) in (omega (arith, one.0, then.0), then.1))
    (λ long. absurd (none-some _ (sym (parts-long s used t m at next is (leb-false _ _ long)) ∙ ends))))
    (λ wrong. absurd (none-some _ (sym (parts-wrong s used t m at wrong) ∙ ends)))
