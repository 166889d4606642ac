-- One tenant's part of the records: what it says where it ends, and that it ends where the records are right.
-- Assumes nothing.
use mathlib.Core.Path.{◌≡◌, refl, sym, ap, ◌∙◌}
use mathlib.Core.Bool.{Bool, true, false, ◌&&◌}
use mathlib.Core.List.{List, [], ◌∷◌}
use Prim.Native.Nat.{ℕ, zero, suc, ◌+◌, ◌-◌, ◌≤◌, ◌<◌}
use native.Mathlib.Omega.{arith}
use borrow.Author.Tests.{lt-ltb, ltb-true, eqb-true, eqb-false, eq-eqb}
use lib.Dec.{ltb, eqb}
use lib.ListN.{length, get_or}
use Rattle.octets.specs.Numbers.{Below, digits}
use Rattle.octets.specs.Every.{all_of}
use Rattle.octets.specs.Places.{number_at}
use Rattle.octets.proofs.Every.{and_first, and_second, either}
use Rattle.octets.proofs.Places.{number_at_below}
use Rattle.text.specs.Characters.{is_digit, is_name_character}
use Rattle.text.specs.Texts.{part}
use Rattle.forms.specs.Identifiers.{is_text, is_cell_name}
use Rattle.tenants.specs.Cells.{starts_above}
use Rattle.tenants.specs.Rules.{is_tenant, is_held}
use Rattle.tenants.specs.Together.{cell_in, BookRecord, names, full_name, tenant_of, name_of, cells_of, is_record, are_records}
use Rattle.tenants.proofs.OwnCells.{cells_mine, cells_not}
use Rattle.layout.specs.Layout.{record_size, record_place, used_length, record_at, each_from}
use Rattle.judging.specs.Judging.{record_test, part_from}
use Rattle.std.specs.Prelude.{Some}
use Rattle.std.proofs.lemmas.Option.{none-some, same_Some}
use Rattle.judging.proofs.RecordTests.{full_name_lem, tenant_is, record_tested}
use Rattle.judging.proofs.PartSteps.{part_other, part_wrong, part_more}

pub starts_lower : (k m : ℕ) (records : List BookRecord) → k ≤ m → starts_above m records ≡ true → starts_above k records ≡ true
unfolding starts_above
starts_lower k m [] low above = refl
starts_lower k m (r ∷ records) low above = lt-ltb k r.name (omega (arith, ltb-true m r.name above))

zero_no_name : is_cell_name 0 ≡ false
unfolding is_text digits all_of is_name_character is_digit
zero_no_name = refl

-- no cell name is 0
name_positive : (r : BookRecord) → is_record r ≡ true → 0 < name_of r
unfolding is_record is_held
name_positive r right =
    ltb-true 0 (name_of r)
    (either (eqb (name_of r) 0)
    (λ none. cc (rw (eqb-true (name_of r) 0 none, zero_no_name) at (and_second (is_tenant (tenant_of r)) (is_held (cell_in r)) right)))
    (λ some. let apart : name_of r ≡ 0 → ⊥ = eqb-false (name_of r) 0 some in lt-ltb 0 (name_of r) (omega arith)))

-- the first of records that are right is above its own tenant's beginning
pub first_above : (t : ℕ) (r : BookRecord) → is_record r ≡ true → t ≤ tenant_of r → full_name t 0 < r.name
first_above t r right low = omega (arith, name_positive r right)

-- the three things that are right of a first record and those after it
pub record Right (r : BookRecord) (records : List BookRecord) : Type 0 where
  pub it : is_record r ≡ true
  pub rise : starts_above r.name records ≡ true
  pub rest : are_records records ≡ true

pub right_parts : (r : BookRecord) (records : List BookRecord) → are_records (r ∷ records) ≡ true → Right r records
unfolding are_records
right_parts r records right =
    let rise = starts_above r.name records in
    let first = and_first (is_record r && rise) (are_records records) right in
    record { it = and_first (is_record r) rise first; rise = and_second (is_record r) rise first; rest = and_second (is_record r && rise) (are_records records) right }

right_whole : (r : BookRecord) (records : List BookRecord) → Right r records → are_records (r ∷ records) ≡ true
unfolding are_records
right_whole r records right = rw (right.it, right.rise, right.rest)

module _ (s : List ℕ) (below : Below 256 s) (n : ℕ) (within : used_length n ≤ length s) where
  -- the records from record i on
  abbrev pub from : ℕ → List BookRecord
  from i = each_from (record_at s) i (n - i)

  -- how many of them are tenant u's
  abbrev pub held_from : ℕ → ℕ → ℕ
  held_from u i = length (cells_of u (from i))

  pub from_next : (i : ℕ) → i < n → from i ≡ record_at s i ∷ from (suc i)
  unfolding each_from
  from_next i more = let left : n - i ≡ suc (n - suc i) = omega arith in rw left refl

  pub from_end : (i : ℕ) → n ≤ i → from i ≡ []
  unfolding each_from
  from_end i done = let none : n - i ≡ 0 = omega arith in rw none refl

  module _ (t : ℕ) (low : t ≤ 15) where
    -- what tenant t's part says, from record i, after this name, up to record j
    pub record PartSays (name i j : ℕ) : Type 0 where
      pub after : i ≤ j
      pub most : j ≤ n
      pub zeros : (k : ℕ) → i ≤ k → k < j → number_at 3 s (record_place k + 21) ≡ 0
      pub own : held_from t i + i ≡ j + held_from t j
      pub others : (u : ℕ) → (u ≡ t → ⊥) → held_from u i ≡ held_from u j
      pub rise : are_records (from j) ≡ true → starts_above (full_name (suc t) 0) (from j) ≡ true
          → (are_records (from i) ≡ true) × (starts_above (full_name t name) (from i) ≡ true)

    says_here : (name i : ℕ) → i ≤ n → name < names → PartSays name i i
    says_here name i most small = record {
      after = omega arith;
      most = most;
      zeros = λ k high low. absurd (omega arith);
      own = omega arith;
      others = λ u other. refl;
      rise = λ right above. (right, starts_lower (full_name t name) (full_name (suc t) 0) (from i) (omega arith) above);
    }

    -- record i is tenant t's and right
    module _ (name i : ℕ) (more : i < n) (its : get_or s (record_place i) 0 ≡ t) where
      abbrev next : ℕ
      next = number_at 8 s (record_place i + 1)

      inside : record_place i + record_size ≤ length s
      inside = omega arith

      it-is : (record_at s i).name ≡ full_name t next
      it-is = full_name_lem s below i inside ∙ ap (λ (u : ℕ). full_name u next) its

      mine : tenant_of (record_at s i) ≡ t
      mine = tenant_is s below i inside ∙ its

      next_small : next < names
      next_small = number_at_below 8 s (record_place i + 1) below

      tested : record_test (part record_size s (record_place i)) name
          ≡ (is_record (record_at s i) && (ltb (full_name t name) (record_at s i).name && eqb (number_at 3 s (record_place i + 21)) 0))
      tested = record_tested s below i inside t name its low

      says-next : (j : ℕ) → record_test (part record_size s (record_place i)) name ≡ true → PartSays next (suc i) j → PartSays name i j
      says-next j passed says =
          record {
            after = omega (arith, says.after);
            most = says.most;
            zeros = λ k high up.
                either (eqb i k)
                (λ same. ap (λ (x : ℕ). number_at 3 s (record_place x + 21)) (sym (eqb-true i k same)) ∙ eqb-true _ 0 (and_second above zero rest))
                (λ other. let apart : i ≡ k → ⊥ = eqb-false i k other in says.zeros k (omega arith) up);
            own = omega (arith, says.own, ap length (ap (cells_of t) (from_next i more) ∙ cells_mine t (record_at s i) (from (suc i)) mine));
            others = λ u other.
                ap length (ap (cells_of u) (from_next i more) ∙ cells_not u (record_at s i) (from (suc i)) (λ e. other (sym e ∙ mine)))
                ∙ says.others u other;
            rise = λ good starts.
                let behind = says.rise good starts in (
                  ap are_records (from_next i more)
                      ∙ right_whole (record_at s i) (from (suc i))
                      (record { it = and_first right (above && zero) all; rise = ap (λ (x : ℕ). starts_above x (from (suc i))) it-is ∙ behind.1; rest = behind.0 }),
                  ap (starts_above (full_name t name)) (from_next i more) ∙ first,
                );
          }
        where
          right : Bool
          right = is_record (record_at s i)

          above : Bool
          above = ltb (full_name t name) (record_at s i).name

          zero : Bool
          zero = eqb (number_at 3 s (record_place i + 21)) 0

          all : (right && (above && zero)) ≡ true
          all = sym tested ∙ passed

          rest : (above && zero) ≡ true
          rest = and_second right (above && zero) all

          first : starts_above (full_name t name) (record_at s i ∷ from (suc i)) ≡ true
          first = unfold starts_above in and_first above zero rest

    -- a part that ends says so
    pub record Said (name i end : ℕ) : Type 0 where
      pub j : ℕ
      pub place : end ≡ record_place j
      pub says : PartSays name i j

    said_here : (name i end : ℕ) → i ≤ n → name < names → Some (record_place i) ≡ Some end → Said name i end
    said_here name i end most small e = record { j = i; place = sym (same_Some _ _ e); says = says_here name i most small }

    pub part_says : (left name i end : ℕ) → i + left ≡ n → name < names → part_from s t name (record_place i) left ≡ Some end → Said name i end
    unfolding part_from
    part_says zero name i end count small ends = said_here name i end (omega arith) small ends
    part_says (suc left) name i end count small ends =
        either (eqb (get_or s (record_place i) 0) t)
        (λ same.
        let its : get_or s (record_place i) 0 ≡ t = eqb-true _ _ same in
        either (record_test (part record_size s (record_place i)) name)
        (λ passed.
        let place : record_place i + record_size ≡ record_place (suc i) = omega arith in
        let said = part_says left (number_at 8 s (record_place i + 1)) (suc i) end (omega arith) (next_small name i (omega arith) its)
        (sym (part_more s t name (record_place i) left its passed ∙ ap (λ (at : ℕ). part_from s t (number_at 8 s (record_place i + 1)) at left) place) ∙ ends) in
        record { j = said.j; place = said.place; says = says-next name i (omega arith) its said.j passed said.says })
        (λ failed. absurd (none-some _ (sym (part_wrong s t name (record_place i) left its failed) ∙ ends))))
        (λ other. said_here name i end (omega arith) small (sym (part_other s t name (record_place i) left (eqb-false _ _ other)) ∙ ends))

    -- and where the records are right it ends, before those of the tenants above
    pub record Goes (name i left : ℕ) : Type 0 where
      pub j : ℕ
      pub is : part_from s t name (record_place i) left ≡ Some (record_place j)
      pub says : PartSays name i j
      pub right : are_records (from j) ≡ true
      pub above : starts_above (full_name (suc t) 0) (from j) ≡ true

    module _ (zeros : (k : ℕ) → k < n → number_at 3 s (record_place k + 21) ≡ 0) where
      pub part-goes : (left name i : ℕ) → i + left ≡ n → name < names → are_records (from i) ≡ true
          → starts_above (full_name t name) (from i) ≡ true → Goes name i left
      unfolding part_from
      part-goes zero name i count small right above = record {
        j = i;
        is = refl;
        says = says_here name i (omega arith) small;
        right = right;
        above = ap (starts_above (full_name (suc t) 0)) (from_end i (omega arith)) ∙ unfold starts_above in refl;
      }
      part-goes (suc left) name i count small right above =
          either (eqb (get_or s (record_place i) 0) t)
          (λ same. let its : get_or s (record_place i) 0 ≡ t = eqb-true _ _ same in
          mine-goes its (part-goes left (number_at 8 s (record_place i + 1)) (suc i) (omega arith) (next_small name i more its) facts.rest
          (sym (ap (λ (x : ℕ). starts_above x (from (suc i))) (it-is name i more its)) ∙ facts.rise)))
          (λ not. other_goes (eqb-false _ _ not))
        where
          more : i < n
          more = omega arith

          facts : Right (record_at s i) (from (suc i))
          facts = right_parts (record_at s i) (from (suc i)) (sym (ap are_records (from_next i more)) ∙ right)

          higher : ltb (full_name t name) (record_at s i).name ≡ true
          higher = unfold starts_above in (sym (ap (starts_above (full_name t name)) (from_next i more)) ∙ above)

          mine-goes : get_or s (record_place i) 0 ≡ t → Goes (number_at 8 s (record_place i + 1)) (suc i) left → Goes name i (suc left)
          mine-goes its then =
              let passed : record_test (part record_size s (record_place i)) name ≡ true =
              tested name i more its ∙ rw (facts.it, higher, eq-eqb _ 0 (zeros i more)) refl in
              let place : record_place i + record_size ≡ record_place (suc i) = omega arith in
              record {
                j = then.j;
                is =
                    part_more s t name (record_place i) left its passed
                    ∙ ap (λ (at : ℕ). part_from s t (number_at 8 s (record_place i + 1)) at left) place
                    ∙ then.is;
                says = says-next name i more its then.j passed then.says;
                right = then.right;
                above = then.above;
              }

          other_goes : (get_or s (record_place i) 0 ≡ t → ⊥) → Goes name i (suc left)
          other_goes other =
              let inside : record_place i + record_size ≤ length s = omega arith in
              let tenant = tenant_is s below i inside in
              let first : full_name (suc t) 0 < (record_at s i).name =
              first_above (suc t) (record_at s i) facts.it (omega (arith, ltb-true (full_name t name) (record_at s i).name higher, tenant)) in
              record {
                j = i;
                is = part_other s t name (record_place i) left other;
                says = says_here name i (omega arith) small;
                right = right;
                above = ap (starts_above (full_name (suc t) 0)) (from_next i more) ∙ unfold starts_above in lt-ltb _ _ first;
              }
