-- What the rules make of entering, withdrawing and setting days, case by case, in the order of the refusals; and which calls are admitted.
-- Assumes nothing.
use mathlib.Core.Path.{◌≡◌, refl, sym, ap, ◌∙◌}
use mathlib.Core.Bool.{Bool, true, false, or-true}
use mathlib.Core.List.{List}
use mathlib.Core.Option.{none, some}
use Prim.Native.Nat.{ℕ, ◌≤◌, ◌<◌}
use borrow.Author.Tests.{leb-true, lt-ltb, le-ltb}
use lib.ListN.{length}
use Rattle.std.specs.Prelude.{Result, Ok, Err}
use Rattle.dates.specs.Notice.{is_days}
use Rattle.forms.specs.Order.{demand}
use Rattle.forms.specs.Identifiers.{is_cell_name}
use Rattle.forms.specs.Refusals.{by, refused}
use Rattle.forms.specs.declared.refusals.Refusal.{Refusal}
use Rattle.tenants.specs.declared.Held.{Held}
use Rattle.tenants.specs.Cells.{cell_of}
use Rattle.tenants.specs.Rules.{Change, enters, withdraws, sets, refuses, is_tenant, is_held, names_none, is_some, entering, withdrawing, setting_days}
use Rattle.layout.specs.Layout.{is_book, own_in}
use Rattle.judging.specs.declared.Records.{Records}
use Rattle.changing.specs.Changing.{records_in, admitted, entry, withdrawal, new_days, bytes_after}
use Rattle.changing.specs.House.{house_answer}

-- a call that does a change, and answers what is answered to it: the house, or a tenant
abbrev pub Does : {A : Type 0} → (Change → A) → ℕ → List ℕ → Change → A → List ℕ → Type 0
Does answer t s change r after = (r ≡ answer change) × (after ≡ bytes_after t change s)

module _ {A : Type 0} (answer : Change → A) (t : ℕ) (s : List ℕ) (change : Change) where
  -- a refusal is answered and leaves the bytes
  pub refused_so : (r : Refusal) → change ≡ refuses r → Does answer t s change (answer (refuses r)) s
  refused_so r e = (ap answer (sym e), ap (λ (c : Change). bytes_after t c s) (sym e))

  -- what does one change does an equal one
  pub does_same : (same : Change) (r : A) (after : List ℕ) → change ≡ same → Does answer t s same r after → Does answer t s change r after
  does_same same r after e does = rw e does

-- four tests in the order of what enter and withdraw are refused with
module _ {A : Type 0} (f : Refusal → A) (a b c d : Bool) (next : A) where
  abbrev pub in_order : A
  in_order = demand a (f (by 101)) (demand b (f (by 102)) (demand c (f (by 103)) (demand d (f (by 111)) next)))

same_refusal : (x r : Refusal) → ◌≡◌ {A = Result Records Refusal} (Err x) (Err r) → ◌≡◌ {A = Result ℕ Refusal} (Err r) (Err x)
same_refusal x r e = cc

-- what is refused so is refused in what has more to ask
module _ (t : ℕ) (s : List ℕ) (records : Records) (more : Change) (r : Refusal) where
  abbrev Refuses : Bool → Bool → Bool → Bool → Type 0
  Refuses a b c d =
      in_order refused a b c d (Ok records) ≡ Err r → Does (house_answer t s) t s (in_order refuses a b c d more) (Err r) s

  refuses_first : (a b c d : Bool) → Refuses a b c d
  refuses_first false b c d e = (same_refusal _ _ e, refl)
  refuses_first true false c d e = (same_refusal _ _ e, refl)
  refuses_first true true false d e = (same_refusal _ _ e, refl)
  refuses_first true true true false e = (same_refusal _ _ e, refl)
  refuses_first true true true true e = cc

-- what has held where nothing is refused
passes : (records r : Records) (a b c d : Bool) → in_order refused a b c d (Ok records) ≡ Ok r
    → (a ≡ true) × ((b ≡ true) × ((c ≡ true) × ((d ≡ true) × (r ≡ records))))
passes records r false b c d e = cc
passes records r true false c d e = cc
passes records r true true false d e = cc
passes records r true true true false e = cc
passes records r true true true true e = (refl, (refl, (refl, (refl, cc))))

-- a call that is admitted: what has held of it, and where the records stand
pub record Admitted (s : List ℕ) (t : ℕ) (fits : Bool) (r : Records) : Type 0 where
  pub undamaged : is_book s ≡ true
  pub tenant : t ≤ 15
  pub fit : fits ≡ true
  pub keeps : names_none (own_in s t).setting ≡ true
  pub stand : r ≡ records_in s t

pub admitted_so : (s : List ℕ) (t : ℕ) (fits : Bool) (r : Records) → admitted s t fits ≡ Ok r → Admitted s t fits r
unfolding admitted is_tenant
admitted_so s t fits r so =
    let held = passes (records_in s t) r (is_book s) (is_tenant t) fits (names_none (own_in s t).setting) so in
    record { undamaged = held.0; tenant = leb-true t 15 held.1.0; fit = held.1.1.0; keeps = held.1.1.1.0; stand = held.1.1.1.1 }

module _ (s : List ℕ) (t : ℕ) (cell : Held) where
  pub entry_refused : (fits : Bool) (r : Refusal) → fits ≡ is_held cell → admitted s t fits ≡ Err r → Does (house_answer t s) t s (entry s t cell) (Err r) s
  unfolding admitted entry entering
  entry_refused fits r same so =
      refuses_first t s (records_in s t) _ r (is_book s) (is_tenant t) (is_held cell) (names_none (own_in s t).setting)
      (ap (λ (fits : Bool). admitted s t fits) (sym same) ∙ so)

  module _ (undamaged : is_book s ≡ true) where
    pub entry-rule : entry s t cell ≡ entering t cell (own_in s t)
    unfolding entry
    entry-rule = rw undamaged

    module _ (tenant : is_tenant t ≡ true) where
      module _ (fit : is_held cell ≡ true) where
        pub entry-branch : names_none (own_in s t).setting ≡ false → entry s t cell ≡ refuses (by 111)
        unfolding entry entering
        entry-branch branch = rw (undamaged, tenant, fit, branch)

        module _ (keeps : names_none (own_in s t).setting ≡ true) where
          pub entry-full : cell_of cell.name (own_in s t).cells ≡ none → (own_in s t).setting.quota ≤ length (own_in s t).cells
              → entry s t cell ≡ refuses (by 105)
          unfolding entry entering
          entry-full absent full = rw (undamaged, tenant, fit, keeps, absent, le-ltb _ _ full)

          pub entry-held : (it : Held) → cell_of cell.name (own_in s t).cells ≡ some it → entry s t cell ≡ enters cell
          unfolding entry entering
          entry-held it held = rw (undamaged, tenant, fit, keeps, held)

          pub entry-roomy : length (own_in s t).cells < (own_in s t).setting.quota → entry s t cell ≡ enters cell
          unfolding entry entering
          entry-roomy room = rw (undamaged, tenant, fit, keeps, lt-ltb _ _ room, or-true (is_some (cell_of cell.name (own_in s t).cells)))

module _ (s : List ℕ) (t name : ℕ) where
  pub withdrawal_refused : (fits : Bool) (r : Refusal) → fits ≡ is_cell_name name → admitted s t fits ≡ Err r
      → Does (house_answer t s) t s (withdrawal s t name) (Err r) s
  unfolding admitted withdrawal withdrawing
  withdrawal_refused fits r same so =
      refuses_first t s (records_in s t) _ r (is_book s) (is_tenant t) (is_cell_name name) (names_none (own_in s t).setting)
      (ap (λ (fits : Bool). admitted s t fits) (sym same) ∙ so)

  module _ (undamaged : is_book s ≡ true) where
    module _ (tenant : is_tenant t ≡ true) where
      module _ (fit : is_cell_name name ≡ true) where
        pub withdrawal-branch : names_none (own_in s t).setting ≡ false → withdrawal s t name ≡ refuses (by 111)
        unfolding withdrawal withdrawing
        withdrawal-branch branch = rw (undamaged, tenant, fit, branch)

        module _ (keeps : names_none (own_in s t).setting ≡ true) where
          pub withdrawal-absent : cell_of name (own_in s t).cells ≡ none → withdrawal s t name ≡ refuses (by 104)
          unfolding withdrawal withdrawing
          withdrawal-absent absent = rw (undamaged, tenant, fit, keeps, absent)

          pub withdrawal-held : (it : Held) → cell_of name (own_in s t).cells ≡ some it → withdrawal s t name ≡ withdraws name
          unfolding withdrawal withdrawing
          withdrawal-held it held = rw (undamaged, tenant, fit, keeps, held)

pub days-fit : (s : List ℕ) (t days : ℕ) → is_book s ≡ true → is_tenant t ≡ true → is_days days ≡ true → new_days s t days ≡ sets days
unfolding new_days setting_days
days-fit s t days undamaged tenant fit = rw (undamaged, tenant, fit)
