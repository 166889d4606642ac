-- What a done call did: whoever reads the tenant's list is afterwards given the entered cell, nothing of a withdrawn name, and else what it was given;
-- the tenant has the new days.
-- Assumes nothing.
use mathlib.Core.Path.{◌≡◌, refl, sym, ap, ◌∙◌}
use mathlib.Core.Bool.{Bool, true}
use mathlib.Core.List.{List}
use mathlib.Core.Option.{none, some}
use Prim.Native.Nat.{ℕ}
use native.Mathlib.Omega.{arith}
use borrow.Author.Tests.{le-leb}
use Rattle.octets.proofs.Every.{either}
use Rattle.dates.specs.Notice.{is_days}
use Rattle.forms.specs.Order.{demand}
use Rattle.forms.specs.Identifiers.{is_cell_name}
use Rattle.forms.specs.Refusals.{by}
use Rattle.forms.specs.declared.refusals.Refusal.{Refusal}
use Rattle.forms.proofs.Demands.{passed}
use Rattle.forms.proofs.Numbered.{has_number}
use Rattle.tenants.specs.declared.Held.{Held}
use Rattle.tenants.specs.Cells.{entered, withdrawn, cell_of}
use Rattle.tenants.specs.Rules.{Own, Change, enters, withdraws, sets, refuses, change_number, is_tenant, is_held, names_none, is_some, entering, withdrawing, setting_days, asking, issuing}
use Rattle.tenants.specs.Calls.{Call, enter, withdraw, set_days, change_of}
use Rattle.tenants.specs.Alone.{after}
use Rattle.tenants.specs.Branches.{changes_cells}
use Rattle.tenants.specs.Together.{setting_of, own_of}
use Rattle.tenants.proofs.Ranges.{tenant_is, held_fits}
use Rattle.tenants.proofs.Allowed.{has_room}
use Rattle.tenants.proofs.Kept.{own_list, branch_below}
use Rattle.tenants.proofs.Branches.{own_after, reader_after}
use Rattle.tenants.proofs.OneList.{held_as_entered, others_after-entering, not_held_afterwards, others_after-withdrawing}
use Rattle.layout.specs.Layout.{book_of, is_book, list_in, own_in}
use Rattle.layout.proofs.Promises.{undamaged_says, good}
use Rattle.changing.specs.Changing.{entry, withdrawal, new_days}
use Rattle.asking.specs.Asking.{edition_in, issued_from}
use Rattle.book.specs.OnBook.{book_after}
use Rattle.book.specs.DoneCalls.{entered_book, withdrawn_book, GivesTheSame, GivesCell, GivesNothing, EnterDone, WithdrawDone, DaysDone}
use Rattle.book.proofs.Undamaged.{still_undamaged, book_after_lem}
use Rattle.book.proofs.Issues.{issued_line, line_checked}

-- what is done was not refused
not_refused : (test : Bool) (r : Refusal) (next : Change) → change_number (demand test (refuses r) next) ≡ 0
    → (test ≡ true) × (change_number next ≡ 0)
not_refused test r next = passed (λ (c : Change). change_number c ≡ 0) test (refuses r) next (has_number r)

-- what is the tenant's own after a call on an undamaged book
pub own_then : (s : List ℕ) (t : ℕ) (call : Call) → is_book s ≡ true → own_in (book_after t call s) t ≡ after (change_of t call (own_in s t)) (own_in s t)
own_then s t call undamaged = ap (own_of t) (book_after_lem s t call undamaged) ∙ own_after (book_of s) (good s undamaged) t call

-- and what is that of whoever reads its list, after it enters or withdraws
reader_then : (s : List ℕ) (t u : ℕ) (call : Call) → is_book s ≡ true → list_in s u ≡ t → changes_cells call ≡ true
    → own_in (book_after t call s) u ≡ after (change_of t call (own_in s t)) (own_in s u)
reader_then s t u call undamaged list does =
    ap (own_of u) (book_after_lem s t call undamaged) ∙ reader_after (book_of s) (good s undamaged) u t call list does

-- whoever reads a tenant's list is a tenant
reader_tenant : (s : List ℕ) (t u : ℕ) → is_book s ≡ true → is_tenant t ≡ true → list_in s u ≡ t → is_tenant u ≡ true
reader_tenant s t u undamaged tenant list =
    either (names_none (setting_of u (book_of s)))
    (λ none. ap is_tenant (sym (own_list u (book_of s) none) ∙ list) ∙ tenant)
    (λ branch. let low = branch_below u (book_of s) (good s undamaged) branch in tenant_is u (omega arith))

-- two undamaged books in which tenant t has one setting and the same under a name
module _ (s s' : List ℕ) (t name : ℕ) (undamaged : is_book s ≡ true) (undamaged' : is_book s' ≡ true)
    (setting : (own_in s' t).setting ≡ (own_in s t).setting) (same : cell_of name (own_in s' t).cells ≡ cell_of name (own_in s t).cells) where
  gives_the_same : GivesTheSame s s' t name
  unfolding edition_in asking issued_from issuing
  gives_the_same = record {
    asked = rw (undamaged, undamaged', same) refl;
    issued = λ register permit expiry level room. rw (undamaged, undamaged', same, setting) refl;
  }

-- a name that gives tenant t a cell which it holds
module _ (s : List ℕ) (t : ℕ) (cell : Held) (undamaged : is_book s ≡ true) (tenant : is_tenant t ≡ true) (is_name : is_cell_name cell.name ≡ true)
    (found : cell_of cell.name (own_in s t).cells ≡ some cell) where
  gives_cell : GivesCell s t (own_in s t).setting cell
  unfolding edition_in asking
  gives_cell = record {
    asked = rw (undamaged, tenant, is_name, found);
    issued = λ register permit expiry level room ship order.
        issued_line s register permit t cell.name expiry level room ship cell undamaged tenant order.registered order.read found
        order.date order.low order.roomy;
    checked = λ expiry level hw today date low form now. line_checked s t cell.name expiry level hw today cell undamaged tenant found date low form now;
  }

-- a name that tenant t does not hold
module _ (s : List ℕ) (t name : ℕ) (undamaged : is_book s ≡ true) (tenant : is_tenant t ≡ true) (is_name : is_cell_name name ≡ true)
    (absent : cell_of name (own_in s t).cells ≡ none) where
  gives_nothing : GivesNothing s t name
  unfolding edition_in asking issued_from issuing
  gives_nothing = record {
    asked = rw (undamaged, tenant, is_name, absent);
    issued = λ register permit expiry level room ship order.
        rw (undamaged, order.registered, tenant, le-leb 76 room order.roomy, is_name, order.date, le-leb level 1 order.low, order.read, absent);
  }

-- tenant t's call on an undamaged book, which does this to the cells of tenant u, who reads its list
module _ (s : List ℕ) (t u : ℕ) (call : Call) (undamaged : is_book s ≡ true) (list : list_in s u ≡ t) (does : changes_cells call ≡ true)
    (cells : List Held) (so : after (change_of t call (own_in s t)) (own_in s u) ≡ record { setting = (own_in s u).setting; cells = cells }) where
  abbrev then : List ℕ
  then = book_after t call s

  setting_kept : (own_in then u).setting ≡ (own_in s u).setting
  setting_kept = ap (λ (o : Own). o.setting) (reader_then s t u call undamaged list does ∙ so)

  held_then : (name : ℕ) → cell_of name (own_in then u).cells ≡ cell_of name cells
  held_then name = ap (λ (o : Own). cell_of name o.cells) (reader_then s t u call undamaged list does ∙ so)

  leaves : (name : ℕ) → cell_of name cells ≡ cell_of name (own_in s u).cells → GivesTheSame s then u name
  leaves name same = gives_the_same s then u name undamaged (still_undamaged s t call undamaged) setting_kept (held_then name ∙ same)

-- entering
module _ (s : List ℕ) (t : ℕ) (cell : Held) (done : change_number (entry s t cell) ≡ 0) where
  pub entered-passed : (is_book s ≡ true) × (change_number (entering t cell (own_in s t)) ≡ 0)
  unfolding entry
  entered-passed = not_refused (is_book s) (by 101) (entering t cell (own_in s t)) done

  pub entered_so : (is_tenant t ≡ true) × ((is_held cell ≡ true) × ((names_none (own_in s t).setting ≡ true) × (entering t cell (own_in s t) ≡ enters cell)))
  unfolding entering
  entered_so =
      let one = not_refused (is_tenant t) (by 102) _ entered-passed.1 in
      let two = not_refused (is_held cell) (by 103) _ one.1 in
      let three = not_refused (names_none (own_in s t).setting) (by 111) _ two.1 in
      let four = not_refused (has_room cell (own_in s t)) (by 105) (enters cell) three.1 in
      (one.0, (two.0, (three.0, rw (one.0, two.0, three.0, four.0) refl)))

  enters_it : (u : ℕ) → after (change_of t (enter cell) (own_in s t)) (own_in s u) ≡ record { setting = (own_in s u).setting; cells = entered cell (own_in s u).cells }
  enters_it u = ap (λ (c : Change). after c (own_in s u)) entered_so.1.1.1

pub enter_done_lem : EnterDone
unfolding own_of
enter_done_lem s t cell done =
    let undamaged = (entered-passed s t cell done).0 in
    let so = entered_so s t cell done in
    let it = enters_it s t cell done in
    record {
      own = own_list t (book_of s) so.1.1.0;
      gives = λ u list.
          rw (setting_kept s t u (enter cell) undamaged list refl _ (it u)) at
          (gives_cell (entered_book s t cell) u cell (still_undamaged s t (enter cell) undamaged) (reader_tenant s t u undamaged so.0 list)
          (held_fits cell so.1.0).name
          (held_then s t u (enter cell) undamaged list refl _ (it u) cell.name ∙ held_as_entered cell (own_in s u).cells));
      others = λ u list name other.
          leaves s t u (enter cell) undamaged list refl _ (it u) name (others_after-entering cell (own_in s u).cells name other);
      setting = λ u list. setting_kept s t u (enter cell) undamaged list refl _ (it u);
    }

-- withdrawing
module _ (s : List ℕ) (t name : ℕ) (done : change_number (withdrawal s t name) ≡ 0) where
  pub withdrawn-passed : (is_book s ≡ true) × (change_number (withdrawing t name (own_in s t)) ≡ 0)
  unfolding withdrawal
  withdrawn-passed = not_refused (is_book s) (by 101) (withdrawing t name (own_in s t)) done

  pub withdrawn_so : (is_tenant t ≡ true)
      × ((is_cell_name name ≡ true) × ((names_none (own_in s t).setting ≡ true) × (withdrawing t name (own_in s t) ≡ withdraws name)))
  unfolding withdrawing
  withdrawn_so =
      let one = not_refused (is_tenant t) (by 102) _ withdrawn-passed.1 in
      let two = not_refused (is_cell_name name) (by 103) _ one.1 in
      let three = not_refused (names_none (own_in s t).setting) (by 111) _ two.1 in
      let four = not_refused (is_some (cell_of name (own_in s t).cells)) (by 104) (withdraws name) three.1 in
      (one.0, (two.0, (three.0, rw (one.0, two.0, three.0, four.0) refl)))

  withdraws_it : (u : ℕ) → after (change_of t (withdraw name) (own_in s t)) (own_in s u) ≡ record { setting = (own_in s u).setting; cells = withdrawn name (own_in s u).cells }
  withdraws_it u = ap (λ (c : Change). after c (own_in s u)) withdrawn_so.1.1.1

  not_there : (u : ℕ) → cell_of name (withdrawn name (own_in s u).cells) ≡ none
  unfolding own_of
  not_there u = not_held_afterwards (book_of s) (list_in s u) name (undamaged_says s withdrawn-passed.0).0

pub withdraw_done_lem : WithdrawDone
unfolding own_of
withdraw_done_lem s t name done =
    let undamaged = (withdrawn-passed s t name done).0 in
    let so = withdrawn_so s t name done in
    let it = withdraws_it s t name done in
    record {
      own = own_list t (book_of s) so.1.1.0;
      gives = λ u list.
          gives_nothing (withdrawn_book s t name) u name (still_undamaged s t (withdraw name) undamaged) (reader_tenant s t u undamaged so.0 list) so.1.0
          (held_then s t u (withdraw name) undamaged list refl _ (it u) name ∙ not_there s t name done u);
      others = λ u list other apart.
          leaves s t u (withdraw name) undamaged list refl _ (it u) other (others_after-withdrawing (own_in s u).cells name other apart);
      setting = λ u list. setting_kept s t u (withdraw name) undamaged list refl _ (it u);
    }

-- setting days
pub days_done : DaysDone
unfolding new_days setting_days
days_done s t days done =
    let one = not_refused (is_book s) (by 101) _ done in
    let two = not_refused (is_tenant t) (by 102) _ one.1 in
    let three = not_refused (is_days days) (by 103) (sets days) two.1 in
    let how : setting_days t days (own_in s t) ≡ sets days = rw (two.0, three.0) refl in
    let own = own_then s t (set_days days) one.0 ∙ ap (λ (c : Change). after c (own_in s t)) how in (
      ap (λ (o : Own). o.setting.days) own,
      (
        ap (λ (o : Own). o.setting.quota) own,
        (ap (λ (o : Own). o.setting.server) own, (ap (λ (o : Own). o.setting.principal) own, ap (λ (o : Own). o.cells) own)),
      ),
    )
