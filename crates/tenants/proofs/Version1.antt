-- Where no cell has a last expiry and none is given, the rules do and answer what version 1's did, and afterwards none has one.
-- Assumes nothing.
use mathlib.Core.Path.{◌≡◌, refl, sym, ap, ◌∙◌}
use mathlib.Core.Bool.{true, ◌||◌}
use mathlib.Core.List.{List, [], ◌∷◌}
use mathlib.Core.Option.{Option, none, some}
use Prim.Native.Nat.{ℕ}
use lib.Dec.{ltb, eqb}
use lib.ListN.{length}
use Rattle.octets.proofs.Every.{and_first, and_second, either}
use Rattle.dates.specs.Notice.{is_days}
use Rattle.forms.specs.Identifiers.{is_cell_name}
use Rattle.forms.specs.Refusals.{by}
use Rattle.forms.proofs.Demands.{demanded}
use Rattle.std.specs.Prelude.{Result, Ok, Err}
use Rattle.forms.specs.declared.refusals.Refusal.{Refusal}
use Rattle.user_permit.specs.UserPermit.{read_permit}
use Rattle.user_permit.specs.declared.Ship.{Ship}
use Rattle.tenants.specs.declared.Held.{Held}
use Rattle.tenants.specs.declared.Setting.{Setting}
use Rattle.tenants.specs.Cells.{entered, withdrawn, cell_of}
use Rattle.tenants.specs.Rules.{Own, Change, enters, withdraws, sets, refuses, is_tenant, is_last, is_held, names_none, is_some, entering, withdrawing, setting_days, in_time, line_for, issuing}
use Rattle.tenants.specs.Calls.{Call, enter, withdraw, set_days, ask_edition, ask_producer, issue, check, written, change_of, answer_of}
use Rattle.tenants.specs.Together.{BookRecord, Book, cell_in, in_book, tenant_of, cells_of, changed}
use Rattle.tenants.specs.Version1.{no_lasts, gives_no_last, is_held_before, entering_before, line_for_before, issuing_before, change_before, answer_before}
use Rattle.tenants.proofs.Ordered.{equal_or_not, entered_cases, withdrawn_cases, found_here, found_later}
use Rattle.tenants.proofs.OwnCells.{cells_mine, cells_not}

-- none has one
abbrev None : List Held → Type 0
None cells = no_lasts cells ≡ true

module _ (d : Held) (cells : List Held) where
  none_more : eqb d.last 0 ≡ true → None cells → None (d ∷ cells)
  unfolding no_lasts
  none_more first rest = rw (first, rest)

  none_first : None (d ∷ cells) → eqb d.last 0 ≡ true
  unfolding no_lasts
  none_first = and_first (eqb d.last 0) (no_lasts cells)

  none_rest : None (d ∷ cells) → None cells
  unfolding no_lasts
  none_rest = and_second (eqb d.last 0) (no_lasts cells)

none_entered : (c : Held) (cells : List Held) → eqb c.last 0 ≡ true → None cells → None (entered c cells)
unfolding entered no_lasts
none_entered c [] it all = none_more c [] it refl
none_entered c (d ∷ cells) it all =
    entered_cases c d cells None
    (λ _. none_more c (d ∷ cells) it all)
    (λ _. none_more c cells it (none_rest d cells all))
    (λ _. none_more d (entered c cells) (none_first d cells all) (none_entered c cells it (none_rest d cells all)))

none_withdrawn : (name : ℕ) (cells : List Held) → None cells → None (withdrawn name cells)
unfolding withdrawn
none_withdrawn name [] all = all
none_withdrawn name (d ∷ cells) all =
    withdrawn_cases name d cells None
    (λ _. none_rest d cells all)
    (λ _. none_more d (withdrawn name cells) (none_first d cells all) (none_withdrawn name cells (none_rest d cells all)))

-- so none of a tenant's own has one
pub none_own : (t : ℕ) (records : List BookRecord) → None records → None (cells_of t records)
unfolding cells_of no_lasts
none_own t [] all = refl
none_own t (r ∷ records) all =
    let rest = none_own t records (none_rest r records all) in
    equal_or_not (tenant_of r) t
    (λ mine. ap no_lasts (cells_mine t r records mine) ∙ none_more (cell_in r) (cells_of t records) (none_first r records all) rest)
    (λ other. ap no_lasts (cells_not t r records other) ∙ rest)

-- nor the cell that is found under a name
none_found : (name : ℕ) (cells : List Held) (cell : Held) → None cells → cell_of name cells ≡ some cell → eqb cell.last 0 ≡ true
unfolding cell_of
none_found name [] cell all found = cc
none_found name (d ∷ cells) cell all found =
    equal_or_not name d.name
    (λ it.
    let same : some d ≡ some cell = sym (found_here name d cells it) ∙ found in
    let equal : d ≡ cell = cc in
    ap (λ (c : Held). eqb c.last 0) (sym equal) ∙ none_first d cells all)
    (λ not. none_found name cells cell (none_rest d cells all) (sym (found_later name d cells not) ∙ found))

-- a cell with no last expiry is tested as before
same_held : (cell : Held) → eqb cell.last 0 ≡ true → is_held cell ≡ is_held_before cell
unfolding is_held is_held_before is_last
same_held cell without = rw without (either (is_held_before cell) (λ e. rw e) (λ e. rw e))

pub same_entering : (t : ℕ) (cell : Held) (own : Own) → eqb cell.last 0 ≡ true → entering t cell own ≡ entering_before t cell own
unfolding entering entering_before
same_entering t cell own without = rw (same_held cell without)

-- and sold for every expiry
same_line_before : (ship : Result Ship Refusal) (cell : Option Held) (setting : Setting) (expiry level : ℕ)
    → ((it : Held) → cell ≡ some it → eqb it.last 0 ≡ true)
    → line_for ship cell setting expiry level ≡ line_for_before ship cell setting expiry level
unfolding in_time
same_line_before (Err r) cell setting expiry level without = refl
same_line_before (Ok ship) none setting expiry level without = refl
same_line_before (Ok ship) (some cell) setting expiry level without = rw (without cell refl)

module _ (t : ℕ) (own : Own) where
  same_issuing : (register : List ℕ) (name expiry level : ℕ) (permit : List ℕ) (room : ℕ) → None own.cells
      → issuing t register name expiry level permit room own ≡ issuing_before t register name expiry level permit room own
  unfolding issuing issuing_before
  same_issuing register name expiry level permit room all =
      rw (same_line_before (read_permit register permit) (cell_of name own.cells) own.setting expiry level
      (λ cell found. none_found name own.cells cell all found))

  pub same_change_before : (call : Call) → gives_no_last call ≡ true → change_of t call own ≡ change_before t call own
  same_change_before (enter cell) given = same_entering t cell own given
  same_change_before (withdraw name) given = refl
  same_change_before (set_days days) given = refl
  same_change_before (ask_edition name) given = refl
  same_change_before (ask_producer producer) given = refl
  same_change_before (issue register name expiry level permit room) given = refl
  same_change_before (check hw today line) given = refl

  pub same_answer_before : (call : Call) → gives_no_last call ≡ true → None own.cells → answer_of t call own ≡ answer_before t call own
  same_answer_before (enter cell) given all = rw (same_entering t cell own given)
  same_answer_before (withdraw name) given all = refl
  same_answer_before (set_days days) given all = refl
  same_answer_before (ask_edition name) given all = refl
  same_answer_before (ask_producer producer) given all = refl
  same_answer_before (issue register name expiry level permit room) given all = ap written (same_issuing register name expiry level permit room all)
  same_answer_before (check hw today line) given all = refl

  -- and none has one after the call
  module _ (b : Book) (all : None b.records) where
    abbrev Still : Change → Type 0
    Still c = None (changed t c b).records

    pub none_after : (call : Call) → gives_no_last call ≡ true → Still (change_of t call own)
    unfolding entering withdrawing setting_days
    none_after (enter cell) given =
        demanded Still (is_tenant t) (refuses (by 102)) _ all
        (λ _. demanded Still (is_held cell) (refuses (by 103)) _ all
        (λ _. demanded Still (names_none own.setting) (refuses (by 111)) _ all
        (λ _. demanded Still (is_some (cell_of cell.name own.cells) || ltb (length own.cells) own.setting.quota) (refuses (by 105)) (enters cell) all
        (λ _. none_entered (in_book t cell) b.records given all))))
    none_after (withdraw name) given =
        demanded Still (is_tenant t) (refuses (by 102)) _ all
        (λ _. demanded Still (is_cell_name name) (refuses (by 103)) _ all
        (λ _. demanded Still (names_none own.setting) (refuses (by 111)) _ all
        (λ _. demanded Still (is_some (cell_of name own.cells)) (refuses (by 104)) (withdraws name) all
        (λ _. none_withdrawn _ b.records all))))
    none_after (set_days days) given =
        demanded Still (is_tenant t) (refuses (by 102)) _ all (λ _. demanded Still (is_days days) (refuses (by 103)) (sets days) all (λ _. all))
    none_after (ask_edition name) given = all
    none_after (ask_producer producer) given = all
    none_after (issue register name expiry level permit room) given = all
    none_after (check hw today line) given = all
