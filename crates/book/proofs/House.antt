-- The house's form of enter and withdraw: the tenant's number, nothing moved by a refusal or a replacement, and else the records after the cell.
-- Assumes nothing.
use mathlib.Core.Path.{◌≡◌, refl, sym, ap, ◌∙◌}
use mathlib.Core.Bool.{true}
use mathlib.Core.List.{List, [], ◌∷◌}
use mathlib.Core.Option.{Option, none, some}
use Prim.Native.Nat.{ℕ}
use Rattle.std.specs.Prelude.{Result, Ok, Err}
use Rattle.octets.specs.Every.{count_of}
use Rattle.forms.specs.Refusals.{by, refused, refusal_number}
use Rattle.forms.specs.declared.refusals.Refusal.{Refusal}
use Rattle.forms.proofs.Demands.{demanded}
use Rattle.tenants.specs.declared.Held.{Held}
use Rattle.tenants.specs.Cells.{cell_of}
use Rattle.tenants.specs.Rules.{Change, enters, withdraws, refuses, change_number, is_tenant, is_held, names_none, is_some, edition_of, entering, asking}
use Rattle.tenants.specs.Calls.{enter, withdraw, number}
use Rattle.tenants.specs.Together.{Book, full_name, in_book, own_of, changed}
use Rattle.tenants.specs.House.{is_later, later_in}
use Rattle.tenants.proofs.Ranges.{name_below, held_below, held_fits}
use Rattle.tenants.proofs.Allowed.{has_room, allowed}
use Rattle.tenants.proofs.Kept.{own_list}
use Rattle.tenants.proofs.Later.{later-around, later-around-it, replaced_moves_none as none-replaced, new_moves_later}
use Rattle.layout.specs.Layout.{book_of, is_book, own_in}
use Rattle.records.proofs.Found.{Here, Gone}
use Rattle.records.proofs.Listed.{entered_gone, withdrawn_here}
use Rattle.records.proofs.OwnFound.{held_somewhere, absent_somewhere}
use Rattle.changing.specs.Changing.{entry, withdrawal}
use Rattle.changing.specs.House.{moved_records, house_answer}
use Rattle.changing.proofs.Numbers.{same_number}
use Rattle.asking.specs.Asking.{edition_in}
use Rattle.book.specs.OnBook.{book_after}
use Rattle.book.specs.House.{house_enter, house_withdraw, AsTenants, RefusedMovesNone, ReplacedMovesNone, Moves, EnterMoves, WithdrawMoves}
use Rattle.book.proofs.Undamaged.{book_after_lem}
use Rattle.book.proofs.DoneCalls.{entered-passed, entered_so, withdrawn-passed, withdrawn_so}
use Rattle.book.proofs.Producers.{told_held, edition-passed}

pub as_tenants : AsTenants
as_tenants s t = (λ cell. ap number (same_number t s (entry s t cell)), λ name. ap number (same_number t s (withdrawal s t name)))

moves_none : (a : Result ℕ Refusal) → (refusal_number a ≡ 0 → ⊥) → moved_records a ≡ 0
moves_none (Ok n) wrong = absurd (wrong refl)
moves_none (Err r) wrong = refl

pub refused_moves_none : RefusedMovesNone
refused_moves_none s t = (λ cell. moves_none (house_enter s t cell), λ name. moves_none (house_withdraw s t name))

pub replaced_moves_none : ReplacedMovesNone
unfolding entry entering
replaced_moves_none s t cell e told =
    let none-moved : Change → Type 0 = λ (c : Change). moved_records (house_answer t s c) ≡ 0 in
    let held = told_held (cell_of cell.name (own_in s t).cells) e (edition-passed s t cell.name e told).3 in
    demanded none-moved (is_book s) (refuses (by 101)) (entering t cell (own_in s t)) refl
    (λ _. demanded none-moved (is_tenant t) (refuses (by 102)) _ refl
    (λ _. demanded none-moved (is_held cell) (refuses (by 103)) _ refl
    (λ _. demanded none-moved (names_none (own_in s t).setting) (refuses (by 111)) _ refl
    (λ _. demanded none-moved (has_room cell (own_in s t)) (refuses (by 105)) (enters cell) refl (λ _. none-replaced t cell (book_of s) held.0 held.1)))))

-- who is told 104 does not hold the cell
told_absent : (held : Option Held) → edition_of held ≡ refused (by 104) → held ≡ none
told_absent none told = refl
told_absent (some c) told = cc

module _ (s : List ℕ) (t : ℕ) (cell : Held) (done : change_number (entry s t cell) ≡ 0) (new : edition_in s t cell.name ≡ refused (by 104)) where
  undamaged : is_book s ≡ true
  undamaged = (entered-passed s t cell done).0

  enters_it : entry s t cell ≡ enters cell
  unfolding entry
  enters_it = rw undamaged (entered_so s t cell done).1.1.1

  absent : cell_of cell.name (own_in s t).cells ≡ none
  unfolding edition_in asking
  absent =
      let so = entered_so s t cell done in
      told_absent (cell_of cell.name (own_in s t).cells) (rw (undamaged, so.0, (held_fits cell so.1.0).name) at new)

  book_then : book_of (book_after t (enter cell) s) ≡ changed t (enters cell) (book_of s)
  book_then = book_after_lem s t (enter cell) undamaged ∙ ap (λ (c : Change). changed t c (book_of s)) (entered_so s t cell done).1.1.1

  moved_is : moved_records (house_enter s t cell) ≡ later_in (changed t (enters cell) (book_of s)) t cell.name
  moved_is = ap (λ (c : Change). moved_records (house_answer t s c)) enters_it ∙ new_moves_later t cell (book_of s) absent

  around : (i : ℕ) × Gone (full_name t cell.name) (book_of s).records i
  unfolding own_of
  around =
      let so = (entered_so s t cell done).1 in
      absent_somewhere s undamaged t cell.name (held_below cell so.0) (ap is_some (rw (own_list t (book_of s) so.1.0) at absent))

pub enter_moves : EnterMoves
enter_moves s t cell told new =
    let done = sym (same_number t s (entry s t cell)) ∙ told in
    let place = around s t cell done new in
    let h : Gone (full_name t cell.name) (book_of s).records place.0 = place.1 in
    let then = entered_gone (in_book t cell) (book_of s).records place.0 h in
    let small = held_below cell (entered_so s t cell done).1.0 in (
      record {
        before = h.front;
        after = h.back;
        old_is = h.whole;
        new_is = ap (λ (b : Book). b.records) (book_then s t cell done new) ∙ then;
        moved_are =
            sym
            (moved_is s t cell done new
            ∙ ap (count_of (is_later t cell.name)) then
            ∙ later-around-it t cell.name small h.front h.back h.below h.above (in_book t cell) refl);
      },
      moved_is s t cell done new ∙ ap (λ (b : Book). later_in b t cell.name) (sym (book_then s t cell done new)),
    )

module _ (s : List ℕ) (t name : ℕ) (done : change_number (withdrawal s t name) ≡ 0) where
  whole : is_book s ≡ true
  whole = (withdrawn-passed s t name done).0

  withdraws_it : withdrawal s t name ≡ withdraws name
  unfolding withdrawal
  withdraws_it = rw whole (withdrawn_so s t name done).1.1.1

  book_without : book_of (book_after t (withdraw name) s) ≡ changed t (withdraws name) (book_of s)
  book_without = book_after_lem s t (withdraw name) whole ∙ ap (λ (c : Change). changed t c (book_of s)) (withdrawn_so s t name done).1.1.1

  moved_then : moved_records (house_withdraw s t name) ≡ later_in (changed t (withdraws name) (book_of s)) t name
  moved_then = ap (λ (c : Change). moved_records (house_answer t s c)) withdraws_it

  held_there : (i : ℕ) × Here (full_name t name) (book_of s).records i
  unfolding own_of
  held_there =
      let so = rw (withdrawn_so s t name done).1.1.1 at (allowed t (own_in s t) (withdraw name)) in
      held_somewhere s whole t name (name_below name so.1.0) (rw (own_list t (book_of s) so.1.1.0) at so.1.1.1)

pub withdraw_moves : WithdrawMoves
withdraw_moves s t name told =
    let done = sym (same_number t s (withdrawal s t name)) ∙ told in
    let place = held_there s t name done in
    let h : Here (full_name t name) (book_of s).records place.0 = place.1 in
    let then = withdrawn_here (full_name t name) (book_of s).records place.0 h in
    let small = name_below name (withdrawn_so s t name done).1.0 in
    let moves : Moves (book_of s).records (book_of (book_after t (withdraw name) s)).records (h.it ∷ []) [] (moved_records (house_withdraw s t name)) = record {
      before = h.front;
      after = h.back;
      old_is = h.whole;
      new_is = ap (λ (b : Book). b.records) (book_without s t name done) ∙ then;
      moved_are =
          sym
          (moved_then s t name done
          ∙ ap (count_of (is_later t name)) then
          ∙ later-around t name small h.front h.back h.below h.above);
    } in
    ((h.it, h.name, moves), moved_then s t name done ∙ ap (λ (b : Book). later_in b t name) (sym (book_without s t name done)))
