-- A call leaves what is another tenant's, but that its branches see what it changes; and a refusal leaves the whole book.
-- Assumes nothing.
use mathlib.Core.Path.{◌≡◌, refl, sym, ap, ap₂, ◌∙◌}
use mathlib.Core.Bool.{true}
use mathlib.Core.List.{List}
use Prim.Native.Nat.{ℕ}
use Rattle.tenants.specs.Rules.{Own, Change, enters, withdraws, sets, nothing, refuses, change_number, names_none}
use Rattle.tenants.specs.Calls.{Call, enter, withdraw, set_days, ask_edition, ask_producer, issue, check, change_of}
use Rattle.tenants.specs.Together.{BookRecord, Book, cells_of, setting_of, list_of, own_of}
use Rattle.tenants.proofs.Kept.{own_list, none_stays, list_stays, keeper_none}
use Rattle.tenants.proofs.Apart.{other_after}
use Rattle.tenants.proofs.Branches.{own_stays, branch_leaves_cells as leaves_cells}
use Rattle.layout.specs.Layout.{book_of, is_book, list_in, own_in}
use Rattle.layout.proofs.Promises.{good}
use Rattle.changing.specs.Changing.{entry, withdrawal, new_days, bytes_after}
use Rattle.book.specs.OnBook.{book_after}
use Rattle.book.specs.Kept.{OthersUntouched, BranchesSee, BranchLeavesCells, RefusalLeaves}
use Rattle.book.proofs.Undamaged.{book_after_lem}

pub others_untouched_lem : OthersUntouched
others_untouched_lem s t u call undamaged apart other =
    ap (own_of u) (book_after_lem s t call undamaged) ∙ own_stays (book_of s) (good s undamaged) u t call apart other

-- whose list a tenant reads stays
list_then : (s : List ℕ) (t u : ℕ) (call : Call) → is_book s ≡ true → list_in (book_after t call s) u ≡ list_in s u
list_then s t u call undamaged = ap (list_of u) (book_after_lem s t call undamaged) ∙ list_stays t (book_of s) u (change_of t call (own_in s t))

pub branches_see : BranchesSee
unfolding own_of
branches_see s t u call undamaged apart list =
    let then = book_after t call s in
    let keeps : names_none (own_in s t).setting ≡ true = keeper_none u t (book_of s) (good s undamaged) apart list in
    let kept : names_none (own_in then t).setting ≡ true =
    ap (λ (b : Book). names_none (setting_of t b)) (book_after_lem s t call undamaged) ∙ none_stays t (book_of s) t (change_of t call (own_in s t)) ∙ keeps in (
      ap (λ (b : Book). setting_of u b) (book_after_lem s t call undamaged) ∙ ap (λ (o : Own). o.setting) (other_after t u call (book_of s) apart),
      ap (λ (l : ℕ). cells_of l (book_of then).records) (list_then s t u call undamaged ∙ list ∙ sym (own_list t (book_of then) kept)),
    )

pub branch_leaves_cells : BranchLeavesCells
unfolding own_of
branch_leaves_cells s t call undamaged branch =
    let same = ap (λ (b : Book). b.records) (book_after_lem s t call undamaged) ∙ leaves_cells (book_of s) (good s undamaged) t call branch in
    (same, λ u. ap₂ (λ (l : ℕ) (r : List BookRecord). cells_of l r) (list_then s t u call undamaged) same)

refused_leaves : (t : ℕ) (change : Change) (s : List ℕ) → (change_number change ≡ 0 → ⊥) → bytes_after t change s ≡ s
refused_leaves t (enters cell) s refused = absurd (refused refl)
refused_leaves t (withdraws name) s refused = absurd (refused refl)
refused_leaves t (sets days) s refused = absurd (refused refl)
refused_leaves t nothing s refused = refl
refused_leaves t (refuses n) s refused = refl

pub refusal_leaves : RefusalLeaves
refusal_leaves s t (enter cell) refused = refused_leaves t (entry s t cell) s refused
refusal_leaves s t (withdraw name) refused = refused_leaves t (withdrawal s t name) s refused
refusal_leaves s t (set_days days) refused = refused_leaves t (new_days s t days) s refused
refusal_leaves s t (ask_edition name) refused = refl
refusal_leaves s t (ask_producer producer) refused = refl
refusal_leaves s t (issue register name expiry level permit room) refused = refl
refusal_leaves s t (check hw today line) refused = refl
