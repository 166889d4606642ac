-- A tenant's own quota decides whether a cell is entered: however full the book is, and at once after a withdrawal. A branch enters none.
-- Assumes nothing.
use mathlib.Core.Path.{◌≡◌, sym, ap, ◌∙◌}
use mathlib.Core.Bool.{true}
use mathlib.Core.List.{List}
use Prim.Native.Nat.{ℕ, ◌≤◌}
use native.Mathlib.Omega.{arith}
use lib.ListN.{length}
use Rattle.tenants.specs.Rules.{Own, Change, withdraws, is_tenant, names_none, withdrawing}
use Rattle.tenants.specs.Calls.{withdraw}
use Rattle.tenants.specs.Alone.{after}
use Rattle.tenants.specs.Together.{own_of}
use Rattle.tenants.proofs.Ranges.{tenant_is, tenant_below}
use Rattle.tenants.proofs.Allowed.{Allowed, allowed}
use Rattle.tenants.proofs.Counts.{withdrawn_fewer}
use Rattle.tenants.proofs.Kept.{own_list, branch_below}
use Rattle.layout.specs.Layout.{book_of, is_book, own_in}
use Rattle.layout.proofs.Promises.{good}
use Rattle.changing.specs.Changing.{withdrawal, bytes_after}
use Rattle.changing.proofs.ChangeRules.{entry-branch, entry-full, entry-held, entry-roomy, withdrawal-branch}
use Rattle.book.specs.Quotas.{QuotaDecides, HeldReplaced, RoomAgain, BranchRefused}
use Rattle.book.proofs.Undamaged.{still_undamaged}
use Rattle.book.proofs.DoneCalls.{own_then}

pub quota_decides_lem : QuotaDecides
quota_decides_lem s t cell undamaged tenant held keeps new =
    (entry-full s t cell undamaged tenant held keeps new, entry-roomy s t cell undamaged tenant held keeps)

pub held_replaced_lem : HeldReplaced
held_replaced_lem s t cell old undamaged tenant held keeps there = entry-held s t cell undamaged tenant held keeps old there

within : (s : List ℕ) (t : ℕ) → is_book s ≡ true → is_tenant t ≡ true → names_none (own_in s t).setting ≡ true
    → length (own_in s t).cells ≤ (own_in s t).setting.quota
unfolding own_of
within s t undamaged tenant keeps = rw (own_list t (book_of s) keeps) ((good s undamaged).within t (tenant_below t tenant))

pub room_again : RoomAgain
unfolding withdrawal
room_again s t name cell undamaged gone held =
    let own : Own = own_in s t in
    let change : withdrawing t name own ≡ withdraws name = rw undamaged at gone in
    let ok : Allowed t own (withdraws name) = rw change at (allowed t own (withdraw name)) in
    let bytes : bytes_after t (withdrawal s t name) s ≡ bytes_after t (withdraws name) s = ap (λ (c : Change). bytes_after t c s) gone in
    let then : own_in (bytes_after t (withdraws name) s) t ≡ after (withdraws name) own
    = ap (λ (x : List ℕ). own_in x t) (sym bytes) ∙ own_then s t (withdraw name) undamaged ∙ ap (λ (c : Change). after c own) change in
    entry-roomy (bytes_after t (withdraws name) s) t cell (ap is_book (sym bytes) ∙ still_undamaged s t (withdraw name) undamaged) ok.0 held
    (rw then ok.1.1.0) (rw then (omega (arith, withdrawn_fewer name own.cells ok.1.1.1, within s t undamaged ok.0 ok.1.1.0)))

pub branch_refused : BranchRefused
unfolding own_of
branch_refused s t undamaged branch =
    let low = branch_below t (book_of s) (good s undamaged) branch in
    let tenant = tenant_is t (omega arith) in (
      λ cell held. entry-branch s t cell undamaged tenant held branch,
      λ name right. withdrawal-branch s t name undamaged tenant right branch,
    )
