-- A call on an undamaged book does what the rules do to the book that its bytes say, and leaves it undamaged.
-- Assumes nothing.
use mathlib.Core.Path.{◌≡◌, refl, sym, ap, ◌∙◌}
use mathlib.Core.Bool.{true, false}
use mathlib.Core.List.{List}
use Prim.Native.Nat.{ℕ}
use Rattle.tenants.specs.Rules.{Change, enters, withdraws, sets, nothing, refuses, entering, withdrawing, setting_days}
use Rattle.tenants.specs.Calls.{Call, enter, withdraw, set_days, ask_edition, ask_producer, issue, check, answer_number, change_of, answer_of}
use Rattle.tenants.specs.Together.{changed}
use Rattle.tenants.proofs.KeptGood.{good_after}
use Rattle.layout.specs.Layout.{book_bytes, book_of, is_book, own_in}
use Rattle.layout.proofs.Promises.{good_reads_back, undamaged_says, written_so}
use Rattle.changing.specs.Changing.{entry, withdrawal, new_days, bytes_after}
use Rattle.asking.specs.Asking.{edition_in, holding_in, issued_from, checked_by}
use Rattle.book.specs.OnBook.{answer_in, book_after}
use Rattle.book.specs.Kept.{StaysUndamaged}

module _ (s : List ℕ) (t : ℕ) (undamaged : is_book s ≡ true) where
  -- the answer goes by what is the tenant's own
  pub answer_says : (call : Call) → answer_in t call s ≡ answer_of t call (own_in s t)
  unfolding entry withdrawal new_days edition_in holding_in issued_from checked_by
  answer_says (enter cell) = rw undamaged
  answer_says (withdraw name) = rw undamaged
  answer_says (set_days days) = rw undamaged
  answer_says (ask_edition name) = rw undamaged
  answer_says (ask_producer producer) = rw undamaged
  answer_says (issue register name expiry level permit room) = rw undamaged
  answer_says (check hw today line) = rw undamaged

  bytes_say : (change : Change) → bytes_after t change s ≡ book_bytes (changed t change (book_of s))
  bytes_say (enters cell) = refl
  bytes_say (withdraws name) = refl
  bytes_say (sets days) = refl
  bytes_say nothing = sym (written_so s undamaged)
  bytes_say (refuses n) = sym (written_so s undamaged)

  -- the bytes afterwards are those of the changed book
  pub after_says : (call : Call) → book_after t call s ≡ book_bytes (changed t (change_of t call (own_in s t)) (book_of s))
  unfolding entry withdrawal new_days
  after_says (enter cell) = rw undamaged (bytes_say (entering t cell (own_in s t)))
  after_says (withdraw name) = rw undamaged (bytes_say (withdrawing t name (own_in s t)))
  after_says (set_days days) = rw undamaged (bytes_say (setting_days t days (own_in s t)))
  after_says (ask_edition name) = sym (written_so s undamaged)
  after_says (ask_producer producer) = sym (written_so s undamaged)
  after_says (issue register name expiry level permit room) = sym (written_so s undamaged)
  after_says (check hw today line) = sym (written_so s undamaged)

module _ (s : List ℕ) (t : ℕ) (call : Call) (undamaged : is_book s ≡ true) where
  pub still_undamaged : is_book (book_after t call s) ≡ true
  still_undamaged =
      ap is_book (after_says s t undamaged call) ∙ (good_reads_back _ (good_after t call (book_of s) (undamaged_says s undamaged).0)).0

  -- what they say is the changed book
  pub book_after_lem : book_of (book_after t call s) ≡ changed t (change_of t call (own_in s t)) (book_of s)
  book_after_lem = ap book_of (after_says s t undamaged call) ∙ (good_reads_back _ (good_after t call (book_of s) (undamaged_says s undamaged).0)).1

-- a damaged one is refused by every call
pub damaged_refused : (s : List ℕ) (t : ℕ) (call : Call) → is_book s ≡ false → answer_number (answer_in t call s) ≡ 101
unfolding entry withdrawal new_days edition_in holding_in issued_from checked_by
damaged_refused s t (enter cell) damaged = rw damaged
damaged_refused s t (withdraw name) damaged = rw damaged
damaged_refused s t (set_days days) damaged = rw damaged
damaged_refused s t (ask_edition name) damaged = rw damaged
damaged_refused s t (ask_producer producer) damaged = rw damaged
damaged_refused s t (issue register name expiry level permit room) damaged = rw damaged
damaged_refused s t (check hw today line) damaged = rw damaged

pub stays_undamaged : StaysUndamaged
stays_undamaged = still_undamaged
