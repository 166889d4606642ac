-- What the book promised before there were branches still holds, word for word, of a book in which no tenant is one.
use Rattle.std.specs.Prelude.{◌≡◌, true, List, ℕ, ◌≤◌, ◌<◌, length, Ok}
use Rattle.std.proofs.Math.Option.{none, some}
use Rattle.forms.specs.Identifiers.{is_producer}
use Rattle.forms.specs.Refusals.{by}
use Rattle.tenants.specs.declared.Held.{Held}
use Rattle.tenants.specs.Cells.{cell_of}
use Rattle.tenants.specs.Rules.{enters, refuses, change_number, is_tenant, is_held, names_none}
use Rattle.tenants.specs.Calls.{Call}
use Rattle.tenants.specs.Alone.{Made, calls_of, answers_alone}
use Rattle.layout.specs.Layout.{book_of, is_book, own_in}
use Rattle.changing.specs.Changing.{entry, withdrawal}
use Rattle.asking.specs.Asking.{holding_in}
use Rattle.book.specs.OnBook.{answer_in, book_after}
use Rattle.book.specs.Mixed.{after_all, answers_to, SameOwnCalls}
use Rattle.book.specs.DoneCalls.{entered_book, withdrawn_book, GivesTheSame, GivesCell, GivesNothing}
use Rattle.book.specs.Producers.{any_record}

-- no tenant is a branch
abbrev pub NoBranches : List ℕ → Type 0
NoBranches s = (t : ℕ) → names_none (own_in s t).setting ≡ true

-- the statements as they stood; those that have not changed, or say one fact more, are not repeated
pub record AsBefore (s : List ℕ) : Type 0 where
  pub mixing : (some others : List Made) → SameOwnCalls some others → after_all some s ≡ after_all others s
  pub own_answers : (made : List Made) (t : ℕ) → answers_to t made s ≡ answers_alone t (calls_of t made) (own_in s t)
  pub nothing_else : (s' : List ℕ) (t : ℕ) (call : Call) → is_book s' ≡ true → own_in s t ≡ own_in s' t → answer_in t call s ≡ answer_in t call s'
  pub others_untouched : (t u : ℕ) (call : Call) → (u ≡ t → ⊥) → own_in (book_after t call s) u ≡ own_in s u
  pub enter_done : (t : ℕ) (cell : Held) → change_number (entry s t cell) ≡ 0
      → GivesCell (entered_book s t cell) t (own_in s t).setting cell
      × (((name : ℕ) → (name ≡ cell.name → ⊥) → GivesTheSame s (entered_book s t cell) t name)
      × ((own_in (entered_book s t cell) t).setting ≡ (own_in s t).setting))
  pub withdraw_done : (t name : ℕ) → change_number (withdrawal s t name) ≡ 0
      → GivesNothing (withdrawn_book s t name) t name
      × (((other : ℕ) → (other ≡ name → ⊥) → GivesTheSame s (withdrawn_book s t name) t other)
      × ((own_in (withdrawn_book s t name) t).setting ≡ (own_in s t).setting))
  pub quota_decides : (t : ℕ) (cell : Held) → is_tenant t ≡ true → is_held cell ≡ true → cell_of cell.name (own_in s t).cells ≡ none
      → ((own_in s t).setting.quota ≤ length (own_in s t).cells → entry s t cell ≡ refuses (by 105))
      × (length (own_in s t).cells < (own_in s t).setting.quota → entry s t cell ≡ enters cell)
  pub held_replaced : (t : ℕ) (cell old : Held) → is_tenant t ≡ true → is_held cell ≡ true → cell_of cell.name (own_in s t).cells ≡ some old
      → entry s t cell ≡ enters cell
  pub as_every_record : (t producer : ℕ) → is_tenant t ≡ true → is_producer producer ≡ true
      → holding_in s t producer ≡ Ok (any_record t producer (book_of s).records)

-- where no tenant is a branch they hold
abbrev pub OldPromises : Type 0
OldPromises = (s : List ℕ) → is_book s ≡ true → NoBranches s → AsBefore s
