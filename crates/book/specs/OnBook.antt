-- The tenant calls on the book's bytes, all seven as one: what each answers, and the bytes after it, as the contract of its function says.
-- One verb has a form for each layer:
--   the call      the rule         what it does   on one list   on the bytes
--   enter         entering         enters         entered       entry
--   withdraw      withdrawing      withdraws      withdrawn     withdrawal
--   set_days       setting_days      sets           with_days      new_days
--   ask_edition    asking                          edition_of     edition_in
--   ask_producer   asking_producer                  holds_any      holding_in
--   issue         issuing                         line_for       issued_from
--   check         checking                                      checked_by
use Rattle.std.specs.Prelude.{List, ℕ}
use Rattle.tenants.specs.Rules.{change_number}
use Rattle.tenants.specs.Calls.{Call, enter, withdraw, set_days, ask_edition, ask_producer, issue, check, Answer, number, edition, holding, written, read}
use Rattle.changing.specs.Changing.{entry, withdrawal, new_days, bytes_after}
use Rattle.asking.specs.Asking.{edition_in, holding_in, issued_from, checked_by}

-- what a call answers, as the contract of its function says
abbrev pub answer_in : ℕ → Call → List ℕ → Answer
answer_in t (enter cell) s = number (change_number (entry s t cell))
answer_in t (withdraw name) s = number (change_number (withdrawal s t name))
answer_in t (set_days days) s = number (change_number (new_days s t days))
answer_in t (ask_edition name) s = edition (edition_in s t name)
answer_in t (ask_producer producer) s = holding (holding_in s t producer)
answer_in t (issue register name expiry level permit room) s = written (issued_from s register t name expiry level permit room)
answer_in t (check hw today line) s = read (checked_by s t hw today line)

-- the book's bytes after it, as that contract says
abbrev pub book_after : ℕ → Call → List ℕ → List ℕ
book_after t (enter cell) s = bytes_after t (entry s t cell) s
book_after t (withdraw name) s = bytes_after t (withdrawal s t name) s
book_after t (set_days days) s = bytes_after t (new_days s t days) s
book_after t (ask_edition name) s = s
book_after t (ask_producer producer) s = s
book_after t (issue register name expiry level permit room) s = s
book_after t (check hw today line) s = s
