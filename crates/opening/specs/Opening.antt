-- Opening: an empty book from sixteen quotas, Data Server IDs and principals.
use Rattle.std.specs.Prelude.{◌≡◌, Bool, true, ◌&&◌, List, [], ℕ, ◌*◌, leb, eqb, length, get_or}
use Rattle.octets.specs.Every.{all_of}
use Rattle.octets.specs.Places.{number_at}
use Rattle.text.specs.Characters.{is_name_character}
use Rattle.forms.specs.Order.{demand}
use Rattle.forms.specs.Output.{Output, text, refusal}
use Rattle.forms.specs.Refusals.{by}
use Rattle.tenants.specs.declared.Setting.{Setting}
use Rattle.tenants.specs.Together.{Book, are_principals, quota_sum}
use Rattle.layout.specs.Layout.{book_size, book_bytes, book_of, each_from, is_book}

-- the setting of tenant t: its quota, warning days 30, its two bytes of the IDs, and its byte of the principals
abbrev pub first_setting : List ℕ → List ℕ → List ℕ → ℕ → Setting
first_setting quotas ids principals t =
    record { quota = get_or quotas t 0; days = 30; server = number_at 2 ids (2 * t); principal = get_or principals t 0 }

-- the sixteen settings
abbrev pub first_settings : List ℕ → List ℕ → List ℕ → List Setting
first_settings quotas ids principals = each_from (first_setting quotas ids principals) 0 16

-- the book with these settings and no cell
unfoldable pub empty_book : List ℕ → List ℕ → List ℕ → Book
empty_book quotas ids principals = record { settings = first_settings quotas ids principals; records = [] }

-- sixteen quotas that sum to at most 512, sixteen IDs of two characters A-Z 0-9, and sixteen principals that may be named
unfoldable pub are_given : List ℕ → List ℕ → List ℕ → Bool
are_given quotas ids principals =
    eqb (length quotas) 16 && leb (quota_sum (first_settings quotas ids principals)) 512 && (eqb (length ids) 32 && all_of is_name_character ids)
    && (eqb (length principals) 16 && are_principals (first_settings quotas ids principals) 0 (first_settings quotas ids principals))

-- opening: 101 for another length than a book's, then 103
unfoldable pub opened : List ℕ → List ℕ → List ℕ → List ℕ → Output
opened quotas ids principals s =
    demand (eqb (length s) book_size) (refusal (by 101))
    (demand (are_given quotas ids principals) (refusal (by 103))
    (text (book_bytes (empty_book quotas ids principals))))

-- opening gives an undamaged book with these settings and no cell
abbrev pub OpensEmpty : Type 0
OpensEmpty =
    (quotas ids principals s book : List ℕ) → opened quotas ids principals s ≡ text book
    → (is_book book ≡ true) × (book_of book ≡ empty_book quotas ids principals)
