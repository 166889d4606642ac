-- The tests of an undamaged book as they are made, one after the other, on its bytes: for contracts inside the crate alone.
use Rattle.std.specs.Prelude.{Bool, cond, ◌&&◌, Option, None, Some, List, ℕ, zero, suc, ◌+◌, ◌-◌, ◌*◌, ◌/◌, leb, ltb, eqb, length, get_or, drop}
use Rattle.std.specs.Option.{option_and_then}
use Rattle.octets.specs.Every.{all_of}
use Rattle.octets.specs.Places.{number_at}
use Rattle.text.specs.Texts.{part}
use Rattle.dates.specs.Notice.{is_days}
use Rattle.forms.specs.Identifiers.{is_cell_name, is_server_id}
use Rattle.tenants.specs.Rules.{is_last}
use Rattle.tenants.specs.Together.{is_principal, quota_sum}
use Rattle.layout.specs.Layout.{Version, two, version_byte, used_length_by, book_size_by, record_count_by, setting_size, setting_place, record_size, setting_at, each_from, all_from, book_of}

-- the bytes of tenant t's setting
abbrev pub setting_part : List ℕ → ℕ → List ℕ
setting_part s t = part setting_size s (setting_place t)

-- the byte is zero
abbrev pub is_zero : ℕ → Bool
is_zero b = eqb b 0

-- the bytes of one setting: warning days, a Data Server ID
unfoldable pub setting_test : List ℕ → Bool
setting_test p = is_days (get_or p 2 0) && is_server_id (number_at 2 p 3)

-- the sixteen settings, whose quotas sum to at most 512
unfoldable pub settings_test : List ℕ → Bool
settings_test s = all_from (λ (t : ℕ). setting_test (setting_part s t)) 0 16 && leb (quota_sum (each_from (setting_at s) 0 16)) 512

-- the principal that tenant t names
abbrev pub principal_test : List ℕ → ℕ → Bool
principal_test s t = is_principal (book_of s).settings t (setting_at s t)

-- the sixteen principals
unfoldable pub principals_test : List ℕ → Bool
principals_test s = all_from (principal_test s) 0 16

-- the form of a book of a version: its length, its version, a used length for at most 512 records, and zeros past the used length
unfoldable pub form_test : Version → List ℕ → Bool
form_test v s =
    eqb (length s) (book_size_by v) && eqb (get_or s 0 0) (version_byte v) && leb (record_count_by v s) 512
    && eqb (number_at 4 s 1) (used_length_by v (record_count_by v s)) && all_of is_zero (drop (used_length_by v (record_count_by v s)) s)

-- all but the records: the form of version 2, the settings, the principals
unfoldable pub frame_test : List ℕ → Bool
frame_test s = form_test two s && settings_test s && principals_test s

-- the bytes of one cell, after a record of this name: a higher name that is a cell name, an edition, and a last expiry
unfoldable pub cell_test : List ℕ → ℕ → Bool
cell_test p name =
    ltb name (number_at 8 p 1) && is_cell_name (number_at 8 p 1) && (leb 1 (number_at 2 p 9) && leb (number_at 2 p 9) 999) && is_last (number_at 4 p 24)

-- the four bytes before a last expiry, the last first: below 256 exactly where the three that must be zero are
unfoldable pub spare_of : List ℕ → ℕ
spare_of p = get_or p 20 0 + get_or p 21 0 * 256 + get_or p 22 0 * 65536 + get_or p 23 0 * 16777216

-- a last expiry that needs no judging: this one where there is one, and else the one before
abbrev pub last_known : ℕ → ℕ → ℕ
last_known last known = cond (eqb last 0) known last

-- both: the cell is right, and so are its zeros
abbrev pub record_test : List ℕ → ℕ → Bool
record_test p name = cell_test p name && leb (spare_of p) 255

-- where tenant t's part of the records ends, of which so many records are left at a place, after one of this name: before the first that is
-- not t's, and nowhere where one of t's is wrong
unfoldable pub part_from : List ℕ → ℕ → ℕ → ℕ → ℕ → Option ℕ
part_from s t name at zero = Some at
part_from s t name at (suc left) =
    cond (eqb (get_or s at 0) t)
    (cond (record_test (part record_size s at) name) (part_from s t (number_at 8 s (at + 1)) (at + record_size) left) None)
    (Some at)

-- where the parts of m tenants from t on end, which begin at a place: where one ends the next begins, and each is held to its tenant's quota where it ends
unfoldable pub parts_from : List ℕ → ℕ → ℕ → ℕ → ℕ → Option ℕ
parts_from s used t at zero = Some at
parts_from s used t at (suc m) =
    option_and_then
    (λ (end : ℕ). cond (leb (end - at) (record_size * number_at 2 s (setting_place t))) (parts_from s used (suc t) end m) None)
    (part_from s t 0 at ((used - at) / record_size))

-- a tenant's number, or 16, where the tenants end
unfoldable pub up_to16 : ℕ → ℕ
up_to16 t = cond (ltb t 16) t 16
