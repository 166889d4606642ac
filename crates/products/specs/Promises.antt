-- What the product list promises: what an answer depends on, and what it does not.
use Rattle.std.specs.Prelude.{◌≡◌, Some, Ok, true, false, List, ◌++◌, ◌⊎◌, ℕ, ◌<◌, length, get_or}
use Rattle.text.specs.Ascii.{ascii}
use Rattle.file_lines.specs.EncPart.{lines_of}
use Rattle.file_lines.specs.Dated.{is_below}
use Rattle.forms.specs.Refusals.{by, refused}
use Rattle.product_row.specs.declared.Row.{Row}
use Rattle.product_names.specs.Repeats.{repeats}
use Rattle.products.specs.Listing.{is_date_line, is_header, after_header, is_listing, rows_of}
use Rattle.products.specs.Answers.{is_ships, own_row, names_of, standing_by, standing_of}
use Rattle.products.specs.declared.standings.Standing.TheVariants.{Behind}

-- a good list: header and every row are, and no name stands twice
abbrev pub GoodList : List ℕ → Type 0
GoodList list = (is_listing list ≡ true) × (repeats (names_of (rows_of list)) ≡ false)

-- the answer is a function of the rows
abbrev pub RowsDecide : Type 0
RowsDecide =
    (a b : List ℕ) → is_listing a ≡ true → is_listing b ≡ true → rows_of a ≡ rows_of b
    → (name edition update : ℕ) → standing_of a name edition update ≡ standing_of b name edition update

-- of a good list it is the standing by the cell's own row
abbrev pub OwnRowDecides : Type 0
OwnRowDecides =
    (list : List ℕ) (name edition update : ℕ) → is_ships name edition update ≡ true → GoodList list
    → standing_of list name edition update ≡ Ok (standing_by (own_row name (rows_of list)) edition update)

-- and nothing else counts: neither the order of the rows nor another cell's row
abbrev pub NoOtherRow : Type 0
NoOtherRow =
    (a b : List ℕ) (name edition update : ℕ) → GoodList a → GoodList b → own_row name (rows_of a) ≡ own_row name (rows_of b)
    → standing_of a name edition update ≡ standing_of b name edition update

-- an edition and an update come before those of a row
abbrev pub Before : ℕ → ℕ → Row → Type 0
Before edition update row = (edition < row.edition) ⊎ ((edition ≡ row.edition) × (update < row.update))

-- behind is that order: a cell that is not cancelled is behind exactly when its edition and update come before those of its row
abbrev pub BehindIsBefore : Type 0
BehindIsBefore =
    (list : List ℕ) (name edition update : ℕ) (row : Row) → is_ships name edition update ≡ true → GoodList list
    → own_row name (rows_of list) ≡ Some row → (row.edition ≡ 0 → ⊥)
    → (standing_of list name edition update ≡ Ok Behind → Before edition update row)
    × (Before edition update row → standing_of list name edition update ≡ Ok Behind)

-- a good list has one row at most for a cell
abbrev pub OneRowEach : Type 0
OneRowEach =
    (list : List ℕ) → GoodList list → (i j : ℕ) → i < length (rows_of list) → j < length (rows_of list)
    → get_or (names_of (rows_of list)) i 0 ≡ get_or (names_of (rows_of list)) j 0 → i ≡ j

-- 110 comes exactly when the ship's values, the header and every row are good, and a name stands twice
abbrev pub TwiceExactly : Type 0
TwiceExactly =
    (list : List ℕ) (name edition update : ℕ)
    → (standing_of list name edition update ≡ refused (by 110)
    → (is_ships name edition update ≡ true) × ((is_listing list ≡ true) × (repeats (names_of (rows_of list)) ≡ true)))
    × (is_ships name edition update ≡ true → is_listing list ≡ true → repeats (names_of (rows_of list)) ≡ true
    → standing_of list name edition update ≡ refused (by 110))

-- what follows the line :ECS does not matter
abbrev pub EcsPassedOver : Type 0
EcsPassedOver =
    (list x y : List ℕ) (name edition update : ℕ)
    → standing_of (list ++ (ascii "\r\n:ECS\r\n" ++ x)) name edition update ≡ standing_of (list ++ (ascii "\r\n:ECS\r\n" ++ y)) name edition update

-- nor which good header a list has
abbrev pub HeaderPassedOver : Type 0
HeaderPassedOver =
    (a b : List ℕ) (name edition update : ℕ) → is_header (lines_of a) ≡ true → is_header (lines_of b) ≡ true → after_header a ≡ after_header b
    → standing_of a name edition update ≡ standing_of b name edition update

-- a date and time are as good with seconds, two digits below 60, as without
abbrev pub SecondsOrNot : Type 0
SecondsOrNot =
    (line seconds : List ℕ) → length line ≡ 20 → length seconds ≡ 2 → is_below 60 seconds 0 ≡ true
    → is_date_line (line ++ (ascii ":" ++ seconds)) ≡ is_date_line line
