-- What each number that comes back means, in a few words, and which numbers are success.
use Rattle.std.specs.Prelude.{Bool, cond, ◌||◌, List, [], ◌∷◌, ℕ, eqb}
use Prim.Native.String.{String}
use Rattle.text.specs.Ascii.{ascii}

-- done, or a record or a cell: each other number is a refusal
unfoldable pub is_success : ℕ → Bool
is_success n = eqb n 0 || eqb n 15 || eqb n 20 || eqb n 27

-- the numbers of the rules, each with its meaning
abbrev pub rows : List (ℕ × String)
rows =
    (0, "done")
    ∷ (11, "no line in the ENC part of the file")
    ∷ (12, "wrong shape of line, row, header, place or cell file")
    ∷ (13, "the check part is wrong for this HW_ID")
    ∷ (14, "today is no date")
    ∷ (15, "the permit has expired")
    ∷ (16, "the CRC of the cell file is wrong")
    ∷ (17, "the CRC of the user permit is wrong")
    ∷ (18, "the HW_ID is not of its form")
    ∷ (20, "the permit expires soon")
    ∷ (21, "wrong padding, of a key or of a cell file")
    ∷ (27, "the ship is behind the product list")
    ∷ (101, "the book is damaged or of wrong length")
    ∷ (102, "the tenant is above 15")
    ∷ (103, "a value is not of its form or range")
    ∷ (104, "the tenant does not hold that cell")
    ∷ (105, "the quota is used")
    ∷ (106, "the user permit is not 28 of 0-9 A-F a-f")
    ∷ (107, "the M_ID is not in the register")
    ∷ (108, "the output is too short, or not of a book's length")
    ∷ (109, "the register is damaged")
    ∷ (110, "a cell has two rows in the product list")
    ∷ (111, "a branch cannot enter or withdraw")
    ∷ (112, "the expiry is later than the cell's last expiry")
    ∷ []

-- what a number means by some rows
unfoldable pub meaning_by : List (ℕ × String) → ℕ → List ℕ
meaning_by [] n = ascii "a number that no call gives"
meaning_by ((m, t) ∷ more) n = cond (eqb n m) (ascii t) (meaning_by more n)

-- what a number means
abbrev pub meaning_of : ℕ → List ℕ
meaning_of n = meaning_by rows n
