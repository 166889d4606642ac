-- What spelling promises: a text is taken exactly where it has its form, and text and value give each other back.
use Rattle.std.specs.Prelude.{◌≡◌, Bool, true, List, ℕ}
use Rattle.text.specs.Characters.{raised_text, is_hex, is_upper_hex, is_name_character}
use Rattle.dates.specs.Calendar.{is_date}
use Rattle.forms.specs.Identifiers.{is_hw_id, raised_hw_id, is_mId, is_cell_name, is_cell_key}
use Rattle.spelling.specs.Spelling.{is_word, name_from, hw_id_from, code_from, key_from, is_date_word, date_from, name_to, hw_id_to, code_to, key_to, date_to}

-- a text gives a value of the form exactly where it has its own form; so what is refused here is refused by every call
abbrev pub TakenExactly : (ℕ → Bool) → (List ℕ → Bool) → (List ℕ → ℕ) → Type 0
TakenExactly is_value is_form from = (t : List ℕ) → is_value (from t) ≡ is_form t

-- the text of the value of a text is that text
abbrev pub TextBack : (List ℕ → Bool) → (List ℕ → ℕ) → (ℕ → List ℕ) → Type 0
TextBack is_form from to = (t : List ℕ) → is_form t ≡ true → to (from t) ≡ t

-- the value of the text of a value is that value
abbrev pub ValueBack : (ℕ → Bool) → (List ℕ → ℕ) → (ℕ → List ℕ) → Type 0
ValueBack is_value from to = (x : ℕ) → is_value x ≡ true → from (to x) ≡ x

-- all three
abbrev pub ThereAndBack : (ℕ → Bool) → (List ℕ → Bool) → (List ℕ → ℕ) → (ℕ → List ℕ) → Type 0
ThereAndBack is_value is_form from to = TakenExactly is_value is_form from × TextBack is_form from to × ValueBack is_value from to

-- cell names
abbrev pub NamesBack : Type 0
NamesBack = ThereAndBack is_cell_name (is_word is_name_character 8) name_from name_to

-- HW_IDs: either case is taken, and both ways raise the letters
abbrev pub HwIdsBack : Type 0
HwIdsBack =
    TakenExactly is_hw_id (is_word is_hex 5) hw_id_from
    × ((t : List ℕ) → is_word is_hex 5 t ≡ true → hw_id_to (hw_id_from t) ≡ raised_text t)
    × ((x : ℕ) → is_hw_id x ≡ true → hw_id_from (hw_id_to x) ≡ raised_hw_id x)

-- so texts, and values, that differ in the case of letters alone give the same
abbrev pub HwIdsEitherCase : Type 0
HwIdsEitherCase =
    ((t u : List ℕ) → raised_text t ≡ raised_text u → hw_id_from t ≡ hw_id_from u) × ((x y : ℕ) → raised_hw_id x ≡ raised_hw_id y → hw_id_to x ≡ hw_id_to y)

-- codes: M_IDs, and Data Server IDs and producers, which have the same form
abbrev pub CodesBack : Type 0
CodesBack = ThereAndBack is_mId (is_word is_name_character 2) code_from code_to

-- cell keys
abbrev pub KeysBack : Type 0
KeysBack = ThereAndBack is_cell_key (is_word is_upper_hex 10) key_from key_to

-- dates
abbrev pub DatesBack : Type 0
DatesBack = ThereAndBack is_date is_date_word date_from date_to
