-- The words of a ship come from its HW_ID, its letters raised, followed by its own first byte, a key of six bytes.
-- Assumes nothing.
use mathlib.Core.Path.{◌≡◌, refl, ap, ◌∙◌}
use mathlib.Core.Bool.{true}
use mathlib.Core.List.{List, [], ◌∷◌}
use Prim.Native.Nat.{ℕ}
use lib.ListN.{get_or}
use Rattle.octets.specs.Numbers.{digits, bytes_of}
use Rattle.blowfish.specs.Schedule.{is_key, schedule, scheduled}
use Rattle.forms.specs.Identifiers.{raised_hw_id, hw_id6}
use Rattle.cell_permit.specs.CellPermit.{ship_words}

-- five bytes and the first of them again
abbrev pub six_of : List ℕ → List ℕ
six_of b = get_or b 0 0 ∷ get_or b 1 0 ∷ get_or b 2 0 ∷ get_or b 3 0 ∷ get_or b 4 0 ∷ get_or b 0 0 ∷ []

six_bytes_lem : (hw : ℕ) → six_of (bytes_of 5 hw) ≡ hw_id6 hw
unfolding hw_id6 digits
six_bytes_lem hw = refl

is_key_lem : (b : List ℕ) → is_key (six_of b) ≡ true
unfolding is_key
is_key_lem b = refl

pub words_of_ship : (hw : ℕ) (b before after : List ℕ) → b ≡ bytes_of 5 (raised_hw_id hw) → after ≡ scheduled (six_of b) before → after ≡ ship_words hw
unfolding scheduled ship_words
words_of_ship hw b before after five made =
    made ∙ (rw (is_key_lem b)) ∙ ap (λ (l : List ℕ). schedule (six_of l)) five ∙ ap schedule (six_bytes_lem (raised_hw_id hw))
