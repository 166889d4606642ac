-- What the crates above rest on: laws of the definitions here.
use Rattle.std.specs.Prelude.{◌≡◌, Bool, true, false, List, ℕ, ◌^◌, ◌<◌, None, Some}
use Rattle.octets.specs.Places.{number_at}
use Rattle.text.specs.Characters.{is_name_character}
use Rattle.text.specs.Texts.{all_at}
use Rattle.forms.specs.Identifiers.{is_text, is_hw_id, is_upper_hw_id, raised_hw_id}
use Rattle.forms.specs.Output.{Output, refusal, Answered}
use Rattle.forms.specs.DateText.{is_date_at, date_at}
use Rattle.forms.specs.Refusals.{refused}
use Rattle.forms.specs.declared.refusals.Refusal.{Refusal}

-- the number of a text of n bytes is below 256 ^ n
abbrev pub TextFits : Type 0
TextFits = (test : ℕ → Bool) (n x : ℕ) → is_text test n x ≡ true → x < 256 ^ n

-- a HW_ID has the form as it is given exactly where it has the one in use after its letters are raised
abbrev pub RaisedForm : Type 0
RaisedForm = (x : ℕ) → is_upper_hw_id (raised_hw_id x) ≡ is_hw_id x

-- one in upper case is raised to itself
abbrev pub UpperStays : Type 0
UpperStays = (x : ℕ) → is_upper_hw_id x ≡ true → raised_hw_id x ≡ x

-- n characters A-Z 0-9 at a place are the text of the number there
abbrev pub NameAt : Type 0
NameAt = (n : ℕ) (s : List ℕ) (at : ℕ) → all_at is_name_character n s at ≡ true → is_text is_name_character n (number_at n s at) ≡ true

-- a call that gives a refusal answers its number and leaves the lent output as it was
abbrev pub RefusalAnswered : Type 0
RefusalAnswered = (o : Output) (r : Refusal) (before : List ℕ) → o ≡ refusal r → Answered o before (refused r) before

-- a date is read only where eight digits are one
abbrev pub DateRight : Type 0
DateRight = (s : List ℕ) (at x : ℕ) → date_at s at ≡ Some x → is_date_at s at ≡ true

-- and wherever they are
abbrev pub DateWrong : Type 0
DateWrong = (s : List ℕ) (at : ℕ) → date_at s at ≡ None → is_date_at s at ≡ false
