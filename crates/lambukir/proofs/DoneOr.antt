-- An answer that says only whether it is done has the number that it was made of. Assumes nothing.
use mathlib.Core.Path.{◌≡◌, refl}
use Rattle.std.specs.Prelude.{Result, Ok, Err}
use Rattle.forms.specs.Refusals.{refusal_number, done_or}
use Rattle.forms.specs.declared.refusals.Refusal.{Refusal}

pub number_stays : {A : Type 0} (answer : Result A Refusal) → refusal_number (done_or answer) ≡ refusal_number answer
number_stays (Ok x) = refl
number_stays (Err r) = refl
