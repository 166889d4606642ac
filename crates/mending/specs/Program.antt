-- What the program mend prints: the mended file to standard output, and the list, or why there is none, to standard error.
use Rattle.std.specs.Prelude.{◌&&◌, List, [], ℕ, leb, length}
use Rattle.text.specs.Ascii.{ascii}
use Rattle.forms.specs.Order.{demand}
use Rattle.forms.specs.Refusals.{by}
use Rattle.mending.specs.Mending.{Mended, mended_of, is_mended, Outcome, done, refused}

-- a refusal: nothing to standard output
abbrev pub only : List ℕ → Mended
only refusal = record { file = []; list = refusal }

-- all that is printed for an input: 103 for more than 65,536 bytes, then 12
unfoldable pub printed : List ℕ → Mended
printed input =
    demand (leb (length input) 65536) (only (ascii "refused 103\n"))
    (demand (is_mended input) (only (ascii "refused 12\n"))
    (mended_of input))

-- into outputs of so many bytes: 108 where one is too short
unfoldable pub printing : List ℕ → ℕ → ℕ → Outcome
printing input room list_room =
    demand (leb (length (printed input).file) room && leb (length (printed input).list) list_room) (refused (by 108)) (done (printed input))

-- a refusal in words, into an output of so many bytes. For contracts inside the crate alone.
unfoldable pub refusal_printed : List ℕ → ℕ → Outcome
refusal_printed words room = demand (leb (length words) room) (refused (by 108)) (done (only words))
