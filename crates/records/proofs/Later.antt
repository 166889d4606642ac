-- How many records are later in order than an entered or withdrawn cell, by its place.
-- Assumes nothing.
use mathlib.Core.Path.{refl, ap, ◌∙◌}
use mathlib.Core.List.{◌∷◌}
use native.Mathlib.Omega.{arith}
use lib.ListN.{length, length-append}
use Rattle.octets.specs.Every.{count_of}
use Rattle.tenants.specs.Together.{full_name, in_book}
use Rattle.tenants.specs.House.{is_later}
use Rattle.tenants.proofs.Later.{later-around, later-around-it}
use Rattle.layout.specs.Layout.{book_of}
use Rattle.layout.proofs.Indexed.{book_count}
use Rattle.records.specs.Moves.{LaterEntered, LaterWithdrawn}
use Rattle.records.proofs.Found.{Here, Gone}
use Rattle.records.proofs.Listed.{entered_gone, withdrawn_here}
use Rattle.records.proofs.OwnFound.{here, gone}

pub later_entered : LaterEntered
later_entered s t cell i undamaged small found =
    let h : Gone (full_name t cell.name) (book_of s).records i = gone s undamaged t cell.name i small found in
    let then = entered_gone (in_book t cell) (book_of s).records i h in
    let counted =
    ap (count_of (is_later t cell.name)) then
    ∙ later-around-it t cell.name small h.front h.back h.below h.above (in_book t cell) refl in
    omega (arith, counted, h.place, ap length then ∙ length-append h.front (in_book t cell ∷ h.back))

pub later_withdrawn : LaterWithdrawn
later_withdrawn s t name i undamaged small found =
    let h : Here (full_name t name) (book_of s).records i = here s undamaged t name i small found in
    let counted =
    ap (count_of (is_later t name)) (withdrawn_here (full_name t name) (book_of s).records i h)
    ∙ later-around t name small h.front h.back h.below h.above in
    omega (arith, counted, h.place, book_count s, ap length h.whole ∙ length-append h.front (h.it ∷ h.back))
