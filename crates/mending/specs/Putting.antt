-- Texts put into outputs that take them, or are empty: an empty output takes nothing, so that lengths are measured without one. For contracts inside the crate alone.
use Rattle.std.specs.Prelude.{◌≡◌, List, ◌⊎◌, ℕ, ◌+◌, ◌^◌, ◌≤◌, ◌<◌, length}
use Rattle.mended_lines.specs.Gives.{Gives}
use Rattle.mended_lines.specs.declared.Places.{Places}

-- a text may be put at a place: it lies within the output, or that is empty
abbrev pub Takes : ℕ → List ℕ → List ℕ → Type 0
Takes at t out = (at + length t < 2 ^ 64) × ((at + length t ≤ length out) ⊎ (length out ≡ 0))

-- both texts that a line gives
abbrev pub Room : Gives → Places → List ℕ → List ℕ → Type 0
Room g at out list = Takes at.file g.file out × Takes at.list g.list list
