-- A mailed permit file mended, and the list of what was wrong with it.
use Rattle.std.specs.Prelude.{Bool, cond, ◌&&◌, List, [], ◌∷◌, ◌++◌, ℕ, suc, leb, length}
use Rattle.forms.specs.Order.{demand}
use Rattle.forms.specs.Refusals.{by}
use Rattle.forms.specs.declared.refusals.Refusal.{Refusal}
use Rattle.permit_file.specs.File.{is_header}
use Rattle.mailed_lines.specs.Texts.{texts_of, joined}
use Rattle.mailed_lines.specs.Mailed.{line_of, unblanked, fate_of}
use Rattle.mended_lines.specs.Gives.{Gives, header_gives, gives_by, unended_gives}

-- a mended file and its list
pub record Mended : Type 0 where
  pub file : List ℕ
  pub list : List ℕ

-- what the first of the texts gives, where the rest follows it: the last text is the one that no LF ends
unfoldable pub gives_of : ℕ → List ℕ → List (List ℕ) → Gives
gives_of count text [] = unended_gives count (suc count) text
gives_of count text (next ∷ rest) = gives_by (fate_of (unblanked (line_of text))) count text (joined (next ∷ rest))

-- what a line gives, and then what those after it give, where they are looked at
abbrev pub followed : Gives → Mended → Mended
followed g m =
    cond g.more
    (record { file = g.file ++ m.file; list = g.list ++ m.list })
    (record { file = g.file; list = g.list })

-- nothing
abbrev pub nothing : Mended
nothing = record { file = []; list = [] }

-- the texts after the header, the first of them counted so
unfoldable pub mended_from : ℕ → List (List ℕ) → Mended
mended_from count [] = nothing
mended_from count (text ∷ rest) = followed (gives_of count text rest) (mended_from (suc count) rest)

-- all texts: three header lines that LF ends, and those after them; nothing where there are fewer
unfoldable pub mended_texts : List (List ℕ) → Mended
mended_texts [] = nothing
mended_texts (one ∷ []) = nothing
mended_texts (one ∷ two ∷ []) = nothing
mended_texts (one ∷ two ∷ three ∷ []) = nothing
mended_texts (one ∷ two ∷ three ∷ next ∷ rest) =
    followed (header_gives 1 one) (followed (header_gives 2 two) (followed (header_gives 3 three) (mended_from 4 (next ∷ rest))))

-- a file mended
unfoldable pub mended_of : List ℕ → Mended
mended_of file = mended_texts (texts_of file)

-- it begins with a good header
unfoldable pub is_mended : List ℕ → Bool
is_mended file = is_header (mended_of file).file

-- both texts, or the refusal
pub data Outcome : Type 0 where
  done : Mended → Outcome
  refused : Refusal → Outcome

-- mending into outputs of so many bytes: 12 where the mended file does not begin with a good header, then 108 where a text is longer than its output
unfoldable pub mending : List ℕ → ℕ → ℕ → Outcome
mending file room list_room =
    demand (is_mended file) (refused (by 12))
    (demand (leb (length (mended_of file).file) room && leb (length (mended_of file).list) list_room) (refused (by 108))
    (done (mended_of file)))
