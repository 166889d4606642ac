-- What enciphering part by part promises: wherever a file is cut, what is written is the same.
use Rattle.std.specs.Prelude.{◌≡◌, true, List, [], ◌∷◌, ◌++◌, ℕ, ◌≤◌, length}
use Rattle.octets.specs.Numbers.{Below, bytes_number}
use Rattle.forms.specs.Identifiers.{is_cell_key}
use Rattle.forms.specs.Output.{text}
use Rattle.cell_file.specs.Enciphering.{most, enciphered, padded_file, file_written, blocks, part_written, end_written}

-- parts one after the other
unfoldable pub joined : List (List ℕ) → List ℕ
joined [] = []
joined (p ∷ ps) = p ++ joined ps

-- each of them has at most 16 MiB
unfoldable pub EachFits : List (List ℕ) → Type 0
EachFits [] = Unit
EachFits (p ∷ ps) = (length p ≤ most) × EachFits ps

-- calls that were all done, after n carried bytes whose number is x: each part is given what the call before it carried on, then comes the end; and what they wrote together
pub data InParts (key : ℕ) : ℕ → ℕ → List (List ℕ) → List ℕ → Type 0 where
  end : {x n : ℕ} {t : List ℕ} (room : ℕ) → end_written key x n room ≡ text t → InParts key x n [] t
  part : {x n : ℕ} {p t c : List ℕ} {ps : List (List ℕ)} {u : List ℕ} (room : ℕ)
      → part_written key x n p room ≡ blocks t c → InParts key (bytes_number c) (length c) ps u → InParts key x n (p ∷ ps) (t ++ u)

-- parts and end together write exactly what the whole call writes, for every file of at most 16 MiB, wherever it is cut
abbrev pub CutAnywhere : Type 0
CutAnywhere =
    (key : ℕ) (parts : List (List ℕ)) (t : List ℕ) (room : ℕ) → Below 256 (joined parts) → length (joined parts) ≤ most
    → InParts key 0 0 parts t → length t ≤ room → file_written key (joined parts) room ≡ text t

-- and no part is refused: under every cell key parts of at most 16 MiB can be enciphered so, whatever they add up to
abbrev pub PartsDone : Type 0
PartsDone =
    (key : ℕ) (parts : List (List ℕ)) → is_cell_key key ≡ true → Below 256 (joined parts) → EachFits parts
    → InParts key 0 0 parts (enciphered key (padded_file (joined parts)))
