-- Cell files enciphered under a cell key, whole or part by part: each block by itself, with padding always added.
use Rattle.std.specs.Prelude.{Bool, ◌&&◌, List, ◌++◌, ℕ, ◌+◌, ◌-◌, ◌*◌, ◌/◌, ◌%◌, ◌^◌, leb, ltb, length, drop, replicate}
use Rattle.octets.specs.Numbers.{bytes_of}
use Rattle.blowfish.specs.Cipher.{encipher_of}
use Rattle.blowfish.specs.Schedule.{schedule}
use Rattle.blocks.specs.Blocks.{each_block}
use Rattle.forms.specs.Order.{demand}
use Rattle.forms.specs.Identifiers.{is_cell_key}
use Rattle.forms.specs.Output.{Output, text, refusal}
use Rattle.forms.specs.Refusals.{by}
use Rattle.forms.specs.declared.refusals.Refusal.{Refusal}

-- the longest file and the longest part: 16 MiB
abbrev pub most : ℕ
most = 16777216

-- the words of a cell key, which has five bytes
unfoldable pub cell_words : ℕ → List ℕ
cell_words key = schedule (bytes_of 5 key)

-- the whole blocks of s enciphered
unfoldable pub enciphered : ℕ → List ℕ → List ℕ
enciphered key s = each_block (encipher_of (cell_words key)) (length s / 8) s

-- how many bytes of padding are added: 1 to 8, so that whole blocks come out
abbrev pub added : List ℕ → ℕ
added s = 8 - length s % 8

-- s with its padding, each byte of it their count
unfoldable pub padded_file : List ℕ → List ℕ
padded_file s = s ++ replicate (added s) (added s)

-- enciphering a file, into an output of so many bytes
unfoldable pub file_written : ℕ → List ℕ → ℕ → Output
file_written key file room =
    demand (is_cell_key key && leb (length file) most) (refusal (by 103))
    (demand (leb (8 * (length file / 8 + 1)) room) (refusal (by 108))
    (text (enciphered key (padded_file file))))

-- x is the number of n carried bytes, at most seven
unfoldable pub is_carried : ℕ → ℕ → Bool
is_carried n x = leb n 7 && ltb x (256 ^ n)

-- what enciphering a part gives: the blocks that are written and the bytes that are carried on; or the refusal
pub data PartOutput : Type 0 where
  blocks : List ℕ → List ℕ → PartOutput
  refused : Refusal → PartOutput

-- what stands after the whole blocks of s
abbrev pub carried_on : List ℕ → List ℕ
carried_on s = drop (8 * (length s / 8)) s

-- enciphering a part after n carried bytes, whose number is x: the whole blocks of both together
unfoldable pub part_written : ℕ → ℕ → ℕ → List ℕ → ℕ → PartOutput
part_written key x n part room =
    demand (is_cell_key key && leb (length part) most && is_carried n x) (refused (by 103))
    (demand (leb (8 * ((n + length part) / 8)) room) (refused (by 108))
    (blocks (enciphered key (bytes_of n x ++ part)) (carried_on (bytes_of n x ++ part))))

-- the end, after n carried bytes: they get their padding, as a file of so few bytes
unfoldable pub end_written : ℕ → ℕ → ℕ → ℕ → Output
end_written key x n room =
    demand (is_cell_key key && is_carried n x) (refusal (by 103))
    (demand (leb 8 room) (refusal (by 108))
    (text (enciphered key (padded_file (bytes_of n x)))))
