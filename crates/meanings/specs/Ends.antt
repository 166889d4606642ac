-- What C reads of a meaning is the meaning.
use Rattle.spelling.specs.Ends.{ReadByC}
use Rattle.meanings.specs.Meanings.{meaning_of}

-- a zero ends it, and none stands before
abbrev pub MeaningsEnd : Type 0
MeaningsEnd = ReadByC meaning_of
