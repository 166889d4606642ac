-- Texts and tests in the form that C sees, and the library's version.
use Rattle.std.specs.Prelude.{Bool, cond, List, ℕ}
use Rattle.spelling.specs.Spelling.{spelled}
use Rattle.lambukir.specs.declared.texts.Text.{Text}

-- version 0.14.0: 10000 for the first number, 100 for the second, 1 for the third
abbrev pub version : ℕ
version = 1400

-- 1 where a test holds, and 0 else
abbrev pub one_if : Bool → ℕ
one_if test = cond test 1 0

-- 64 bytes
abbrev pub text_of : List ℕ → Text
text_of bytes = record { text = bytes }

-- a text, with zeros after it
abbrev pub text_for : List ℕ → Text
text_for t = text_of (spelled t)
