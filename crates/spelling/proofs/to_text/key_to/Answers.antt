-- `spelling::to_text::key_to` meets its contract. A cell key is ten characters of hex.
-- Assumes nothing.
use mathlib.Core.Path.{◌∙◌}
use borrow.Author.Tests.{lt-ltb}
use Rattle.spelling.proofs.Texts.{key_text}
use Rattle.spelling.proofs.to_text.key_to.Goals as goal

pub returns-then-key-lt1099511627776 : goal.returns-then-key-lt1099511627776
returns-then-key-lt1099511627776 c = c.put_hex.ensures ∙ key_text _ (lt-ltb _ _ c.if-key-lt1099511627776.true)
