-- `forms::identifiers::raised_hw_id` meets its contract. Assumes nothing.
use mathlib.Core.Path.{sym, ap, ◌∙◌}
use mathlib.Core.List.{List}
use lib.ListN.{replicate}
use Prim.Native.Nat.{ℕ}
use Rattle.text.specs.Characters.{raised_text}
use Rattle.text.specs.Texts.{placed}
use Rattle.forms.proofs.HwIds.{upper_stays, raised_large, raised-put}
use Rattle.forms.proofs.identifiers.raised_hw_id.Goals as goal

pub returns-then-is_hex_5 : goal.returns-then-is_hex_5
returns-then-is_hex_5 c = sym (upper_stays _ (sym c.is_hex_5.ensures ∙ c.if-is_hex_5.true))

pub returns-then-x-ge1099511627776 : goal.returns-then-x-ge1099511627776
returns-then-x-ge1099511627776 c = sym (raised_large _ c.if-x-ge1099511627776.true)

pub returns : goal.returns
returns c =
    c.number40.ensures
    ∙ raised-put _ c.if-x-ge1099511627776.false _
    (c.put_raised.ensures ∙ ap (λ (l : List ℕ). placed 0 (raised_text l) (replicate 5 0)) c.bytes40.ensures)
