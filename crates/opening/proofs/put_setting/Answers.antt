-- `opening::put_setting` meets its contract.
-- Assumes nothing.
use mathlib.Core.Path.{ap, ◌∙◌}
use mathlib.Core.List.{List}
use Prim.Native.Nat.{ℕ}
use Rattle.text.specs.Texts.{placed}
use Rattle.opening.proofs.FirstBook.{six_bytes_lem}
use Rattle.opening.proofs.put_setting.Goals as goal

pub returns : goal.returns
returns c =
    let args = c.args in
    c.put_text.ensures ∙ ap (λ (t : List ℕ). placed args.at t args.book.now) (six_bytes_lem args.setting)
