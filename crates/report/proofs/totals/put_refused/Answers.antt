-- `report::totals::put_refused` meets its contract.
-- Assumes nothing.
use mathlib.Core.Path.{◌≡◌, ap, ◌∙◌}
use mathlib.Core.List.{List, append_assoc}
use Prim.Native.Nat.{ℕ}
use native.Mathlib.Omega.{arith}
use lib.ListN.{length}
use Rattle.text.specs.Ascii.{ascii}
use Rattle.text.specs.Texts.{numeral, placed}
use Rattle.report.specs.LookThrough.{refused_text}
use Rattle.report.specs.Turns.{last_field}
use Rattle.report.proofs.totals.put_refused.Goals as goal

same_text : (number : ℕ) → last_field (ascii "refused ") number ≡ refused_text number
unfolding last_field refused_text
same_text number = append_assoc (ascii "refused ") (numeral number) (ascii "\n")

pub put_last-requires : goal.put_last-requires
put_last-requires c = omega (arith, ap length (same_text c.args.number))

pub returns : goal.returns
returns c =
    let same = same_text c.args.number in (
      omega (arith, c.put_last.ensures.0, ap length same),
      c.put_last.ensures.1 ∙ ap (λ (t : List ℕ). placed 0 t c.args.out.now) same,
    )
