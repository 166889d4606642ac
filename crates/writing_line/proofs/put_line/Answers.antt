-- `writing_line::put_line` meets its contract. Three texts, each after the one before it.
-- Assumes nothing.
use mathlib.Core.Path.{◌≡◌}
use native.Mathlib.Omega.{arith}
use lib.ListN.{length}
use Rattle.writing_line.proofs.LinePlaced.{line_placed}
use Rattle.writing_line.proofs.LineAnswers.{few_digits, written_size}
use borrow.Author.Rules.{rules}
use Rattle.writing_line.proofs.put_line.Goals as goal

pub put_fields-requires : goal.put_fields-requires
put_fields-requires c = (c.width-n.ensures, omega (arith, c.width-n.ensures, few_digits _ c.requires))

pub overflow_add-n : goal.overflow_add-n
overflow_add-n c = omega (arith, c.width-n.ensures, few_digits _ c.requires)

pub overflow_add-result : goal.overflow_add-result
overflow_add-result c = omega (arith, c.width-n.ensures, few_digits _ c.requires)

pub returns : goal.returns
returns c =
    let digits = c.width-n.ensures in
    let size : length c.args.out.now ≡ 76 = search rules in (
      written_size _ _ _ digits,
      line_placed _ _ _ size _ _ _ _ digits (omega (arith, digits, few_digits _ c.requires))
          c.put_permit.ensures
          c.put_fields.ensures
          c.put_text.ensures,
    )
