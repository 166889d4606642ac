-- `cell_permit::fields_of` meets its contract. An edition of digits alone is never wrong.
-- Assumes nothing.
use mathlib.Core.Path.{sym, ◌∙◌}
use native.Mathlib.Omega.{arith}
use Rattle.text.proofs.NumbersAt.{decimal_wrong}
use Rattle.cell_permit.proofs.ReadFields.{edition_few, digits_there}
use Rattle.cell_permit.proofs.fields_of.Goals as goal

pub is_server_part-requires : goal.is_server_part-requires
is_server_part-requires c = edition_few c.args.line.now _ c.edition_length-n.ensures

pub returns-in_err-edition : goal.returns-in_err-edition
returns-in_err-edition c =
    let line = c.args.line.now in
    let counted = c.edition_length-n.ensures in
    cc (digits_there line _ counted (sym c.is_server_part.ensures ∙ c.if-not-is_server_part.false), decimal_wrong _ line 67 (omega (arith, edition_few line _ counted)) (sym c.decimal_at.ensures ∙ c.in_err-edition.was))
