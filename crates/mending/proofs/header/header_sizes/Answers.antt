-- `mending::header::header_sizes` meets its contract: what is put into nothing is measured.
-- Assumes nothing.
use mathlib.Core.Path.{refl}
use mathlib.Core.Logic.{inr}
use native.Mathlib.Omega.{arith}
use Rattle.mending.proofs.HeaderTexts.{header_short, header_list}
use Rattle.mending.proofs.header.header_sizes.Goals as goal

pub put_header-requires : goal.put_header-requires
put_header-requires c =
    let file = c.args.file.now in
    let e = c.args.e in record {
      file_value = c.requires;
      takes = (
        (omega (arith, header_short file e c.requires, c.well_formed.0), inr refl),
        (omega (arith, header_list file e), inr refl),
      );
    }
