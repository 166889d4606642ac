-- `mending::has_room` meets its contract: by the size alone, or as it was measured.
-- Assumes nothing.
use Rattle.std.proofs.Common.{◌∙◌, arith, rules}
use Rattle.mending.proofs.HeaderTexts.{ends_rise}
use Rattle.mending.proofs.Mends.{may-measure, measured_ok, sure_fits}
use Rattle.mending.proofs.has_room.Goals as goal

pub surely_fits-requires : goal.surely_fits-requires
surely_fits-requires c = omega (arith, c.well_formed.0)

pub returns-then-surely_fits : goal.returns-then-surely_fits
returns-then-surely_fits c =
    sure_fits c.args.file.now c.args.e c.requires.file_value c.requires.file_value_2.0 c.args.room (c.surely_fits.ensures c.if-surely_fits.true)

pub overflow_add-e : goal.overflow_add-e
overflow_add-e c =
    let rise = ends_rise c.args.file.now c.args.e c.requires.file_value in
    search rules

pub measure-requires : goal.measure-requires
measure-requires c =
    let args = c.args in
    may-measure args.file.now args.e c.requires.file_value c.requires.file_value_2.0 args.room (omega (arith, c.well_formed.0)) c.requires.file_value_2.1.0 c.requires.file_value_2.1.1
    c.header_sizes.result c.header_sizes.ensures

pub returns : goal.returns
returns c =
    let args = c.args in
    c.is_ok.ensures.value
    ∙ measured_ok args.file.now args.e c.requires.file_value c.requires.file_value_2.0 args.room c.header_sizes.result c.header_sizes.ensures
    c.measure.result c.measure.ensures
