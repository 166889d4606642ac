-- `judging::is_frame` meets its contract: the form is that of version 2. Assumes nothing.
use Rattle.layout.specs.Layout.{two}
use Rattle.judging.proofs.is_frame.Given as goal

abbrev pub ghost-has_form : goal.ghost-has_form
ghost-has_form a = two
