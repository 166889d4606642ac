-- `judging::has_old_form` meets its contract: the form is that of version 1. Assumes nothing.
use Rattle.layout.specs.Layout.{one}
use Rattle.judging.proofs.has_old_form.Given as goal

abbrev pub ghost-has_form : goal.ghost-has_form
ghost-has_form a = one
