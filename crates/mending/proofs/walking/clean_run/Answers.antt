-- `mending::walking::clean_run` meets its contract. The invariant: so many clean records were passed.
-- Assumes nothing.
use Rattle.std.proofs.Common.{ℕ, ◌+◌, refl, sym, subst, add-one, arith}
use Rattle.mending.specs.Walking.{Cleans}
use Rattle.mending.proofs.CleanLines.{clean_within, cleans_within}
use Rattle.mending.proofs.walking.clean_run.Goals as goal

pub loop-n-init : goal.loop-n-init
loop-n-init c = (c.requires.0, refl)

pub clean_length-requires : goal.clean_length-requires
clean_length-requires c = c.loop-n.invariant.0

pub overflow_add-lines : goal.overflow_add-lines
overflow_add-lines c =
    let run = cleans_within c.args.file.now c.args.place c.loop-n.lines c.loop-n.end c.requires.0 c.loop-n.invariant.1 in
    record { fits = omega (arith, run, c.requires.1) }

pub overflow_add-end : goal.overflow_add-end
overflow_add-end c =
    let next = clean_within c.args.file.now c.loop-n.end c.in-Some.n c.in-Some.ensures in
    record { fits = omega (arith, next, c.requires.1) }

pub loop-n-smaller : goal.loop-n-smaller
loop-n-smaller c =
    let next = clean_within c.args.file.now c.loop-n.end c.in-Some.n c.in-Some.ensures in
    omega (arith, next)

pub loop-n-preserved : goal.loop-n-preserved
loop-n-preserved c =
    let next = clean_within c.args.file.now c.loop-n.end c.in-Some.n c.in-Some.ensures in (
      next.1,
      subst (λ (k : ℕ). Cleans c.args.file.now c.args.place k (c.loop-n.end + c.in-Some.n)) (sym (add-one c.loop-n.lines))
          (c.loop-n.end, c.in-Some.n, (c.loop-n.invariant.1, (c.in-Some.ensures, refl))),
    )

pub returns : goal.returns
returns c = c.loop-n.invariant
