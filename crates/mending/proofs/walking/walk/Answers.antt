-- `mending::walking::walk` meets its contract. The loop's invariant: what was given and what is left are all that the texts give.
-- The measure is what is left of the file. Assumes nothing.
use Rattle.std.proofs.Common.{◌≡◌, true, sym, ◌∙◌, arith}
use borrow.Author.Tests.{not-true, not-false}
use Rattle.mending.specs.Walking.{fits}
use Rattle.mending.proofs.Walks.{size_so_far, went-start, refused-answer, refused-outputs, done-answer, end-outputs, may-turn, went-turned}
use Rattle.mending.proofs.walking.walk.Goals as goal
use Rattle.mending.proofs.walking.walk.Goals.{Else-not-t}

pub turns-init : goal.turns-init
turns-init c =
    let args = c.args in
    went-start args.file.now args.place args.at args.room args.out.now args.list.now c.requires

pub returns-then-not-fits : goal.returns-then-not-fits
returns-then-not-fits c =
    let args = c.args in
    let bad = sym c.fits.ensures ∙ c.if-not-fits.true in (
      sym (refused-answer args.file.now args.place args.at args.room args.out.now args.list.now c.requires c.turns.t c.turns.out c.turns.list c.turns.invariant bad),
      refused-outputs args.file.now args.place args.at args.room args.out.now args.list.now c.requires c.turns.t c.turns.out c.turns.list c.turns.invariant bad,
    )

pub returns-then-not-t : goal.returns-then-not-t
returns-then-not-t c =
    let args = c.args in
    let over = not-true c.turns.t.more c.if-not-t.true in
    let fit = sym c.fits.ensures ∙ c.if-not-fits.false in (
      done-answer args.file.now args.place args.at args.room args.out.now args.list.now c.requires c.turns.t c.turns.out c.turns.list c.turns.invariant over fit,
      end-outputs args.file.now args.place args.at args.room args.out.now args.list.now c.requires c.turns.t c.turns.out c.turns.list c.turns.invariant over,
    )

-- what a turn goes by: lines are still looked at, and both fit so far
module _ (on : Else-not-t) where
  more : on.turns.t.more ≡ true
  more = not-false on.turns.t.more on.if-not-t.false

  good : fits (size_so_far on.turns.t) on.args.room ≡ true
  good = sym on.fits.ensures ∙ on.if-not-fits.false

pub turn-t-requires : goal.turn-t-requires
turn-t-requires c =
    let on = (goal.at.turn-t-requires c).Else-not-t in
    let args = c.args in
    may-turn args.file.now args.place args.at args.room args.out.now args.list.now c.requires c.turns.t c.turns.out c.turns.list c.turns.invariant (more on) (good on)

pub turns-smaller : goal.turns-smaller
turns-smaller c =
    let on = (goal.at.turns-smaller c).Else-not-t in
    omega (arith, c.turn-t.ensures.rises, c.turns.invariant.inside (more on))

pub turns-preserved : goal.turns-preserved
turns-preserved c =
    let on = (goal.at.turns-preserved c).Else-not-t in
    let args = c.args in
    went-turned args.file.now args.place args.at args.room args.out.now args.list.now c.requires c.turns.t c.turns.out c.turns.list c.turns.invariant (more on) (good on)
    c.turn-t.result c.turn-t.new.out c.turn-t.new.list c.turn-t.ensures
