-- `report::rows::list_lines` meets its contract. The loop's invariant: the answers that are listed and those that are left are all answers.
-- The measure is what is left of the file. Assumes nothing.
use Rattle.std.specs.Prelude.{Result}
use mathlib.Core.Path.{refl, ap, ◌∙◌}
use mathlib.Core.List.{List}
use Prim.Native.Nat.{ℕ, ◌≤◌}
use native.Mathlib.Omega.{arith}
use lib.ListN.{length}
use Rattle.octets.specs.Every.{count_of}
use Rattle.text.proofs.PlacedTexts.{length-placed}
use Rattle.forms.specs.declared.refusals.Refusal.{Refusal}
use Rattle.cell_permit.specs.declared.Record.{Record}
use Rattle.cell_permit.specs.Line.{read_with}
use Rattle.cell_permit.proofs.LineNumbers.{two_digits}
use Rattle.permit_file.specs.File.{step_by}
use Rattle.report.specs.LookThrough.{rows_from}
use Rattle.report.specs.Turns.{tally_of}
use Rattle.report.specs.declared.rows.Tally.{Tally}
use Rattle.report.proofs.Room.{Short}
use Rattle.report.proofs.Listing.{Fitting, going_start, few, turn-fits, going-turned, turn-rises, all-tallied, all-written}
use Rattle.report.proofs.rows.list_lines.Goals as goal
use Rattle.report.proofs.rows.list_lines.Goals.{At-loop-t}

pub loop-t-init : goal.loop-t-init
unfolding tally_of rows_from count_of
loop-t-init c =
    going_start (read_with c.args.words.now c.args.today c.args.days) c.args.file.now c.args.out.now
    (record { within = c.requires.in_bounds.0; size = c.requires.in_bounds.1; room = c.requires.file_in_bounds })

module _ (at : At-loop-t) where
  abbrev file : List ℕ
  file = at.args.file.now

  abbrev start : List ℕ
  start = at.args.out.now

  abbrev read : List ℕ → Result Record Refusal
  read =
      let args = at.args in
      read_with args.words.now args.today args.days

  opened : Fitting file start
  opened = record { within = at.requires.in_bounds.0; size = at.requires.in_bounds.1; room = at.requires.file_in_bounds }

  short : Short read
  short =
      let args = at.args in
      two_digits args.words.now args.today args.days

pub turn-t-requires : goal.turn-t-requires
turn-t-requires c =
    let at = (goal.at.turn-t-requires c).At-loop-t in
    let t = c.loop-t.t in
    let out = c.loop-t.out in record {
      few = few (read at) (file at) (start at) (opened at) t out c.loop-t.invariant;
      t_in_bounds = turn-fits (read at) (file at) (start at) (opened at) t out c.loop-t.invariant (short at)
          (step_by (read at) (file at) t.place) refl;
    }

pub loop-t-smaller : goal.loop-t-smaller
loop-t-smaller c =
    let at = (goal.at.loop-t-smaller c).At-loop-t in
    let t = c.loop-t.t in
    let place = ap (λ (u : Tally). u.place) c.turn-t.ensures.0 in
    omega (
      arith,
      place,
      c.loop-t.invariant.within,
      turn-rises (read at) (file at) (start at) (opened at) t c.loop-t.out c.loop-t.invariant (short at)
          (step_by (read at) (file at) t.place) refl c.loop-t-test.true,
    )

pub loop-t-preserved : goal.loop-t-preserved
loop-t-preserved c =
    let at = (goal.at.loop-t-preserved c).At-loop-t in
    let t = c.loop-t.t in
    rw (c.turn-t.ensures.0, c.turn-t.ensures.1)
    (going-turned (read at) (file at) (start at) (opened at) t c.loop-t.out c.loop-t.invariant (short at)
    (step_by (read at) (file at) t.place) refl)

pub shape_of-out : goal.shape_of-out
shape_of-out c =
    let at = (goal.at.shape_of-out c).At-loop-t in
    ap length c.loop-t.invariant.written ∙ length-placed 0 (rows_from 1 c.loop-t.invariant.done) (start at)

pub returns : goal.returns
returns c =
    let at = (goal.at.returns c).At-loop-t in
    let t = c.loop-t.t in
    let ended : length (file at) ≤ t.place = omega (arith, c.loop-t-test.false) in (
      all-tallied (read at) (file at) (start at) (opened at) t c.loop-t.out c.loop-t.invariant ended,
      all-written (read at) (file at) (start at) (opened at) t c.loop-t.out c.loop-t.invariant ended,
    )
