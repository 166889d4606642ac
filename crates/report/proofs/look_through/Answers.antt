-- `report::look_through` meets its contract: no room, a refusal, or the whole report.
-- Assumes nothing.
use Rattle.std.proofs.Common.{◌≡◌, ℕ, ◌≤◌, List, length, refl, sym, ap, ◌∙◌, arith}
use Rattle.text.specs.Texts.{placed}
use Rattle.forms.specs.Refusals.{refusal_number}
use Rattle.report.specs.LookThrough.{file_of, answers_of, refused_text, report, room_for}
use Rattle.report.specs.Turns.{tally_of}
use Rattle.report.proofs.Reports.{no_room, least_room, why_refused, refused_short, report-fits, answered}
use Rattle.report.proofs.look_through.Goals as goal

pub returns-then-out-room_for : goal.returns-then-out-room_for
returns-then-out-room_for c =
    rw (no_room c.args.input.now c.args.out.now (omega (arith, c.if-out-room_for.true, c.room_for.ensures))) (refl, refl)

pub put_refused-requires : goal.put_refused-requires
put_refused-requires c =
    let input = c.args.input.now in
    omega (arith, refused_short c.number.result (omega arith), least_room input, c.room_for.ensures, c.if-out-room_for.false)

pub returns-in-Err : goal.returns-in-Err
returns-in-Err c =
    let input = c.args.input.now in
    let out = c.args.out.now in
    let room : room_for input ≤ length out = omega (arith, c.room_for.ensures, c.if-out-room_for.false) in
    let why : report input ≡ refused_text c.number.result =
    why_refused input c.in-Err.refusal c.in-Err.ensures ∙ ap refused_text (sym c.number.ensures) in
    answered input out room
    (omega (arith, ap length why, refused_short c.number.result (omega arith), least_room input, room))
    c.put_refused.result c.put_refused.new.out
    (c.put_refused.ensures.0 ∙ sym (ap length why))
    (c.put_refused.ensures.1 ∙ sym (ap (λ (l : List ℕ). placed 0 l out) why))

pub list_all-requires : goal.list_all-requires
list_all-requires c = record {
  input_value = ap refusal_number (sym c.in-Ok.ensures);
  input_in_bounds = omega (arith, c.room_for.ensures, c.if-out-room_for.false);
}

pub returns-in-Ok : goal.returns-in-Ok
returns-in-Ok c =
    let input = c.args.input.now in
    let out = c.args.out.now in
    let room : room_for input ≤ length out = omega (arith, c.room_for.ensures, c.if-out-room_for.false) in
    let good = ap refusal_number (sym c.in-Ok.ensures) in
    answered input out room
    (report-fits input good out room (tally_of (length (file_of input)) (answers_of input)) refl)
    c.list_all.result c.list_all.new.out c.list_all.ensures.0 c.list_all.ensures.1
