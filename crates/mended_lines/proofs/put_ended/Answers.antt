-- `mended_lines::put_ended` meets its contract, by what becomes of the line.
-- Assumes nothing.
use Rattle.std.proofs.Common.{◌≡◌, refl, sym, ◌∙◌}
use Rattle.text.proofs.PlacedTexts.{placed_none}
use Rattle.mailed_lines.specs.Mailed.{line_of, unblanked, fate_of}
use Rattle.mailed_lines.specs.declared.Fate.{Fate}
use Rattle.mailed_lines.specs.declared.Fate.TheVariants.{Kept, Last, Out}
use Rattle.mailed_lines.proofs.Fates.{last_is}
use Rattle.mended_lines.specs.Gives.{Gives, gives_by}
use Rattle.mended_lines.proofs.BothPut.{same_gave, gave_both}
use Rattle.mended_lines.proofs.LineGives.{by_fate, kept_gives, last_gives_lem, out_gives}
use Rattle.mended_lines.proofs.put_ended.Goals as goal
use Rattle.mended_lines.proofs.put_ended.Goals.{After-fate_of}

-- what it gives, by what becomes of it
module _ (told : After-fate_of) (f : Fate) (found : told.fate_of.result ≡ f) where
  fate : fate_of told.unblanked-left.result.now ≡ f
  fate = sym told.fate_of.ensures ∙ found

  same : (g : Gives) → gives_by f told.args.count told.args.text.now told.args.after.now ≡ g
      → gives_by (fate_of (unblanked (line_of told.args.text.now))) told.args.count told.args.text.now told.args.after.now ≡ g
  same g is =
      by_fate told.args.count told.args.text.now _ _ told.line_of-line.ensures.0 told.unblanked-left.ensures.0 f told.args.after.now fate ∙ is

pub returns-in-Kept : goal.returns-in-Kept
returns-in-Kept c =
    let told = (goal.at.returns-in-Kept c).After-fate_of in
    let args = c.args in
    gave_both _ _
    (same told Kept c.in-Kept.is _ (kept_gives args.count args.text.now _ _ c.line_of-line.ensures.0 c.unblanked-left.ensures.0 args.after.now))
    args.at args.out.now args.list.now
    c.put_two.result c.put_faults.result c.put_two.new.out c.put_faults.new.list c.put_two.ensures c.put_faults.ensures

pub returns-in-Last : goal.returns-in-Last
returns-in-Last c =
    let told = (goal.at.returns-in-Last c).After-fate_of in
    let args = c.args in
    let ended = last_is c.unblanked-left.result.now (fate told Last c.in-Last.is) in
    same_gave _ _
    (same told Last c.in-Last.is _
    (last_gives_lem args.count args.text.now _ _ c.line_of-line.ensures.0 c.unblanked-left.ensures.0 args.after.now ended))
    args.at args.out.now args.list.now
    c.put_last.result c.put_last.new.out c.put_last.new.list c.put_last.ensures

pub returns-in-Out : goal.returns-in-Out
returns-in-Out c =
    let told = (goal.at.returns-in-Out c).After-fate_of in
    let args = c.args in
    gave_both _ _
    (same told Out c.in-Out.is _ (out_gives args.count args.text.now _ _ c.line_of-line.ensures.0 c.unblanked-left.ensures.0 args.after.now))
    args.at args.out.now args.list.now
    0 c.put_out-listed.result args.out.now c.put_out-listed.new.list
    (refl, sym (placed_none args.at.file args.out.now)) c.put_out-listed.ensures
