-- `mending::header::is_good` meets its contract: only 40 bytes are judged.
-- Assumes nothing.
use mathlib.Core.Path.{◌≡◌, refl, sym, ap, ◌∙◌}
use mathlib.Core.Logic.{inl, inr}
use Prim.Native.Nat.{ℕ}
use native.Mathlib.Omega.{arith}
use lib.ListN.{length, replicate, length-replicate}
use Rattle.text.proofs.PlacedTexts.{placed_whole}
use Rattle.permit_file.specs.File.{is_header}
use Rattle.mended_lines.specs.declared.Places.{Places}
use Rattle.mending.specs.Walking.{header_of, size_of}
use Rattle.mending.proofs.HeaderTexts.{header_list, other_size, forty_bytes}
use Rattle.mending.proofs.header.is_good.Goals as goal
use Rattle.mending.proofs.header.is_good.Goals.{After-header_sizes-size, Else-size-ne40}

-- the header's length, as it was measured
measured : (sized : After-header_sizes-size)
    → sized.header_sizes-size.result.file ≡ length (header_of sized.args.file.now sized.args.e).file
unfolding size_of
measured sized = ap (λ (p : Places). p.file) sized.header_sizes-size.ensures

pub returns-then-size-ne40 : goal.returns-then-size-ne40
returns-then-size-ne40 c =
    let sized = (goal.at.returns-then-size-ne40 c).After-header_sizes-size in
    sym (other_size c.args.file.now c.args.e c.requires (λ forty. c.if-size-ne40.true (measured sized ∙ forty)))

-- where they are forty
forty : (c : Else-size-ne40)
    → length (header_of c.args.file.now c.args.e).file ≡ 40
forty c = sym (measured (goal.at.Else-size-ne40 c).After-header_sizes-size) ∙ c.if-size-ne40.false

pub put_header-requires : goal.put_header-requires
put_header-requires c =
    let fits = (goal.at.put_header-requires c).Else-size-ne40 in
    let file = c.args.file.now in
    let e = c.args.e in record {
      file_value = c.requires;
      takes = (
        (omega (arith, forty fits), inl (omega (arith, forty fits))),
        (omega (arith, header_list file e), inr refl),
      );
    }

pub returns : goal.returns
returns c =
    let fits = (goal.at.returns c).Else-size-ne40 in
    let file = c.args.file.now in
    let e = c.args.e in
    c.is_header.ensures
    ∙ ap is_header (c.put_header.ensures.1.0 ∙ placed_whole (header_of file e).file (replicate 40 0) (forty fits ∙ sym (length-replicate {A = ℕ} 40 0)))
    ∙ sym (forty_bytes file e c.requires (forty fits))
