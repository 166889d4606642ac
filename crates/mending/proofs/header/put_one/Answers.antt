-- `mending::header::put_one` meets its contract.
-- Assumes nothing.
use mathlib.Core.Path.{◌≡◌, ap}
use Prim.Native.Nat.{ℕ, ◌+◌}
use native.Mathlib.Omega.{arith}
use lib.ListN.{length}
use Rattle.mended_lines.specs.Gives.{Gives, header_gives}
use Rattle.mended_lines.specs.declared.Places.{Places}
use Rattle.mended_lines.specs.declared.Given.{Given}
use Rattle.mending.specs.Walking.{text_between}
use Rattle.mending.proofs.header.put_one.Goals as goal
use Rattle.mending.proofs.header.put_one.Goals.{After-put_header_line-g}

-- places by their parts
abbrev places : ℕ → ℕ → Places
places file list = record { file = file; list = list }

-- both lengths
module _ (put : After-put_header_line-g) where
  abbrev g : Gives
  g = header_gives put.args.count (text_between put.args.file.now put.args.from put.args.to)

  file_size : put.put_header_line-g.result.file ≡ length g.file
  file_size = ap (λ (r : Given). r.file) put.put_header_line-g.ensures.0

  list_size : put.put_header_line-g.result.list ≡ length g.list
  list_size = ap (λ (r : Given). r.list) put.put_header_line-g.ensures.0

pub overflow_add-result : goal.overflow_add-result
overflow_add-result c =
    let put = (goal.at.overflow_add-result c).After-put_header_line-g in
    record { fits = omega (arith, file_size put, c.requires.room.0.0) }

pub overflow_add-result-2 : goal.overflow_add-result-2
overflow_add-result-2 c =
    let put = (goal.at.overflow_add-result-2 c).After-put_header_line-g in
    record { fits = omega (arith, list_size put, c.requires.room.1.0) }

pub returns : goal.returns
returns c =
    let at = c.args.at in (
      ap (λ (r : Given). places (at.file + r.file) (at.list + r.list)) c.put_header_line-g.ensures.0,
      c.put_header_line-g.ensures.1,
    )
