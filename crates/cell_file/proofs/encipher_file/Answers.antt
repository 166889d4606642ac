-- `cell_file::encipher_file` meets its contract.
use native.Mathlib.Omega.{arith}
use Rattle.octets.specs.Numbers.{Below}
use Rattle.cell_file.proofs.Calls.{rest_fits, rest_number, rest_carried, file_wrote}
use Rattle.cell_file.proofs.encipher_file.Goals as goal

pub gathered-rest-requires : goal.gathered-rest-requires
gathered-rest-requires c =
    rest_fits c.args.file.now (λ i. omega (arith, c.type_inv.file i))

pub put_end-requires : goal.put_end-requires
put_end-requires c =
    rest_carried c.args.file.now (λ i. omega (arith, c.type_inv.file i)) _ c.gathered-rest.ensures

pub returns : goal.returns
returns c =
    let file = c.args.file.now in
    let bytes : Below 256 file = λ i. omega (arith, c.type_inv.file i) in
    file_wrote _ _ file _ _ _ _ bytes (omega arith) (omega arith) (omega arith)
    c.cell_words.ensures c.encipher_blocks.ensures (rest_number file bytes _ c.gathered-rest.ensures) c.put_end.ensures
