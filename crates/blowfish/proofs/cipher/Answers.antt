-- `blowfish::cipher` meets its contract: each round of the code is the next round of the definition.
use Rattle.std.proofs.Common.{◌∙◌, arith}
use Rattle.blowfish.specs.Cipher.{F, block_of}
use Rattle.blowfish.proofs.Rounds.{none, next, sixteen}
use Rattle.blowfish.proofs.cipher.Goals as goal

pub returns : goal.returns
returns g c q word =
    let f = F c.args.words.now in
    let b = block_of c.args.block in
    let e₁ = next f q b 0 (word 0 c.p.result (omega arith) c.p.ensures) c.round-b.ensures (c.from-b.ensures ∙ none f q b) in
    let e₂ = next f q b 1 (word 1 c.p-2.result (omega arith) c.p-2.ensures) c.round-b-2.ensures e₁ in
    let e₃ = next f q b 2 (word 2 c.p-3.result (omega arith) c.p-3.ensures) c.round-b-3.ensures e₂ in
    let e₄ = next f q b 3 (word 3 c.p-4.result (omega arith) c.p-4.ensures) c.round-b-4.ensures e₃ in
    let e₅ = next f q b 4 (word 4 c.p-5.result (omega arith) c.p-5.ensures) c.round-b-5.ensures e₄ in
    let e₆ = next f q b 5 (word 5 c.p-6.result (omega arith) c.p-6.ensures) c.round-b-6.ensures e₅ in
    let e₇ = next f q b 6 (word 6 c.p-7.result (omega arith) c.p-7.ensures) c.round-b-7.ensures e₆ in
    let e₈ = next f q b 7 (word 7 c.p-8.result (omega arith) c.p-8.ensures) c.round-b-8.ensures e₇ in
    let e₉ = next f q b 8 (word 8 c.p-9.result (omega arith) c.p-9.ensures) c.round-b-9.ensures e₈ in
    let e₁₀ = next f q b 9 (word 9 c.p-10.result (omega arith) c.p-10.ensures) c.round-b-10.ensures e₉ in
    let e₁₁ = next f q b 10 (word 10 c.p-11.result (omega arith) c.p-11.ensures) c.round-b-11.ensures e₁₀ in
    let e₁₂ = next f q b 11 (word 11 c.p-12.result (omega arith) c.p-12.ensures) c.round-b-12.ensures e₁₁ in
    let e₁₃ = next f q b 12 (word 12 c.p-13.result (omega arith) c.p-13.ensures) c.round-b-13.ensures e₁₂ in
    let e₁₄ = next f q b 13 (word 13 c.p-14.result (omega arith) c.p-14.ensures) c.round-b-14.ensures e₁₃ in
    let e₁₅ = next f q b 14 (word 14 c.p-15.result (omega arith) c.p-15.ensures) c.round-b-15.ensures e₁₄ in
    let e₁₆ = next f q b 15 (word 15 c.p-16.result (omega arith) c.p-16.ensures) c.round-b-16.ensures e₁₅ in
    c.finish.ensures ∙ sixteen f q b (word 16 c.p-17.result (omega arith) c.p-17.ensures) (word 17 c.p-18.result (omega arith) c.p-18.ensures) e₁₆
