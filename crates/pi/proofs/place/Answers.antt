-- `pi::place` meets its contract. The invariant: putting what remains of the table gives what putting the whole gave.
use mathlib.Core.Path.{◌≡◌, ap, ap₂, sym, ◌∙◌}
use mathlib.Core.List.{List}
use Prim.Native.Nat.{ℕ, suc, ◌+◌, ◌<◌}
use native.Mathlib.Numerals.{add-one}
use native.Mathlib.Omega.{arith}
use lib.ListN.{length, drop, get_or, set}
use lib.Seq.{sets, drop-cons, drop-length}
use borrow.Author.Rules.{rules}
use Rattle.pi.proofs.place.Goals as goal

pub loop-i-init : goal.loop-i-init
loop-i-init c =
    let e : c.args.at + 0 ≡ c.args.at = omega arith in
    (search rules, ap (λ (n : ℕ). sets c.args.words.now n c.args.table.now) e)

pub loop-i-preserved : goal.loop-i-preserved
loop-i-preserved c =
    let args = c.args in
    let table = args.table.now in
    let now = c.loop-i in
    let at = args.at + now.i in
    let inside : now.i < length table = omega arith in
    let e : args.at + (now.i + 1) ≡ suc at = omega arith in (
      search rules,
      ap₂ (λ (n : ℕ) (rest : List ℕ). sets (set now.words at (get_or table now.i 0)) n rest) e (ap (λ (n : ℕ). drop n table) (add-one now.i))
          ∙ ap (sets now.words at) (sym (drop-cons table now.i 0 inside))
          ∙ now.invariant.1,
    )

pub returns : goal.returns
returns c =
    let args = c.args in
    let table = args.table.now in
    let now = c.loop-i in
    let end : now.i ≡ length table = omega arith in
    record { same = ap (sets now.words (args.at + now.i)) (sym (drop-length table) ∙ ap (λ (n : ℕ). drop n table) (sym end)) ∙ now.invariant.1 }
