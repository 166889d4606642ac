-- `judging::has_form` meets its contract: its tests are those of the definition, in that order.
-- Assumes nothing.
use mathlib.Core.Path.{◌≡◌, sym, ap, ap₂, ◌∙◌}
use Prim.Native.Nat.{ℕ, ◌+◌, ◌-◌, ◌*◌}
use native.Mathlib.Omega.{arith}
use lib.ListN.{length, drop, length-drop}
use lib.Seq.{take_all}
use Rattle.octets.specs.Every.{all_of}
use Rattle.layout.specs.Layout.{records_place, used_length_by, record_count_by}
use Rattle.layout.proofs.Decides.{fact_fails, last_decides}
use Rattle.judging.specs.Judging.{is_zero, form_test}
use Rattle.judging.proofs.Forms.{form_facts, formed_test}
use Rattle.judging.proofs.has_form.Goals as goal
use Rattle.judging.proofs.has_form.Goals.{Start}

-- the used length of the records
used : (g : _) (c : Start g) → records_place + c.args.record_size * c.args.n ≡ used_length_by g.v (record_count_by g.v c.args.book.now)
used g c = ap₂ (λ (size n : ℕ). records_place + size * n) c.requires.2 c.requires.3

pub returns-then-book-size : goal.returns-then-book-size
returns-then-book-size g c =
    sym (fact_fails _ (form_facts g.v _) (formed_test g.v _) (λ formed. c.if-book-size.true (formed.size ∙ sym c.requires.1)))

pub returns-then-book-version : goal.returns-then-book-version
returns-then-book-version g c =
    sym (fact_fails _ (form_facts g.v _) (formed_test g.v _) (λ formed. c.if-book-version.true (formed.version ∙ sym c.requires.0)))

pub returns-then-n-gt-MOST_RECORDS : goal.returns-then-n-gt-MOST_RECORDS
returns-then-n-gt-MOST_RECORDS g c =
    sym (fact_fails _ (form_facts g.v _) (formed_test g.v _)
    (λ formed. omega (arith, c.requires.3, formed.few, c.if-n-gt-MOST_RECORDS.true)))

pub returns-then-number32-used : goal.returns-then-number32-used
returns-then-number32-used g c =
    let start = (goal.at.returns-then-number32-used g c).Start in
    sym (fact_fails _ (form_facts g.v _) (formed_test g.v _)
    (λ formed. c.if-number32-used.true (c.number32.ensures ∙ formed.used ∙ sym (used g start))))

pub returns : goal.returns
returns g c =
    let start = (goal.at.returns g c).Start in
    let book = c.args.book.now in
    let at = records_place + c.args.record_size * c.args.n in
    let tested : c.is_zero.result ≡ all_of is_zero (drop (used_length_by g.v (record_count_by g.v book)) book) =
    c.is_zero.ensures
    ∙ ap (all_of is_zero) (take_all (length book - at) (drop at book) (simp length-drop (omega arith)))
    ∙ ap (λ (k : ℕ). all_of is_zero (drop k book)) (used g start) in
    last_decides (form_test g.v book) (form_facts g.v book) (formed_test g.v book) c.is_zero.result
    (λ formed. tested ∙ formed.rest)
    (λ zeros. record {
      size = c.if-book-size.false ∙ c.requires.1;
      version = c.if-book-version.false ∙ c.requires.0;
      few = omega (arith, c.requires.3, c.if-n-gt-MOST_RECORDS.false);
      used = sym c.number32.ensures ∙ c.if-number32-used.false ∙ used g start;
      rest = sym tested ∙ zeros;
    })
