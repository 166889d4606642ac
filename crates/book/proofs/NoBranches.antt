-- Where no tenant is a branch, what the book promised before there were any follows.
-- Assumes nothing.
use mathlib.Core.Path.{◌≡◌, sym, ap, ◌∙◌}
use mathlib.Core.List.{List}
use Prim.Native.Nat.{ℕ}
use Rattle.std.specs.Prelude.{Ok}
use Rattle.octets.proofs.Every.{never_both}
use Rattle.tenants.specs.Rules.{Own, names_none}
use Rattle.tenants.specs.Together.{own_of}
use Rattle.tenants.proofs.Kept.{own_list}
use Rattle.layout.specs.Layout.{book_of, list_in, own_in}
use Rattle.book.specs.Mixed.{IsBranch}
use Rattle.book.specs.Producers.{any_record}
use Rattle.book.specs.NoBranches.{NoBranches, OldPromises}
use Rattle.book.proofs.Mixes.{mixing, own_answers_lem, nothing_else_lem}
use Rattle.book.proofs.Untouched.{others_untouched_lem}
use Rattle.book.proofs.DoneCalls.{enter_done_lem, withdraw_done_lem}
use Rattle.book.proofs.QuotaRules.{quota_decides_lem, held_replaced_lem}
use Rattle.book.proofs.Producers.{as_every_record_lem}

module _ (s : List ℕ) (none : NoBranches s) (t : ℕ) where
  no_branch_lem : IsBranch s t → ⊥
  no_branch_lem branch = never_both (names_none (own_in s t).setting) branch (none t)

  reads_own : list_in s t ≡ t
  reads_own = own_list t (book_of s) (unfold own_of in none t)

pub old_promises : OldPromises
old_promises s undamaged none = record {
  mixing = λ some others. mixing s some others undamaged;
  own_answers = λ made t. own_answers_lem s made t undamaged (λ branch. absurd (no_branch_lem s none t branch));
  nothing_else = λ s' t call undamaged' same. nothing_else_lem s s' t call undamaged undamaged' (record {
    cells = ap (λ (o : Own). o.cells) same;
    quota = ap (λ (o : Own). o.setting.quota) same;
    days = ap (λ (o : Own). o.setting.days) same;
    server = ap (λ (o : Own). o.setting.server) same;
    branch = ap (λ (o : Own). names_none o.setting) same;
  });
  others_untouched = λ t u call apart. others_untouched_lem s t u call undamaged apart (λ e. apart (sym (reads_own s none u) ∙ e));
  enter_done = λ t cell done.
      let it = enter_done_lem s t cell done in
      (it.gives t it.own, (it.others t it.own, it.setting t it.own));
  withdraw_done = λ t name done.
      let it = withdraw_done_lem s t name done in
      (it.gives t it.own, (it.others t it.own, it.setting t it.own));
  quota_decides = λ t cell tenant held. quota_decides_lem s t cell undamaged tenant held (none t);
  held_replaced = λ t cell old tenant held. held_replaced_lem s t cell old undamaged tenant held (none t);
  as_every_record = λ t producer tenant right.
      as_every_record_lem s t producer undamaged tenant right ∙ ap (λ (l : ℕ). Ok (any_record l producer (book_of s).records)) (reads_own s none t);
}
