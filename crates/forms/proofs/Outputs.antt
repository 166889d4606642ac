-- What a call that writes answers and leaves in the lent output, from what it gives. Assumes nothing.
use mathlib.Core.Path.{◌≡◌, sym, ap, ◌∙◌}
use mathlib.Core.List.{List, ◌++◌}
use Prim.Native.Nat.{ℕ}
use Rattle.std.specs.Prelude.{Ok}
use lib.ListN.{length, drop}
use Rattle.forms.specs.Output.{Output, text, written_of, lent_after, Answered}
use Rattle.forms.specs.Laws.{RefusalAnswered}

pub refused : RefusalAnswered
refused o r before e = (sym (ap written_of e), sym (ap (λ (x : Output). lent_after x before) e))

pub wrote : (o : Output) (t : List ℕ) (n : ℕ) (before after : List ℕ) → o ≡ text t → length t ≡ n → after ≡ t ++ drop n before
    → Answered o before (Ok n) after
wrote o t n before after e size is =
    (sym (ap written_of e ∙ ap Ok size), is ∙ sym (ap (λ (x : Output). lent_after x before) e ∙ ap (λ (k : ℕ). t ++ drop k before) size))
