-- A tenant by itself: its own calls, one after the other, on its own list.
use Rattle.std.specs.Prelude.{cond, List, [], ◌∷◌, ℕ, eqb}
use Rattle.tenants.specs.declared.Setting.{Setting}
use Rattle.tenants.specs.Cells.{entered, withdrawn}
use Rattle.tenants.specs.Rules.{Own, Change, enters, withdraws, sets, nothing, refuses}
use Rattle.tenants.specs.Calls.{Call, Answer, change_of, answer_of}

-- a call made by a tenant
pub record Made : Type 0 where
  pub tenant : ℕ
  pub call : Call

-- the calls of tenant t among those of all, in their order
unfoldable pub calls_of : ℕ → List Made → List Call
calls_of t [] = []
calls_of t (m ∷ made) = cond (eqb m.tenant t) (m.call ∷ calls_of t made) (calls_of t made)

-- a setting with other warning days
abbrev pub with_days : ℕ → Setting → Setting
with_days days setting = record { quota = setting.quota; days = days; server = setting.server; principal = setting.principal }

-- what is the tenant's own after a change
abbrev pub after : Change → Own → Own
after (enters cell) own = record { setting = own.setting; cells = entered cell own.cells }
after (withdraws name) own = record { setting = own.setting; cells = withdrawn name own.cells }
after (sets days) own = record { setting = with_days days own.setting; cells = own.cells }
after nothing own = own
after (refuses r) own = own

-- the answers to the calls, each made on what the calls before it left
unfoldable pub answers_alone : ℕ → List Call → Own → List Answer
answers_alone t [] own = []
answers_alone t (c ∷ calls) own = answer_of t c own ∷ answers_alone t calls (after (change_of t c own) own)

-- what is the tenant's own after the calls
unfoldable pub own_alone : ℕ → List Call → Own → Own
own_alone t [] own = own
own_alone t (c ∷ calls) own = own_alone t calls (after (change_of t c own) own)
