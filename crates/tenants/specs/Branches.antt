-- A branch and its principal on one list: the branch's calls, and those of the principal that enter and withdraw.
use Rattle.std.specs.Prelude.{Bool, true, false, cond, not, ◌&&◌, ◌||◌, List, [], ◌∷◌, ℕ, eqb}
use Rattle.tenants.specs.Rules.{Own}
use Rattle.tenants.specs.Calls.{Call, enter, withdraw, set_days, ask_edition, ask_producer, issue, check, Answer, change_of, answer_of}
use Rattle.tenants.specs.Alone.{Made, after}

-- the calls that change cells: enter and withdraw
abbrev pub changes_cells : Call → Bool
changes_cells (enter cell) = true
changes_cells (withdraw name) = true
changes_cells (set_days days) = false
changes_cells (ask_edition name) = false
changes_cells (ask_producer producer) = false
changes_cells (issue register name expiry level permit room) = false
changes_cells (check hw today line) = false

-- a call of tenant p that enters or withdraws
abbrev pub changes : ℕ → Made → Bool
changes p m = eqb m.tenant p && changes_cells m.call

-- the calls that tenant t's answers go by, which reads the list of tenant p: its own, and p's that enter and withdraw
unfoldable pub calls_on : ℕ → ℕ → List Made → List Made
calls_on t p [] = []
calls_on t p (m ∷ made) = cond (eqb m.tenant t || changes p m) (m ∷ calls_on t p made) (calls_on t p made)

-- the same list as the one has it that keeps it: with that one's quota, and no branch
abbrev pub as_kept : ℕ → Own → Own
as_kept quota own = record {
  setting = record { quota = quota; days = own.setting.days; server = own.setting.server; principal = 0 };
  cells = own.cells;
}

-- the answers that tenant t gets among these calls: to its own by what is its own, while those of p, with p's quota, change the list
unfoldable pub answers_together : ℕ → ℕ → List Made → ℕ → Own → List Answer
answers_together t p [] quota own = []
answers_together t p (m ∷ made) quota own =
    cond (eqb m.tenant t)
    (answer_of t m.call own ∷ answers_together t p made quota (after (change_of t m.call own) own))
    (answers_together t p made quota (after (change_of p m.call (as_kept quota own)) own))

-- tenant p neither enters nor withdraws among these calls
unfoldable pub is_quiet : ℕ → List Made → Bool
is_quiet p [] = true
is_quiet p (m ∷ made) = not (changes p m) && is_quiet p made
