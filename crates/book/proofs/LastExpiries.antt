-- Issue is what it was before there were last expiries, but that a line is refused where the expiry is too late for its cell.
-- Assumes nothing.
use mathlib.Core.Path.{◌≡◌, refl}
use mathlib.Core.Bool.{Bool, true, false, ◌&&◌, false≢true}
use mathlib.Core.List.{List}
use mathlib.Core.Option.{Option, none, some}
use Prim.Native.Nat.{ℕ}
use borrow.Author.Tests.{ne_eqb, eqb-false, lt-leb, leb-false}
use lib.Dec.{leb, eqb}
use Rattle.std.specs.Prelude.{Result, Ok, Err}
use Rattle.octets.proofs.Every.{either}
use Rattle.dates.specs.Calendar.{is_date}
use Rattle.forms.specs.Order.{demand}
use Rattle.forms.specs.Identifiers.{is_cell_name}
use Rattle.forms.specs.Output.{Output, text, refusal}
use Rattle.forms.specs.Refusals.{by}
use Rattle.user_permit.specs.Register.{is_register}
use Rattle.forms.specs.declared.refusals.Refusal.{Refusal}
use Rattle.user_permit.specs.UserPermit.{read_permit}
use Rattle.user_permit.specs.declared.Ship.{Ship}
use Rattle.tenants.specs.declared.Held.{Held}
use Rattle.tenants.specs.declared.Setting.{Setting}
use Rattle.tenants.specs.Cells.{cell_of}
use Rattle.tenants.specs.Rules.{is_tenant, in_time, line_for, issuing}
use Rattle.tenants.specs.Version1.{line_for_before, issuing_before}
use Rattle.layout.specs.Layout.{own_in}
use Rattle.asking.specs.Asking.{issued_from}
use Rattle.book.specs.LastExpiry.{TooLate, LateRefused}

module _ (cell : Held) (expiry : ℕ) where
  late : TooLate cell expiry → in_time cell expiry ≡ false
  unfolding in_time
  late too = rw (ne_eqb cell.last 0 too.0, lt-leb expiry cell.last too.1)

  early : (TooLate cell expiry → ⊥) → in_time cell expiry ≡ true
  unfolding in_time
  early not =
      either (eqb cell.last 0)
      (λ without. rw without)
      (λ has. either (leb expiry cell.last)
      (λ low. rw (has, low))
      (λ high. absurd (not (eqb-false cell.last 0 has, leb-false expiry cell.last high))))

no_line : {r : Refusal} {line : List ℕ} → refusal r ≡ text line → ⊥
no_line same = let never : false ≡ true = cc in false≢true never

-- what was given, and what is given: the same refusal, or of a line that of its cell
module _ (cell : Option Held) (expiry : ℕ) where
  pub record Limits (before now : Output) : Type 0 where
    pub refused : (r : Refusal) → before ≡ refusal r → now ≡ refusal r
    pub lined : (line : List ℕ) → before ≡ text line
        → (it : Held) × (cell ≡ some it) × ((TooLate it expiry → now ≡ refusal (by 112)) × ((TooLate it expiry → ⊥) → now ≡ text line))

  -- a refusal that comes first
  first : (test : Bool) (r : Refusal) (before now : Output) → Limits before now → Limits (demand test (refusal r) before) (demand test (refusal r) now)
  first true r before now limits = limits
  first false r before now limits = record { refused = λ x same. same; lined = λ line same. absurd (no_line same) }

lines : (ship : Result Ship Refusal) (cell : Option Held) (setting : Setting) (expiry level : ℕ)
    → Limits cell expiry (line_for_before ship cell setting expiry level) (line_for ship cell setting expiry level)
lines (Err r) cell setting expiry level = record { refused = λ x same. same; lined = λ line same. absurd (no_line same) }
lines (Ok ship) none setting expiry level = record { refused = λ x same. same; lined = λ line same. absurd (no_line same) }
lines (Ok ship) (some cell) setting expiry level = record {
  refused = λ x same. cc;
  lined = λ line same. (cell, refl, (λ too. rw (late cell expiry too), λ not. rw (early cell expiry not) same));
}

pub late_refused : LateRefused
unfolding issued_from issuing issuing_before
late_refused s register permit t name expiry level room undamaged =
    let cell = cell_of name (own_in s t).cells in
    let limits =
    first cell expiry (is_register register) (by 109) _ _
    (first cell expiry (is_tenant t) (by 102) _ _
    (first cell expiry (leb 76 room) (by 108) _ _
    (first cell expiry (is_cell_name name && is_date expiry && leb level 1) (by 103) _ _
    (lines (read_permit register permit) cell (own_in s t).setting expiry level)))) in
    (λ r before. rw undamaged (limits.refused r before), λ line before. rw undamaged (limits.lined line before))
