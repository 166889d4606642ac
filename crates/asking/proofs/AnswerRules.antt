-- What the rules answer to both ways of asking, to issuing and to checking where nothing is refused before; and the cell that the search finds.
-- Assumes nothing.
use mathlib.Core.Path.{◌≡◌, refl, sym, ap, ◌∙◌}
use mathlib.Core.Bool.{true, false, ◌&&◌}
use mathlib.Core.List.{List}
use mathlib.Core.Option.{Option, none, some}
use Prim.Native.Nat.{ℕ, ◌<◌}
use lib.Dec.{leb}
use Rattle.std.specs.Prelude.{Result, Ok, Err, Option as StdOption, Some}
use Rattle.std.specs.Option.{ok_or}
use Rattle.octets.proofs.Every.{either}
use Rattle.dates.specs.Calendar.{is_date}
use Rattle.dates.specs.Notice.{is_days}
use Rattle.forms.specs.Identifiers.{is_hw_id, is_producer, is_cell_name}
use Rattle.forms.specs.Output.{Output, refusal, Answered}
use Rattle.forms.specs.Refusals.{by}
use Rattle.forms.specs.declared.refusals.Refusal.{Refusal}
use Rattle.user_permit.specs.Register.{is_register}
use Rattle.user_permit.specs.UserPermit.{read_permit}
use Rattle.cell_permit.specs.CellPermit.{written_line}
use Rattle.cell_permit.specs.Line.{given_answer, read_line}
use Rattle.tenants.specs.declared.Held.{Held}
use Rattle.tenants.specs.declared.Setting.{Setting}
use Rattle.tenants.specs.Cells.{cell_of, holds_any}
use Rattle.tenants.specs.Rules.{Own, is_tenant, edition_of, asking, asking_producer, line_cell, in_time, line_for, issuing, checking}
use Rattle.tenants.specs.Together.{names}
use Rattle.layout.specs.Layout.{is_book, list_in, own_in}
use Rattle.judging.specs.Starts.{judged}
use Rattle.judging.specs.declared.Records.{Records}
use Rattle.judging.proofs.Judgements.{judged_says}
use Rattle.records.specs.declared.finding.Found.{Found}
use Rattle.records.specs.declared.finding.Found.TheVariants.{At, Absent}
use Rattle.records.specs.Finding.{searched, searched_for}
use Rattle.records.proofs.OwnFound.{searches_own, finds_held, finds_none}
use Rattle.asking.specs.Issuing.{found_cell, held_cell, line_written}
use Rattle.asking.specs.Asking.{edition_in, holding_in, issued_from, checked_by}

-- what one output answers and leaves, an equal one does
pub answered_same : (o same : Output) (before : List ℕ) (answer : Result ℕ Refusal) (after : List ℕ) → o ≡ same
    → Answered same before answer after → Answered o before answer after
answered_same o same before answer after e answered = rw e answered

-- an undamaged book, by what judging it tells
pub judged_undamaged : (s : List ℕ) (t : ℕ) (r : Records) → judged s t ≡ Some r → is_book s ≡ true
judged_undamaged s t r so = (judged_says s (list_in s t) r so).0

-- among the records where the tenant's stand the search finds the cell that it holds under a name, if any; else 104
pub finds_own : (s : List ℕ) (t name : ℕ) (r : Records) → judged s t ≡ Some r → name < names
    → (held : StdOption Held) → held ≡ found_cell s (searched s r.first r.past name) → ok_or held (by 104) ≡ held_cell (cell_of name (own_in s t).cells)
finds_own s t name r so small held is =
    ap (λ (h : StdOption Held). ok_or h (by 104)) (is ∙ ap (found_cell s) (searches_own s t name r so)) ∙ go (searched_for s t name) refl
  where
    go : (f : Found) → searched_for s t name ≡ f → ok_or (found_cell s f) (by 104) ≡ held_cell (cell_of name (own_in s t).cells)
    go (At i) found = ap held_cell (sym (finds_held s t name i (judged_undamaged s t r so) small found))
    go (Absent i) found = ap held_cell (sym (finds_none s t name i (judged_undamaged s t r so) small found))

-- what is said of a cell that is held, or not
module _ (cell : Option Held) where
  pub is_held_cell : (it : Held) → held_cell cell ≡ Ok it → cell ≡ some it
  is_held_cell it so = go cell so
    where
      go : (c : Option Held) → held_cell c ≡ Ok it → c ≡ some it
      go none so = cc
      go (some c) so = cc

  -- the edition of one that is found, or the refusal
  pub edition_found : (it : Held) → held_cell cell ≡ Ok it → edition_of cell ≡ Ok it.edition
  edition_found it so = ap edition_of (is_held_cell it so)

  pub edition_refused : (r : Refusal) → held_cell cell ≡ Err r → edition_of cell ≡ Err r
  edition_refused r so = go cell so
    where
      same : (x : Refusal) → ◌≡◌ {A = Result Held Refusal} (Err x) (Err r) → ◌≡◌ {A = Result ℕ Refusal} (Err x) (Err r)
      same x e = cc

      go : (c : Option Held) → held_cell c ≡ Err r → edition_of c ≡ Err r
      go none so = same _ so
      go (some c) so = cc

module _ (t name : ℕ) where
  pub edition-ruled : (s : List ℕ) → is_book s ≡ true → edition_in s t name ≡ asking t name (own_in s t)
  unfolding edition_in
  edition-ruled s undamaged = rw undamaged

  pub asking-named : (own : Own) → is_tenant t ≡ true → is_cell_name name ≡ true → asking t name own ≡ edition_of (cell_of name own.cells)
  unfolding asking
  asking-named own tenant fit = rw (tenant, fit)

  pub asking-held : (own : Own) → is_tenant t ≡ true → is_cell_name name ≡ true → (it : Held) → cell_of name own.cells ≡ some it
      → asking t name own ≡ Ok it.edition
  asking-held own tenant fit it held = asking-named own tenant fit ∙ rw held

pub holding-any : (s : List ℕ) (t producer : ℕ) → is_book s ≡ true → is_tenant t ≡ true → is_producer producer ≡ true
    → holding_in s t producer ≡ Ok (holds_any producer (own_in s t).cells)
unfolding holding_in asking_producer
holding-any s t producer undamaged tenant fit = rw (undamaged, tenant, fit)

-- what is issued where nothing is refused before the line
pub issued-line : (s register : List ℕ) (t name expiry level : ℕ) (permit : List ℕ) (room : ℕ) → is_book s ≡ true → is_register register ≡ true
    → is_tenant t ≡ true → leb 76 room ≡ true → (is_cell_name name && is_date expiry && leb level 1) ≡ true
    → issued_from s register t name expiry level permit room
    ≡ line_for (read_permit register permit) (cell_of name (own_in s t).cells) (own_in s t).setting expiry level
unfolding issued_from issuing
issued-line s register t name expiry level permit room undamaged registered tenant long fit = rw (undamaged, registered, tenant, long, fit)

-- the line of a cell that the search found, or did not find
module _ (hw expiry level room : ℕ) (cell : Option Held) (setting : Setting) where
  pub line-absent : (before : List ℕ) (r : Refusal) → held_cell cell ≡ Err r → Answered (line_written hw cell setting expiry level room) before (Err r) before
  line-absent before r so = go cell so
    where
      same : (x : Refusal) → ◌≡◌ {A = Result Held Refusal} (Err x) (Err r) → ◌≡◌ {A = Result ℕ Refusal} (Err r) (Err x)
      same x e = cc

      go : (c : Option Held) → held_cell c ≡ Err r → Answered (line_written hw c setting expiry level room) before (Err r) before
      go none so = (same _ so, refl)
      go (some c) so = cc

  module _ (it : Held) (held : held_cell cell ≡ Ok it) where
    pub line-late : in_time it expiry ≡ false → line_written hw cell setting expiry level room ≡ refusal (by 112)
    line-late late = rw (is_held_cell cell it held, late)

    pub line-held : (own : Setting) → setting ≡ own → in_time it expiry ≡ true
        → line_written hw cell setting expiry level room ≡ written_line hw (line_cell own it expiry level) room
    line-held own is early = rw (is_held_cell cell it held, is, early)

-- with warning days the line is read as a call by itself reads it
pub checked-line : (s : List ℕ) (t hw today : ℕ) (line : List ℕ) (setting : Setting) → is_book s ≡ true → is_tenant t ≡ true
    → (own_in s t).setting ≡ setting → is_days setting.days ≡ true → checked_by s t hw today line ≡ read_line hw today setting.days line
unfolding checked_by checking read_line given_answer is_days
checked-line s t hw today line setting undamaged tenant is days =
    rw (undamaged, tenant, is, days)
    (either (is_hw_id hw)
    (λ ship. rw ship (either (is_date today) (λ date. rw date refl) (λ no. rw no refl)))
    (λ no. rw no refl))
