-- The question for a producer is answered by every record, and as the editions of the producer's cells are.
-- Assumes nothing.
use mathlib.Core.Path.{◌≡◌, refl, sym, ap, ◌∙◌}
use mathlib.Core.Bool.{Bool, true, ◌||◌}
use mathlib.Core.List.{List, [], ◌∷◌}
use mathlib.Core.Option.{Option, none, some}
use Prim.Native.Nat.{ℕ}
use lib.Dec.{eqb}
use Rattle.std.specs.Prelude.{Result, Ok, Err}
use Rattle.octets.proofs.Every.{either}
use Rattle.forms.specs.Identifiers.{is_producer, is_cell_name}
use Rattle.forms.specs.Refusals.{by, refused}
use Rattle.forms.specs.declared.refusals.Refusal.{Refusal}
use Rattle.forms.proofs.Demands.{passed}
use Rattle.tenants.specs.declared.Held.{Held}
use Rattle.tenants.specs.Cells.{cell_of, producer_of, holds_any}
use Rattle.tenants.specs.Rules.{is_tenant, edition_of, asking, asking_producer}
use Rattle.tenants.specs.Together.{BookRecord, tenant_of, name_of, cells_of, own_of}
use Rattle.tenants.proofs.Ordered.{found_name}
use Rattle.tenants.proofs.Producers.{holds_found, one_held, name_producer}
use Rattle.layout.specs.Layout.{book_of, is_book, list_in, own_in}
use Rattle.asking.specs.Asking.{edition_in, holding_in}
use Rattle.asking.proofs.AnswerRules.{edition-ruled, asking-held, holding-any}
use Rattle.asking.proofs.LineWritten.{fits}
use Rattle.book.specs.Producers.{any_record, AsEveryRecord, AsEditions}

-- the cells of a list are the records under its number
every_record : (t producer : ℕ) (records : List BookRecord) → holds_any producer (cells_of t records) ≡ any_record t producer records
unfolding cells_of holds_any any_record
every_record t producer [] = refl
every_record t producer (r ∷ records) =
    either (eqb (tenant_of r) t)
    (λ mine. rw mine (ap (λ (rest : Bool). eqb (producer_of (name_of r)) producer || rest) (every_record t producer records)))
    (λ other. rw other (every_record t producer records))

pub as_every_record_lem : AsEveryRecord
unfolding own_of
as_every_record_lem s t producer undamaged tenant fit =
    holding-any s t producer undamaged tenant fit ∙ ap Ok (every_record (list_in s t) producer (book_of s).records)

-- a refusal is neither yes nor an edition
never_any : {r : Refusal} → ◌≡◌ {A = Result Bool Refusal} (Err r) (Ok true) → ⊥
never_any e = cc

never_edition : {r : Refusal} {e : ℕ} → ◌≡◌ {A = Result ℕ Refusal} (Err r) (Ok e) → ⊥
never_edition e = cc

any_same : {any : Bool} → ◌≡◌ {A = Result Bool Refusal} (Ok any) (Ok true) → any ≡ true
any_same e = cc

-- who is told an edition holds the cell
pub told_held : (held : Option Held) (e : ℕ) → edition_of held ≡ Ok e → (c : Held) × (held ≡ some c)
told_held none e told = absurd (never_edition told)
told_held (some c) e told = (c, refl)

module _ (s : List ℕ) (t : ℕ) where
  -- who holds a cell is told its edition
  held_told : is_book s ≡ true → is_tenant t ≡ true → (name : ℕ) (c : Held) → cell_of name (own_in s t).cells ≡ some c
      → edition_in s t name ≡ Ok c.edition
  held_told undamaged tenant name c found =
      edition-ruled t name s undamaged
      ∙ asking-held t name (own_in s t) tenant
      (ap is_cell_name (sym (found_name name (own_in s t).cells c found)) ∙ (fits s t undamaged tenant name c found).name) c found

  -- where the answer is yes a name is held, and asking gives its edition
  module _ (producer : ℕ) (yes : holding_in s t producer ≡ Ok true) where
    any-passed : (is_book s ≡ true) × (is_tenant t ≡ true) × (holds_any producer (own_in s t).cells ≡ true)
    unfolding holding_in asking_producer
    any-passed =
        let is_yes : Result Bool Refusal → Type 0 = λ (h : Result Bool Refusal). h ≡ Ok true in
        let book = passed is_yes (is_book s) (refused (by 101)) (asking_producer t producer (own_in s t)) never_any yes in
        let tenant = passed is_yes (is_tenant t) (refused (by 102)) _ never_any book.1 in
        let fit = passed is_yes (is_producer producer) (refused (by 103)) _ never_any tenant.1 in
        (book.0, tenant.0, any_same fit.1)

    edition-told : (name : ℕ) × (e : ℕ) × (producer_of name ≡ producer) × (edition_in s t name ≡ Ok e)
    edition-told =
        let so = any-passed in
        let one = one_held producer (own_in s t).cells so.2 in
        (one.0, one.1.edition, one.2, held_told so.0 so.1 one.0 one.1 one.3)

  -- and where asking gives an edition the answer for its producer is yes
  module _ (name e : ℕ) (told : edition_in s t name ≡ Ok e) where
    pub edition-passed : (is_book s ≡ true) × (is_tenant t ≡ true) × (is_cell_name name ≡ true) × (edition_of (cell_of name (own_in s t).cells) ≡ Ok e)
    unfolding edition_in asking
    edition-passed =
        let is_told : Result ℕ Refusal → Type 0 = λ (a : Result ℕ Refusal). a ≡ Ok e in
        let book = passed is_told (is_book s) (refused (by 101)) (asking t name (own_in s t)) never_edition told in
        let tenant = passed is_told (is_tenant t) (refused (by 102)) _ never_edition book.1 in
        let named = passed is_told (is_cell_name name) (refused (by 103)) _ never_edition tenant.1 in
        (book.0, tenant.0, named.0, named.1)

    any_told : holding_in s t (producer_of name) ≡ Ok true
    any_told =
        let so = edition-passed in
        let held = told_held (cell_of name (own_in s t).cells) e so.3 in
        holding-any s t (producer_of name) so.0 so.1 (name_producer name so.2)
        ∙ ap Ok (holds_found (producer_of name) name (own_in s t).cells held.0 refl held.1)

pub as_editions : AsEditions
as_editions s t producer = (edition-told s t producer, back)
  where
    back : ((name : ℕ) × (e : ℕ) × (producer_of name ≡ producer) × (edition_in s t name ≡ Ok e)) → holding_in s t producer ≡ Ok true
    back given = ap (holding_in s t) (sym given.2) ∙ any_told s t given.0 given.1 given.3
