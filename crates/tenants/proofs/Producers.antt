-- Whether any cell of a list is of a producer: by the first, by names in order, and by what is held under a name.
-- Assumes nothing.
use mathlib.Core.Path.{◌≡◌, refl, sym, ap, ◌∙◌}
use mathlib.Core.Bool.{true, false}
use mathlib.Core.List.{List, [], ◌∷◌}
use mathlib.Core.Option.{some}
use Prim.Native.Nat.{ℕ, ◌/◌, ◌%◌, ◌^◌, ◌<◌}
use native.Mathlib.Omega.{arith}
use borrow.Author.Tests.{lt-ltb, eq-eqb, ne_eqb}
use Rattle.octets.specs.Numbers.{digits}
use Rattle.octets.specs.Every.{all_of}
use Rattle.octets.proofs.Every.{never_both, all_first, all_rest}
use Rattle.text.specs.Characters.{is_name_character}
use Rattle.forms.specs.Identifiers.{is_text, is_producer, is_cell_name}
use Rattle.forms.proofs.Fits.{text_fits, text_all}
use Rattle.tenants.specs.declared.Held.{Held}
use Rattle.tenants.specs.Cells.{cell_of, producer_of, holds_any}
use Rattle.tenants.proofs.Ordered.{Above, equal_or_not, found_here, found_later}

-- one cell more in front
module _ (producer : ℕ) (c : Held) (cells : List Held) where
  pub holds_first : producer_of c.name ≡ producer → holds_any producer (c ∷ cells) ≡ true
  unfolding holds_any
  holds_first its = rw (eq-eqb (producer_of c.name) producer its)

  pub holds_rest : (producer_of c.name ≡ producer → ⊥) → holds_any producer (c ∷ cells) ≡ holds_any producer cells
  unfolding holds_any
  holds_rest other = rw (ne_eqb (producer_of c.name) producer other)

module _ (producer : ℕ) where
  -- above a name of a later producer there is none
  pub holds_none : (name : ℕ) (cells : List Held) → producer < producer_of name → Above name cells → holds_any producer cells ≡ false
  unfolding holds_any
  holds_none name [] later above = refl
  holds_none name (d ∷ cells) later above =
      let h : name < d.name = above.0 in
      holds_rest producer d cells (λ e. omega arith) ∙ holds_none name cells later above.1

  -- a name of the producer that is held is one
  pub holds_found : (name : ℕ) (cells : List Held) (c : Held) → producer_of name ≡ producer → cell_of name cells ≡ some c
      → holds_any producer cells ≡ true
  unfolding cell_of
  holds_found name [] c its found = cc
  holds_found name (d ∷ cells) c its found =
      equal_or_not (producer_of d.name) producer
      (λ first. holds_first producer d cells first)
      (λ other. holds_rest producer d cells other
      ∙ holds_found name cells c its (sym (found_later name d cells (λ e. other (ap producer_of (sym e) ∙ its))) ∙ found))

  -- and where there is one, some name of the producer is held
  pub one_held : (cells : List Held) → holds_any producer cells ≡ true
      → (name : ℕ) × (c : Held) × (producer_of name ≡ producer) × (cell_of name cells ≡ some c)
  unfolding holds_any
  one_held [] any = absurd (never_both false refl any)
  one_held (d ∷ cells) any =
      equal_or_not (producer_of d.name) producer
      (λ its. (d.name, d, its, found_here d.name d cells refl))
      (λ other.
      let rest = one_held cells (sym (holds_rest producer d cells other) ∙ any) in
      (rest.0, rest.1, rest.2, found_later rest.0 d cells (λ e. other (ap producer_of (sym e) ∙ rest.2)) ∙ rest.3))

-- the first two of eight characters are two characters
pub name_producer : (name : ℕ) → is_cell_name name ≡ true → is_producer (producer_of name) ≡ true
unfolding is_text digits all_of
name_producer name is =
    let fits : name < 256 ^ 8 = text_fits is_name_character 8 name is in
    let all : all_of is_name_character (digits 256 8 name) ≡ true = text_all is_name_character 8 name is in
    let one : producer_of name / 256 ^ 1 % 256 ≡ name / 256 ^ 7 % 256 = omega arith in
    let two : producer_of name / 256 ^ 0 % 256 ≡ name / 256 ^ 6 % 256 = omega arith in
    rw (
      lt-ltb (producer_of name) (256 ^ 2) (omega arith),
      one,
      two,
      all_first is_name_character (name / 256 ^ 7 % 256) (digits 256 7 name) all,
      all_first is_name_character (name / 256 ^ 6 % 256) (digits 256 6 name) (all_rest is_name_character (name / 256 ^ 7 % 256) (digits 256 7 name) all),
    )
