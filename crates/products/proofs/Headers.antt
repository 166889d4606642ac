-- The header line by line: each line that passes leaves the test of those after it.
-- Assumes nothing.
use mathlib.Core.Path.{◌≡◌, refl, sym, ap, ◌∙◌}
use mathlib.Core.Bool.{Bool, true, false, cond, ◌&&◌, and-false}
use mathlib.Core.List.{List, [], ◌∷◌}
use mathlib.Core.Logic.{⊎_elim}
use Prim.Native.Nat.{ℕ, suc, ◌+◌, ◌≤◌}
use native.Mathlib.Omega.{arith}
use borrow.Author.Tests.{le-leb, lt-leb, leb-true, leb-false}
use lib.Dec.{leb}
use lib.ListN.{length, take, drop}
use Rattle.std.proofs.Common.{Option, None, Some}
use Rattle.octets.proofs.Every.{either}
use Rattle.text.specs.Texts.{same_text}
use Rattle.file_lines.specs.Lines.{line_at, line_found, ecs}
use Rattle.file_lines.specs.EncPart.{lines_of}
use Rattle.file_lines.specs.Dated.{is_dated}
use Rattle.file_lines.specs.declared.LineFound.{LineFound}
use Rattle.file_lines.specs.declared.LineFound.TheVariants as found
use Rattle.file_lines.proofs.Walks.{line_bounds, never_empty, rest_of, lines_at_line, lines_unended, lines-at-end}
use Rattle.product_row.specs.Row.{Form, fits}
use Rattle.products.specs.Listing.{is_date_line, is_version_line, is_content_line, is_enc_line, is_header}
use Rattle.products.specs.Reading.{kind_test, passed, Begins}
use Rattle.products.specs.declared.header.Kind.{Kind}
use Rattle.products.specs.declared.header.Kind.TheVariants.{Date, Version, Content, Enc}

-- as many lines as forms, each of its form and each ended
abbrev headed : ℕ → List Form → List (List ℕ) → Bool
headed k forms lines = fits forms (take k lines) && leb (suc k) (length lines)

leb-suc : (m n : ℕ) → leb (suc m) (suc n) ≡ leb m n
leb-suc m n =
    either (leb m n)
    (λ le. le-leb (suc m) (suc n) (omega (arith, leb-true m n le)) ∙ sym le)
    (λ more. lt-leb (suc m) (suc n) (omega (arith, leb-false m n more)) ∙ sym more)

headed-first
    : (form : Form) (forms : List Form) (k : ℕ) (l : List ℕ) (ls : List (List ℕ))
    → headed (suc k) (form ∷ forms) (l ∷ ls) ≡ (form l && headed k forms ls)
unfolding fits
headed-first form forms k l ls = either (form l) (λ good. rw (good, leb-suc)) (λ bad. rw bad)

headed_one : (forms : List Form) (k : ℕ) (l : List ℕ) → headed (suc k) forms (l ∷ []) ≡ false
headed_one forms k l = rw (lt-leb (suc (suc k)) 1 (omega arith)) (and-false (fits forms (take (suc k) (l ∷ []))))

headed_none : (s : List ℕ) → headed 0 [] (lines_of s) ≡ true
unfolding fits
headed_none s = rw (never_empty s) (le-leb 1 (suc (length (rest_of (lines_of s)))) (omega arith))

-- no line of the header is :ECS
pub no_kind : (kind : Kind) → kind_test kind ecs ≡ false
unfolding is_date_line is_version_line is_content_line is_enc_line is_dated same_text
no_kind Date = refl
no_kind Version = refl
no_kind Content = refl
no_kind Enc = refl

module _ (kind : Kind) (list : List ℕ) (at : ℕ) where
  pub by_test : (end : ℕ) → line_found list at ≡ found.Line end → passed kind list at ≡ cond (kind_test kind (line_at list at)) (Some (end + 2)) None
  unfolding passed
  by_test end made = rw made

  by_none : line_found list at ≡ found.Unended → passed kind list at ≡ None
  unfolding passed
  by_none made = rw made

  by_end : line_found list at ≡ found.End → passed kind list at ≡ None
  unfolding passed
  by_end made = rw made

  by_other : (f : LineFound) → line_found list at ≡ f → ((end : ℕ) → f ≡ found.Line end → ⊥) → passed kind list at ≡ None
  by_other (found.Line end) e other = absurd (other end refl)
  by_other found.Unended e other = by_none e
  by_other found.End e other = by_end e

  pub no_line : ((end : ℕ) → line_found list at ≡ found.Line end → ⊥) → passed kind list at ≡ None
  no_line other = by_other (line_found list at) refl other

module _ (kind : Kind) (forms : List Form) (k : ℕ) (list : List ℕ) (at : ℕ) where
  abbrev here : Bool
  here = headed (suc k) (kind_test kind ∷ forms) (lines_of (drop at list))

  -- what a line's test leaves
  by_line : (end : ℕ) → line_found list at ≡ found.Line end
      → here ≡ (kind_test kind (line_at list at) && headed k forms (lines_of (drop (end + 2) list)))
  by_line end made =
      ap (headed (suc k) (kind_test kind ∷ forms)) (lines_at_line list at end made)
      ∙ headed-first (kind_test kind) forms k (line_at list at) (lines_of (drop (end + 2) list))

  by_one : lines_of (drop at list) ≡ drop at list ∷ [] → here ≡ false
  by_one one = ap (headed (suc k) (kind_test kind ∷ forms)) one ∙ headed_one (kind_test kind ∷ forms) k (drop at list)

  by_ecs : (ls : List (List ℕ)) → lines_of (drop at list) ≡ ecs ∷ ls → here ≡ false
  by_ecs ls e = ap (headed (suc k) (kind_test kind ∷ forms)) e ∙ headed-first (kind_test kind) forms k ecs ls ∙ rw (no_kind kind)

  -- a line that does not pass ends the header
  stop : (f : LineFound) → line_found list at ≡ f → None ≡ passed kind list at → here ≡ false
  stop (found.Line end) e none =
      either (kind_test kind (line_at list at))
      (λ good. let there = rw good at (by_test kind list at end e) in cc)
      (λ bad. by_line end e ∙ rw bad)
  stop found.Unended e none = by_one (lines_unended list at e)
  stop found.End e none = ⊎_elim (λ one. by_one one) (λ more. by_ecs _ more) (lines-at-end list at e)

  pub stops : None ≡ passed kind list at → here ≡ false
  stops none = stop (line_found list at) refl none

  -- one that passes leaves the others
  abbrev Left : ℕ → Type 0
  Left next =
      (here ≡ headed k forms (lines_of (drop next list)))
      × ((lines_of (drop at list) ≡ line_at list at ∷ lines_of (drop next list)) × (next ≤ length list))

  module _ (next : ℕ) (some : Some next ≡ passed kind list at) where
    go_on : (f : LineFound) → line_found list at ≡ f → Left next
    go_on (found.Line end) e =
        either (kind_test kind (line_at list at))
        (λ good.
        let there = rw good at (by_test kind list at end e) in
        let place : next ≡ end + 2 = cc in
        rw place (by_line end e ∙ rw good, (lines_at_line list at end e, (line_bounds list at end e).1.1)))
        (λ bad. let none = rw bad at (by_test kind list at end e) in cc)
    go_on found.Unended e = let none = by_none kind list at e in cc
    go_on found.End e = let none = by_end kind list at e in cc

    pub goes_on : Left next
    goes_on = go_on (line_found list at) refl

-- the four lines
module _ (list : List ℕ) where
  abbrev after_content : List Form
  after_content = kind_test Enc ∷ []

  abbrev after_version : List Form
  after_version = kind_test Content ∷ after_content

  abbrev after_date : List Form
  after_date = kind_test Version ∷ after_version

  whole : is_header (lines_of list) ≡ headed 4 (kind_test Date ∷ after_date) (lines_of list)
  unfolding is_header
  whole = refl

  pub no_date_lem : None ≡ passed Date list 0 → Begins list None
  no_date_lem none = whole ∙ stops Date after_date 3 list 0 none

  module _ (second : ℕ) (one : Some second ≡ passed Date list 0) where
    abbrev first-left : Left Date after_date 3 list 0 second
    first-left = goes_on Date after_date 3 list 0 second one

    pub no_version : None ≡ passed Version list second → Begins list None
    no_version none = whole ∙ first-left.0 ∙ stops Version after_version 2 list second none

    module _ (third : ℕ) (two : Some third ≡ passed Version list second) where
      abbrev second-left : Left Version after_version 2 list second third
      second-left = goes_on Version after_version 2 list second third two

      pub no_content : None ≡ passed Content list third → Begins list None
      no_content none = whole ∙ first-left.0 ∙ second-left.0 ∙ stops Content after_content 1 list third none

      module _ (fourth : ℕ) (three : Some fourth ≡ passed Content list third) where
        abbrev third-left : Left Content after_content 1 list third fourth
        third-left = goes_on Content after_content 1 list third fourth three

        to-enc : is_header (lines_of list) ≡ headed 1 (kind_test Enc ∷ []) (lines_of (drop fourth list))
        to-enc = whole ∙ first-left.0 ∙ second-left.0 ∙ third-left.0

        pub begins : (fifth : Option ℕ) → fifth ≡ passed Enc list fourth → Begins list fifth
        begins None none = to-enc ∙ stops Enc [] 0 list fourth none
        begins (Some fifth) four =
            let last = goes_on Enc [] 0 list fourth fifth four in (
              to-enc ∙ last.0 ∙ headed_none (drop fifth list),
              (sym (ap (drop 4) first-left.1.0 ∙ ap (drop 3) second-left.1.0 ∙ ap (drop 2) third-left.1.0 ∙ ap (drop 1) last.1.0), last.1.1),
            )
