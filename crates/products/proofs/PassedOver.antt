-- What does not matter: what follows the line :ECS, and which good header a list has.
-- Assumes nothing.
use mathlib.Core.Path.{◌≡◌, sym, ap, ap₂, ◌∙◌}
use mathlib.Core.Bool.{Bool, true, false, ◌&&◌}
use mathlib.Core.List.{List, [], ◌∷◌, ◌++◌, map}
use Prim.Native.Nat.{ℕ, suc}
use native.Mathlib.Omega.{arith}
use borrow.Author.Tests.{le-leb}
use lib.Dec.{leb}
use lib.ListN.{length, drop, length-append}
use Rattle.octets.proofs.Every.{either, never_both}
use Rattle.text.specs.Ascii.{ascii}
use Rattle.text.specs.Texts.{same_text, onto}
use Rattle.file_lines.specs.Lines.{ecs}
use Rattle.file_lines.specs.EncPart.{lines_of, enc_lines, is_closed}
use Rattle.file_lines.proofs.Walks.{never_empty, lines_join}
use Rattle.product_row.specs.Row.{fits, row_of}
use Rattle.products.specs.Listing.{is_date_line, is_version_line, is_content_line, is_header, after_header, all_rows, is_listing, rows_of}
use Rattle.products.specs.Promises.{EcsPassedOver, HeaderPassedOver}
use Rattle.products.specs.declared.header.Kind.TheVariants.{Date, Version, Content, Enc}
use Rattle.products.proofs.Headers.{no_kind}
use Rattle.products.proofs.Depending.{same_answers}

-- the lines after the header are good
abbrev part_good : List (List ℕ) → Bool
part_good lines = is_closed lines && all_rows (enc_lines lines)

good_header : (list : List ℕ) → is_header (lines_of list) ≡ true → is_listing list ≡ part_good (after_header list)
unfolding is_listing
good_header list good = rw good

bad_header : (list : List ℕ) → is_header (lines_of list) ≡ false → is_listing list ≡ false
unfolding is_listing
bad_header list bad = rw bad

same_rows : (a b : List ℕ) → enc_lines (after_header a) ≡ enc_lines (after_header b) → rows_of a ≡ rows_of b
unfolding rows_of
same_rows a b same = ap (map row_of) same

pub header_passed_over : HeaderPassedOver
header_passed_over a b name edition update good-a good-b same =
    same_answers a b (good_header a good-a ∙ ap part_good same ∙ sym (good_header b good-b)) (λ good. same_rows a b (ap enc_lines same)) name edition update

-- some lines, :ECS, and the lines of what follows
abbrev with : List (List ℕ) → List ℕ → List (List ℕ)
with lines s = lines ++ (ecs ∷ lines_of s)

-- :ECS is no line of a header
module _ (s : List ℕ) where
  short0 : is_header (with [] s) ≡ false
  unfolding is_header fits
  short0 = rw (no_kind Date)

  short1 : (a : List ℕ) → is_header (with (a ∷ []) s) ≡ false
  unfolding is_header fits
  short1 a = rw (no_kind Version) (either (is_date_line a) (λ t. rw t) (λ f. rw f))

  short2 : (a b : List ℕ) → is_header (with (a ∷ b ∷ []) s) ≡ false
  unfolding is_header fits
  short2 a b =
      rw (no_kind Content)
      (either (is_date_line a) (λ t. either (is_version_line b) (λ u. rw (t, u)) (λ g. rw (t, g))) (λ f. rw f))

  short3 : (a b c : List ℕ) → is_header (with (a ∷ b ∷ c ∷ []) s) ≡ false
  unfolding is_header fits
  short3 a b c =
      rw (no_kind Enc)
      (either (is_date_line a)
      (λ t. either (is_version_line b) (λ u. either (is_content_line c) (λ v. rw (t, u, v)) (λ h. rw (t, u, h))) (λ g. rw (t, g)))
      (λ f. rw f))

  five : (lines : List (List ℕ)) → leb 5 (suc (suc (suc (suc (length (with lines s)))))) ≡ true
  five lines = le-leb 5 (suc (suc (suc (suc (length (with lines s)))))) (simp length-append (omega arith))

module _ (x y : List ℕ) where
  same_header : (lines : List (List ℕ)) → is_header (with lines x) ≡ is_header (with lines y)
  unfolding is_header
  same_header [] = short0 x ∙ sym (short0 y)
  same_header (a ∷ []) = short1 x a ∙ sym (short1 y a)
  same_header (a ∷ b ∷ []) = short2 x a b ∙ sym (short2 y a b)
  same_header (a ∷ b ∷ c ∷ []) = short3 x a b c ∙ sym (short3 y a b c)
  same_header (a ∷ b ∷ c ∷ d ∷ lines) = rw (five x lines, five y lines)

  -- the ENC part ends before what follows
  abbrev Same : List (List ℕ) → List (List ℕ) → Type 0
  Same a b = (enc_lines a ≡ enc_lines b) × (is_closed a ≡ is_closed b)

  same_part : (lines : List (List ℕ)) → Same (with lines x) (with lines y)
  unfolding enc_lines is_closed same_text
  same_part [] = (rw (never_empty x, never_empty y), rw (never_empty x, never_empty y))
  same_part (l ∷ []) =
      let on = same_part [] in
      either (same_text l ecs) (λ end. (rw end, rw end)) (λ more. (rw (more, on.0), rw (more, on.1)))
  same_part (l ∷ m ∷ lines) =
      let on = same_part (m ∷ lines) in
      either (same_text l ecs) (λ end. (rw end, rw end)) (λ more. (rw (more, on.0), rw (more, on.1)))

  -- a good header has four lines before :ECS
  same_after : (lines : List (List ℕ)) → is_header (with lines y) ≡ true → Same (drop 4 (with lines x)) (drop 4 (with lines y))
  same_after [] good = absurd (never_both _ (short0 y) good)
  same_after (a ∷ []) good = absurd (never_both _ (short1 y a) good)
  same_after (a ∷ b ∷ []) good = absurd (never_both _ (short2 y a b) good)
  same_after (a ∷ b ∷ c ∷ []) good = absurd (never_both _ (short3 y a b c) good)
  same_after (a ∷ b ∷ c ∷ d ∷ lines) good = same_part lines

-- a list with the line :ECS in it
abbrev list_with : List ℕ → List ℕ → List ℕ
list_with list s = list ++ (ascii "\r\n:ECS\r\n" ++ s)

cut : (list s : List ℕ) → lines_of (list_with list s) ≡ with (lines_of list) s
unfolding lines_of onto
cut list s = lines_join list (ascii ":ECS\r\n" ++ s) ∙ ap (λ (more : List (List ℕ)). lines_of list ++ more) (lines_join ecs s)

module _ (list x y : List ℕ) where
  headers : is_header (lines_of (list_with list x)) ≡ is_header (lines_of (list_with list y))
  headers = rw (cut list x, cut list y) (same_header x y (lines_of list))

  parts : is_header (lines_of (list_with list y)) ≡ true → Same x y (after_header (list_with list x)) (after_header (list_with list y))
  parts good = rw (cut list x, cut list y) (same_after x y (lines_of list) (rw (cut list y) at good))

  alike : is_listing (list_with list x) ≡ is_listing (list_with list y)
  alike =
      either (is_header (lines_of (list_with list y)))
      (λ good.
      let same = parts good in
      good_header (list_with list x) (headers ∙ good)
      ∙ ap₂ (λ (a : Bool) (lines : List (List ℕ)). a && all_rows lines) same.1 same.0
      ∙ sym (good_header (list_with list y) good))
      (λ bad. bad_header (list_with list x) (headers ∙ bad) ∙ sym (bad_header (list_with list y) bad))

  rows_alike : is_listing (list_with list y) ≡ true → rows_of (list_with list x) ≡ rows_of (list_with list y)
  rows_alike good =
      either (is_header (lines_of (list_with list y)))
      (λ head. same_rows (list_with list x) (list_with list y) (parts head).0)
      (λ bad. absurd (never_both _ (bad_header (list_with list y) bad) good))

pub ecs-passed_over : EcsPassedOver
ecs-passed_over list x y name edition update =
    same_answers (list_with list x) (list_with list y) (alike list x y) (rows_alike list x y) name edition update
