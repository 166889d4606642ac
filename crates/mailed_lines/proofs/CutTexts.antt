-- A file cut at its LFs: its texts have no LF, and joined they are the file again; the first at a place, and those after it.
-- Assumes nothing.
use mathlib.Core.Path.{◌≡◌, refl, sym, ap, ap₂, ◌∙◌}
use mathlib.Core.Bool.{Bool, true, false, not}
use mathlib.Core.List.{List, [], ◌∷◌, ◌++◌}
use Prim.Native.Nat.{ℕ, suc, ◌+◌, ◌-◌, ◌≤◌, ◌<◌, suc-le-suc}
use native.Mathlib.Nat.{le_of_suc-le-suc}
use native.Mathlib.Omega.{arith}
use borrow.Author.Tests.{eqb-true, not-true}
use lib.Dec.{eqb}
use lib.ListN.{length, take, drop, length-drop}
use lib.Seq.{drop-drop}
use Rattle.octets.specs.Every.{all_of}
use Rattle.octets.proofs.Every.{either, all_first, all_rest, all_more}
use Rattle.text.specs.Texts.{onto}
use Rattle.file_lines.specs.Texts.{text_length, text_ends}
use Rattle.mailed_lines.specs.Texts.{texts_of, joined}

-- a byte is no LF
abbrev pub not_lf : ℕ → Bool
not_lf c = not (eqb c 10)

-- each of the texts is without LF
abbrev pub AllWithout : List (List ℕ) → Type 0
AllWithout [] = Unit {0}
AllWithout (t ∷ ts) = (all_of not_lf t ≡ true) × AllWithout ts

-- the first of some texts, and the others
abbrev pub first_of : List (List ℕ) → List ℕ
first_of [] = []
first_of (t ∷ ts) = t

abbrev pub rest_of : List (List ℕ) → List (List ℕ)
rest_of [] = []
rest_of (t ∷ ts) = ts

-- a file has one at least
pub never_empty : (s : List ℕ) → texts_of s ≡ first_of (texts_of s) ∷ rest_of (texts_of s)
unfolding texts_of onto
never_empty [] = refl
never_empty (c ∷ s) = either (eqb c 10) (λ here. rw here) (λ on. rw (on, never_empty s))

-- texts joined: a byte before the first, and an empty one before it
joined-onto : (c : ℕ) (t : List ℕ) (ts : List (List ℕ)) → joined ((c ∷ t) ∷ ts) ≡ c ∷ joined (t ∷ ts)
unfolding joined
joined-onto c t [] = refl
joined-onto c t (u ∷ rest) = refl

joined_first : (c : ℕ) (ts : List (List ℕ)) (t : List ℕ) (rest : List (List ℕ)) → ts ≡ t ∷ rest → joined (onto c ts) ≡ c ∷ joined ts
unfolding onto
joined_first c ts t rest e = rw e (joined-onto c t rest)

joined_empty : (ts : List (List ℕ)) (t : List ℕ) (rest : List (List ℕ)) → ts ≡ t ∷ rest → joined ([] ∷ ts) ≡ 10 ∷ joined ts
unfolding joined
joined_empty ts t rest e = rw e

-- cut and joined again, a file is as it was
pub joined_texts : (s : List ℕ) → joined (texts_of s) ≡ s
unfolding texts_of joined
joined_texts [] = refl
joined_texts (c ∷ s) =
    either (eqb c 10)
    (λ here.
    rw here (joined_empty (texts_of s) (first_of (texts_of s)) (rest_of (texts_of s)) (never_empty s)
    ∙ ap₂ (λ (d : ℕ) (l : List ℕ). d ∷ l) (sym (eqb-true c 10 here)) (joined_texts s)))
    (λ on.
    rw on (joined_first c (texts_of s) (first_of (texts_of s)) (rest_of (texts_of s)) (never_empty s)
    ∙ ap (λ (l : List ℕ). c ∷ l) (joined_texts s)))

-- the first is no longer than the file
pub text_within : (s : List ℕ) → text_length s ≤ length s
unfolding text_length
text_within [] = omega arith
text_within (c ∷ s) =
    either (eqb c 10)
    (λ here. rw here (omega arith))
    (λ on. rw on (suc-le-suc (text_within s)))

-- no LF: the one text is all
pub one_text : (s : List ℕ) → text_length s ≡ length s → texts_of s ≡ s ∷ []
unfolding texts_of text_length onto
one_text [] whole = refl
one_text (c ∷ s) whole =
    either (eqb c 10)
    (λ here. absurd (omega (arith, rw here at whole)))
    (λ on.
    let rest : text_length s ≡ length s = omega (arith, rw on at whole) in
    rw (on, one_text s rest))

-- an LF: the text before it is the first, and the others are those after it
pub first_text_lem : (s : List ℕ) → text_length s < length s → texts_of s ≡ take (text_length s) s ∷ texts_of (drop (text_length s + 1) s)
unfolding texts_of text_length onto
first_text_lem [] h = absurd (omega arith)
first_text_lem (c ∷ s) h =
    either (eqb c 10)
    (λ here. rw here)
    (λ on.
    let rest : text_length s < length s = le_of_suc-le-suc (rw on at h) in
    let e : suc (text_length s) + 1 ≡ suc (text_length s + 1) = omega arith in
    rw (on, first_text_lem s rest, e))

-- the same of a file from a place on
module _ (file : List ℕ) (place : ℕ) where
  -- a text ends at or after its beginning
  pub text_begins : place ≤ text_ends file place
  unfolding text_ends
  text_begins = omega arith

  -- and within the file
  pub text_ends_within : place ≤ length file → text_ends file place ≤ length file
  unfolding text_ends
  text_ends_within h = omega (arith, text_within (drop place file), length-drop place file)

  -- the last: what no LF ends
  pub last_text_at : place ≤ length file → text_ends file place ≡ length file → texts_of (drop place file) ≡ drop place file ∷ []
  unfolding text_ends
  last_text_at h whole = one_text (drop place file) (omega (arith, length-drop place file))

  -- one that an LF ends, and those after that LF
  pub first_text_at : text_ends file place < length file
      → texts_of (drop place file) ≡ take (text_ends file place - place) (drop place file) ∷ texts_of (drop (text_ends file place + 1) file)
  unfolding text_ends
  first_text_at less =
      let s = drop place file in
      let size : place + text_length s - place ≡ text_length s = omega arith in
      let e : place + (text_length s + 1) ≡ place + text_length s + 1 = omega arith in
      first_text_lem s (omega (arith, length-drop place file))
      ∙ ap₂ (λ (n : ℕ) (l : List ℕ). take n s ∷ texts_of l) (sym size) (drop-drop (text_length s + 1) place file ∙ ap (λ (n : ℕ). drop n file) e)

-- a byte that is no LF, before the first text
without_onto : (c : ℕ) (ts : List (List ℕ)) → not_lf c ≡ true → AllWithout ts → AllWithout (onto c ts)
unfolding onto all_of
without_onto c [] none ts-none = (all_more not_lf c [] none refl, tt)
without_onto c (t ∷ ts) none ts-none = (all_more not_lf c t none ts-none.0, ts-none.1)

-- no text of a file has an LF
pub texts_without : (s : List ℕ) → AllWithout (texts_of s)
unfolding texts_of all_of
texts_without [] = (refl, tt)
texts_without (c ∷ s) =
    either (eqb c 10)
    (λ here. rw here (refl, texts_without s))
    (λ on. rw on (without_onto c (texts_of s) (ap not on) (texts_without s)))

-- a text without LF is passed
module _ (c : ℕ) (t : List ℕ) (none : all_of not_lf (c ∷ t) ≡ true) where
  other : eqb c 10 ≡ false
  other = not-true (eqb c 10) (all_first not_lf c t none)

-- before an LF it is the first
pub text_before : (t s : List ℕ) → all_of not_lf t ≡ true → texts_of (t ++ (10 ∷ s)) ≡ t ∷ texts_of s
unfolding texts_of onto
text_before [] s none = refl
text_before (c ∷ t) s none = rw (other c t none, text_before t s (all_rest not_lf c t none))

-- and where nothing follows it is the only one
pub text_alone : (t : List ℕ) → all_of not_lf t ≡ true → texts_of t ≡ t ∷ []
unfolding texts_of onto
text_alone [] none = refl
text_alone (c ∷ t) none = rw (other c t none, text_alone t (all_rest not_lf c t none))

-- so texts without LF, joined and cut again, are as they were
pub texts_joined : (t : List ℕ) (ts : List (List ℕ)) → AllWithout (t ∷ ts) → texts_of (joined (t ∷ ts)) ≡ t ∷ ts
unfolding joined
texts_joined t [] none = text_alone t none.0
texts_joined t (u ∷ rest) none =
    text_before t (joined (u ∷ rest)) none.0 ∙ ap (λ (l : List (List ℕ)). t ∷ l) (texts_joined u rest none.1)
