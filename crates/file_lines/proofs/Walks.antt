-- What stands at a place says how the ENC part from there on begins.
-- Assumes nothing.
use Rattle.std.proofs.Common.{◌≡◌, ℕ, suc, ◌+◌, ◌-◌, ◌<◌, ◌≤◌, Bool, true, false, cond, eqb, ltb, ◌⊎◌, List, [], ◌∷◌, ◌++◌, length, take, drop, refl, ap, ◌∙◌, inl, inr, le_of_suc-le-suc, arith, length-drop, drop_of_length-le, drop-drop, ltb-false, ltb-true, eq-eqb, eqb-true}
use lib.Seq.{take-length}
use Rattle.octets.proofs.Every.{either, or_first, or_second, never_both}
use Rattle.text.specs.Texts.{same_text, onto}
use Rattle.text.proofs.SameTexts.{same_true}
use Rattle.file_lines.specs.Lines.{is_line_end, line_length, line_ends, line_at, ecs, ends_at, line_found}
use Rattle.file_lines.specs.EncPart.{lines_of, enc_lines, is_closed}
use Rattle.file_lines.specs.Walk.{AtEnd, AtUnended, AtLine, LineWithin}
use Rattle.file_lines.specs.declared.LineFound.TheVariants.{Line, Unended, End}
use Rattle.file_lines.proofs.LineEnds.{line_within, begins_first, next-within}
use Rattle.file_lines.proofs.PartEnds.{line_between}

-- texts: there is always one at least
abbrev first_of : List (List ℕ) → List ℕ
first_of [] = []
first_of (l ∷ ls) = l

abbrev pub rest_of : List (List ℕ) → List (List ℕ)
rest_of [] = []
rest_of (l ∷ ls) = ls

pub never_empty : (s : List ℕ) → lines_of s ≡ first_of (lines_of s) ∷ rest_of (lines_of s)
unfolding lines_of onto
never_empty [] = refl
never_empty (c ∷ []) = refl
never_empty (c ∷ d ∷ s) =
    either (is_line_end c d)
    (λ here. rw here)
    (λ on. rw (on, never_empty (d ∷ s)))

-- no CR LF: the one text is all
one_text : (s : List ℕ) → line_length s ≡ length s → lines_of s ≡ s ∷ []
unfolding lines_of line_length onto
one_text [] whole = refl
one_text (c ∷ []) whole = refl
one_text (c ∷ d ∷ s) whole =
    either (is_line_end c d)
    (λ here. absurd (omega (arith, rw here at whole)))
    (λ on.
    let rest : line_length (d ∷ s) ≡ length (d ∷ s) = omega (arith, rw on at whole) in
    rw (on, one_text (d ∷ s) rest))

alone : (c : ℕ) → line_length (c ∷ []) ≡ 1
unfolding line_length
alone c = either (eqb c 13) (λ cr. rw cr) (λ other. rw other)

-- a CR LF: the text before it is the first, and the others are those after it
first_text_lem : (s : List ℕ) → line_length s < length s → lines_of s ≡ take (line_length s) s ∷ lines_of (drop (line_length s + 2) s)
unfolding lines_of line_length onto
first_text_lem [] h = absurd (omega arith)
first_text_lem (c ∷ []) h = absurd (omega (arith, alone c))
first_text_lem (c ∷ d ∷ s) h =
    either (is_line_end c d)
    (λ here. rw here)
    (λ on.
    let rest : line_length (d ∷ s) < length (d ∷ s) = le_of_suc-le-suc (rw on at h) in
    let e : suc (line_length (d ∷ s)) + 2 ≡ suc (line_length (d ∷ s) + 2) = omega arith in
    rw (on, first_text_lem (d ∷ s) rest, e))

module _ (l : List ℕ) (s : List ℕ) where
  -- more texts follow the first
  pub enc_more : same_text l ecs ≡ false → (enc_lines (l ∷ lines_of s) ≡ l ∷ enc_lines (lines_of s)) × (is_closed (l ∷ lines_of s) ≡ is_closed (lines_of s))
  unfolding enc_lines is_closed
  enc_more other = (rw (never_empty s, other), rw (never_empty s, other))

  -- none does after :ECS
  pub enc_none : same_text l ecs ≡ true → (enc_lines (l ∷ lines_of s) ≡ []) × (is_closed (l ∷ lines_of s) ≡ true)
  unfolding enc_lines is_closed
  enc_none same = (rw (never_empty s, same), rw (never_empty s, same))

-- the tests by which an answer is found
end_made : (a b : Bool) (n : ℕ) → cond a End (cond b (Line n) Unended) ≡ End → a ≡ true
end_made true b n made = refl
end_made false true n made = cc
end_made false false n made = cc

unended_made : (a b : Bool) (n : ℕ) → cond a End (cond b (Line n) Unended) ≡ Unended → (a ≡ false) × (b ≡ false)
unended_made true b n made = (cc, cc)
unended_made false true n made = (refl, cc)
unended_made false false n made = (refl, refl)

line_made : (a b : Bool) (n end : ℕ) → cond a End (cond b (Line n) Unended) ≡ Line end → (a ≡ false) × ((b ≡ true) × (end ≡ n))
line_made true b n end made = (cc, (cc, cc))
line_made false true n end made = (refl, (refl, cc))
line_made false false n end made = (refl, (cc, cc))

module _ (file : List ℕ) (place : ℕ) where
  -- no :ECS, where a line is read
  no_ecs : ends_at file place ≡ false → same_text (line_at file place) ecs ≡ false
  unfolding ends_at
  no_ecs on = or_second (eqb place (length file)) (same_text (line_at file place) ecs) on

  whole_rest : ltb (line_ends file place) (length file) ≡ false → line_length (drop place file) ≡ length (drop place file)
  unfolding line_ends
  whole_rest runs =
      omega (arith, length-drop place file, line_within (drop place file), ltb-false (place + line_length (drop place file)) (length file) runs)

  cut_line : ltb (line_ends file place) (length file) ≡ true → lines_of (drop place file) ≡ line_at file place ∷ lines_of (drop (line_ends file place + 2) file)
  unfolding line_ends line_at
  cut_line closed =
      let s = drop place file in
      let e : place + (line_length s + 2) ≡ place + line_length s + 2 = omega arith in
      first_text_lem s (omega (arith, length-drop place file, ltb-true (place + line_length s) (length file) closed))
      ∙ ap (λ (l : List ℕ). take (line_length s) s ∷ lines_of l) (drop-drop (line_length s + 2) place file ∙ ap (λ (n : ℕ). drop n file) e)

  whole_line : line_length (drop place file) ≡ length (drop place file) → line_at file place ≡ drop place file
  unfolding line_at
  whole_line whole = rw whole (take-length (drop place file))

pub line_bounds : LineWithin
unfolding line_found
line_bounds file place end made =
    let passed = line_made (ends_at file place) (ltb (line_ends file place) (length file)) (line_ends file place) end made in
    let closed = ltb-true (line_ends file place) (length file) passed.1.0 in
    (passed.1.1, (omega (arith, passed.1.1, begins_first file place), omega (arith, passed.1.1, next-within file place (omega (arith, begins_first file place)) closed)))

-- it is what lies between the place and its end
pub found_part : (file : List ℕ) (place end : ℕ) → line_found file place ≡ Line end → take (end - place) (drop place file) ≡ line_at file place
found_part file place end made = rw (line_bounds file place end made).0 (line_between file place)

pub at_line : AtLine
unfolding line_found
at_line file place end made =
    let passed = line_made (ends_at file place) (ltb (line_ends file place) (length file)) (line_ends file place) end made in
    let cut = cut_line file place passed.1.0 in
    let more = enc_more (line_at file place) (drop (line_ends file place + 2) file) (no_ecs file place passed.0) in
    rw (passed.1.1, cut) more

-- one text is left, with bytes in it
one_left : (s : List ℕ) → (length s ≡ 0 → ⊥) → same_text s ecs ≡ false → is_closed (s ∷ []) ≡ false
unfolding is_closed same_text
one_left [] some other = absurd (some refl)
one_left (c ∷ s) some other = rw other

pub at_unended : AtUnended
unfolding line_found ends_at enc_lines
at_unended file place h made =
    let passed = unended_made (ends_at file place) (ltb (line_ends file place) (length file)) (line_ends file place) made in
    let whole = whole_rest file place passed.1 in
    let other : same_text (drop place file) ecs ≡ false = rw (whole_line file place whole) at (no_ecs file place passed.0) in
    let some : length (drop place file) ≡ 0 → ⊥ =
    λ none. never_both (eqb place (length file)) (or_first (eqb place (length file)) (same_text (line_at file place) ecs) passed.0)
    (eq-eqb place (length file) (omega (arith, length-drop place file))) in
    rw (one_text (drop place file) whole) (refl, one_left (drop place file) some other)

-- :ECS is the last text
ecs_last : (s : List ℕ) → same_text s ecs ≡ true → is_closed (s ∷ []) ≡ true
unfolding is_closed
ecs_last s same = either (same_text s []) (λ empty. rw empty) (λ some. rw (some, same))

pub at_end : AtEnd
unfolding line_found ends_at enc_lines is_closed lines_of same_text
at_end file place made =
    let ended = end_made (ends_at file place) (ltb (line_ends file place) (length file)) (line_ends file place) made in
    either (eqb place (length file))
    (λ bytes.
    let h : length file ≤ place = omega (arith, eqb-true place (length file) bytes) in
    rw (drop_of_length-le file h) (refl, refl))
    (λ more.
    let same : same_text (line_at file place) ecs ≡ true = rw more at ended in
    either (ltb (line_ends file place) (length file))
    (λ closed. rw (cut_line file place closed) (enc_none (line_at file place) (drop (line_ends file place + 2) file) same))
    (λ runs.
    let whole = whole_rest file place runs in
    rw (one_text (drop place file) whole) (refl, ecs_last (drop place file) (rw (whole_line file place whole) at same))))

-- the texts from a line on
pub lines_at_line : (file : List ℕ) (place end : ℕ) → line_found file place ≡ Line end
    → lines_of (drop place file) ≡ line_at file place ∷ lines_of (drop (end + 2) file)
unfolding line_found
lines_at_line file place end made =
    let passed = line_made (ends_at file place) (ltb (line_ends file place) (length file)) (line_ends file place) end made in
    rw passed.1.1 (cut_line file place passed.1.0)

-- from what no CR LF ends on there is one
pub lines_unended : (file : List ℕ) (place : ℕ) → line_found file place ≡ Unended → lines_of (drop place file) ≡ drop place file ∷ []
unfolding line_found
lines_unended file place made =
    let passed = unended_made (ends_at file place) (ltb (line_ends file place) (length file)) (line_ends file place) made in
    one_text (drop place file) (whole_rest file place passed.1)

-- at the end there is one, or the first is :ECS
pub lines-at-end
    : (file : List ℕ) (place : ℕ) → line_found file place ≡ End
    → (lines_of (drop place file) ≡ drop place file ∷ []) ⊎ (lines_of (drop place file) ≡ ecs ∷ lines_of (drop (line_ends file place + 2) file))
unfolding line_found ends_at lines_of
lines-at-end file place made =
    let ended = end_made (ends_at file place) (ltb (line_ends file place) (length file)) (line_ends file place) made in
    either (ltb (line_ends file place) (length file))
    (λ closed.
    either (eqb place (length file))
    (λ bytes.
    let h : length file ≤ place = omega (arith, eqb-true place (length file) bytes) in
    inl (rw (drop_of_length-le file h)))
    (λ more. inr (cut_line file place closed ∙ ap (λ (l : List ℕ). l ∷ lines_of (drop (line_ends file place + 2) file)) (same_true (line_at file place) ecs (rw more at ended)))))
    (λ runs. inl (one_text (drop place file) (whole_rest file place runs)))

-- a byte goes before the first of two lots of texts
onto_append : (c : ℕ) (s : List ℕ) (more : List (List ℕ)) → onto c (lines_of s ++ more) ≡ onto c (lines_of s) ++ more
unfolding onto
onto_append c s more = rw (never_empty s)

-- texts before a CR LF and after it
pub lines_join : (s t : List ℕ) → lines_of (s ++ (13 ∷ 10 ∷ t)) ≡ lines_of s ++ lines_of t
unfolding lines_of onto
lines_join [] t = refl
lines_join (c ∷ []) t = either (eqb c 13) (λ cr. rw cr) (λ other. rw other)
lines_join (c ∷ d ∷ s) t =
    either (is_line_end c d)
    (λ here. rw (here, lines_join s t))
    (λ on. rw (on, lines_join (d ∷ s) t, onto_append c (d ∷ s) (lines_of t)))
