-- Where a line ends: it goes on until CR LF or the file's end, and its CR LF lies within the file.
-- Assumes nothing.
use Rattle.std.proofs.Common.{◌≡◌, ℕ, ◌+◌, ◌-◌, ◌<◌, ◌≤◌, ◌&&◌, eqb, ltb, List, [], ◌∷◌, length, get_or, drop, sym, subst, ap, ◌∙◌, suc-le-suc, le_of_suc-le-suc, add-one, add-zero, arith, length-drop, get_or-drop, drop-cons, ltb-false, ltb-true, eqb-true, ne_eqb, zero, suc, true, false, Option, None, Some, MatchOption, drop_of_length-le}
use Rattle.std.proofs.Math.Bool.{and-false}
use Rattle.std.proofs.Math.ListN.{get_or-eq_default}
use Rattle.std.specs.Option.{unwrap_or}
use Rattle.octets.proofs.Every.{and_second, either}
use Rattle.file_lines.specs.Lines.{is_line_end, line_length, line_ends}

pub line_within : (s : List ℕ) → line_length s ≤ length s
unfolding line_length
line_within [] = omega arith
line_within (c ∷ s) =
    either (eqb c 13 && eqb (get_or s 0 0) 10)
    (λ here. rw here (omega arith))
    (λ on. rw on (suc-le-suc (line_within s)))

starts : (s : List ℕ) → get_or s 0 0 ≡ 10 → 1 ≤ length s
starts [] e = omega arith
starts (c ∷ s) e = omega arith

-- what ends a line before its slice's end has two bytes
pub end_within : (s : List ℕ) → line_length s < length s → line_length s + 2 ≤ length s
unfolding line_length
end_within [] h = omega arith
end_within (c ∷ s) h =
    either (eqb c 13 && eqb (get_or s 0 0) 10)
    (λ here.
    let two : 1 ≤ length s = starts s (eqb-true (get_or s 0 0) 10 (and_second (eqb c 13) (eqb (get_or s 0 0) 10) here)) in
    rw here (omega arith))
    (λ on.
    let rest : line_length s + 2 ≤ length s = end_within s (le_of_suc-le-suc (rw on at h)) in
    rw on (omega arith))

-- bytes that begin no CR LF are passed
pub passed_bytes : (n : ℕ) (s : List ℕ) → n ≤ length s → ((k : ℕ) → k < n → is_line_end (get_or s k 0) (get_or s (k + 1) 0) ≡ false)
    → line_length s ≡ n + line_length (drop n s)
unfolding line_length
passed_bytes zero s h none = omega arith
passed_bytes (suc n) [] h none = absurd (omega arith)
passed_bytes (suc n) (c ∷ s) h none =
    let here : is_line_end c (get_or s 0 0) ≡ false = none 0 (omega arith) in
    let later : (k : ℕ) → k < n → is_line_end (get_or s k 0) (get_or s (k + 1) 0) ≡ false =
    λ k lt. let e : suc k + 1 ≡ suc (k + 1) = omega arith in
    subst (λ i. is_line_end (get_or s k 0) (get_or (c ∷ s) i 0) ≡ false) e (none (suc k) (omega arith)) in
    rw (here, passed_bytes n s (omega arith) later) (omega arith)

-- bytes beyond CR begin none
pub passed_words : (n : ℕ) (s : List ℕ) → n ≤ length s → ((k : ℕ) → k < n → 13 < get_or s k 0) → line_length s ≡ n + line_length (drop n s)
passed_words n s h past =
    passed_bytes n s h (λ k lt. let high : 13 < get_or s k 0 = past k lt in rw (ne_eqb (get_or s k 0) 13 (omega arith)))

-- the first CR LF ends the line, or the end of all
pub first_line_end : (s : List ℕ) (r : Option ℕ)
    → MatchOption r ((k : ℕ) → k + 1 < length s → is_line_end (get_or s k 0) (get_or s (k + 1) 0) ≡ false)
    (λ i. (i + 1 < length s) × (is_line_end (get_or s i 0) (get_or s (i + 1) 0) ≡ true)
    × ((k : ℕ) → k < i → is_line_end (get_or s k 0) (get_or s (k + 1) 0) ≡ false))
    → unwrap_or r (length s) ≡ line_length s
unfolding line_length
first_line_end s None none =
    let h : length s ≤ length s = omega arith in
    let all = passed_bytes (length s) s h (λ k lt.
    either (ltb (k + 1) (length s))
    (λ within. none k (ltb-true (k + 1) (length s) within))
    (λ last.
    let past : length s ≤ k + 1 = ltb-false (k + 1) (length s) last in
    rw (get_or-eq_default s 0 past) (and-false (eqb (get_or s k 0) 13)))) in
    sym (rw (drop_of_length-le s h) at all ∙ add-zero (length s))
first_line_end s (Some i) first =
    let h : i < length s = omega arith in
    let on = passed_bytes i s (omega arith) first.2 in
    let e : i + 1 + 0 ≡ i + 1 = omega arith in
    let split : drop i s ≡ get_or s i 0 ∷ drop (i + 1) s = drop-cons s i 0 h ∙ ap (λ (n : ℕ). get_or s i 0 ∷ drop n s) (sym (add-one i)) in
    let next : get_or (drop (i + 1) s) 0 0 ≡ get_or s (i + 1) 0 = get_or-drop (i + 1) s 0 0 ∙ ap (λ (n : ℕ). get_or s n 0) e in
    sym (on ∙ rw (split, next, first.1) (add-zero i))

module _ (file : List ℕ) (i : ℕ) where
  pub begins_first : i ≤ line_ends file i
  unfolding line_ends
  begins_first = omega arith

  module _ (h : i ≤ length file) where
    pub ends-within : line_ends file i ≤ length file
    unfolding line_ends
    ends-within = omega (arith, line_within (drop i file), length-drop i file)

    pub next-within : line_ends file i < length file → line_ends file i + 2 ≤ length file
    unfolding line_ends
    next-within less =
        let size : length (drop i file) ≡ length file - i = length-drop i file in
        omega (arith, end_within (drop i file) (omega arith))
