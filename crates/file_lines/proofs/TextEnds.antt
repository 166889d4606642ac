-- Where a text ends: it goes on until LF or the file's end.
-- Assumes nothing.
use Rattle.std.proofs.Common.{◌≡◌, ℕ, zero, suc, ◌+◌, ◌<◌, ◌≤◌, sym, List, [], ◌∷◌, length, get_or, drop, refl, true, false, arith, drop_of_length-le, eqb, suc-le-suc, Option, MatchOption}
use Rattle.std.proofs.lemmas.Iterator.{index_from_first}
use Rattle.std.specs.List.{AllWithin, HoldsAt}
use Rattle.std.specs.Option.{unwrap_or}
use Rattle.octets.proofs.Every.{either}
use Rattle.file_lines.specs.Texts.{is_lf, text_length, text_ends}

pub text_within : (s : List ℕ) → text_length s ≤ length s
unfolding text_length
text_within [] = omega arith
text_within (c ∷ s) = either (eqb c 10) (λ here. rw here (omega arith)) (λ on. rw on (suc-le-suc (text_within s)))

-- bytes that are no LF are passed
pub passed_bytes : (n : ℕ) (s : List ℕ) → n ≤ length s → ((k : ℕ) → k < n → is_lf (get_or s k 0) ≡ false) → text_length s ≡ n + text_length (drop n s)
unfolding text_length
passed_bytes zero s h none = omega arith
passed_bytes (suc n) [] h none = absurd (omega arith)
passed_bytes (suc n) (c ∷ s) h none =
    rw (none 0 (omega arith), passed_bytes n s (omega arith) (λ k lt. none (suc k) (omega arith))) (omega arith)

-- the first LF ends the text, or the end of all
pub first_lf : (s : List ℕ) (r : Option ℕ)
    → MatchOption r (AllWithin (λ c. is_lf c ≡ false) s 0 (length s)) (λ i. (i < length s) × HoldsAt (λ c. is_lf c ≡ true) s i × AllWithin (λ c. is_lf c ≡ false) s 0 i)
    → unwrap_or r (length s) ≡ text_length s
unfolding text_length
first_lf s r first =
    sym (index_from_first text_length (λ c. is_lf c ≡ true) (λ c. is_lf c ≡ false) refl (λ c s lf. rw lf) (λ c s other. rw other (omega arith)) s r first)

-- beyond the file none begins
pub ends_beyond : (file : List ℕ) (place : ℕ) → length file < place → text_ends file place ≡ place
unfolding text_ends text_length
ends_beyond file place past =
    let h : length file ≤ place = omega arith in
    rw (drop_of_length-le file h) (omega arith)
