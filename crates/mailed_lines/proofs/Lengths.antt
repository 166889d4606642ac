-- The line of a text by its last byte, what is left of it by its last byte that is no blank, and whether it is raised byte by byte.
-- Assumes nothing.
use Rattle.std.proofs.Common.{◌≡◌, ◌≢◌, ℕ, zero, suc, ◌+◌, ◌-◌, ◌≤◌, ◌<◌, Bool, true, ◌&&◌, List, [], ◌∷◌, ◌++◌, length, get_or, take, refl, sym, ap, ◌∙◌, add-one, arith, eqb, eq-eqb, ne_eqb, eqb-true}
use Prim.Native.Nat.{suc-le-suc}
use native.Mathlib.Nat.{le_of_suc-le-suc, zero-lt-suc}
use lib.ListN.{length-append}
use Rattle.std.specs.List.{list_all}
use Rattle.octets.proofs.Every.{either}
use Rattle.text.specs.Characters.{raised, raised_text}
use Rattle.text.specs.Texts.{same_text}
use Rattle.mailed_lines.specs.Mailed.{ends_in_cr, line_of, before_rest, unblanked}
use Rattle.mailed_lines.proofs.Lines.{line_and_cr, line_whole, line_start}

-- a CR at the end is the last byte
cr_last : (c : ℕ) (s : List ℕ) → ends_in_cr (c ∷ s) ≡ eqb (get_or (c ∷ s) (length s) 0) 13
unfolding ends_in_cr
cr_last c [] = refl
cr_last c (d ∷ s) = cr_last d s

-- so no empty text ends in one
ended_some : (t : List ℕ) → ends_in_cr t ≡ true → 1 ≤ length t
unfolding ends_in_cr
ended_some [] ended = cc
ended_some (c ∷ s) ended = omega arith

last_byte : (t : List ℕ) → (length t ≡ 0 → ⊥) → ends_in_cr t ≡ eqb (get_or t (length t - 1) 0) 13
last_byte [] some = absurd (some refl)
last_byte (c ∷ s) some =
    let last : length s ≡ length (c ∷ s) - 1 = omega arith in
    cr_last c s ∙ ap (λ (n : ℕ). eqb (get_or (c ∷ s) n 0) 13) last

module _ (t : List ℕ) where
  -- it goes
  pub line-less : 1 ≤ length t → get_or t (length t - 1) 0 ≡ 13 → take (length t - 1) t ≡ line_of t
  line-less some cr =
      let ended : t ≡ line_of t ++ (13 ∷ []) =
      line_and_cr t (last_byte t (λ none. omega arith) ∙ eq-eqb (get_or t (length t - 1) 0) 13 cr) in
      let size : length t - 1 ≡ length (line_of t) = omega (arith, ap length ended ∙ length-append (line_of t) (13 ∷ [])) in
      ap (λ (n : ℕ). take n t) size ∙ line_start t

  -- in an empty text nothing goes
  pub no_line : length t < 1 → t ≡ line_of t
  no_line none = sym (line_whole t (either (ends_in_cr t) (λ cr. absurd (omega (arith, ended_some t cr))) (λ other. other)))

  -- any other byte stays
  pub line-all : get_or t (length t - 1) 0 ≢ 13 → t ≡ line_of t
  line-all other =
      either (ends_in_cr t)
      (λ cr. absurd (other (eqb-true _ 13 (sym (last_byte t (λ none. omega (arith, ended_some t cr))) ∙ cr))))
      (λ none. sym (line_whole t none))

-- a text whose bytes are all blanks has nothing left
pub all_blank : (s : List ℕ) → ((k : ℕ) → k < length s → get_or s k 0 ≡ 32) → unblanked s ≡ []
unfolding unblanked before_rest
all_blank [] blank = refl
all_blank (c ∷ s) blank =
    rw (all_blank s (λ k h. blank (suc k) (suc-le-suc h)), eq-eqb c 32 (blank 0 (zero-lt-suc (length s))))

-- of any other the bytes up to the last that is no blank are left
up_to : (s : List ℕ) (i : ℕ) → i < length s → get_or s i 0 ≢ 32 → ((k : ℕ) → i < k → k < length s → get_or s k 0 ≡ 32) → take (suc i) s ≡ unblanked s
unfolding unblanked before_rest
up_to [] i within other blank = absurd (omega arith)
up_to (c ∷ s) zero within other blank =
    rw (all_blank s (λ k h. blank (suc k) (zero-lt-suc k) (suc-le-suc h)), ne_eqb c 32 other)
up_to (c ∷ []) (suc i) within other blank = absurd (omega arith)
up_to (c ∷ d ∷ s) (suc i) within other blank =
    ap (before_rest c) (up_to (d ∷ s) i (le_of_suc-le-suc within) other (λ k after h. blank (suc k) (suc-le-suc after) (suc-le-suc h)))

pub unblanked_to : (s : List ℕ) (i : ℕ) → i < length s → get_or s i 0 ≢ 32 → ((k : ℕ) → i + 1 ≤ k → k < length s → get_or s k 0 ≡ 32)
    → take (i + 1) s ≡ unblanked s
unblanked_to s i within other blank = rw add-one (up_to s i within other (λ k after h. blank k (omega arith) h))

-- a text is as it was raised where each of its bytes is
pub raised_all : (s : List ℕ) → list_all (λ (c : ℕ). eqb (raised c) c) s ≡ same_text (raised_text s) s
unfolding same_text
raised_all [] = refl
raised_all (c ∷ s) = ap (λ (t : Bool). eqb (raised c) c && t) (raised_all s)
