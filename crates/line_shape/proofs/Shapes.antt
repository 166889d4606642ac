-- The parts of a line put together, and how long a line is at least.
-- Assumes nothing.
use Rattle.std.proofs.Common.{◌≡◌, ℕ, suc, ◌+◌, ◌-◌, ◌*◌, ◌<◌, ◌≤◌, Bool, true, false, cond, ◌&&◌, List, ◌∷◌, length, get_or, take, sym, refl, ap, ◌∙◌, ap₂, arith, drop-cons, le-ltb, lt-ltb, eq-eqb, ne_eqb, le-leb}
use mathlib.Core.Bool.{and_assoc, and-true}
use borrow.Author.Tests.{lt-leb}
use lib.Bits.{bit_or}
use Rattle.octets.specs.Numbers.{Below, bytes_of}
use Rattle.octets.specs.Places.{number_at}
use Rattle.octets.specs.Every.{all_of}
use Rattle.octets.proofs.Every.{either}
use Rattle.octets.proofs.Places.{bytes_at}
use Rattle.text.specs.Characters.{is_digit, is_hex, is_name_character, is_printable, decimal_number}
use Rattle.text.specs.Texts.{part, all_at}
use Rattle.text.proofs.TextsAt.{all_inside, all_append, part_join}
use Rattle.dates.specs.Calendar.{is_date}
use Rattle.forms.specs.DateText.{is_date_at}
use Rattle.forms.proofs.DateTexts.{digits-at}
use Rattle.cell_permit.specs.Line.{is_permit, comma_at, edition_length, is_tail, is_line}
use Rattle.cell_permit.specs.LineParts.{is_level_part, is_server_part}
use Rattle.cell_permit.proofs.Editions.{blank, one, two, three}
use Rattle.cell_permit.proofs.GoodLine.{good_line}
use Rattle.cell_permit.proofs.ReadFields.{comma-within, edition_few}
use Rattle.line_shape.proofs.Faults.{passes, both_pass}

-- two bytes at a place
all_pair : (test : ℕ → Bool) (s : List ℕ) (at : ℕ) → at + 2 ≤ length s
    → all_of test (part 2 s at) ≡ (test (get_or s at 0) && test (get_or s (suc at) 0))
unfolding all_of
all_pair test s at within =
    ap (λ (l : List ℕ). all_of test (take 2 l))
    (drop-cons s at 0 (omega arith) ∙ ap (λ (l : List ℕ). get_or s at 0 ∷ l) (drop-cons s (suc at) 0 (omega arith)))
    ∙ ap (λ (t : Bool). test (get_or s at 0) && t) (and-true (test (get_or s (suc at) 0)))

third_wrong : (a b c d : Bool) → c ≡ false → false ≡ (a && b && c && d)
third_wrong true true c d bad = rw bad
third_wrong true false c d bad = refl
third_wrong false b c d bad = refl

-- the shortest line has no edition and no comment
pub shortest_line : (line : List ℕ) → is_line line ≡ true → 71 ≤ length line
shortest_line line good =
    omega (arith, comma-within line (70 + edition_length line) (good_line line good).comma4)

pub too_short : (line : List ℕ) → length line < 71 → false ≡ is_line line
too_short line short =
    either (is_line line)
    (λ good. absurd (omega (arith, shortest_line line good)))
    (λ bad. sym bad)

module _ (line : List ℕ) where
  -- the permit: its name as a word, its date, and its hex as one part
  name_word : Below 256 line → 71 ≤ length line → all_of is_name_character (bytes_of 8 (number_at 8 line 0)) ≡ all_at is_name_character 8 line 0
  name_word below long =
      ap (all_of is_name_character) (bytes_at 8 line 0 below (omega arith)) ∙ sym (all_inside is_name_character 8 line 0 (omega arith))

  cipher_parts : 71 ≤ length line → all_of is_hex (part 48 line 16) ≡ (all_at is_hex 16 line 16 && all_at is_hex 16 line 32 && all_at is_hex 16 line 48)
  cipher_parts long =
      ap (all_of is_hex) (part_join 32 16 line 16)
      ∙ all_append is_hex (part 32 line 16) (part 16 line 48)
      ∙ ap (λ (t : Bool). t && all_of is_hex (part 16 line 48))
      (ap (all_of is_hex) (part_join 16 16 line 16) ∙ all_append is_hex (part 16 line 16) (part 16 line 32))
      ∙ sym (ap₂ (λ (a b : Bool). a && b)
      (ap₂ (λ (a b : Bool). a && b) (all_inside is_hex 16 line 16 (omega arith)) (all_inside is_hex 16 line 32 (omega arith)))
      (all_inside is_hex 16 line 48 (omega arith)))

  module _ (below : Below 256 line) (long : 71 ≤ length line) (x : ℕ) (word : x ≡ number_at 8 line 0) where
    abbrev named : Bool
    named = all_of is_name_character (bytes_of 8 x)

    told : named ≡ all_at is_name_character 8 line 0
    told = ap (λ (w : ℕ). all_of is_name_character (bytes_of 8 w)) word ∙ name_word below long

    pub no_name : named ≡ false → false ≡ is_permit line
    unfolding is_permit
    no_name bad = rw (sym told ∙ bad)

    -- the expiry as a word
    module _ (good : named ≡ true) (y : ℕ) (date : y ≡ number_at 8 line 8) where
      abbrev digital : Bool
      digital = all_of is_digit (bytes_of 8 y)

      digital-told : digital ≡ all_at is_digit 8 line 8
      digital-told = ap (λ (w : ℕ). all_of is_digit (bytes_of 8 w)) date ∙ digits-at line 8 below

      pub no_digits : digital ≡ false → false ≡ is_permit line
      unfolding is_permit is_date_at
      no_digits bad = rw (sym told ∙ good, sym digital-told ∙ bad)

      module _ (all : digital ≡ true) (dated : Bool) (is : dated ≡ is_date (decimal_number (bytes_of 8 y))) where
        date-told : dated ≡ is_date_at line 8
        unfolding is_date_at
        date-told =
            rw (sym digital-told ∙ all)
            (is ∙ ap (λ (l : List ℕ). is_date (decimal_number l)) (ap (bytes_of 8) date ∙ bytes_at 8 line 8 below (omega arith)))

        pub no_date_lem : dated ≡ false → false ≡ is_permit line
        unfolding is_permit
        no_date_lem bad = rw (sym told ∙ good, sym date-told ∙ bad)

        pub by-cipher : dated ≡ true → all_of is_hex (part 48 line 16) ≡ is_permit line
        unfolding is_permit
        by-cipher right = rw (sym told ∙ good, sym date-told ∙ right) (cipher_parts long)

  pub few : (n : ℕ) → n ≡ edition_length line → n ≤ 3
  few n count = edition_few line n count

  -- the edition: 1 for each digit that has only digits before it
  pub counted : (a b c : ℕ)
      → a ≡ cond (is_digit (get_or line 67 0)) 1 0 → b ≡ cond (is_digit (get_or line 68 0)) 1 0 → c ≡ cond (is_digit (get_or line 69 0)) 1 0
      → a + a * b + a * b * c ≡ edition_length line
  counted a b c first second third =
      either (is_digit (get_or line 67 0))
      (λ d₁. either (is_digit (get_or line 68 0))
      (λ d₂. either (is_digit (get_or line 69 0))
      (λ d₃. rw (first, second, third, d₁, d₂, d₃) (three line d₁ d₂ d₃))
      (λ d₃. rw (first, second, third, d₁, d₂, d₃) (two line d₁ d₂ d₃)))
      (λ d₂. either (is_digit (get_or line 69 0))
      (λ d₃. rw (first, second, third, d₁, d₂, d₃) (one line d₁ d₂))
      (λ d₃. rw (first, second, third, d₁, d₂, d₃) (one line d₁ d₂))))
      (λ d₁. either (is_digit (get_or line 68 0))
      (λ d₂. either (is_digit (get_or line 69 0))
      (λ d₃. rw (first, second, third, d₁, d₂, d₃) (blank line d₁))
      (λ d₃. rw (first, second, third, d₁, d₂, d₃) (blank line d₁)))
      (λ d₂. either (is_digit (get_or line 69 0))
      (λ d₃. rw (first, second, third, d₁, d₂, d₃) (blank line d₁))
      (λ d₃. rw (first, second, third, d₁, d₂, d₃) (blank line d₁))))

  -- after an edition of n digits
  module _ (n : ℕ) where
    pub no_room : length line < 71 + n → false ≡ is_server_part line n
    unfolding is_server_part
    no_room short =
        either (comma_at line (70 + n))
        (λ good. absurd (omega (arith, comma-within line (70 + n) good)))
        (λ bad. third_wrong (comma_at line (67 + n)) (all_at is_name_character 2 line (68 + n)) _ _ bad)

    pub no-comma3 : (get_or line (67 + n) 0 ≡ 44 → ⊥) → false ≡ is_server_part line n
    unfolding is_server_part
    no-comma3 other = rw (ne_eqb (get_or line (67 + n) 0) 44 other)

    pub no-comma4 : (get_or line (70 + n) 0 ≡ 44 → ⊥) → false ≡ is_server_part line n
    unfolding is_server_part
    no-comma4 other =
        third_wrong (comma_at line (67 + n)) (all_at is_name_character 2 line (68 + n)) _ _ (ne_eqb (get_or line (70 + n) 0) 44 other)

    module _ (room : 71 + n ≤ length line) (a b : ℕ)
        (first : passes a ≡ is_name_character (get_or line (68 + n) 0)) (second : passes b ≡ is_name_character (get_or line (69 + n) 0)) where
      server : passes (bit_or a b) ≡ all_at is_name_character 2 line (68 + n)
      server =
          let next : 69 + n ≡ suc (68 + n) = omega arith in
          both_pass a b
          ∙ ap₂ (λ (t u : Bool). t && u) first (second ∙ ap (λ (k : ℕ). is_name_character (get_or line k 0)) next)
          ∙ sym (all_inside is_name_character 2 line (68 + n) (omega arith) ∙ all_pair is_name_character line (68 + n) (omega arith))

      pub no-server : 128 ≤ bit_or a b → get_or line (67 + n) 0 ≡ 44 → false ≡ is_server_part line n
      unfolding is_server_part
      no-server bad comma3 = rw (eq-eqb (get_or line (67 + n) 0) 44 comma3, sym server ∙ le-ltb (bit_or a b) 128 bad)

      pub by-comment : bit_or a b < 128 → get_or line (67 + n) 0 ≡ 44 → get_or line (70 + n) 0 ≡ 44
          → all_of is_printable (part (length line - (71 + n)) line (71 + n)) ≡ is_server_part line n
      unfolding is_server_part
      by-comment good comma3 comma4 =
          rw (eq-eqb (get_or line (67 + n) 0) 44 comma3, sym server ∙ lt-ltb (bit_or a b) 128 good, eq-eqb (get_or line (70 + n) 0) 44 comma4)
          (sym (all_inside is_printable (length line - (71 + n)) line (71 + n) (omega arith)))

  -- permit and fields
  tail_parts : is_tail line ≡ (is_level_part line && is_server_part line (edition_length line))
  unfolding is_tail is_level_part is_server_part
  tail_parts = simp and_assoc

  pub too_long : 160 < length line → false ≡ is_line line
  unfolding is_line
  too_long long = rw (lt-leb (length line) 160 long)

  module _ (short : length line ≤ 160) where
    pub no-permit : is_permit line ≡ false → false ≡ is_line line
    unfolding is_line
    no-permit bad = rw (le-leb (length line) 160 short, bad)

    pub no-level-part : is_permit line ≡ true → is_level_part line ≡ false → false ≡ is_line line
    unfolding is_line
    no-level-part good bad = rw (le-leb (length line) 160 short, good, tail_parts, bad)

    pub by_server : is_permit line ≡ true → is_level_part line ≡ true → (n : ℕ) → n ≡ edition_length line → is_server_part line n ≡ is_line line
    unfolding is_line
    by_server good level n count = rw (le-leb (length line) 160 short, good, tail_parts, level, count)
