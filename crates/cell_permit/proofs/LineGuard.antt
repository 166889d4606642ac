-- An accepted line with one of its permit's characters changed by more than its case, or in its name or expiry at all, is refused: the check part is the
-- enciphered CRC-32 of the first 48 characters, letters raised, and each step from these to the check part is one-to-one. Assumes nothing.
use Rattle.std.specs.Prelude.{Result, ⊤}
use mathlib.Core.Path.{◌≡◌, refl, sym, ap, ◌∙◌}
use mathlib.Core.Bool.{Bool, true, false, false≢true}
use mathlib.Core.List.{List}
use Prim.Native.Nat.{ℕ, ◌+◌, ◌-◌, ◌^◌, ◌≤◌, ◌<◌}
use native.Mathlib.Omega.{arith}
use borrow.Author.Tests.{ltb-true, ltb-false, eqb-true}
use lib.Dec.{ltb, eqb}
use lib.ListN.{length, get_or, length-map}
use Rattle.octets.specs.Numbers.{Below}
use Rattle.octets.specs.Every.{all_of}
use Rattle.octets.proofs.Digits.{take_below}
use Rattle.octets.proofs.Every.{either}
use Rattle.text.specs.Characters.{raised, raised_text, is_digit, is_hex, is_name_character, hex_number}
use Rattle.text.specs.Texts.{part}
use Rattle.text.proofs.Notations.{digit_stays, name_stays}
use Rattle.text.proofs.Raising.{part-raised, raised_below, same_letters}
use Rattle.text.proofs.TextsAt.{all_within, all_there, all_byte}
use Rattle.crc32.specs.OneChange.{DifferAt}
use Rattle.crc32.proofs.OneChange.{one_change}
use Rattle.forms.specs.Order.{demand}
use Rattle.forms.specs.Refusals.{by, refused}
use Rattle.forms.specs.declared.refusals.Refusal.{Refusal}
use Rattle.forms.proofs.DateTexts.{date_tests}
use Rattle.forms.proofs.Demands.{demanded, passed, unless_refused, unless_passed}
use Rattle.forms.proofs.OnePlace.{part_before, part-after, part-differs, raised_differ}
use Rattle.cell_permit.specs.CellPermit.{ship_words, check_of}
use Rattle.cell_permit.specs.Line.{is_line, permit_parts, parts_of, key_under, record_of, checked, read_with, given_answer, read_line}
use Rattle.cell_permit.specs.OneCharacter.{is_accepted, LineGuarded}
use Rattle.cell_permit.specs.declared.Record.{Record}
use Rattle.cell_permit.proofs.GoodLine.{good_line}
use Rattle.cell_permit.proofs.ShipCipher.{ship_words_lem, same_crc}

module _ (r : Refusal) (test : Bool) (next : Result Record Refusal) where
  -- what is accepted passed each test, and what fails a test is refused
  not_refused : is_accepted (demand test (refused r) next) ≡ true → (test ≡ true) × (is_accepted next ≡ true)
  not_refused = passed (λ (l : Result Record Refusal). is_accepted l ≡ true) test (refused r) next false≢true

  refused_after : (test ≡ true → is_accepted next ≡ false) → is_accepted (demand test (refused r) next) ≡ false
  refused_after = demanded (λ (l : Result Record Refusal). is_accepted l ≡ false) test (refused r) next refl

-- the check part is 16 hex characters within the line
module _ (s : List ℕ) (line : is_line s ≡ true) where
  check_within : 64 ≤ length s
  check_within = all_within is_hex 16 s 48 (good_line s line).check

  check_hex_lem : all_of is_hex (part 16 s 48) ≡ true
  check_hex_lem = all_there is_hex 16 s 48 (good_line s line).check

-- cell name and expiry have no small letters
start_stays : (s : List ℕ) → is_line s ≡ true → (i : ℕ) → i < 16 → raised (get_or s i 0) ≡ get_or s i 0
start_stays s line i small =
    let good = good_line s line in
    either (ltb i 8)
    (λ h.
    let place : 0 + i ≡ i = omega arith in
    name_stays _ (ap (λ (k : ℕ). is_name_character (get_or s k 0)) (sym place) ∙ all_byte is_name_character 8 s 0 good.name i (ltb-true i 8 h)))
    (λ h.
    let from : 8 ≤ i = ltb-false i 8 h in
    let place : 8 + (i - 8) ≡ i = omega arith in
    digit_stays _ (ap (λ (k : ℕ). is_digit (get_or s k 0)) (sym place) ∙ all_byte is_digit 8 s 8 (date_tests s 8 good.expiry).0 (i - 8) (omega arith)))

-- the check part is right for the first 48 characters with letters raised
abbrev Right : List ℕ → List ℕ → Type 0
Right words s = hex_number (part 16 s 48) ≡ check_of words (raised_text (part 48 s 0))

module _ (words : List ℕ) (good : Below (2 ^ 32) words) (i : ℕ) (s t : List ℕ) (bs : Below 256 s) (bt : Below 256 t) (small : i < 64)
    (d : DifferAt i s t) (later : 16 ≤ i → raised (get_or s i 0) ≡ raised (get_or t i 0) → ⊥)
    (s-line : is_line s ≡ true) (t-line : is_line t ≡ true) (s-right : Right words s) (t-right : Right words t) where
  -- the change is still there with letters raised, in the part that it is in
  more : raised (get_or s i 0) ≡ raised (get_or t i 0) → ⊥
  more e =
      either (ltb i 16)
      (λ h. let early = ltb-true i 16 h in d.there (sym (start_stays s s-line i early) ∙ e ∙ start_stays t t-line i early))
      (λ h. later (ltb-false i 16 h) e)

  differs : (n at : ℕ) → at + n ≤ length s → at ≤ i → i < at + n → DifferAt (i - at) (raised_text (part n s at)) (raised_text (part n t at))
  differs n at within low high =
      rw (part-raised n s at, part-raised n t at) at (part-differs (raised_differ d more) n at (simp length-map within) low high)

  in_first : i < 48 → ⊥
  in_first h =
      one_change (raised_text (part 48 s 0)) (raised_text (part 48 t 0)) (i - 0)
      (raised_below (part 48 s 0) (take_below 48 s bs))
      (raised_below (part 48 t 0) (take_below 48 t bt))
      (differs 48 0 (omega (arith, check_within s s-line)) (omega arith) h)
      (same_crc words good (raised_text (part 48 s 0)) (raised_text (part 48 t 0))
      (sym s-right ∙ ap hex_number (part-after d 16 48 (check_within s s-line) h) ∙ t-right))

  in_check : 48 ≤ i → ⊥
  in_check h =
      (differs 16 48 (check_within s s-line) h small).there
      (ap (λ (l : List ℕ). get_or l (i - 48) 0)
      (same_letters (part 16 s 48) (part 16 t 48) (check_hex_lem s s-line) (check_hex_lem t t-line)
      (part-differs d 16 48 (check_within s s-line) h small).one_length
      (s-right ∙ ap (λ (l : List ℕ). check_of words (raised_text l)) (part_before d 48 0 (omega (arith, check_within s s-line)) h) ∙ sym t-right)))

  not_both : ⊥
  not_both = either (ltb i 48) (λ h. in_first (ltb-true i 48 h)) (λ h. in_check (ltb-false i 48 h))

pub line_guarded : LineGuarded
unfolding read_line read_with checked parts_of permit_parts
line_guarded hw today days i s t bs bt small d later accepted =
    unless_refused (λ (l : Result Record Refusal). is_accepted l ≡ false) given refused (read_with words today days t) (λ r first. refl)
    (λ _. refused_after (by 12) (is_line t) (checked words today days t (parts_of t))
    (λ t-line. refused_after (by 13) (right t) (record_for t)
    (λ t-right. absurd
    (not_both words (ship_words_lem hw) i s t bs bt small d later with-given.0 t-line
    (eqb-true _ _ (not_refused (by 13) (right s) (record_for s) with-given.1).0)
    (eqb-true _ _ t-right)))))
  where
    words : List ℕ
    words = ship_words hw

    given : Result ⊤ Refusal
    given = given_answer hw today days

    right : List ℕ → Bool
    right l = eqb (hex_number (part 16 l 48)) (check_of words (raised_text (part 48 l 0)))

    record_for : List ℕ → Result Record Refusal
    record_for l = record_of today days (parts_of l) (key_under words (parts_of l).permit.block1) (key_under words (parts_of l).permit.block2)

    with-given : (is_line s ≡ true) × (is_accepted (checked words today days s (parts_of s)) ≡ true)
    with-given =
        not_refused (by 12) (is_line s) (checked words today days s (parts_of s))
        (unless_passed (λ (l : Result Record Refusal). is_accepted l ≡ true) given refused (read_with words today days s) (λ r. false≢true) accepted).1
