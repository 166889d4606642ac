-- How many CR LFs a list has: byte by byte, no more in a part, one fewer after a line, and two bytes for each.
-- Assumes nothing.
use mathlib.Core.Path.{◌≡◌, refl, sym, ap, ◌∙◌}
use mathlib.Core.Bool.{Bool, true, false, ◌&&◌}
use mathlib.Core.List.{List, [], ◌∷◌}
use Prim.Native.Nat.{ℕ, zero, suc, ◌+◌, ◌-◌, ◌*◌, ◌≤◌, ◌<◌}
use native.Mathlib.Nat.{le_of_suc-le-suc}
use Rattle.std.proofs.Common.{add-zero}
use mir.Val.{bool_byte}
use native.Mathlib.Omega.{arith}
use borrow.Author.Tests.{eqb-true}
use lib.Dec.{eqb}
use lib.ListN.{length, get_or, drop, length-drop}
use lib.Seq.{drop-cons, drop-drop, get_or-drop}
use Rattle.octets.proofs.Every.{and_first, and_second, either}
use Rattle.file_lines.specs.Lines.{is_line_end, line_length, line_ends}
use Rattle.report.specs.LookThrough.{line_ends_in}
use Rattle.report.specs.Turns.{one_if}

-- CR LF stands where a byte is put before a list
abbrev ends : ℕ → List ℕ → Bool
ends c s = eqb c 13 && eqb (get_or s 0 0) 10

-- a test as a number
pub byte_of : (test : Bool) → bool_byte test ≡ one_if test
byte_of true = refl
byte_of false = refl

one_at_most : (test : Bool) → one_if test ≤ 1
one_at_most true = omega arith
one_at_most false = omega arith

by_head : (c : ℕ) (s : List ℕ) → line_ends_in (c ∷ s) ≡ one_if (ends c s) + line_ends_in s
unfolding line_ends_in
by_head c s = either (ends c s) (λ here. rw here (omega arith)) (λ on. rw on (omega arith))

-- CR LF stands at a byte and the one before it, or does not
pub next_counted : (s : List ℕ) (i : ℕ) → 0 < i → i < length s
    → line_ends_in (drop (i - 1) s) ≡ bool_byte (is_line_end (get_or s (i - 1) 0) (get_or s i 0)) + line_ends_in (drop (i + 1 - 1) s)
next_counted s i first h =
    let e : suc (i - 1) ≡ i = omega arith in
    let here : i + 1 - 1 ≡ i = omega arith in
    let next : get_or (drop i s) 0 0 ≡ get_or s i 0 = get_or-drop i s 0 0 ∙ ap (λ (n : ℕ). get_or s n 0) (add-zero i) in
    let split : drop (i - 1) s ≡ get_or s (i - 1) 0 ∷ drop i s =
    drop-cons s (i - 1) 0 (omega arith) ∙ ap (λ (n : ℕ). get_or s (i - 1) 0 ∷ drop n s) e in
    ap line_ends_in split
    ∙ by_head (get_or s (i - 1) 0) (drop i s)
    ∙ ap (λ (b : ℕ). one_if (eqb (get_or s (i - 1) 0) 13 && eqb b 10) + line_ends_in (drop i s)) next
    ∙ ap (λ (n : ℕ). n + line_ends_in (drop i s)) (sym (byte_of (is_line_end (get_or s (i - 1) 0) (get_or s i 0))))
    ∙ ap (λ (n : ℕ). bool_byte (is_line_end (get_or s (i - 1) 0) (get_or s i 0)) + line_ends_in (drop n s)) (sym here)

pub fewer_after : (n : ℕ) (s : List ℕ) → line_ends_in (drop n s) ≤ line_ends_in s
fewer_after zero s = omega arith
fewer_after (suc n) [] = omega arith
fewer_after (suc n) (c ∷ s) = omega (arith, fewer_after n s, by_head c s)

one_fewer : (s : List ℕ) → line_length s < length s → suc (line_ends_in (drop (line_length s + 2) s)) ≤ line_ends_in s
unfolding line_length line_ends_in
one_fewer [] h = omega arith
one_fewer (c ∷ s) h =
    either (ends c s)
    (λ here. rw here (omega (arith, fewer_after 1 s)))
    (λ on.
    let e : suc (line_length s) + 2 ≡ suc (line_length s + 2) = omega arith in
    rw (on, e) (one_fewer s (le_of_suc-le-suc (rw on at h))))

-- an ended line goes past a CR LF
pub line_passed : (file : List ℕ) (place : ℕ) → line_ends file place < length file
    → suc (line_ends_in (drop (line_ends file place + 2) file)) ≤ line_ends_in (drop place file)
unfolding line_ends
line_passed file place h =
    let s = drop place file in
    let e : place + (line_length s + 2) ≡ place + line_length s + 2 = omega arith in
    rw (← e, ← drop-drop (line_length s + 2) place file) (one_fewer s (omega (arith, length-drop place file)))

-- an LF at the start belongs to none of them
two_and_first : (s : List ℕ) → 2 * line_ends_in s + one_if (eqb (get_or s 0 0) 10) ≤ length s
unfolding line_ends_in
two_and_first [] = omega arith
two_and_first (c ∷ s) =
    either (ends c s)
    (λ here.
    let cr : c ≡ 13 = eqb-true c 13 (and_first (eqb c 13) (eqb (get_or s 0 0) 10) here) in
    let lf = and_second (eqb c 13) (eqb (get_or s 0 0) 10) here in
    let later : 2 * line_ends_in s + 1 ≤ length s = rw lf at (two_and_first s) in
    rw (here, cr) (omega arith))
    (λ on. rw on (omega (arith, two_and_first s, one_at_most (eqb c 10), one_at_most (eqb (get_or s 0 0) 10))))

pub two_bytes_each : (s : List ℕ) → 2 * line_ends_in s ≤ length s
two_bytes_each s = omega (arith, two_and_first s)

-- one for two bytes, and none for one
pub few_ends : (s : List ℕ) (i : ℕ) → length s ≤ i + 1 → line_ends_in (drop i s) ≡ 0
few_ends s i last = omega (arith, two_bytes_each (drop i s), length-drop i s)
