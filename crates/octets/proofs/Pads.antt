-- A number and its padded block: each gives the other back, at every width up to 8 bytes.
-- Assumes nothing.
use Rattle.std.specs.Prelude.{None, Some}
use mathlib.Core.Path.{◌≡◌, refl, sym, ap, ap₂, ◌∙◌}
use mathlib.Core.Bool.{true}
use mathlib.Core.List.{List, [], ◌∷◌}
use Prim.Native.Nat.{ℕ, zero, suc, ◌+◌, ◌-◌, ◌*◌, ◌/◌, ◌%◌, ◌^◌, ◌≤◌, ◌<◌}
use native.Mathlib.Nat.{mod-lt, mod-eq_of_lt, one-le-pow, div-add-mod', div-lt_iff_lt-mul}
use native.Mathlib.Omega.{arith}
use borrow.Author.Tests.{eqb-true, eq-eqb, ne_eqb}
use lib.Arith.{digits_div, digits_mod, digits_lt}
use lib.Dec.{eqb}
use lib.ListN.{length, drop, replicate, length-replicate}
use lib.Pow.{pow-add}
use Rattle.octets.specs.Numbers.{digits, bytes_of, bytes_number}
use Rattle.octets.specs.Every.{all_of}
use Rattle.octets.specs.Padding.{padded, pad_of, is_padded, unpad_of}
use Rattle.octets.proofs.Digits.{replicate_below, digits-length, value-digits, value_below, digits_value, value_append, digits_of_low, digits-drop}
use Rattle.octets.proofs.Every.{all_first, all_rest, all_more, either, same_tests}

-- "5 bytes get three 03, 4 bytes get four 04"
pub five_get_three : (a b c d e : ℕ) → padded (a ∷ b ∷ c ∷ d ∷ e ∷ []) ≡ a ∷ b ∷ c ∷ d ∷ e ∷ 3 ∷ 3 ∷ 3 ∷ []
unfolding padded
five_get_three a b c d e = refl

pub four_get_four : (a b c d : ℕ) → padded (a ∷ b ∷ c ∷ d ∷ []) ≡ a ∷ b ∷ c ∷ d ∷ 4 ∷ 4 ∷ 4 ∷ 4 ∷ []
unfolding padded
four_get_four a b c d = refl

-- the number of the k bytes k that are added
abbrev pub filling : ℕ → ℕ
filling k = bytes_number (replicate k k)

all_replicate : (d n : ℕ) → all_of (λ (e : ℕ). eqb e d) (replicate n d) ≡ true
unfolding all_of
all_replicate d zero = refl
all_replicate d (suc n) = all_more (λ (e : ℕ). eqb e d) d (replicate n d) (eq-eqb d d refl) (all_replicate d n)

all_same : (d : ℕ) (s : List ℕ) → all_of (λ (e : ℕ). eqb e d) s ≡ true → s ≡ replicate (length s) d
all_same d [] all = refl
all_same d (c ∷ s) all =
    ap₂ (λ (e : ℕ) (es : List ℕ). e ∷ es)
    (eqb-true c d (all_first (λ (e : ℕ). eqb e d) c s all))
    (all_same d s (all_rest (λ (e : ℕ). eqb e d) c s all))

filling_below : (k : ℕ) → k ≤ 8 → filling k < 256 ^ k
filling_below k h = rw length-replicate at (value_below (replicate k k) (replicate_below 256 k k (omega arith)))

-- the low bytes are all k exactly where their number is the filling
low_bytes : (k x : ℕ) → k ≤ 8 → all_of (λ (e : ℕ). eqb e k) (bytes_of k x) ≡ eqb (x % 256 ^ k) (filling k)
low_bytes k x h = same_tests _ _ there back
  where
    there : all_of (λ (e : ℕ). eqb e k) (bytes_of k x) ≡ true → eqb (x % 256 ^ k) (filling k) ≡ true
    there all =
        eq-eqb (x % 256 ^ k) (filling k)
        (sym (value-digits 256 k x (omega arith)) ∙ ap bytes_number (rw digits-length at (all_same k (bytes_of k x) all)))

    bytes : x % 256 ^ k ≡ filling k → bytes_of k x ≡ replicate k k
    bytes e =
        sym (digits_of_low 256 k x (omega arith))
        ∙ ap (digits 256 k) e
        ∙ rw length-replicate at (digits_value (replicate k k) (replicate_below 256 k k (omega arith)))

    back : eqb (x % 256 ^ k) (filling k) ≡ true → all_of (λ (e : ℕ). eqb e k) (bytes_of k x) ≡ true
    back e =
        ap (all_of (λ (e : ℕ). eqb e k)) (bytes (eqb-true (x % 256 ^ k) (filling k) e))
        ∙ all_replicate k k

module _ (n : ℕ) where
  pub pad_sum : (x : ℕ) → pad_of n x ≡ x % 256 ^ n * 256 ^ (8 - n) + filling (8 - n)
  unfolding pad_of padded
  pad_sum x = rw (digits-length, value_append, length-replicate, value-digits 256 n x (omega arith))

  module _ (small : n ≤ 8) where
    pub padded-exactly : (block : ℕ) → is_padded n block ≡ eqb (block % 256 ^ (8 - n)) (filling (8 - n))
    unfolding is_padded
    padded-exactly block =
        let whole : 8 ≡ n + (8 - n) = omega arith in
        ap (all_of (λ (e : ℕ). eqb e (8 - n))) (ap (λ (m : ℕ). drop n (bytes_of m block)) whole ∙ digits-drop 256 n (8 - n) block)
        ∙ low_bytes (8 - n) block (omega arith)

    pub pad-is-padded : (x : ℕ) → is_padded n (pad_of n x) ≡ true
    pad-is-padded x =
        padded-exactly (pad_of n x)
        ∙ eq-eqb _ _ (ap (λ (m : ℕ). m % 256 ^ (8 - n)) (pad_sum x) ∙ digits_mod (x % 256 ^ n) (filling_below (8 - n) (omega arith)))

    pub unpad-pad : (x : ℕ) → unpad_of n (pad_of n x) ≡ Some (x % 256 ^ n)
    unfolding unpad_of
    unpad-pad x =
        rw (pad-is-padded x, pad_sum x, digits_div (x % 256 ^ n) (filling_below (8 - n) (omega arith)))

    pub unpad-pad-fit : (x : ℕ) → x < 256 ^ n → unpad_of n (pad_of n x) ≡ Some x
    unpad-pad-fit x fits = unpad-pad x ∙ ap Some (mod-eq_of_lt fits)

    block_size : 256 ^ 8 ≡ 256 ^ n * 256 ^ (8 - n)
    block_size =
        let whole : 8 ≡ n + (8 - n) = omega arith in
        ap (λ (m : ℕ). 256 ^ m) whole ∙ pow-add 256 n (8 - n)

    pub pad-below : (x : ℕ) → pad_of n x < 256 ^ 8
    pad-below x =
        rw (pad_sum x, block_size) (digits_lt (mod-lt x (one-le-pow n 256 (omega arith))) (filling_below (8 - n) (omega arith)))

    pub unpad-right : (block : ℕ) → block % 256 ^ (8 - n) ≡ filling (8 - n) → unpad_of n block ≡ Some (block / 256 ^ (8 - n))
    unfolding unpad_of
    unpad-right block e = rw (padded-exactly block ∙ eq-eqb _ _ e)

    pub unpad-wrong : (block : ℕ) → (block % 256 ^ (8 - n) ≡ filling (8 - n) → ⊥) → unpad_of n block ≡ None
    unfolding unpad_of
    unpad-wrong block ne = rw (padded-exactly block ∙ ne_eqb _ _ ne)

    -- what a block that passes the test was made of
    parts : (block x : ℕ) → unpad_of n block ≡ Some x → (x ≡ block / 256 ^ (8 - n)) × (block % 256 ^ (8 - n) ≡ filling (8 - n))
    unfolding unpad_of
    parts block x made =
        either (is_padded n block)
        (λ good. (cc (rw good at made), eqb-true _ _ (sym (padded-exactly block) ∙ good)))
        (λ bad. (cc (rw bad at made), cc (rw bad at made)))

    pub unpad-below : (block x : ℕ) → block < 256 ^ 8 → unpad_of n block ≡ Some x → x < 256 ^ n
    unpad-below block x fits made =
        rw (parts block x made).0 ((div-lt_iff_lt-mul (one-le-pow (8 - n) 256 (omega arith))).1 (rw block_size at fits))

    pub pad-unpad : (block x : ℕ) → block < 256 ^ 8 → unpad_of n block ≡ Some x → pad_of n x ≡ block
    pad-unpad block x fits made =
        pad_sum x
        ∙ ap₂ (λ (q r : ℕ). q * 256 ^ (8 - n) + r)
        (mod-eq_of_lt (unpad-below block x fits made) ∙ (parts block x made).0)
        (sym (parts block x made).1)
        ∙ div-add-mod' block (256 ^ (8 - n))

    pub pad-injective : (x y : ℕ) → x < 256 ^ n → y < 256 ^ n → pad_of n x ≡ pad_of n y → x ≡ y
    pad-injective x y x_Fits y-fits same =
        cc (unpad-pad-fit x x_Fits, unpad-pad-fit y y-fits)
