-- The digits of a number and the number of digits undo one another, in every base and at every width.
-- Assumes nothing.
use mathlib.Core.Path.{◌≡◌, refl, sym, ap, ap₂, ◌∙◌}
use mathlib.Core.List.{List, [], ◌∷◌, ◌++◌}
use Prim.Native.Nat.{ℕ, zero, suc, ◌+◌, ◌*◌, ◌/◌, ◌%◌, ◌^◌, ◌<◌}
use native.Mathlib.Nat.{add-suc, suc-add, zero-add, add-zero, mul_assoc, add-mul, pow-zero, pow-suc, pow-succ', mul_left_comm, mod-one, div-one, mod-lt, mod-eq_of_lt, one-le-pow, mul-add-div, mul-add-mod_self_right, div-add-mod'}
use native.Mathlib.Omega.{arith}
use lib.Arith.{digits_div, digits_lt, mod-mul}
use lib.ListN.{length, take, drop, set, replicate, length-append, get_or-eq_default}
use lib.Seq.{get_or-drop}
use lib.Pow.{pow-add}
use Rattle.std.specs.Int.{bytes_high_first}
use Rattle.octets.specs.Numbers.{digits, bytes_of, value, Below}

pub base_positive : {b : ℕ} (ds : List ℕ) → Below b ds → 0 < b
base_positive ds below = omega (arith, below (length ds), get_or-eq_default ds 0 {n = length ds} (omega arith))

pub take_below : {b : ℕ} (n : ℕ) (s : List ℕ) → Below b s → Below b (take n s)
take_below zero s below i = base_positive s below
take_below (suc n) [] below i = below i
take_below (suc n) (c ∷ s) below zero = below 0
take_below (suc n) (c ∷ s) below (suc i) = take_below n s (λ j. below (suc j)) i

pub drop_below : {b : ℕ} (n : ℕ) (s : List ℕ) → Below b s → Below b (drop n s)
drop_below n s below i = rw get_or-drop (below (n + i))

pub append_below : {b : ℕ} (s t : List ℕ) → Below b s → Below b t → Below b (s ++ t)
append_below [] t hs ht i = ht i
append_below (c ∷ s) t hs ht zero = hs 0
append_below (c ∷ s) t hs ht (suc i) = append_below s t (λ j. hs (suc j)) ht i

pub set_below : {b : ℕ} (s : List ℕ) (i v : ℕ) → Below b s → v < b → Below b (set s i v)
set_below [] i v h hv k = h k
set_below (x ∷ l) zero v h hv zero = hv
set_below (x ∷ l) zero v h hv (suc k) = h (suc k)
set_below (x ∷ l) (suc i) v h hv zero = h zero
set_below (x ∷ l) (suc i) v h hv (suc k) = set_below l i v (λ j. h (suc j)) hv k

pub replicate_below : (b n d : ℕ) → d < b → Below b (replicate n d)
replicate_below b zero d h i = omega arith
replicate_below b (suc n) d h zero = h
replicate_below b (suc n) d h (suc i) = replicate_below b n d h i

pub digits-length : (b n x : ℕ) → length (digits b n x) ≡ n
unfolding digits
digits-length b zero x = refl
digits-length b (suc n) x = ap suc (digits-length b n x)

pub digits_below : (b n x : ℕ) → 0 < b → Below b (digits b n x)
unfolding digits
digits_below b zero x pos i = pos
digits_below b (suc n) x pos zero = mod-lt (x / b ^ n) pos
digits_below b (suc n) x pos (suc i) = digits_below b n x pos i

pub value-digits : (b n x : ℕ) → 0 < b → value b (digits b n x) ≡ x % b ^ n
unfolding digits value
value-digits b zero x pos = sym (ap (λ (m : ℕ). x % m) (pow-zero b) ∙ mod-one x)
value-digits b (suc n) x pos =
    ap₂ (λ (k v : ℕ). (x / b ^ n % b) * b ^ k + v) (digits-length b n x) (value-digits b n x pos)
    ∙ sym (ap (λ (m : ℕ). x % m) (pow-succ' b n) ∙ mod-mul x pos (one-le-pow n b pos))

pub value-digits_fit : (b n x : ℕ) → 0 < b → x < b ^ n → value b (digits b n x) ≡ x
value-digits_fit b n x pos fits = value-digits b n x pos ∙ mod-eq_of_lt fits

pub value_below : {b : ℕ} (ds : List ℕ) → Below b ds → value b ds < b ^ length ds
unfolding value
value_below [] below = rw pow-zero (omega arith)
value_below {b} (d ∷ ds) below =
    rw pow-succ' (digits_lt (below 0) (value_below ds (λ i. below (suc i))))

-- what lies above the n lowest digits does not change them
high_part : (b n k q r : ℕ) → 0 < b → digits b n (q * b ^ (n + k) + r) ≡ digits b n r
unfolding digits
high_part b zero k q r pos = refl
high_part b (suc n) k q r pos =
    ap₂ (λ (d : ℕ) (ds : List ℕ). d ∷ ds)
    (ap (λ (m : ℕ). (m + r) / b ^ n % b) shifted
    ∙ ap (λ (m : ℕ). m % b) (mul-add-div (one-le-pow n b pos) (q * b ^ k * b) r)
    ∙ mul-add-mod_self_right (q * b ^ k) b (r / b ^ n))
    (ap (λ (m : ℕ). digits b n (q * b ^ m + r)) (suc-add n k ∙ sym (add-suc n k)) ∙ high_part b n (suc k) q r pos)
  where
    shifted : q * b ^ (suc n + k) ≡ b ^ n * (q * b ^ k * b)
    shifted =
        ap (λ (m : ℕ). q * b ^ m) (suc-add n k)
        ∙ rw (pow-suc, pow-add, mul_assoc (b ^ n), mul_left_comm q, mul_assoc q)

pub digits_value : {b : ℕ} (ds : List ℕ) → Below b ds → digits b (length ds) (value b ds) ≡ ds
unfolding digits value
digits_value [] below = refl
digits_value {b} (d ∷ ds) below =
    ap₂ (λ (e : ℕ) (es : List ℕ). e ∷ es)
    (ap (λ (m : ℕ). m % b) (digits_div d (value_below ds rest)) ∙ mod-eq_of_lt (below 0))
    (ap (λ (m : ℕ). digits b (length ds) (d * b ^ m + value b ds)) (sym (add-zero (length ds)))
    ∙ high_part b (length ds) 0 d (value b ds) (base_positive ds rest)
    ∙ digits_value ds rest)
  where
    rest : Below b ds
    rest i = below (suc i)

-- digits are told apart by their number, at one length
pub value_injective : {b : ℕ} (ds es : List ℕ) → Below b ds → Below b es → length ds ≡ length es → value b ds ≡ value b es → ds ≡ es
value_injective {b} ds es d e same_length same =
    sym (digits_value ds d) ∙ ap₂ (digits b) same_length same ∙ digits_value es e

pub value_append : (b : ℕ) (ds es : List ℕ) → value b (ds ++ es) ≡ value b ds * b ^ length es + value b es
unfolding value
value_append b [] es = omega arith
value_append b (d ∷ ds) es =
    ap₂ (λ (k v : ℕ). d * b ^ k + v) (length-append ds es) (value_append b ds es)
    ∙ rw (pow-add, add-mul, mul_assoc) (omega arith)

pub digits_of_low : (b n x : ℕ) → 0 < b → digits b n (x % b ^ n) ≡ digits b n x
digits_of_low b n x pos =
    sym (high_part b n 0 (x / b ^ n) (x % b ^ n) pos)
    ∙ ap (λ (m : ℕ). digits b n (x / b ^ n * b ^ m + x % b ^ n)) (add-zero n)
    ∙ ap (digits b n) (div-add-mod' x (b ^ n))

pub digits-drop : (b n m x : ℕ) → drop n (digits b (n + m) x) ≡ digits b m x
unfolding digits
digits-drop b zero m x = rw zero-add
digits-drop b (suc n) m x = rw suc-add (digits-drop b n m x)

-- the library's bytes of a number, the highest first, are its digits in base 256
pub bytes_are_digits : (k x : ℕ) → bytes_high_first k x ≡ bytes_of k x
unfolding digits
bytes_are_digits zero x = refl
bytes_are_digits (suc zero) x = rw (pow-zero, div-one) refl
bytes_are_digits (suc (suc k)) x = ap (λ (l : List ℕ). x / 256 ^ suc k % 256 ∷ l) (bytes_are_digits (suc k) x)
