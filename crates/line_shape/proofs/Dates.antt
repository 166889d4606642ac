-- Eight digits as pairs, and what the pairs say of the date.
-- Assumes nothing.
use Rattle.std.proofs.Common.{◌≡◌, ℕ, ◌+◌, ◌-◌, ◌*◌, ◌/◌, ◌%◌, ◌<◌, ◌≤◌, true, ◌&&◌, leb, get_or, sym, ◌∙◌, ap₂, arith, le-leb}
use Rattle.octets.specs.Numbers.{digits, bytes_of}
use Rattle.octets.specs.Every.{all_of}
use Rattle.octets.proofs.Every.{and_first, and_second, all_at_lem}
use Rattle.text.specs.Characters.{between, is_digit, decimal_number}
use Rattle.text.proofs.Notations.{between_low, between_high, digit_low, digit_high}
use Rattle.dates.specs.Calendar.{year, month, day, days_in, within, is_date}
use Rattle.dates.proofs.Months.{early_day}
use Rattle.forms.proofs.EightDigits.{eight-digits}
use Rattle.line_shape.specs.Pairs.{is_early}

-- one byte of a number, with what is above and below it
byte_48 : (p high l low : ℕ) → l < 256 → low < 281474976710656 → p ≡ high * 72057594037927936 + l * 281474976710656 + low → p / 281474976710656 % 256 ≡ l
byte_48 p high l low small rest is = omega arith

byte_32 : (p high l low : ℕ) → l < 256 → low < 4294967296 → p ≡ high * 1099511627776 + l * 4294967296 + low → p / 4294967296 % 256 ≡ l
byte_32 p high l low small rest is = omega arith

byte_16 : (p high l low : ℕ) → l < 256 → low < 65536 → p ≡ high * 16777216 + l * 65536 + low → p / 65536 % 256 ≡ l
byte_16 p high l low small rest is = omega arith

byte_0 : (p high l : ℕ) → l < 256 → p ≡ high * 256 + l → p % 256 ≡ l
byte_0 p high l small is = omega arith

-- eight bytes as one number
abbrev joined : ℕ → ℕ → ℕ → ℕ → ℕ → ℕ → ℕ → ℕ → ℕ
joined a b c d e f g h =
    a * 72057594037927936 + b * 281474976710656 + c * 1099511627776 + d * 4294967296 + e * 16777216 + f * 65536 + g * 256 + h

-- every second one of them, where none is above 99
module _ (p a b c d e f g h : ℕ) (is : p ≡ joined a b c d e f g h) where
  second : b ≤ 99 → c ≤ 99 → d ≤ 99 → e ≤ 99 → f ≤ 99 → g ≤ 99 → h ≤ 99 → p / 281474976710656 % 256 ≡ b
  second b_s c-s d-s e-s f-s g-s h-s =
      byte_48 p a b (c * 1099511627776 + d * 4294967296 + e * 16777216 + f * 65536 + g * 256 + h) (omega arith) (omega arith) (omega arith)

  fourth : d ≤ 99 → e ≤ 99 → f ≤ 99 → g ≤ 99 → h ≤ 99 → p / 4294967296 % 256 ≡ d
  fourth d-s e-s f-s g-s h-s =
      byte_32 p (a * 65536 + b * 256 + c) d (e * 16777216 + f * 65536 + g * 256 + h) (omega arith) (omega arith) (omega arith)

  sixth : f ≤ 99 → g ≤ 99 → h ≤ 99 → p / 65536 % 256 ≡ f
  sixth f-s g-s h-s =
      byte_16 p (a * 4294967296 + b * 16777216 + c * 65536 + d * 256 + e) f (g * 256 + h) (omega arith) (omega arith) (omega arith)

  eighth : h ≤ 99 → p % 256 ≡ h
  eighth h-s =
      byte_0 p (a * 281474976710656 + b * 1099511627776 + c * 4294967296 + d * 16777216 + e * 65536 + f * 256 + g) h (omega arith) (omega arith)

pair_most : {a b : ℕ} → a ≤ 9 → b ≤ 9 → a * 10 + b ≤ 99
pair_most x y = omega arith

shifted : (w a b c d e f g h : ℕ) → h ≤ 9 → w ≡ joined a b c d e f g h
    → w / 256 ≡ a * 281474976710656 + b * 1099511627776 + c * 4294967296 + d * 16777216 + e * 65536 + f * 256 + g
shifted w a b c d e f g h small is = omega arith

paired : (w a b c d e f g h : ℕ) → h ≤ 9 → w ≡ joined a b c d e f g h
    → w / 256 * 10 + w ≡ joined a (a * 10 + b) (b * 10 + c) (c * 10 + d) (d * 10 + e) (e * 10 + f) (f * 10 + g) (g * 10 + h)
paired w a b c d e f g h small is = omega (arith, shifted w a b c d e f g h small is)

-- the number of eight digits by its pairs
parted : (n a b c d : ℕ) → b ≤ 99 → c ≤ 99 → d ≤ 99 → n ≡ a * 1000000 + b * 10000 + c * 100 + d
    → (n / 10000 ≡ a * 100 + b) × (n / 100 % 100 ≡ c) × (n % 100 ≡ d)
parted n a b c d b_s c-s d-s is = (omega arith, omega arith, omega arith)

range : (low high n : ℕ) → between low high n ≡ true → (low ≤ n) × (n ≤ high)
range low high n e = (between_low low high n e, between_high low high n e)

apart : (c : ℕ) → is_digit c ≡ true → (c ≡ c - 48 + 48) × (c - 48 ≤ 9)
apart c digit = (omega (arith, digit_low c digit), omega (arith, digit_high c digit))

chained : (x q₁ q₂ q₃ q₄ q₅ q₆ q₇ r₀ r₁ r₂ r₃ r₄ r₅ r₆ r₇ : ℕ)
    → x ≡ q₁ * 256 + r₀ → q₁ ≡ q₂ * 256 + r₁ → q₂ ≡ q₃ * 256 + r₂ → q₃ ≡ q₄ * 256 + r₃ → q₄ ≡ q₅ * 256 + r₄ → q₅ ≡ q₆ * 256 + r₅ → q₆ ≡ q₇ * 256 + r₆ → q₇ ≡ r₇
    → x ≡ joined r₇ r₆ r₅ r₄ r₃ r₂ r₁ r₀
chained x q₁ q₂ q₃ q₄ q₅ q₆ q₇ r₀ r₁ r₂ r₃ r₄ r₅ r₆ r₇ e₀ e₁ e₂ e₃ e₄ e₅ e₆ e₇ = omega arith

bytes_whole : (x : ℕ) → x < 18446744073709551616
    → x
    ≡ joined (x / 72057594037927936 % 256) (x / 281474976710656 % 256) (x / 1099511627776 % 256) (x / 4294967296 % 256) (x / 16777216 % 256)
    (x / 65536 % 256) (x / 256 % 256) (x / 1 % 256)
bytes_whole x fits =
    chained x (x / 256) (x / 65536) (x / 16777216) (x / 4294967296) (x / 1099511627776) (x / 281474976710656) (x / 72057594037927936) _ _ _ _ _ _ _ _
    (omega arith) (omega arith) (omega arith) (omega arith) (omega arith) (omega arith) (omega arith) (omega arith)

module _ (a b c d e f g h n a' b' c' d' e' f' g' h' : ℕ)
    (ea : a' ≡ a + 48) (eb : b' ≡ b + 48) (ec : c' ≡ c + 48) (ed : d' ≡ d + 48) (ee : e' ≡ e + 48) (ef : f' ≡ f + 48) (eg : g' ≡ g + 48)
    (eh : h' ≡ h + 48) where
  -- 48 more in each byte
  more : n ≡ joined a' b' c' d' e' f' g' h' → n ≡ joined a b c d e f g h + 3472328296227680304
  more is = omega arith

  -- and in each digit
  weighed-is
      : a' * 10000000 + b' * 1000000 + c' * 100000 + d' * 10000 + e' * 1000 + f' * 100 + g' * 10 + h' ≡ n + 533333328
      → n ≡ a * 10000000 + b * 1000000 + c * 100000 + d * 10000 + e * 1000 + f * 100 + g * 10 + h
  weighed-is is = omega arith

tens : (a b c d e f g h : ℕ)
    → a * 10000000 + b * 1000000 + c * 100000 + d * 10000 + e * 1000 + f * 100 + g * 10 + h
    ≡ (a * 10 + b) * 1000000 + (c * 10 + d) * 10000 + (e * 10 + f) * 100 + (g * 10 + h)
tens a b c d e f g h = omega arith

by_pairs : (n p q r s p' q' r' s' : ℕ) → n ≡ p' * 1000000 + q' * 10000 + r' * 100 + s' → p ≡ p' → q ≡ q' → r ≡ r' → s ≡ s'
    → n ≡ (p * 100 + q) * 10000 + r * 100 + s
by_pairs n p q r s p' q' r' s' is ep eq er es = omega arith

fit : (p a b c d e f g h : ℕ) → p ≡ joined a b c d e f g h → a ≤ 9 → b ≤ 99 → c ≤ 99 → d ≤ 99 → e ≤ 99 → f ≤ 99 → g ≤ 99 → h ≤ 99 → p < 18446744073709551616
fit p a b c d e f g h is a_s b_s c-s d-s e-s f-s g-s h-s = omega arith

less : (x k z : ℕ) → x ≡ k + z → x - z ≡ k
less x k z is = omega arith

at_least : (x k z : ℕ) → x ≡ k + z → z ≤ x
at_least x k z is = omega arith

year_range : (p q : ℕ) → 19 ≤ p → p ≤ 29 → q ≤ 99 → (1900 ≤ p * 100 + q) × (p * 100 + q ≤ 2999)
year_range p q low high small = (omega arith, omega arith)

-- a year, a month and a day that every month has
dated : (n y m d : ℕ) → n / 10000 ≡ y → n / 100 % 100 ≡ m → n % 100 ≡ d → 1900 ≤ y → y ≤ 2999 → 1 ≤ m → m ≤ 12 → 1 ≤ d → d ≤ 28 → true ≡ is_date n
unfolding is_date year month day within
dated n y m d is-year is-month is-day y-low y-high m-low m-high d-low d-high =
    let early : within 1 (days_in y m) d ≡ leb 1 d = early_day y m m-low m-high d (omega arith) in
    sym (rw (is-year, is-month, is-day, le-leb 1900 y y-low, le-leb y 2999 y-high, le-leb 1 m m-low, le-leb m 12 m-high) (early ∙ le-leb 1 d d-low))

-- a number whose eight bytes are digits
module _ (x : ℕ) (fits : x < 18446744073709551616) (all : all_of is_digit (bytes_of 8 x) ≡ true) where
  byte : (i : ℕ) → i < 8 → is_digit (get_or (bytes_of 8 x) i 0) ≡ true
  unfolding digits
  byte i h = all_at_lem is_digit (bytes_of 8 x) all i h

  abbrev a : ℕ
  a = x / 72057594037927936 % 256 - 48

  abbrev b : ℕ
  b = x / 281474976710656 % 256 - 48

  abbrev c : ℕ
  c = x / 1099511627776 % 256 - 48

  abbrev d : ℕ
  d = x / 4294967296 % 256 - 48

  abbrev e : ℕ
  e = x / 16777216 % 256 - 48

  abbrev f : ℕ
  f = x / 65536 % 256 - 48

  abbrev g : ℕ
  g = x / 256 % 256 - 48

  abbrev h : ℕ
  h = x / 1 % 256 - 48

  -- each byte is 48 more than its digit
  a_is : (x / 72057594037927936 % 256 ≡ a + 48) × (a ≤ 9)
  unfolding digits
  a_is = apart (x / 72057594037927936 % 256) (byte 0 (omega arith))

  b_is : (x / 281474976710656 % 256 ≡ b + 48) × (b ≤ 9)
  unfolding digits
  b_is = apart (x / 281474976710656 % 256) (byte 1 (omega arith))

  c_is : (x / 1099511627776 % 256 ≡ c + 48) × (c ≤ 9)
  unfolding digits
  c_is = apart (x / 1099511627776 % 256) (byte 2 (omega arith))

  d_is : (x / 4294967296 % 256 ≡ d + 48) × (d ≤ 9)
  unfolding digits
  d_is = apart (x / 4294967296 % 256) (byte 3 (omega arith))

  e_is : (x / 16777216 % 256 ≡ e + 48) × (e ≤ 9)
  unfolding digits
  e_is = apart (x / 16777216 % 256) (byte 4 (omega arith))

  f_is : (x / 65536 % 256 ≡ f + 48) × (f ≤ 9)
  unfolding digits
  f_is = apart (x / 65536 % 256) (byte 5 (omega arith))

  g_is : (x / 256 % 256 ≡ g + 48) × (g ≤ 9)
  unfolding digits
  g_is = apart (x / 256 % 256) (byte 6 (omega arith))

  h_is : (x / 1 % 256 ≡ h + 48) × (h ≤ 9)
  unfolding digits
  h_is = apart (x / 1 % 256) (byte 7 (omega arith))

  whole : x ≡ joined a b c d e f g h + 3472328296227680304
  whole =
      more a b c d e f g h x _ _ _ _ _ _ _ _ a_is.0 b_is.0 c_is.0 d_is.0 e_is.0 f_is.0 g_is.0 h_is.0 (bytes_whole x fits)

  pub zeros_fit : 3472328296227680304 ≤ x
  zeros_fit = at_least x (joined a b c d e f g h) 3472328296227680304 whole

  abbrev w : ℕ
  w = x - 3472328296227680304

  abbrev pairs : ℕ
  pairs = w / 256 * 10 + w

  w_is : w ≡ joined a b c d e f g h
  w_is = less x (joined a b c d e f g h) 3472328296227680304 whole

  pairs_are : pairs ≡ joined a (a * 10 + b) (b * 10 + c) (c * 10 + d) (d * 10 + e) (e * 10 + f) (f * 10 + g) (g * 10 + h)
  pairs_are = paired w a b c d e f g h h_is.1 w_is

  ab : a * 10 + b ≤ 99
  ab = pair_most a_is.1 b_is.1

  bc : b * 10 + c ≤ 99
  bc = pair_most b_is.1 c_is.1

  cd : c * 10 + d ≤ 99
  cd = pair_most c_is.1 d_is.1

  de : d * 10 + e ≤ 99
  de = pair_most d_is.1 e_is.1

  ef : e * 10 + f ≤ 99
  ef = pair_most e_is.1 f_is.1

  fg : f * 10 + g ≤ 99
  fg = pair_most f_is.1 g_is.1

  gh : g * 10 + h ≤ 99
  gh = pair_most g_is.1 h_is.1

  century_is : pairs / 281474976710656 % 256 ≡ a * 10 + b
  century_is = second pairs a (a * 10 + b) (b * 10 + c) (c * 10 + d) (d * 10 + e) (e * 10 + f) (f * 10 + g) (g * 10 + h) pairs_are ab bc cd de ef fg gh

  year_is : pairs / 4294967296 % 256 ≡ c * 10 + d
  year_is = fourth pairs a (a * 10 + b) (b * 10 + c) (c * 10 + d) (d * 10 + e) (e * 10 + f) (f * 10 + g) (g * 10 + h) pairs_are cd de ef fg gh

  month_is : pairs / 65536 % 256 ≡ e * 10 + f
  month_is = sixth pairs a (a * 10 + b) (b * 10 + c) (c * 10 + d) (d * 10 + e) (e * 10 + f) (f * 10 + g) (g * 10 + h) pairs_are ef fg gh

  day_is : pairs % 256 ≡ g * 10 + h
  day_is = eighth pairs a (a * 10 + b) (b * 10 + c) (c * 10 + d) (d * 10 + e) (e * 10 + f) (f * 10 + g) (g * 10 + h) pairs_are gh

  -- no sum overflows
  pub pairs_fit : pairs < 18446744073709551616
  pairs_fit =
      fit pairs a (a * 10 + b) (b * 10 + c) (c * 10 + d) (d * 10 + e) (e * 10 + f) (f * 10 + g) (g * 10 + h) pairs_are a_is.1 ab bc cd de ef fg gh

  a_first : x / 72057594037927936 ≡ x / 72057594037927936 % 256
  a_first = omega arith

  h_last : x % 256 ≡ x / 1 % 256
  h_last = omega arith

  abbrev number : ℕ
  number = decimal_number (bytes_of 8 x)

  digits_number : number ≡ (a * 10 + b) * 1000000 + (c * 10 + d) * 10000 + (e * 10 + f) * 100 + (g * 10 + h)
  digits_number =
      weighed-is a b c d e f g h number _ _ _ _ _ _ _ _
      (a_first ∙ a_is.0) b_is.0 c_is.0 d_is.0 e_is.0 f_is.0 g_is.0 (h_last ∙ h_is.0) (eight-digits x fits all)
      ∙ tens a b c d e f g h

  -- the number as the pairs give it
  pub number_is
      : number ≡ (pairs / 281474976710656 % 256 * 100 + pairs / 4294967296 % 256) * 10000 + pairs / 65536 % 256 * 100 + pairs % 256
  number_is = by_pairs number _ _ _ _ _ _ _ _ digits_number century_is year_is month_is day_is

  -- a century from 19 to 29, a month, and one of the first 28 days are a date
  pub early_date : is_early pairs ≡ true → true ≡ is_date number
  unfolding is_early
  early_date early =
      let century = between 19 29 (pairs / 281474976710656 % 256) in
      let months = between 1 12 (pairs / 65536 % 256) in
      let days = between 1 28 (pairs % 256) in
      let first = and_first (century && months) days early in
      let centuries = range 19 29 (pairs / 281474976710656 % 256) (and_first century months first) in
      let month-in = range 1 12 (pairs / 65536 % 256) (and_second century months first) in
      let day-in = range 1 28 (pairs % 256) (and_second (century && months) days early) in
      let years = year_range (pairs / 281474976710656 % 256) (pairs / 4294967296 % 256) centuries.0 centuries.1 (rw year_is cd) in
      let split = parted number (a * 10 + b) (c * 10 + d) (e * 10 + f) (g * 10 + h) cd ef gh digits_number in
      dated number (pairs / 281474976710656 % 256 * 100 + pairs / 4294967296 % 256) (pairs / 65536 % 256) (pairs % 256)
      (split.0 ∙ sym (ap₂ (λ (u v : ℕ). u * 100 + v) century_is year_is)) (split.1 ∙ sym month_is) (split.2 ∙ sym day_is)
      years.0 years.1 month-in.0 month-in.1 day-in.0 day-in.1
