-- The bytes of an undamaged book after a tenant's warning days are written are those of the book with these days.
-- Assumes nothing.
use mathlib.Core.Path.{◌≡◌, sym, ap, ap₂, ◌∙◌}
use mathlib.Core.Bool.{true}
use mathlib.Core.List.{List, [], ◌∷◌, ◌++◌, append_assoc}
use Prim.Native.Nat.{ℕ, suc, ◌+◌, ◌/◌, ◌%◌, ◌^◌, ◌<◌}
use native.Mathlib.Omega.{arith}
use lib.ListN.{length, take, drop, get_or, set, length-append, take-append-drop}
use lib.Seq.{drop-cons, set_at, length-take-le}
use Rattle.octets.specs.Numbers.{digits, bytes_of}
use Rattle.octets.proofs.Digits.{digits-length}
use Rattle.text.specs.Texts.{placed}
use Rattle.text.proofs.PlacedTexts.{placed_none, placed_first}
use Rattle.tenants.specs.declared.Setting.{Setting}
use Rattle.tenants.specs.Alone.{with_days}
use Rattle.tenants.specs.Rules.{sets}
use Rattle.tenants.specs.Together.{BookRecord, no_setting, changed}
use Rattle.tenants.proofs.Goodness.{Good}
use Rattle.layout.specs.Layout.{two, book_bytes_by, setting_bytes, record_bytes, all_bytes, book_bytes, setting_place, book_of, is_book}
use Rattle.layout.proofs.Each.{bytes_append}
use Rattle.layout.proofs.Sizes.{settings_size}
use Rattle.layout.proofs.ReadBack.{start, rest}
use Rattle.layout.proofs.Promises.{good as Good-book, written_so}
use Rattle.records.proofs.Around.{replaced_at}

-- a number of one byte
pub byte_put : (at x : ℕ) (s : List ℕ) → x < 256 → at < length s → set s at x ≡ placed at (bytes_of 1 x) s
unfolding digits
byte_put at x s h room =
    let low : x / 256 ^ 0 % 256 ≡ x = omega arith in
    sym (placed_none (suc at) (set s at x)) ∙ placed_first at x [] s (omega arith) ∙ ap (λ (v : ℕ). placed at (v ∷ []) s) (sym low)

-- the warning days of the setting after some others
days_replaced : (days : ℕ) (records : List BookRecord) (front : List Setting) (x : Setting) (back : List Setting)
    → placed (setting_place (length front) + 2) (bytes_of 1 days) (book_bytes (record { settings = front ++ (x ∷ back); records = records }))
    ≡ book_bytes (record { settings = front ++ (with_days days x ∷ back); records = records })
days_replaced days records front x back =
    ap (placed (setting_place (length front) + 2) (bytes_of 1 days)) (parts x)
    ∙ replaced_at before (setting_place (length front) + 2) (simp (length-append, digits-length, settings_size) (omega arith))
    (bytes_of 1 x.days) (bytes_of 1 days) after (digits-length 256 1 _ ∙ sym (digits-length 256 1 _))
    ∙ sym (parts (with_days days x))
  where
    n : ℕ
    n = length records

    before : List ℕ
    before = start two n ++ (all_bytes setting_bytes front ++ bytes_of 2 x.quota)

    after : List ℕ
    after = bytes_of 2 x.server ++ (bytes_of 1 x.principal ++ (all_bytes setting_bytes back ++ (all_bytes record_bytes records ++ rest two n)))

    parts : (y : Setting)
        → book_bytes (record { settings = front ++ (y ∷ back); records = records })
        ≡ (start two n ++ (all_bytes setting_bytes front ++ bytes_of 2 y.quota))
        ++ (bytes_of 1 y.days
        ++ (bytes_of 2 y.server ++ (bytes_of 1 y.principal ++ (all_bytes setting_bytes back ++ (all_bytes record_bytes records ++ rest two n)))))
    parts y = unfold book_bytes_by in rw (bytes_append setting_bytes front (y ∷ back)) (unfold all_bytes setting_bytes in simp append_assoc)

module _ (s : List ℕ) (undamaged : is_book s ≡ true) where
  good : Good (book_of s)
  good = Good-book s undamaged

  says : s ≡ book_bytes (book_of s)
  says = sym (written_so s undamaged)

  pub sets_days : (t days : ℕ) → t < 16 → placed (setting_place t + 2) (bytes_of 1 days) s ≡ book_bytes (changed t (sets days) (book_of s))
  sets_days t days h =
      ap₂ (λ (n : ℕ) (l : List ℕ). placed (setting_place n + 2) (bytes_of 1 days) l) (sym place)
      (says ∙ ap (λ (l : List Setting). book_bytes (record { settings = l; records = (book_of s).records })) whole)
      ∙ days_replaced days (book_of s).records front it back
      ∙ ap (λ (l : List Setting). book_bytes (record { settings = l; records = (book_of s).records }))
      (sym (ap (λ (l : List Setting). set l t (with_days days it)) whole ∙ set_at front it back (with_days days it) t place))
    where
      settings : List Setting
      settings = (book_of s).settings

      front : List Setting
      front = take t settings

      it : Setting
      it = get_or settings t no_setting

      back : List Setting
      back = drop (suc t) settings

      place : length front ≡ t
      place = length-take-le t settings (omega (arith, good.sixteen))

      whole : settings ≡ front ++ (it ∷ back)
      whole =
          sym (take-append-drop t settings)
          ∙ ap (λ (l : List Setting). front ++ l) (drop-cons settings t no_setting (omega (arith, good.sixteen)))
