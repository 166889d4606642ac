-- A book's bytes after a record is put in the stead of another, put between, or taken out: they are the bytes of the book so changed.
-- Assumes nothing.
use mathlib.Core.Path.{◌≡◌, refl, sym, ap, ◌∙◌}
use mathlib.Core.List.{List, [], ◌∷◌, ◌++◌, append_assoc}
use Prim.Native.Nat.{ℕ, suc, ◌+◌, ◌-◌, ◌<◌}
use native.Mathlib.Omega.{arith}
use lib.ListN.{length, length-append}
use Rattle.octets.specs.Numbers.{bytes_of}
use Rattle.octets.proofs.Digits.{digits-length}
use Rattle.tenants.specs.Together.{BookRecord}
use Rattle.tenants.specs.declared.Setting.{Setting}
use Rattle.layout.specs.Layout.{
  two,
  record_size,
  zeros,
  setting_bytes,
  record_bytes,
  all_bytes,
  used_length,
  book_bytes,
  record_place,
}
use Rattle.layout.proofs.Sizes.{record_size_lem, records_size}
use Rattle.layout.proofs.ReadBack.{rest}
use Rattle.layout.proofs.Splits.{rest_room, bytes_before, bytes_from, before_size, cut-bytes}
use Rattle.records.specs.Moves.{used_put, record_put, inserted_among, removed_among}
use Rattle.records.proofs.Around.{replaced_at, inserted_at, removed_at}

pub from_first : (n : ℕ) (r : BookRecord) (back : List BookRecord) → bytes_from two n (r ∷ back) ≡ record_bytes r ++ bytes_from two n back
unfolding all_bytes
from_first n r back = append_assoc (record_bytes r) (all_bytes record_bytes back) (rest two n)

module _ (settings : List Setting) (sixteen : length settings ≡ 16) where
  abbrev with : List BookRecord → List ℕ
  with records = book_bytes (record { settings = settings; records = records })

  -- cut at a record, where n are told
  cut : (n : ℕ) (front back : List BookRecord) → length (front ++ back) ≡ n
      → with (front ++ back) ≡ bytes_before two n settings front ++ bytes_from two n back
  cut n front back e =
      cut-bytes two (record { settings = settings; records = front ++ back }) front back refl
      ∙ ap (λ (m : ℕ). bytes_before two m settings front ++ bytes_from two m back) e

  used_put_lem : (n m : ℕ) (front : List BookRecord) (l : List ℕ)
      → used_put (used_length m) (bytes_before two n settings front ++ l) ≡ bytes_before two m settings front ++ l
  used_put_lem n m front l =
      ap (used_put (used_length m)) (parts n)
      ∙ replaced_at (2 ∷ []) 1 refl (bytes_of 4 (used_length n)) (bytes_of 4 (used_length m)) after
      (digits-length 256 4 _ ∙ sym (digits-length 256 4 _))
      ∙ sym (parts m)
    where
      after : List ℕ
      after = all_bytes setting_bytes settings ++ (all_bytes record_bytes front ++ l)

      parts : (n : ℕ) → bytes_before two n settings front ++ l ≡ (2 ∷ []) ++ (bytes_of 4 (used_length n) ++ after)
      parts n = simp append_assoc

  module _ (front : List BookRecord) (c : BookRecord) (back : List BookRecord) where
    more : (n : ℕ) → length (front ++ back) ≡ n → length (front ++ (c ∷ back)) ≡ suc n
    more n e = simp length-append (omega (arith, sym (length-append front back) ∙ e))

    pub record-replaced : (it : BookRecord)
        → record_put (length front) c (with (front ++ (it ∷ back))) ≡ with (front ++ (c ∷ back))
    record-replaced it =
        let n : ℕ = length (front ++ (c ∷ back)) in
        let same : length (front ++ (it ∷ back)) ≡ n = simp length-append in
        ap (record_put (length front) c)
        (cut n front (it ∷ back) same ∙ ap (λ (l : List ℕ). bytes_before two n settings front ++ l) (from_first n it back))
        ∙ replaced_at (bytes_before two n settings front) (record_place (length front)) (before_size two n settings front sixteen)
        (record_bytes it) (record_bytes c) (bytes_from two n back) (record_size_lem two it ∙ sym (record_size_lem two c))
        ∙ sym (cut n front (c ∷ back) refl ∙ ap (λ (l : List ℕ). bytes_before two n settings front ++ l) (from_first n c back))

    module _ (n : ℕ) (told : length (front ++ back) ≡ n) (room : n < 512) where
      follow : length front + length back ≡ n
      follow = sym (length-append front back) ∙ told

      pub record-inserted : inserted_among n (length front) c (with (front ++ back)) ≡ with (front ++ (c ∷ back))
      record-inserted =
          ap (inserted_among n (length front) c)
          (cut n front back told ∙ ap (λ (l : List ℕ). before ++ (all_bytes record_bytes back ++ l)) (rest_room two n room))
          ∙ ap (used_put (used_length (suc n)))
          (inserted_at before (record_place (length front)) (before_size two n settings front sixteen)
          (all_bytes record_bytes back) (zeros record_size) (record_bytes c) (rest two (suc n))
          record_size (used_length n) (omega (arith, follow, records_size two back)) refl (record_size_lem two c)
          ∙ ap (λ (l : List ℕ). before ++ l) (sym (from_first (suc n) c back)))
          ∙ used_put_lem n (suc n) front (bytes_from two (suc n) (c ∷ back))
          ∙ sym (cut (suc n) front (c ∷ back) (more n told))
        where
          before : List ℕ
          before = bytes_before two n settings front

      pub record-removed : removed_among (suc n) (length front) (with (front ++ (c ∷ back))) ≡ with (front ++ back)
      record-removed =
          ap (removed_among (suc n) (length front))
          (cut (suc n) front (c ∷ back) (more n told) ∙ ap (λ (l : List ℕ). before ++ l) (from_first (suc n) c back))
          ∙ ap (used_put (used_length (suc n - 1)))
          (removed_at before (record_place (length front)) (before_size two (suc n) settings front sixteen)
          (record_bytes c) (all_bytes record_bytes back) (rest two (suc n))
          record_size (used_length (suc n)) (record_size_lem two c) (omega (arith, follow, records_size two back))
          ∙ ap (λ (l : List ℕ). before ++ (all_bytes record_bytes back ++ l)) (sym (rest_room two n room)))
          ∙ ap (λ (m : ℕ). used_put (used_length m) (before ++ bytes_from two n back)) less
          ∙ used_put_lem (suc n) n front (bytes_from two n back)
          ∙ sym (cut n front back told)
        where
          before : List ℕ
          before = bytes_before two (suc n) settings front

          less : suc n - 1 ≡ n
          less = omega arith
