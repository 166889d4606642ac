-- What is written of a version 1 book: its records, each with four zeros, one after the other; and with what stands before them, the book.
-- Assumes nothing.
use mathlib.Core.Path.{◌≡◌, refl, ap, ap₂, ◌∙◌}
use mathlib.Core.List.{List, [], ◌∷◌, ◌++◌, append_assoc}
use Prim.Native.Nat.{ℕ, ◌+◌, ◌-◌, ◌≤◌, ◌<◌}
use native.Mathlib.Omega.{arith}
use lib.ListN.{length, drop, length-append, length-replicate}
use Rattle.octets.specs.Numbers.{Below, bytes_of}
use Rattle.octets.proofs.Digits.{digits-length}
use Rattle.text.specs.Texts.{part, placed}
use Rattle.text.proofs.PlacedTexts.{placed_start, placed-next}
use Rattle.layout.specs.Layout.{one, two, record_size_by, record_place_by, record_count_by, settings_place, records_place, record_size, book_size, used_length, record_place, zeros, each_from}
use Rattle.layout.proofs.Versions.{place_next, used_most}
use Rattle.layout.proofs.Each.{each_count, bytes-size}
use Rattle.layout.proofs.AllPut.{AllPut, put_none, put_next, put_all}
use Rattle.layout.proofs.Sizes.{drop-zeros}
use Rattle.carrying.specs.OldForm.{old_record, wider_bytes, wider_records, wider}
use Rattle.judging.proofs.Forms.{Formed}
use Rattle.carrying.proofs.Wider.{wider_size, wider_record, settings_size}

-- the records before i are put
pub record RecordsPut (s s₀ new : List ℕ) (i : ℕ) : Type 0 where
  pub put : AllPut record_size wider_bytes record_place (old_record s) (record_count_by one s) s₀ new i

module _ (s : List ℕ) (below : Below 256 s) (formed : Formed one s) where
  abbrev n : ℕ
  n = record_count_by one s

  pub records_none : {s₀ : List ℕ} → length s₀ ≡ book_size → RecordsPut s s₀ s₀ 0
  records_none size = record { put = put_none record_size wider_bytes record_place (old_record s) n (omega (arith, formed.few)) }

  module _ {s₀ new : List ℕ} {i : ℕ} (so_far : RecordsPut s s₀ new i) where
    pub records_next : i < n → (new₁ : List ℕ)
        → new₁ ≡ placed (record_place i) (part (record_size_by one) s (record_place_by one i) ++ zeros 4) new → RecordsPut s s₀ new₁ (i + 1)
    records_next more new₁ written =
        let here : new₁ ≡ placed (record_place i) (wider_bytes (old_record s i)) new =
        written ∙ ap (λ (l : List ℕ). placed (record_place i) l new) (wider_record s below formed i more) in
        record { put = put_next record_size wider_bytes record_place (old_record s) n wider_size (place_next two) so_far.put more new₁ here }

    pub records_all : n ≤ i → new ≡ placed records_place (wider_records s) s₀
    records_all done = put_all record_size wider_bytes record_place (old_record s) n wider_size (place_next two) so_far.put done

  abbrev used : List ℕ
  used = bytes_of 4 (used_length n)

  abbrev settings : List ℕ
  settings = part 96 s settings_place

  abbrev all : List ℕ
  all = (((2 ∷ []) ++ used) ++ settings) ++ wider_records s

  settings_are : length settings ≡ 96
  settings_are = settings_size s below formed

  all_size : length all ≡ used_length n
  all_size =
      simp (length-append, digits-length)
      (omega (arith, settings_are, bytes-size record_size wider_bytes wider_size (each_from (old_record s) 0 n), each_count (old_record s) 0 n))

  -- the version, the used length, the settings and the records on zeros
  pub wider_put : (s₀ s₁ s₂ s₃ s₄ : List ℕ) → s₀ ≡ zeros book_size → s₁ ≡ placed 0 (2 ∷ []) s₀ → s₂ ≡ placed 1 used s₁
      → s₃ ≡ placed settings_place settings s₂ → s₄ ≡ placed records_place (wider_records s) s₃ → s₄ ≡ wider s
  wider_put s₀ s₁ s₂ s₃ s₄ e₀ e₁ e₂ e₃ e₄ =
      let size : length s₀ ≡ book_size = ap length e₀ ∙ length-replicate {A = ℕ} book_size 0 in
      let four : length used ≡ 4 = digits-length 256 4 (used_length n) in
      let two_put : s₂ ≡ placed 0 ((2 ∷ []) ++ used) s₀ = e₂ ∙ ap (placed 1 used) e₁ ∙ placed-next 0 1 (2 ∷ []) used s₀ refl (omega arith) in
      let three_put : s₃ ≡ placed 0 (((2 ∷ []) ++ used) ++ settings) s₀ =
      e₃ ∙ ap (placed settings_place settings) two_put
      ∙ placed-next 0 settings_place ((2 ∷ []) ++ used) settings s₀ (simp length-append (omega arith)) (simp length-append (omega (arith, settings_are))) in
      let count : book_size ≡ used_length n + (book_size - used_length n) = omega (arith, used_most two n formed.few) in
      e₄ ∙ ap (placed records_place (wider_records s)) three_put
      ∙ placed-next 0 records_place (((2 ∷ []) ++ used) ++ settings) (wider_records s) s₀ (simp length-append (omega (arith, settings_are)))
      (omega (arith, length-append (((2 ∷ []) ++ used) ++ settings) (wider_records s), all_size, used_most two n formed.few))
      ∙ placed_start all s₀ (omega (arith, all_size, used_most two n formed.few))
      ∙ ap₂ (λ (k : ℕ) (l : List ℕ). all ++ drop k l) all_size e₀
      ∙ ap (λ (l : List ℕ). all ++ l) (drop-zeros (used_length n) (book_size - used_length n) book_size count)
      ∙ append_assoc (((2 ∷ []) ++ used) ++ settings) (wider_records s) (zeros (book_size - used_length n))
