-- What opening writes: zeros, the start, and the settings one after the other; together they are the empty book.
-- Assumes nothing.
use mathlib.Core.Path.{◌≡◌, refl, sym, ap, ap₂, ◌∙◌}
use mathlib.Core.Bool.{true, false}
use mathlib.Core.List.{List, [], ◌∷◌, ◌++◌, append_assoc, append-nil}
use Prim.Native.Nat.{ℕ, ◌+◌, ◌-◌, ◌*◌, ◌/◌, ◌%◌, ◌≤◌, ◌<◌}
use native.Mathlib.Nat.{div-one}
use native.Mathlib.Omega.{arith}
use borrow.Author.Tests.{eq-eqb, ne_eqb}
use lib.ListN.{length, drop, length-append, length-replicate, drop_of_length-le}
use Rattle.octets.specs.Numbers.{digits}
use Rattle.text.specs.Texts.{placed}
use Rattle.text.proofs.PlacedTexts.{placed_start, placed-next}
use Rattle.std.specs.Prelude.{Result, Ok, ⊤}
use Rattle.forms.specs.Output.{written_of, lent_after}
use Rattle.forms.specs.Refusals.{by, refused, done_or}
use Rattle.forms.specs.declared.refusals.Refusal.{Refusal}
use Rattle.tenants.specs.declared.Setting.{Setting}
use Rattle.layout.specs.Layout.{two, book_bytes_by, book_size, setting_size, records_place, setting_place, zeros, setting_bytes, all_bytes, book_bytes, each_from}
use Rattle.layout.proofs.Each.{each_count}
use Rattle.layout.proofs.AllPut.{AllPut, put_none, put_next, put_all}
use Rattle.layout.proofs.Sizes.{drop-zeros, setting_size_lem, settings_size, book_size_lem}
use Rattle.opening.specs.Opening.{first_setting, empty_book, are_given, opened}

pub six_bytes_lem : (s : Setting)
    → s.quota / 256 % 256 ∷ s.quota % 256 ∷ s.days % 256 ∷ s.server / 256 % 256 ∷ s.server % 256 ∷ s.principal % 256 ∷ [] ≡ setting_bytes s
unfolding setting_bytes digits
six_bytes_lem s = sym (rw (div-one s.quota, div-one s.days, div-one s.server, div-one s.principal))

-- version 2 and the used length
abbrev start : List ℕ
start = 2 ∷ 0 ∷ 0 ∷ 0 ∷ 101 ∷ []

module _ (quotas ids principals : List ℕ) where
  -- the bytes of the settings of n tenants from t on
  abbrev first_bytes_lem : ℕ → ℕ → List ℕ
  first_bytes_lem t n = all_bytes setting_bytes (each_from (first_setting quotas ids principals) t n)

  first_size : (t n : ℕ) → length (first_bytes_lem t n) ≡ 6 * n
  first_size t n = settings_size (each_from (first_setting quotas ids principals) t n) ∙ ap (λ (m : ℕ). 6 * m) (each_count (first_setting quotas ids principals) t n)

  -- s has the settings of the tenants before t
  pub record SettingsPut (s₀ s : List ℕ) (t : ℕ) : Type 0 where
    pub put : AllPut setting_size setting_bytes setting_place (first_setting quotas ids principals) 16 s₀ s t

  pub settings_none : {s₀ : List ℕ} → records_place ≤ length s₀ → SettingsPut s₀ s₀ 0
  settings_none room = record { put = put_none setting_size setting_bytes setting_place (first_setting quotas ids principals) 16 room }

  module _ {s₀ s : List ℕ} {t : ℕ} (so_far : SettingsPut s₀ s t) where
    pub settings_next : t < 16 → (x : Setting) (s₁ : List ℕ) → x ≡ first_setting quotas ids principals t
        → s₁ ≡ placed (setting_place t) (setting_bytes x) s → SettingsPut s₀ s₁ (t + 1)
    settings_next more x s₁ is written =
        let here : s₁ ≡ placed (setting_place t) (setting_bytes (first_setting quotas ids principals t)) s =
        written ∙ ap (λ (y : Setting). placed (setting_place t) (setting_bytes y) s) is in
        record {
          put = put_next setting_size setting_bytes setting_place (first_setting quotas ids principals) 16 setting_size_lem (λ i. omega arith) so_far.put more s₁ here;
        }

    pub settings_all : 16 ≤ t → s ≡ placed 5 (first_bytes_lem 0 16) s₀
    settings_all done = put_all setting_size setting_bytes setting_place (first_setting quotas ids principals) 16 setting_size_lem (λ i. omega arith) so_far.put done

  abbrev empty_bytes : List ℕ
  empty_bytes = book_bytes (empty_book quotas ids principals)

  empty_is : empty_bytes ≡ (start ++ first_bytes_lem 0 16) ++ zeros (book_size - records_place)
  unfolding book_bytes_by empty_book all_bytes digits
  empty_is = sym (append_assoc start (first_bytes_lem 0 16) (zeros (book_size - records_place)))

  -- the start and the settings on zeros
  pub empty_placed : (size : ℕ) (s₁ s₂ s₃ : List ℕ) → size ≡ book_size
      → s₁ ≡ zeros size → s₂ ≡ placed 0 start s₁ → s₃ ≡ placed 5 (first_bytes_lem 0 16) s₂ → s₃ ≡ empty_bytes
  empty_placed size s₁ s₂ s₃ e e₁ e₂ e₃ =
      let long : length s₁ ≡ book_size = ap length e₁ ∙ length-replicate size 0 ∙ e in
      let six : length (first_bytes_lem 0 16) ≡ 96 = first_size 0 16 in
      let both : length (start ++ first_bytes_lem 0 16) ≡ 101 = simp length-append (omega arith) in
      e₃
      ∙ ap (placed 5 (first_bytes_lem 0 16)) e₂
      ∙ placed-next 0 5 start (first_bytes_lem 0 16) s₁ refl (omega arith)
      ∙ placed_start (start ++ first_bytes_lem 0 16) s₁ (omega arith)
      ∙ ap₂ (λ (n : ℕ) (l : List ℕ). (start ++ first_bytes_lem 0 16) ++ drop n l) both e₁
      ∙ ap (λ (l : List ℕ). (start ++ first_bytes_lem 0 16) ++ l) (drop-zeros records_place (book_size - records_place) size e)
      ∙ sym empty_is

  empty_size : length empty_bytes ≡ book_size
  unfolding empty_book
  empty_size = book_size_lem two (empty_book quotas ids principals) (each_count (first_setting quotas ids principals) 0 16) (omega arith)

  -- the answer and the book afterwards
  abbrev pub Opened : List ℕ → Result ⊤ Refusal → List ℕ → Type 0
  Opened s answer after = (answer ≡ done_or (written_of (opened quotas ids principals s))) × (after ≡ lent_after (opened quotas ids principals s) s)

  pub wrong_length : (s : List ℕ) → (length s ≡ book_size → ⊥) → Opened s (refused (by 101)) s
  unfolding opened
  wrong_length s other = (rw (ne_eqb (length s) book_size other), rw (ne_eqb (length s) book_size other))

  pub not_given : (s : List ℕ) → length s ≡ book_size → are_given quotas ids principals ≡ false → Opened s (refused (by 103)) s
  unfolding opened
  not_given s size bad = (rw (eq-eqb (length s) book_size size, bad), rw (eq-eqb (length s) book_size size, bad))

  pub given : (s after : List ℕ) → length s ≡ book_size → are_given quotas ids principals ≡ true → after ≡ empty_bytes → Opened s (Ok tt) after
  unfolding opened
  given s after size good is =
      let nothing_left : drop (length empty_bytes) s ≡ [] = drop_of_length-le s {i = length empty_bytes} (omega (arith, empty_size)) in (
        rw (eq-eqb (length s) book_size size, good),
        rw (eq-eqb (length s) book_size size, good) (is ∙ sym (append-nil _) ∙ ap (λ (l : List ℕ). empty_bytes ++ l) (sym nothing_left)),
      )
