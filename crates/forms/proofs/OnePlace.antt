-- Two lists that differ at one place: their parts differ there too, or are the same; and so do their texts with letters raised.
-- Assumes nothing.
use mathlib.Core.Path.{◌≡◌, sym, ap, ◌∙◌}
use mathlib.Core.List.{List}
use Prim.Native.Nat.{ℕ, ◌+◌, ◌-◌, ◌≤◌, ◌<◌}
use native.Mathlib.Omega.{arith}
use borrow.Author.Tests.{ltb-true, ltb-false}
use lib.Dec.{ltb}
use lib.ListN.{length, get_or, drop, length-drop, length-map, get_or-eq_default}
use lib.Seq.{ext_get_or, get_or-take, get_or-drop, length-take-le}
use Rattle.octets.proofs.Every.{either}
use Rattle.text.specs.Characters.{raised, raised_text}
use Rattle.text.specs.Texts.{part}
use Rattle.text.proofs.Raising.{raised_at}
use Rattle.crc32.specs.OneChange.{DifferAt}

module _ (n : ℕ) (s : List ℕ) (at : ℕ) where
  part_length : at + n ≤ length s → length (part n s at) ≡ n
  part_length h = length-take-le n (drop at s) (simp length-drop (omega arith))

  part_at : (k : ℕ) → k < n → get_or (part n s at) k 0 ≡ get_or s (at + k) 0
  part_at k h = get_or-take n (drop at s) k 0 h ∙ get_or-drop at s k 0

module _ {i : ℕ} {s t : List ℕ} (d : DifferAt i s t) (n at : ℕ) (within : at + n ≤ length s) where
  also_within : at + n ≤ length t
  also_within = omega (arith, d.one_length)

  one_length_lem : length (part n s at) ≡ length (part n t at)
  one_length_lem = part_length n s at within ∙ sym (part_length n t at also_within)

  same_at : (k : ℕ) → k < n → (at + k ≡ i → ⊥) → get_or (part n s at) k 0 ≡ get_or (part n t at) k 0
  same_at k h away = part_at n s at k h ∙ d.elsewhere (at + k) away ∙ sym (part_at n t at k h)

  -- both end before k
  beyond : (k : ℕ) → n ≤ k → get_or (part n s at) k 0 ≡ get_or (part n t at) k 0
  beyond k h =
      get_or-eq_default (part n s at) 0 {n = k} (omega (arith, part_length n s at within))
      ∙ sym (get_or-eq_default (part n t at) 0 {n = k} (omega (arith, part_length n t at also_within)))

  same_part : ((k : ℕ) → k < n → at + k ≡ i → ⊥) → part n s at ≡ part n t at
  same_part away =
      ext_get_or 0 (part n s at) (part n t at) one_length_lem
      (λ k h. let small : k < n = omega (arith, part_length n s at within) in same_at k small (away k small))

  pub part_before : at + n ≤ i → part n s at ≡ part n t at
  part_before h = same_part (λ k small e. omega arith)

  pub part-after : i < at → part n s at ≡ part n t at
  part-after h = same_part (λ k small e. omega arith)

  module _ (low : at ≤ i) (high : i < at + n) where
    there : get_or (part n s at) (i - at) 0 ≡ get_or (part n t at) (i - at) 0 → ⊥
    there e =
        let small : i - at < n = omega arith in
        let place : at + (i - at) ≡ i = omega arith in
        d.there
        (ap (λ (k : ℕ). get_or s k 0) (sym place)
        ∙ sym (part_at n s at (i - at) small) ∙ e ∙ part_at n t at (i - at) small
        ∙ ap (λ (k : ℕ). get_or t k 0) place)

    pub part-differs : DifferAt (i - at) (part n s at) (part n t at)
    part-differs =
        record {
          one_length = one_length_lem;
          within = omega (arith, part_length n s at within);
          there = there;
          elsewhere = λ k away.
              either (ltb k n)
              (λ h. same_at k (ltb-true k n h) (λ e. away (omega arith)))
              (λ h. beyond k (ltb-false k n h));
        }

-- where they differ by more than the case of a letter, they do so with their letters raised
pub raised_differ : {i : ℕ} {s t : List ℕ} → DifferAt i s t → (raised (get_or s i 0) ≡ raised (get_or t i 0) → ⊥) → DifferAt i (raised_text s) (raised_text t)
raised_differ {i} {s} {t} d more =
    record {
      one_length = length-map s raised ∙ d.one_length ∙ sym (length-map t raised);
      within = simp length-map d.within;
      there = λ e. more (sym (raised_at s i) ∙ e ∙ raised_at t i);
      elsewhere = λ k away. raised_at s k ∙ ap raised (d.elsewhere k away) ∙ sym (raised_at t k);
    }
