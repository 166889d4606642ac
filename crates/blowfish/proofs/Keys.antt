-- What has 4 to 56 bytes is a key, and the number tells whether it was one.
-- Assumes nothing.
use Rattle.std.proofs.Common.{◌≡◌, ℕ, ◌≤◌, Bool, true, false, cond, ◌&&◌, List, length, refl, ap₂, arith, le-leb}
use Rattle.blowfish.specs.Schedule.{is_key, key_number, schedule, scheduled}

-- its answer, and the words that it leaves
pub taken : (key before : List ℕ) → 4 ≤ length key → length key ≤ 56 → (0 ≡ key_number key) × (schedule key ≡ scheduled key before)
unfolding is_key key_number scheduled
taken key before h k =
    let e : is_key key ≡ true = ap₂ (λ (t u : Bool). t && u) (le-leb 4 (length key) h) (le-leb (length key) 56 k) in
    (rw e, rw e)

by_number : (b : Bool) → ◌≡◌ {A = ℕ} (cond b 0 103) 0 → b ≡ true
by_number true e = refl
by_number false e = absurd (omega arith)

by_other : (b : Bool) → (◌≡◌ {A = ℕ} (cond b 0 103) 0 → ⊥) → b ≡ false
by_other true h = absurd (h refl)
by_other false h = refl

pub done_is_key : (key : List ℕ) → key_number key ≡ 0 → is_key key ≡ true
unfolding key_number
done_is_key key e = by_number (is_key key) e

pub refused_is_none : (key : List ℕ) → (key_number key ≡ 0 → ⊥) → is_key key ≡ false
unfolding key_number
refused_is_none key h = by_other (is_key key) h
