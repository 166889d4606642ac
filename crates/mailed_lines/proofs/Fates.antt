-- What becomes of a line, by its tests: :ECS is the last, and of the others those with a line's shape, which :ECS has not, are kept.
-- Assumes nothing.
use mathlib.Core.Path.{◌≡◌, refl, sym, ap, ◌∙◌}
use mathlib.Core.Bool.{Bool, true, false, cond}
use mathlib.Core.List.{List}
use Prim.Native.Nat.{ℕ, ◌≤◌}
use native.Mathlib.Omega.{arith}
use lib.ListN.{length, length-map}
use lib.Seq.{take_all}
use Rattle.octets.proofs.Every.{either}
use Rattle.text.specs.Characters.{raised, raised_text, is_hex}
use Rattle.text.specs.Texts.{same_text, stands_at}
use Rattle.text.proofs.SameTexts.{same_true}
use Rattle.text.proofs.TextsAt.{all_within}
use Rattle.cell_permit.specs.Line.{is_line}
use Rattle.cell_permit.proofs.GoodLine.{good_line}
use Rattle.file_lines.specs.Lines.{ecs}
use Rattle.mailed_lines.specs.Mailed.{is_ecs, fate_of}
use Rattle.mailed_lines.specs.declared.Fate.TheVariants.{Kept, Last, Out}

-- the tests by which a fate is found
kept_made : (a b : Bool) → cond a Last (cond b Kept Out) ≡ Kept → (b ≡ true) × (a ≡ false)
kept_made true b made = (cc, cc)
kept_made false true made = (refl, refl)
kept_made false false made = (cc, refl)

last_made : (a b : Bool) → cond a Last (cond b Kept Out) ≡ Last → a ≡ true
last_made true b made = refl
last_made false true made = cc
last_made false false made = cc

out_made : (a b : Bool) → cond a Last (cond b Kept Out) ≡ Out → (a ≡ false) × (b ≡ false)
out_made true b made = (cc, cc)
out_made false true made = (refl, cc)
out_made false false made = (refl, refl)

module _ (line : List ℕ) where
  -- :ECS, raised, is :ECS in capitals
  pub ecs-raised : is_ecs line ≡ true → raised_text line ≡ ecs
  unfolding is_ecs
  ecs-raised is = same_true (raised_text line) ecs is

  -- and has four bytes
  pub ecs_size : is_ecs line ≡ true → length line ≡ 4
  ecs_size is = sym (length-map line raised) ∙ ap length (ecs-raised is)

  -- what has another size is none
  pub other_size : (length line ≡ 4 → ⊥) → is_ecs line ≡ false
  other_size other = either (is_ecs line) (λ is. absurd (other (ecs_size is))) (λ differ. differ)

  -- of four bytes that are the line's, raised, :ECS stands at the start where the line is :ECS
  pub ecs_stands : (after : List ℕ) → length line ≡ 4 → after ≡ raised_text line → stands_at ecs after 0 ≡ is_ecs line
  unfolding is_ecs
  ecs_stands after four is =
      let all : length after ≤ 4 = omega (arith, ap length is ∙ length-map line raised) in
      ap (λ (l : List ℕ). same_text l ecs) (take_all 4 after all ∙ is)

  -- a line that is kept has a line's shape and is not :ECS
  pub kept_is : fate_of line ≡ Kept → (is_line line ≡ true) × (is_ecs line ≡ false)
  unfolding fate_of
  kept_is made = kept_made (is_ecs line) (is_line line) made

  -- the last is :ECS
  pub last_is : fate_of line ≡ Last → is_ecs line ≡ true
  unfolding fate_of
  last_is made = last_made (is_ecs line) (is_line line) made

  -- one left out is neither
  pub out_is_lem : fate_of line ≡ Out → (is_ecs line ≡ false) × (is_line line ≡ false)
  unfolding fate_of
  out_is_lem made = out_made (is_ecs line) (is_line line) made

  -- and back: what has the shape and is not :ECS is kept
  pub is_kept : is_line line ≡ true → is_ecs line ≡ false → fate_of line ≡ Kept
  unfolding fate_of
  is_kept good other = rw (other, good)

  module _ (good : is_line line ≡ true) where
    -- a line has 64 bytes of permit alone
    pub line-long : 64 ≤ length line
    line-long = all_within is_hex 16 line 48 (good_line line good).check

    -- so none is :ECS
    pub no_ecs : is_ecs line ≡ false
    no_ecs = either (is_ecs line) (λ is. absurd (omega (arith, ecs_size is, line-long))) (λ other. other)

    -- and each is kept
    pub line_kept : fate_of line ≡ Kept
    line_kept = is_kept good no_ecs
