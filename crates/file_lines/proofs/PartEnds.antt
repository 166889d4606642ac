-- Where nothing is read: a line is :ECS by its length and by what stands at its place.
-- Assumes nothing.
use Rattle.std.proofs.Common.{◌≡◌, ℕ, ◌-◌, ◌<◌, ◌≤◌, true, false, List, length, take, drop, sym, ap, ◌∙◌, arith, drop_of_length-le, length-take-le, eq-eqb, ne_eqb}
use Rattle.octets.proofs.Every.{either}
use Rattle.text.specs.Texts.{same_text, stands_at}
use Rattle.text.proofs.SameTexts.{same_true}
use Rattle.file_lines.specs.Lines.{line_length, line_ends, line_at, ecs, ends_at}
use Rattle.file_lines.proofs.LineEnds.{line_within}

module _ (file : List ℕ) (place : ℕ) where
  end_less_place : line_ends file place - place ≡ line_length (drop place file)
  unfolding line_ends
  end_less_place = omega arith

  -- the line, read between its ends
  pub line_between : take (line_ends file place - place) (drop place file) ≡ line_at file place
  unfolding line_at
  line_between = ap (λ (n : ℕ). take n (drop place file)) end_less_place

  line_size : length (line_at file place) ≡ line_ends file place - place
  unfolding line_at
  line_size = length-take-le (line_length (drop place file)) (drop place file) (line_within (drop place file)) ∙ sym end_less_place

  pub no_end_beyond : length file < place → ends_at file place ≡ false
  unfolding ends_at line_at line_length same_text
  no_end_beyond past =
      let h : length file ≤ place = omega arith in
      rw (ne_eqb place (length file) (λ e. omega arith), drop_of_length-le file h)

  pub ends_with_bytes : place ≡ length file → ends_at file place ≡ true
  unfolding ends_at
  ends_with_bytes e = rw (eq-eqb place (length file) e)

  module _ (more : place ≡ length file → ⊥) where
    pub other_length : (line_ends file place - place ≡ 4 → ⊥) → ends_at file place ≡ false
    unfolding ends_at
    other_length other =
        rw (ne_eqb place (length file) more)
        (either (same_text (line_at file place) ecs)
        (λ same. absurd (other (sym line_size ∙ ap length (same_true (line_at file place) ecs same))))
        (λ differ. differ))

    pub four_bytes : line_ends file place - place ≡ 4 → ends_at file place ≡ stands_at ecs file place
    unfolding ends_at
    four_bytes four =
        rw (ne_eqb place (length file) more)
        (ap (λ (s : List ℕ). same_text s ecs) (sym line_between ∙ ap (λ (n : ℕ). take n (drop place file)) four))
