-- A header has 40 bytes.
-- Assumes nothing.
use mathlib.Core.Path.{◌≡◌, sym, ap, ◌∙◌}
use mathlib.Core.Bool.{true}
use mathlib.Core.List.{List}
use Prim.Native.Nat.{ℕ, ◌≤◌}
use native.Mathlib.Omega.{arith}
use lib.Dec.{leb}
use borrow.Author.Tests.{le-leb}
use lib.ListN.{length, take, length-take, length-drop}
use Rattle.octets.proofs.Every.{and_second}
use Rattle.text.specs.Texts.{part, all_at, stands_at}
use Rattle.text.proofs.SameTexts.{same_true}
use Rattle.text.proofs.TextsAt.{same_within, same_byte}
use Rattle.forms.specs.DateText.{is_date_at}
use Rattle.file_lines.specs.Dated.{is_below, is_dated}
use Rattle.permit_file.specs.File.{header_rest, is_header, first_place}

pub header_within : (file : List ℕ) → is_header file ≡ true → first_place ≤ length file
unfolding is_header
header_within file good =
    let rest : stands_at header_rest file 20 ≡ true = and_second (is_dated file) (stands_at header_rest file 20) good in
    omega (arith, simp (length-take, length-drop) at (ap length (same_true (part 20 file 20) header_rest rest)))

-- it stands in the first 40 bytes: two files that are the same there, and long alike, both have one or none
module _ (f g : List ℕ) (same : take first_place f ≡ take first_place g) where
  pub header_alike : ((n : ℕ) → n ≤ first_place → leb n (length f) ≡ leb n (length g)) → is_header f ≡ is_header g
  unfolding is_header is_dated is_below is_date_at all_at
  header_alike long =
      rw (
        long 14 (omega arith),
        long 17 (omega arith),
        long 20 (omega arith),
        same_within first_place f g same 6 0 (omega arith),
        same_within first_place f g same 8 6 (omega arith),
        same_byte first_place f g same 14 (omega arith),
        same_within first_place f g same 2 15 (omega arith),
        same_byte first_place f g same 17 (omega arith),
        same_within first_place f g same 2 18 (omega arith),
        same_within first_place f g same 20 20 (omega arith),
      )

  pub header_first : first_place ≤ length f → first_place ≤ length g → is_header f ≡ is_header g
  header_first long other =
      header_alike (λ n h. le-leb n (length f) (omega arith) ∙ sym (le-leb n (length g) (omega arith)))
