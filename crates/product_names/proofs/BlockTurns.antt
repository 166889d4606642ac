-- A block of names, as the rows are gone through: what holds at each row, and what that says at the end.
-- Assumes nothing.
use Rattle.std.proofs.Common.{◌≡◌, None, Some, ℕ, ◌+◌, ◌-◌, ◌<◌, ◌≤◌, Bool, true, false, ◌||◌, ltb, List, [], ◌∷◌, ◌++◌, map, length, take, drop, set, replicate, sym, refl, ap, ◌∙◌, add-one, arith, length-set, drop_of_length-le, take-suc-set, ltb-false, ltb-true}
use lib.ListN.{length-replicate}
use Rattle.octets.proofs.Every.{either}
use Rattle.octets.specs.Places.{number_at}
use Rattle.file_lines.specs.Lines.{line_found}
use Rattle.file_lines.specs.EncPart.{lines_of, enc_lines}
use Rattle.file_lines.specs.declared.LineFound.{LineFound}
use Rattle.file_lines.specs.declared.LineFound.TheVariants.{Line, Unended, End}
use Rattle.file_lines.proofs.Walks.{at_line, at_end, at_unended, found_part}
use Rattle.product_names.specs.Repeats.{stands_in, repeats, name_of, names_from}
use Rattle.product_names.specs.Marking.{marked}
use Rattle.product_names.specs.Blocks.{any_in, AllMarked, Says}
use Rattle.product_names.proofs.MarkLaws.{more-marked, length_marked}
use Rattle.product_names.proofs.BlockLaws.{none_in_none, any_first, any-rest, goes_over}

-- the first rows from the place on are in the block, up to next, which is where the rows go on unless the block is full
pub record Looked (list : List ℕ) (place : ℕ) (names marks : List ℕ) (count next at : ℕ) : Type 0 where
  pub names_size : length names ≡ 32768
  pub marks_size : length marks ≡ 262144
  pub room : count ≤ 32768
  pub within : at ≤ length list
  pub in_order : next ≤ at
  pub onward : place + count ≤ next
  pub not_full : count < 32768 → next ≡ at
  pub all_marked : AllMarked marks (take count names)
  pub left : repeats (names_from list place) ≡ (any_in (take count names) (names_from list at) || repeats (names_from list next))

pub begun : (list : List ℕ) (place : ℕ) → place ≤ length list → Looked list place (replicate 32768 0) (replicate 262144 0) 0 place place
unfolding stands_in
begun list place h =
    record {
      names_size = length-replicate {A = ℕ} 32768 0;
      marks_size = length-replicate {A = ℕ} 262144 0;
      room = omega arith;
      within = h;
      in_order = omega arith;
      onward = omega arith;
      not_full = λ _. refl;
      all_marked = λ x stands. cc;
      left = ap (λ (b : Bool). b || repeats (names_from list place)) (sym (none_in_none (names_from list place)));
    }

-- the name of the line at a place comes first of those from there on
pub name_first : (list : List ℕ) (at end : ℕ) → line_found list at ≡ Line end
    → names_from list at ≡ number_at 8 (take (end - at) (drop at list)) 0 ∷ names_from list (end + 2)
name_first list at end found =
    ap (map name_of) (at_line list at end found).0
    ∙ ap (λ (l : List ℕ). name_of l ∷ names_from list (end + 2)) (sym (found_part list at end found))

pub none_beyond : (list : List ℕ) (at : ℕ) → length list ≤ at → names_from list at ≡ []
unfolding lines_of enc_lines
none_beyond list at h = rw (drop_of_length-le list h)

-- where no line is found no name is left
pub none_left : (list : List ℕ) (at : ℕ) → at ≤ length list → (found : LineFound) → found ≡ line_found list at
    → ((end : ℕ) → found ≡ Line end → ⊥) → names_from list at ≡ []
none_left list at h (Line end) e other = absurd (other end refl)
none_left list at h Unended e other = ap (map name_of) (at_unended list at h (sym e)).0
none_left list at h End e other = ap (map name_of) (at_end list at (sym e)).0

module _
    {list : List ℕ} {place : ℕ} {names marks : List ℕ} {count next at : ℕ}
    (so_far : Looked list place names marks count next at)
  where
    module _ (name end : ℕ) (first : names_from list at ≡ name ∷ names_from list (end + 2)) where
      pub twice : stands_in name (take count names) ≡ true → Says list place None
      twice found =
          so_far.left
          ∙ ap (λ (rows : List ℕ). any_in (take count names) rows || repeats (names_from list next)) first
          ∙ ap (λ (b : Bool). b || repeats (names_from list next)) (any_first (take count names) name (names_from list (end + 2)) found)

      module _ (new : stands_in name (take count names) ≡ false) (later : at ≤ end) (inside : end + 2 ≤ length list) where
        pub grown : (after : List ℕ) → after ≡ marked name marks → count < 32768 → Looked list place (set names count name) after (count + 1) (end + 2) (end + 2)
        grown after is less =
            let more : take (count + 1) (set names count name) ≡ take count names ++ (name ∷ []) =
            ap (λ (n : ℕ). take n (set names count name)) (add-one count) ∙ take-suc-set names count name (omega arith) in
            record {
              names_size = length-set names count name ∙ so_far.names_size;
              marks_size = ap length is ∙ length_marked name marks ∙ so_far.marks_size;
              room = omega arith;
              within = inside;
              in_order = omega arith;
              onward = omega (arith, so_far.not_full less);
              not_full = λ _. refl;
              all_marked = rw (more, is) (more-marked marks name so_far.marks_size (take count names) so_far.all_marked);
              left =
                  so_far.left
                  ∙ ap (λ (n : ℕ). any_in (take count names) (names_from list at) || repeats (names_from list n)) (so_far.not_full less)
                  ∙ ap (λ (rows : List ℕ). any_in (take count names) rows || repeats rows) first
                  ∙ goes_over (take count names) name (names_from list (end + 2)) new
                  ∙ ap (λ (block : List ℕ). any_in block (names_from list (end + 2)) || repeats (names_from list (end + 2))) (sym more);
            }

        pub passed : 32768 ≤ count → Looked list place names marks count next (end + 2)
        passed full =
            record {
              names_size = so_far.names_size;
              marks_size = so_far.marks_size;
              room = so_far.room;
              within = inside;
              in_order = omega arith;
              onward = so_far.onward;
              not_full = λ less. omega arith;
              all_marked = so_far.all_marked;
              left =
                  so_far.left
                  ∙ ap (λ (rows : List ℕ). any_in (take count names) rows || repeats (names_from list next)) first
                  ∙ ap (λ (b : Bool). b || repeats (names_from list next)) (any-rest (take count names) name (names_from list (end + 2)) new);
            }

    module _ (none : names_from list at ≡ []) where
      pub over : place < length list → at ≡ next → Says list place (Some (length list))
      unfolding any_in repeats
      over more e = (
        more,
        (
          omega arith,
          so_far.left
              ∙ ap (λ (n : ℕ). any_in (take count names) (names_from list at) || repeats (names_from list n)) (sym e)
              ∙ ap (λ (rows : List ℕ). any_in (take count names) rows || repeats rows) none
              ∙ sym (ap repeats (none_beyond list (length list) (omega arith))),
        ),
      )

      pub goes_on : (at ≡ next → ⊥) → Says list place (Some next)
      unfolding any_in
      goes_on more =
          let full : 32768 ≤ count =
          either (ltb count 32768) (λ less. absurd (more (sym (so_far.not_full (ltb-true count 32768 less))))) (ltb-false count 32768) in (
            omega arith,
            (omega arith, so_far.left ∙ ap (λ (rows : List ℕ). any_in (take count names) rows || repeats (names_from list next)) none),
          )
