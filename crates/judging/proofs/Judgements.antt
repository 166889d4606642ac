-- What judging a book for a tenant's number answers, by what the tests and the three stretches of parts find.
-- Assumes nothing.
use mathlib.Core.Path.{◌≡◌, sym, ap, ap₂, ◌∙◌}
use mathlib.Core.Bool.{true, false}
use mathlib.Core.List.{List}
use Prim.Native.Nat.{ℕ, suc, ◌+◌, ◌-◌, ◌/◌, ◌≤◌, ◌<◌}
use native.Mathlib.Numerals.{add-one}
use native.Mathlib.Omega.{arith}
use borrow.Author.Tests.{ltb-true, ltb-false, lt-ltb, le-ltb}
use lib.Dec.{ltb}
use Rattle.std.specs.Option.{option_and_then}
use Rattle.std.proofs.lemmas.Option.{none-some, same_Some, cond_some}
use Rattle.octets.specs.Numbers.{Below}
use Rattle.octets.proofs.Every.{either}
use Rattle.tenants.specs.Together.{BookRecord, are_records}
use Rattle.layout.specs.Layout.{records_place, record_size, used_length, record_place, record_count, book_of, is_book}
use Rattle.judging.specs.Starts.{start_of, first_in, past_in, judged_under}
use Rattle.judging.specs.Judging.{frame_test, parts_from, up_to16}
use Rattle.judging.specs.declared.Records.{Records}
use Rattle.std.specs.Prelude.{Option, None, Some}
use Rattle.layout.proofs.Indexed.{book_count}
use Rattle.judging.proofs.PartsSteps.{parts_join}
use Rattle.judging.proofs.StartPlaces.{start_all}
use Rattle.judging.proofs.Tested.{Framed, framed_test, book-framed, book-right, book-parts, tested-book}

-- records from one up to another
abbrev pub found : ℕ → ℕ → Records
found first past = record { first = first; past = past }

-- where the numbers of tenants end
pub up_to_most : (t : ℕ) → up_to16 t ≤ 16
unfolding up_to16
up_to_most t = either (ltb t 16) (λ low. rw low (omega (arith, ltb-true t 16 low))) (λ high. rw high (omega arith))

up_to_low : (t : ℕ) → t < 16 → up_to16 t ≡ t
unfolding up_to16
up_to_low t low = rw (lt-ltb t 16 low)

up_to_high : (t : ℕ) → 16 ≤ t → up_to16 t ≡ 16
unfolding up_to16
up_to_high t high = rw (le-ltb t 16 high)

pub own_next : (t : ℕ) → up_to16 t ≤ up_to16 (up_to16 t + 1)
own_next t =
    either (ltb (up_to16 t + 1) 16)
    (λ low. omega (arith, up_to_low (up_to16 t + 1) (ltb-true _ _ low)))
    (λ high. omega (arith, up_to_high (up_to16 t + 1) (ltb-false _ _ high), up_to_most t))

-- no tenant from 16 on has a record
module _ (records : List BookRecord) (right : are_records records ≡ true) where
  start_up_to : (t : ℕ) → start_of (up_to16 t) records ≡ start_of t records
  start_up_to t =
      either (ltb t 16)
      (λ low. ap (λ (u : ℕ). start_of u records) (up_to_low t (ltb-true t 16 low)))
      (λ not. let high : 16 ≤ t = ltb-false t 16 not in
      ap (λ (u : ℕ). start_of u records) (up_to_high t high) ∙ start_all 16 records (omega arith) right ∙ sym (start_all t records high right))

  start_after : (t : ℕ) → start_of (up_to16 (up_to16 t + 1)) records ≡ start_of (suc t) records
  start_after t =
      start_up_to (up_to16 t + 1)
      ∙ either (ltb t 16)
      (λ low. ap (λ (u : ℕ). start_of u records) (rw add-one (ap suc (up_to_low t (ltb-true t 16 low)))))
      (λ not. let high : 16 ≤ t = ltb-false t 16 not in
      start_all (up_to16 t + 1) records (omega (arith, up_to_high t high)) right ∙ sym (start_all (suc t) records (omega arith) right))

module _ (s : List ℕ) (below : Below 256 s) (t : ℕ) where
  abbrev used : ℕ
  used = used_length (record_count s)

  -- where the parts of the tenants below m end
  abbrev parts_to : ℕ → Option ℕ
  parts_to m = parts_from s used 0 records_place m

  damaged : is_book s ≡ false → None ≡ judged_under s t
  unfolding judged_under
  damaged not = sym (rw not)

  pub no_frame : frame_test s ≡ false → None ≡ judged_under s t
  no_frame wrong =
      damaged (either (is_book s) (λ undamaged. undamaged ∙ sym (framed_test s (book-framed s below undamaged)) ∙ wrong) (λ not. not))

  -- of an undamaged book the parts of all tenants end with the records
  all_end : is_book s ≡ true → parts_to 16 ≡ Some used
  all_end undamaged =
      book-parts s below undamaged 16 (omega arith)
      ∙ ap (λ (i : ℕ). Some (record_place i)) (start_all 16 (book_of s).records (omega arith) (book-right s below undamaged) ∙ book_count s)

  not_ended : (parts_to 16 ≡ Some used → ⊥) → None ≡ judged_under s t
  not_ended never = damaged (either (is_book s) (λ undamaged. absurd (never (all_end undamaged))) (λ not. not))

  -- one stretch of parts after another
  stretch : (a b end : ℕ) → a ≤ b → parts_to a ≡ Some end → parts_to b ≡ parts_from s used a end (b - a)
  stretch a b end low ends =
      let all : b ≡ a + (b - a) = omega arith in
      let first : 0 + a ≡ a = omega arith in
      ap parts_to all
      ∙ parts_join s used a (b - a) 0 records_place
      ∙ ap (λ (p : Option ℕ). option_and_then (λ (end : ℕ). parts_from s used (0 + a) end (b - a)) p) ends
      ∙ ap (λ (u : ℕ). parts_from s used u end (b - a)) first

  wrong_stretch : (a b : ℕ) → a ≤ b → parts_to a ≡ None → parts_to b ≡ None
  wrong_stretch a b low wrong =
      let all : b ≡ a + (b - a) = omega arith in
      ap parts_to all
      ∙ parts_join s used a (b - a) 0 records_place
      ∙ ap (λ (p : Option ℕ). option_and_then (λ (end : ℕ). parts_from s used (0 + a) end (b - a)) p) wrong

  pub below_wrong : (a : ℕ) → a ≤ 16 → parts_to a ≡ None → None ≡ judged_under s t
  below_wrong a low wrong = not_ended (λ ends. none-some _ (sym (wrong_stretch a 16 low wrong) ∙ ends))

  -- tenant t's own number, and the next
  abbrev own : ℕ
  own = up_to16 t

  abbrev next : ℕ
  next = up_to16 (own + 1)

  module _ (first : ℕ) (to-own : parts_to own ≡ Some first) where
    pub own-wrong : parts_from s used own first (next - own) ≡ None → None ≡ judged_under s t
    own-wrong wrong = below_wrong next (up_to_most (own + 1)) (stretch own next first (own_next t) to-own ∙ wrong)

    module _ (past : ℕ) (to-next : parts_from s used own first (next - own) ≡ Some past) where
      ended-next : parts_to next ≡ Some past
      ended-next = stretch own next first (own_next t) to-own ∙ to-next

      rest-is : parts_to 16 ≡ parts_from s used next past (16 - next)
      rest-is = stretch next 16 past (up_to_most (own + 1)) ended-next

      pub rest-wrong : parts_from s used next past (16 - next) ≡ None → None ≡ judged_under s t
      rest-wrong wrong = not_ended (λ ends. none-some _ (sym (rest-is ∙ wrong) ∙ ends))

      module _ (end : ℕ) (to_end : parts_from s used next past (16 - next) ≡ Some end) where
        pub records-left : (end ≡ used → ⊥) → None ≡ judged_under s t
        records-left other = not_ended (λ ends. other (same_Some _ _ (sym (rest-is ∙ to_end) ∙ ends)))

        pub all_right : Framed s → end ≡ used → (i j : ℕ) → i ≡ (first - records_place) / record_size
            → j ≡ (past - records_place) / record_size → Some (found i j) ≡ judged_under s t
        all_right framed done i j is-i is-j =
            ap₂ (λ (i j : ℕ). Some (found i j))
            (is-i ∙ place_is first (first_in s own) (same_Some _ _ (sym to-own ∙ book-parts s below undamaged own (up_to_most t))) ∙ start_up_to records good t)
            (is-j ∙ place_is past (first_in s next) (same_Some _ _ (sym ended-next ∙ book-parts s below undamaged next (up_to_most (own + 1))))
            ∙ start_after records good t)
            ∙ sym (unfold judged_under in rw undamaged)
          where
            records : List BookRecord
            records = (book_of s).records

            undamaged : is_book s ≡ true
            undamaged = tested-book s below framed (rest-is ∙ to_end ∙ ap Some done)

            good : are_records (book_of s).records ≡ true
            good = book-right s below undamaged

            place_is : (place k : ℕ) → place ≡ record_place k → (place - records_place) / record_size ≡ k
            place_is place k is = omega arith

-- and what it answers tells whether the book is undamaged
module _ (s : List ℕ) (t : ℕ) where
  pub judged_says : (r : Records) → judged_under s t ≡ Some r → (is_book s ≡ true) × ((r.first ≡ first_in s t) × (r.past ≡ past_in s t))
  unfolding judged_under
  judged_says r so =
      let both = cond_some (is_book s) (found (first_in s t) (past_in s t)) r so in
      (both.0, (ap (λ (r : Records). r.first) (sym both.1), ap (λ (r : Records). r.past) (sym both.1)))

  pub judged_damaged : judged_under s t ≡ None → is_book s ≡ false
  unfolding judged_under
  judged_damaged so = either (is_book s) (λ undamaged. absurd (none-some _ (sym (rw undamaged at so)))) (λ not. not)
