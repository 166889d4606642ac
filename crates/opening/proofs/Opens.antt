-- What opening writes is an undamaged book with the settings that were given and no cell.
-- Assumes nothing.
use mathlib.Core.Path.{◌≡◌, refl, sym, ap, ◌∙◌}
use mathlib.Core.Bool.{Bool, true, false}
use mathlib.Core.List.{List}
use Prim.Native.Nat.{ℕ, ◌*◌, ◌<◌}
use native.Mathlib.Omega.{arith}
use borrow.Author.Tests.{leb-true, eqb-true}
use lib.Dec.{eqb}
use lib.ListN.{length, get_or, take, drop, take-append-drop}
use Rattle.octets.specs.Every.{all_of}
use Rattle.octets.specs.Places.{number_at}
use Rattle.octets.proofs.Every.{and_first, and_second}
use Rattle.text.specs.Characters.{is_name_character}
use Rattle.text.specs.Texts.{part}
use Rattle.text.proofs.TextsAt.{all_append, all_at_place}
use Rattle.dates.specs.Notice.{is_days}
use Rattle.forms.specs.Order.{demand}
use Rattle.forms.specs.Identifiers.{is_server_id}
use Rattle.forms.specs.Output.{text, refusal}
use Rattle.forms.specs.Refusals.{by}
use Rattle.forms.proofs.NamesAt.{name_at_lem}
use Rattle.tenants.specs.declared.Setting.{Setting}
use Rattle.tenants.specs.Together.{cells_of, no_setting, is_setting, quota_sum, is_good}
use Rattle.tenants.proofs.Goodness.{Good, facts_good}
use Rattle.layout.specs.Layout.{book_size, book_bytes}
use Rattle.layout.proofs.Each.{each_count, each_is}
use Rattle.layout.proofs.AllFrom.{all_each, principals_each}
use Rattle.layout.proofs.Promises.{good_reads_back}
use Rattle.opening.specs.Opening.{first_setting, first_settings, empty_book, are_given, opened, OpensEmpty}

all_part : (test : ℕ → Bool) (n : ℕ) (s : List ℕ) (at : ℕ) → all_of test s ≡ true → all_of test (part n s at) ≡ true
all_part test n s at all =
    and_first (all_of test (part n s at)) (all_of test (drop n (drop at s)))
    (sym (all_append test (part n s at) (drop n (drop at s))) ∙ ap (all_of test) (take-append-drop n (drop at s)) ∙ behind)
  where
    behind : all_of test (drop at s) ≡ true
    behind =
        and_second (all_of test (take at s)) (all_of test (drop at s))
        (sym (all_append test (take at s) (drop at s)) ∙ ap (all_of test) (take-append-drop at s) ∙ all)

module _ (quotas ids principals : List ℕ) where
  module _ (long : length ids ≡ 32) (all : all_of is_name_character ids ≡ true) where
    server_given : (t : ℕ) → t < 16 → is_server_id (number_at 2 ids (2 * t)) ≡ true
    server_given t h =
        name_at_lem 2 ids (2 * t) (all_at_place is_name_character 2 ids (2 * t) (omega arith) (all_part is_name_character 2 ids (2 * t) all))

    setting_given : (t : ℕ) → t < 16 → is_setting (first_setting quotas ids principals t) ≡ true
    unfolding is_setting is_days
    setting_given t h = server_given t h

-- what is given makes a good book
given_good : (quotas ids principals : List ℕ) → are_given quotas ids principals ≡ true → Good (empty_book quotas ids principals)
unfolding are_given empty_book cells_of
given_good quotas ids principals given = record {
  sixteen = each_count (first_setting quotas ids principals) 0 16;
  each_setting = each;
  named = λ t h. rw (each_is (first_setting quotas ids principals) 16 t no_setting h)
      (all_each _ 0 16 (sym (principals_each settings (first_setting quotas ids principals) 0 16) ∙ search (and_first, and_second)) t (omega arith) h);
  sum = leb-true (quota_sum (empty_book quotas ids principals).settings) 512 (search (and_first, and_second));
  count = omega arith;
  sorted = tt;
  each_record = tt;
  within = λ t h. omega arith;
}
  where
    settings : List Setting
    settings = first_settings quotas ids principals

    long : length ids ≡ 32
    long = eqb-true (length ids) 32 (search (and_first, and_second))

    each : (t : ℕ) → t < 16 → is_setting (get_or (empty_book quotas ids principals).settings t no_setting) ≡ true
    each t h =
        rw (each_is (first_setting quotas ids principals) 16 t no_setting h) (setting_given quotas ids principals long (search (and_first, and_second)) t h)

-- what opening answers with a book was not refused
written : (size given : Bool) (bytes book : List ℕ) → demand size (refusal (by 101)) (demand given (refusal (by 103)) (text bytes)) ≡ text book
    → (given ≡ true) × (bytes ≡ book)
written true true bytes book made = (refl, cc)
written true false bytes book made = (cc, cc)
written false given bytes book made = (cc, cc)

pub opened-given : (quotas ids principals s book : List ℕ) → opened quotas ids principals s ≡ text book
    → (is_good (empty_book quotas ids principals) ≡ true) × (book_bytes (empty_book quotas ids principals) ≡ book)
unfolding opened
opened-given quotas ids principals s book made =
    let it = written (eqb (length s) book_size) (are_given quotas ids principals) (book_bytes (empty_book quotas ids principals)) book made in
    (facts_good (empty_book quotas ids principals) (given_good quotas ids principals it.0), it.1)

pub opens_empty : OpensEmpty
opens_empty quotas ids principals s book made =
    let it = opened-given quotas ids principals s book made in
    rw it.1 at (good_reads_back (empty_book quotas ids principals) it.0)
