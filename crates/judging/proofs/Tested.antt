-- The tests of the bytes, all together, hold exactly of an undamaged book; and then the parts begin where each tenant's records start.
-- Assumes nothing.
use mathlib.Core.Path.{◌≡◌, sym, ap, ◌∙◌}
use mathlib.Core.Bool.{true, ◌&&◌}
use mathlib.Core.List.{List}
use Prim.Native.Nat.{ℕ, ◌-◌, ◌≤◌}
use native.Mathlib.Omega.{arith}
use borrow.Author.Tests.{le-leb, eq-eqb}
use lib.Dec.{leb, eqb}
use lib.ListN.{length}
use Rattle.octets.specs.Numbers.{Below}
use Rattle.octets.proofs.Every.{and_first, and_second}
use Rattle.text.specs.Texts.{same_text}
use Rattle.text.proofs.SameTexts.{same_refl}
use Rattle.tenants.specs.declared.Setting.{Setting}
use Rattle.tenants.specs.Together.{BookRecord, are_settings, are_principals, quota_sum, are_records, within_quotas, is_good}
use Rattle.layout.specs.Layout.{two, book_of_by, is_book_by, records_place, book_size, used_length, record_count, record_place, setting_at, record_at, each_from, book_of, is_book, all_from}
use Rattle.judging.specs.Starts.{start_of, first_in}
use Rattle.judging.specs.Judging.{settings_test, principals_test, form_test, frame_test, parts_from}
use Rattle.std.specs.Prelude.{Some}
use Rattle.layout.proofs.Promises.{undamaged_says}
use Rattle.layout.proofs.Each.{each_count}
use Rattle.layout.proofs.Frame.{Frame, frame_written, book_frame}
use Rattle.judging.proofs.Forms.{Formed, form_facts, formed_test, formed_frame, frame_formed}
use Rattle.judging.proofs.SettingTests.{test_at, settings_tested}
use Rattle.judging.proofs.PrincipalTests.{principals_tested}
use Rattle.judging.proofs.QuotaTests.{within_kept, kept_within}
use Rattle.judging.proofs.OnePart.{from}
use Rattle.judging.proofs.AllParts.{PartsSay, parts_say, parts-start}

-- what the tests of all but the records find
pub record Framed (s : List ℕ) : Type 0 where
  pub form : Formed two s
  pub settings : settings_test s ≡ true
  pub principals : principals_test s ≡ true

module _ (s : List ℕ) where
  pub frame_facts : frame_test s ≡ true → Framed s
  unfolding frame_test
  frame_facts all =
      let both = and_first (form_test two s && settings_test s) (principals_test s) all in
      record {
        form = form_facts two s (and_first (form_test two s) (settings_test s) both);
        settings = and_second (form_test two s) (settings_test s) both;
        principals = and_second (form_test two s && settings_test s) (principals_test s) all;
      }

  pub framed_test : Framed s → frame_test s ≡ true
  unfolding frame_test
  framed_test framed = rw (formed_test two s framed.form, framed.settings) framed.principals

module _ (s : List ℕ) (below : Below 256 s) where
  abbrev n : ℕ
  n = record_count s

  abbrev settings : List Setting
  settings = each_from (setting_at s) 0 16

  abbrev records : List BookRecord
  records = each_from (record_at s) 0 n

  module _ (within : used_length n ≤ length s) where
    whole : from s below n within 0 ≡ records
    whole = let all : n - 0 ≡ n = omega arith in ap (each_from (record_at s) 0) all

  -- an undamaged book has the frame, and the parts of the tenants below one end where its records start
  module _ (undamaged : is_book s ≡ true) where
    frame : Frame two s
    frame = book_frame s undamaged

    within : used_length n ≤ length s
    within = omega (arith, frame.size, frame.few)

    record Said : Type 0 where
      settings-right : are_settings settings ≡ true
      principals-right : are_principals settings 0 settings ≡ true
      sum : leb (quota_sum settings) 512 ≡ true
      records-right : are_records records ≡ true
      quotas : within_quotas 0 settings records ≡ true

    said : Said
    unfolding is_good book_of_by
    said =
        let good = (undamaged_says s undamaged).0 in
        let a = eqb (length settings) 16 in
        let b = are_settings settings in
        let p = are_principals settings 0 settings in
        let c = leb (quota_sum settings) 512 in
        let d = leb (length records) 512 in
        let e = are_records records in
        let six = and_first (a && b && p && c && d && e) (within_quotas 0 settings records) good in
        let four = and_first (a && b && p && c) d (and_first (a && b && p && c && d) e six) in
        let three = and_first (a && b && p) c four in
        record {
          settings-right = and_second a b (and_first (a && b) p three);
          principals-right = and_second (a && b) p three;
          sum = and_second (a && b && p) c four;
          records-right = and_second (a && b && p && c && d) e six;
          quotas = and_second (a && b && p && c && d && e) (within_quotas 0 settings records) good;
        }

    pub book-framed : Framed s
    unfolding settings_test
    book-framed = record {
      form = frame_formed two s frame;
      settings = rw (sym (settings_tested s (omega (arith, frame.size))) ∙ said.settings-right, said.sum);
      principals = sym (principals_tested s) ∙ said.principals-right;
    }

    pub book-right : are_records (book_of s).records ≡ true
    unfolding book_of_by
    book-right = said.records-right

    pub book-parts : (t : ℕ) → t ≤ 16 → parts_from s (used_length n) 0 records_place t ≡ Some (record_place (first_in s t))
    unfolding book_of_by
    book-parts t low =
        let same = whole within in
        parts-start s below n within (ap are_records same ∙ said.records-right) frame.records
        (λ u h. rw same (within_kept s records 0 16 said.quotas u (omega arith) (omega arith))) t low
        ∙ ap (λ (l : List BookRecord). Some (record_place (start_of t l))) same

  -- and where the frame is right and all parts end with the records, the book is undamaged
  module _ (framed : Framed s) (parts : parts_from s (used_length n) 0 records_place 16 ≡ Some (used_length n)) where
    inside : used_length n ≤ length s
    inside = omega (arith, framed.form.size, framed.form.few)

    says : PartsSay s below n inside 0 0
    says = parts_say s below n inside 16 0 0 (omega arith) (omega arith) parts

    tested-settings : are_settings settings ≡ true
    tested-settings =
        settings_tested s (omega (arith, framed.form.size))
        ∙ and_first (all_from (test_at s) 0 16) (leb (quota_sum settings) 512) (unfold settings_test in framed.settings)

    so-framed : Frame two s
    so-framed = formed_frame two s framed.form (λ i high. says.zeros i (omega arith) high)

    good : is_good (book_of s) ≡ true
    unfolding is_good book_of_by
    good =
        let same = whole inside in
        rw (
          eq-eqb (length settings) 16 (each_count (setting_at s) 0 16),
          tested-settings,
          principals_tested s ∙ framed.principals,
          and_second (all_from (test_at s) 0 16) (leb (quota_sum settings) 512) (unfold settings_test in framed.settings),
          le-leb (length records) 512 (omega (arith, each_count (record_at s) 0 n, framed.form.few)),
          sym (ap are_records same) ∙ says.right,
        )
        (kept_within s records 0 16 (λ u low high. rw same at (says.kept u low (omega arith))))

    pub tested-book : is_book s ≡ true
    unfolding is_book_by
    tested-book = rw (eq-eqb (length s) book_size framed.form.size, ap (same_text s) (frame_written two s below so-framed) ∙ same_refl s) good
