-- The numbers of a good book fit the bytes that they have; a last expiry fits version 1 where it is 0.
-- Assumes nothing.
use mathlib.Core.Path.{◌≡◌}
use mathlib.Core.Bool.{true, ◌&&◌}
use mathlib.Core.List.{List, [], ◌∷◌}
use Prim.Native.Nat.{ℕ, suc, ◌/◌, ◌^◌, ◌≤◌, ◌<◌}
use native.Mathlib.Omega.{arith}
use borrow.Author.Tests.{eqb-true, leb-true}
use lib.Dec.{leb, eqb}
use lib.ListN.{length}
use Rattle.octets.proofs.Every.{and_first, and_second}
use Rattle.text.specs.Characters.{is_name_character}
use Rattle.dates.specs.Notice.{is_days}
use Rattle.forms.specs.Identifiers.{is_server_id}
use Rattle.forms.proofs.Fits.{text_fits}
use Rattle.tenants.specs.declared.Setting.{Setting}
use Rattle.tenants.specs.Together.{cell_in, BookRecord, Book, is_setting, are_settings, is_principal, are_principals, quota_sum, is_record, are_records, within_quotas, is_good}
use Rattle.tenants.specs.Version1.{no_lasts}
use Rattle.tenants.proofs.Ranges.{Fit, days_below, principal_below, last_below, held_fits, record_below, record_held}
use Rattle.tenants.proofs.Goodness.{EachRecord, good_facts}
use Rattle.layout.specs.Layout.{Version, one, two, last_size}
use Rattle.layout.proofs.Each.{Each}

pub record SettingFits (x : Setting) : Type 0 where
  pub quota : x.quota < 256 ^ 2
  pub days : x.days < 256 ^ 1
  pub server : x.server < 256 ^ 2
  pub principal : x.principal < 256 ^ 1

pub record RecordFits (v : Version) (r : BookRecord) : Type 0 where
  pub name : r.name < 256 ^ 9
  pub edition : r.edition < 256 ^ 2
  pub key1 : r.key1 < 256 ^ 5
  pub key2 : r.key2 < 256 ^ 5
  pub last : r.last < 256 ^ last_size v

pub record BookFits (v : Version) (book : Book) : Type 0 where
  pub sixteen : length book.settings ≡ 16
  pub few : length book.records ≤ 512
  pub settings : Each SettingFits book.settings
  pub records : Each (RecordFits v) book.records

setting_fits : (x : Setting) → is_setting x ≡ true → x.principal ≤ 16 → x.quota ≤ 512 → SettingFits x
unfolding is_setting
setting_fits x good named most = record {
  quota = omega arith;
  days = days_below x.days (and_first (is_days x.days) (is_server_id x.server) good);
  server = text_fits is_name_character 2 x.server (and_second (is_days x.days) (is_server_id x.server) good);
  principal = omega arith;
}

settings_fit : (all : List Setting) (t : ℕ) (settings : List Setting) → are_settings settings ≡ true → are_principals all t settings ≡ true
    → quota_sum settings ≤ 512 → Each SettingFits settings
unfolding are_settings are_principals quota_sum
settings_fit all t [] good named most = tt
settings_fit all t (x ∷ settings) good named most = (
  setting_fits x (and_first (is_setting x) (are_settings settings) good)
      (principal_below all t x (and_first (is_principal all t x) (are_principals all (suc t) settings) named)) (omega arith),
  settings_fit all (suc t) settings (and_second (is_setting x) (are_settings settings) good)
      (and_second (is_principal all t x) (are_principals all (suc t) settings) named) (omega arith),
)

full_name_fits : (full : ℕ) → full / 18446744073709551616 ≤ 15 → full < 256 ^ 9
full_name_fits full h = omega arith

-- a version has bytes for the last expiries: version 1 for none but 0
abbrev pub LastsFit : Version → List BookRecord → Type 0
LastsFit v records = Each (λ (r : BookRecord). r.last < 256 ^ last_size v) records

each_last : (records : List BookRecord) → EachRecord records → LastsFit two records
each_last [] each = tt
each_last (r ∷ records) each = (last_below r.last (held_fits (cell_in r) (record_held r each.0)).last, each_last records each.1)

pub good_lasts : (book : Book) → is_good book ≡ true → LastsFit two book.records
good_lasts book good = each_last book.records (good_facts book good).each_record

pub no_lasts_lem : (records : List BookRecord) → no_lasts records ≡ true → LastsFit one records
unfolding no_lasts
no_lasts_lem [] none = tt
no_lasts_lem (r ∷ records) none = (
  omega (arith, eqb-true r.last 0 (and_first (eqb r.last 0) (no_lasts records) none)),
  no_lasts_lem records (and_second (eqb r.last 0) (no_lasts records) none),
)

module _ (v : Version) where
  record_fits : (r : BookRecord) → is_record r ≡ true → r.last < 256 ^ last_size v → RecordFits v r
  record_fits r good last =
      let fit : Fit (cell_in r) = held_fits (cell_in r) (record_held r good) in
      record {
        name = full_name_fits r.name (omega (arith, record_below r good));
        edition = omega (arith, fit.high);
        key1 = fit.key1;
        key2 = fit.key2;
        last = last;
      }

  records_fit : (records : List BookRecord) → EachRecord records → LastsFit v records → Each (RecordFits v) records
  records_fit [] each lasts = tt
  records_fit (r ∷ records) each lasts = (record_fits r each.0 lasts.0, records_fit records each.1 lasts.1)

  pub book_fits_by : (book : Book) → is_good book ≡ true → LastsFit v book.records → BookFits v book
  unfolding is_good
  book_fits_by book good lasts =
      let a = eqb (length book.settings) 16 in
      let b = are_settings book.settings in
      let p = are_principals book.settings 0 book.settings in
      let c = leb (quota_sum book.settings) 512 in
      let d = leb (length book.records) 512 in
      let e = are_records book.records in
      let f = within_quotas 0 book.settings book.records in
      let six = and_first (a && b && p && c && d && e) f good in
      let five = and_first (a && b && p && c && d) e six in
      let four = and_first (a && b && p && c) d five in
      let three = and_first (a && b && p) c four in
      let both = and_first (a && b) p three in
      record {
        sixteen = eqb-true (length book.settings) 16 (and_first a b both);
        few = leb-true (length book.records) 512 (and_second (a && b && p && c) d five);
        settings =
            settings_fit book.settings 0 book.settings (and_second a b both) (and_second (a && b) p three)
            (leb-true (quota_sum book.settings) 512 (and_second (a && b && p) c four));
        records = records_fit book.records (good_facts book good).each_record lasts;
      }

pub book_fits : (book : Book) → is_good book ≡ true → BookFits two book
book_fits book good = book_fits_by two book good (good_lasts book good)
