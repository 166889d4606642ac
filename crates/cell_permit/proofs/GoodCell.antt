-- What the test of a cell says of each of its values.
-- Assumes nothing.
use mathlib.Core.Path.{◌≡◌}
use mathlib.Core.Bool.{Bool, true, ◌&&◌}
use Prim.Native.Nat.{◌^◌, ◌≤◌, ◌<◌}
use borrow.Author.Tests.{ltb-true, leb-true}
use lib.Dec.{leb}
use Rattle.dates.specs.Calendar.{is_date}
use Rattle.dates.proofs.Bounds.{both}
use Rattle.forms.specs.Identifiers.{is_cell_name, is_cell_key, is_server_id}
use Rattle.cell_permit.specs.CellPermit.{is_cell}
use Rattle.cell_permit.specs.declared.Cell.{Cell}

pub record Good (cell : Cell) : Type 0 where
  pub name : is_cell_name cell.name ≡ true
  pub expiry : is_date cell.expiry ≡ true
  pub key1 : cell.key1 < 256 ^ 5
  pub key2 : cell.key2 < 256 ^ 5
  pub level : cell.level ≤ 1
  pub low : 1 ≤ cell.edition
  pub high : cell.edition ≤ 999
  pub server : is_server_id cell.server ≡ true

-- seven tests, of which the sixth has two parts
pub record Seven (a b c d e f₁ f₂ g : Bool) : Type 0 where
  pub first : a ≡ true
  pub second : b ≡ true
  pub third : c ≡ true
  pub fourth : d ≡ true
  pub fifth : e ≡ true
  pub low : f₁ ≡ true
  pub high : f₂ ≡ true
  pub last : g ≡ true

seven : (a b c d e f₁ f₂ g : Bool) → (a && b && c && d && e && (f₁ && f₂) && g) ≡ true → Seven a b c d e f₁ f₂ g
seven a b c d e f₁ f₂ g all =
    let abcdef = both (a && b && c && d && e && (f₁ && f₂)) g all in
    let abcde = both (a && b && c && d && e) (f₁ && f₂) abcdef.0 in
    let abcd = both (a && b && c && d) e abcde.0 in
    let abc = both (a && b && c) d abcd.0 in
    let ab = both (a && b) c abc.0 in
    let f = both f₁ f₂ abcde.1 in
    record {
      first = (both a b ab.0).0;
      second = (both a b ab.0).1;
      third = ab.1;
      fourth = abc.1;
      fifth = abcd.1;
      low = f.0;
      high = f.1;
      last = abcdef.1;
    }

pub good_cell : (cell : Cell) → is_cell cell ≡ true → Good cell
unfolding is_cell
good_cell cell good =
    let tests = seven
    (is_cell_name cell.name) (is_date cell.expiry) (is_cell_key cell.key1) (is_cell_key cell.key2)
    (leb cell.level 1) (leb 1 cell.edition) (leb cell.edition 999) (is_server_id cell.server) good in
    record {
      name = tests.first;
      expiry = tests.second;
      key1 = ltb-true cell.key1 (256 ^ 5) tests.third;
      key2 = ltb-true cell.key2 (256 ^ 5) tests.fourth;
      level = leb-true cell.level 1 tests.fifth;
      low = leb-true 1 cell.edition tests.low;
      high = leb-true cell.edition 999 tests.high;
      server = tests.last;
    }
