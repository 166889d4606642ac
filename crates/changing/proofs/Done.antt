-- What the calls do where the search has told the name's place: the answer and the bytes that the rules give.
-- Assumes nothing.
use mathlib.Core.Path.{◌≡◌, refl, sym, ap, ◌∙◌}
use mathlib.Core.Bool.{Bool, true}
use mathlib.Core.List.{List}
use Prim.Native.Nat.{ℕ, ◌+◌, ◌-◌, ◌≤◌, ◌<◌}
use native.Mathlib.Omega.{arith}
use lib.ListN.{length, set}
use Rattle.std.specs.Prelude.{Ok}
use Rattle.dates.specs.Notice.{is_days}
use Rattle.forms.specs.Identifiers.{is_cell_name}
use Rattle.forms.specs.Refusals.{by, refused}
use Rattle.tenants.specs.declared.Held.{Held}
use Rattle.tenants.specs.declared.Setting.{Setting}
use Rattle.tenants.specs.Rules.{enters, withdraws, sets, change_answer, is_held, names_none}
use Rattle.tenants.specs.Calls.{enter}
use Rattle.tenants.specs.Together.{in_book, own_of, changed, is_good}
use Rattle.tenants.specs.House.{later_in, moved_by}
use Rattle.tenants.proofs.Kept.{kept_of, own_list, own_kept}
use Rattle.tenants.proofs.KeptGood.{good_after}
use Rattle.tenants.proofs.Later.{replaced_moves_none, new_moves_later}
use Rattle.tenants.proofs.Ranges.{tenant_is, days_below, name_below, held_below}
use Rattle.tenants.proofs.Room.{has_place}
use Rattle.layout.specs.Layout.{two, setting_at, setting_place, record_count, book_bytes, book_of, is_book, list_in, own_in}
use Rattle.layout.proofs.Indexed.{book_count, own_setting}
use Rattle.layout.proofs.Fits.{book_fits}
use Rattle.layout.proofs.ReadBack.{count-back}
use Rattle.layout.proofs.Frame.{book_frame}
use Rattle.layout.proofs.Promises.{good, undamaged_says}
use Rattle.records.specs.declared.finding.Found.TheVariants.{At, Absent}
use Rattle.judging.specs.declared.Records.{Records}
use Rattle.records.specs.Finding.{searched, searched_under, searched_for}
use Rattle.records.specs.Moves.{record_put, record_inserted, record_removed}
use Rattle.records.proofs.OwnFound.{finds_held, finds_none, found_within}
use Rattle.records.proofs.OwnPart.{counts_held}
use Rattle.records.proofs.Changes.{replaces, inserts, removes}
use Rattle.records.proofs.Later.{later_entered, later_withdrawn}
use Rattle.changing.specs.Changing.{admitted, entry, withdrawal, new_days}
use Rattle.changing.specs.House.{house_answer}
use Rattle.changing.proofs.Days.{byte_put, sets_days}
use Rattle.changing.proofs.ChangeRules.{
  Admitted,
  admitted_so,
  Does,
  refused_so,
  does_same,
  entry-rule,
  entry-full,
  entry-held,
  entry-roomy,
  withdrawal-absent,
  withdrawal-held,
  days-fit,
}

module _ (s : List ℕ) (undamaged : is_book s ≡ true) (t : ℕ) (tenant : t ≤ 15) where
  quota_is : (own_in s t).setting.quota ≡ (setting_at s t).quota
  quota_is = ap (λ (x : Setting). x.quota) (own_setting s t tenant)

  module _ (keeps : names_none (own_in s t).setting ≡ true) where
    -- it reads what it keeps
    own_is : own_in s t ≡ kept_of t (book_of s)
    unfolding own_of
    own_is = own_kept t (book_of s) keeps

    under : (name : ℕ) → searched_under s t name ≡ searched_for s t name
    unfolding own_of
    under name = ap (λ (list : ℕ). searched_under s list name) (sym (own_list t (book_of s) keeps))

    -- the tenant's own quota has room, so the book has
    room-for : length (own_in s t).cells < (own_in s t).setting.quota → record_count s < 512
    room-for room = omega (arith, book_count s, has_place (book_of s) (good s undamaged) t (omega arith) (rw own_is at room))

  module _ (cell : Held) (fit : is_held cell ≡ true) (keeps : names_none (own_in s t).setting ≡ true) (i : ℕ) where
    pub entered-held : searched_for s t cell.name ≡ At i → Does (house_answer t s) t s (entry s t cell) (Ok 0) (record_put i (in_book t cell) s)
    entered-held found =
        let held = finds_held s t cell.name i undamaged (held_below cell fit) found in
        does_same (house_answer t s) t s (entry s t cell) (enters cell) (Ok 0) _
        (entry-held s t cell undamaged (tenant_is t tenant) fit keeps _ held)
        (ap Ok (sym (replaced_moves_none t cell (book_of s) _ held)), replaces s t cell i undamaged (held_below cell fit) (under keeps cell.name ∙ found))

    module _ (found : searched_for s t cell.name ≡ Absent i) where
      module _ (below : length (own_in s t).cells < (setting_at s t).quota) where
        room : length (own_in s t).cells < (own_in s t).setting.quota
        room = omega (arith, quota_is)

        enters_it : entry s t cell ≡ enters cell
        enters_it = entry-roomy s t cell undamaged (tenant_is t tenant) fit keeps room

        abbrev then : List ℕ
        then = record_inserted i (in_book t cell) s

        becomes : then ≡ book_bytes (changed t (enters cell) (book_of s))
        becomes = inserts s t cell i undamaged (held_below cell fit) (room-for keeps room) (under keeps cell.name ∙ found)

        good_then : is_good (changed t (enters cell) (book_of s)) ≡ true
        good_then =
            rw (sym (entry-rule s t cell undamaged) ∙ enters_it) at
            (good_after t (enter cell) (book_of s) (undamaged_says s undamaged).0)

        count-then : record_count then ≡ length (changed t (enters cell) (book_of s)).records
        count-then = ap record_count becomes ∙ count-back two _ (book_fits _ good_then)

        -- it has its place among the records then, which are few
        place-then : (i < record_count then) × (record_count then ≤ 512)
        place-then =
            let later = later_entered s t cell i undamaged (held_below cell fit) (under keeps cell.name ∙ found) in
            (omega (arith, count-then, later), omega (arith, count-then, (book_fits _ good_then).few))

        -- the records after it are those that are later in order
        after-it : record_count then - 1 - i ≡ moved_by t (enters cell) (book_of s)
        after-it =
            let later = later_entered s t cell i undamaged (held_below cell fit) (under keeps cell.name ∙ found) in
            let after : record_count then - 1 - i ≡ later_in (changed t (enters cell) (book_of s)) t cell.name = omega (arith, count-then, later) in
            after ∙ sym (new_moves_later t cell (book_of s) (finds_none s t cell.name i undamaged (held_below cell fit) found))

        entered-new : Does (house_answer t s) t s (entry s t cell) (Ok (record_count then - 1 - i)) then
        entered-new =
            does_same (house_answer t s) t s (entry s t cell) (enters cell) _ then enters_it (ap Ok after-it, becomes)

      quota-used : (setting_at s t).quota ≤ length (own_in s t).cells → Does (house_answer t s) t s (entry s t cell) (refused (by 105)) s
      quota-used full =
          refused_so (house_answer t s) t s (entry s t cell) (by 105)
          (entry-full s t cell undamaged (tenant_is t tenant) fit keeps (finds_none s t cell.name i undamaged (held_below cell fit) found)
          (omega (arith, quota_is)))

      -- by the quota that was read, the cells that are held, and the records that are counted afterwards
      module _ (x : Setting) (held : ℕ) (read : x ≡ setting_at s t) (holds : held ≡ length (own_in s t).cells) where
        module _ (below : held < x.quota) (after : List ℕ) (n : ℕ) (is : after ≡ record_inserted i (in_book t cell) s) (counted : n ≡ record_count after) where
          has_room : length (own_in s t).cells < (setting_at s t).quota
          has_room = omega (arith, ap (λ (x : Setting). x.quota) read)

          pub new_within : (i < n) × (n ≤ 512)
          new_within = rw (counted, is) (place-then has_room)

          pub new_entered : Does (house_answer t s) t s (entry s t cell) (Ok (n - 1 - i)) after
          new_entered = rw (counted, is) (entered-new has_room)

        pub new_refused : x.quota ≤ held → Does (house_answer t s) t s (entry s t cell) (refused (by 105)) s
        new_refused full = quota-used (omega (arith, ap (λ (x : Setting). x.quota) read))

  module _ (name : ℕ) (fit : is_cell_name name ≡ true) (keeps : names_none (own_in s t).setting ≡ true) (i : ℕ) where
    pub not_held : searched_for s t name ≡ Absent i → Does (house_answer t s) t s (withdrawal s t name) (refused (by 104)) s
    not_held found =
        refused_so (house_answer t s) t s (withdrawal s t name) (by 104)
        (withdrawal-absent s t name undamaged (tenant_is t tenant) fit keeps (finds_none s t name i undamaged (name_below name fit) found))

    pub withdrawn-held : searched_for s t name ≡ At i → Does (house_answer t s) t s (withdrawal s t name) (Ok (record_count s - 1 - i)) (record_removed i s)
    withdrawn-held found =
        let after-it : record_count s - 1 - i ≡ moved_by t (withdraws name) (book_of s) =
        omega (arith, later_withdrawn s t name i undamaged (name_below name fit) (under keeps name ∙ found)) in
        does_same (house_answer t s) t s (withdrawal s t name) (withdraws name) (Ok (record_count s - 1 - i)) _
        (withdrawal-held s t name undamaged (tenant_is t tenant) fit keeps _ (finds_held s t name i undamaged (name_below name fit) found))
        (ap Ok after-it, removes s t name i undamaged (name_below name fit) (under keeps name ∙ found))

  pub days_set : (days : ℕ) → is_days days ≡ true → Does change_answer t s (new_days s t days) (Ok tt) (set s (setting_place t + 2) days)
  days_set days fit =
      does_same change_answer t s (new_days s t days) (sets days) (Ok tt) _ (days-fit s t days undamaged (tenant_is t tenant) fit) (
        refl,
        byte_put (setting_place t + 2) days s (days_below days fit) (omega (arith, (book_frame s undamaged).size))
            ∙ sets_days s undamaged t days (omega arith),
      )

-- a call that is admitted, and what the search then finds, among the tenant's own
module _ (s : List ℕ) (t : ℕ) (fits : Bool) (r : Records) (so : admitted s t fits ≡ Ok r) where
  now : Admitted s t fits r
  now = admitted_so s t fits r so

  told : (name : ℕ) → searched s r.first r.past name ≡ searched_for s t name
  told name = ap (λ (r : Records). searched s r.first r.past name) now.stand

  -- from where its records begin to where they end they are its cells
  pub own_count : r.past ≡ r.first + length (own_in s t).cells
  own_count = ap (λ (r : Records). r.past) now.stand ∙ counts_held s t ∙ ap (λ (r : Records). r.first + length (own_in s t).cells) (sym now.stand)

  module _ (cell : Held) (same : fits ≡ is_held cell) where
    fits-held : is_held cell ≡ true
    fits-held = sym same ∙ now.fit

    pub enter_bound : (t ≤ 15) × ((is_held cell ≡ true) × (names_none (own_in s t).setting ≡ true))
    enter_bound = (now.tenant, (fits-held, now.keeps))

    pub enter_undamaged : is_book s ≡ true
    enter_undamaged = now.undamaged

    pub enter_absent : (i : ℕ) → searched s r.first r.past cell.name ≡ Absent i → searched_for s t cell.name ≡ Absent i
    enter_absent i found = sym (told cell.name) ∙ found

    pub enter_held : (i : ℕ) → searched s r.first r.past cell.name ≡ At i → Does (house_answer t s) t s (entry s t cell) (Ok 0) (record_put i (in_book t cell) s)
    enter_held i found = entered-held s now.undamaged t now.tenant cell fits-held now.keeps i (sym (told cell.name) ∙ found)

  module _ (name : ℕ) (same : fits ≡ is_cell_name name) (i : ℕ) where
    fits_name : is_cell_name name ≡ true
    fits_name = sym same ∙ now.fit

    pub withdraw_absent : searched s r.first r.past name ≡ Absent i → Does (house_answer t s) t s (withdrawal s t name) (refused (by 104)) s
    withdraw_absent found = not_held s now.undamaged t now.tenant name fits_name now.keeps i (sym (told name) ∙ found)

    -- the record is one of those that are counted
    pub withdraw_within : searched s r.first r.past name ≡ At i → (i < record_count s) × (record_count s ≤ 512)
    withdraw_within found =
        (found_within s now.undamaged (list_in s t) name i (name_below name fits_name) (sym (told name) ∙ found), (book_frame s now.undamaged).few)

    pub withdraw_held : searched s r.first r.past name ≡ At i
        → Does (house_answer t s) t s (withdrawal s t name) (Ok (record_count s - 1 - i)) (record_removed i s)
    withdraw_held found = withdrawn-held s now.undamaged t now.tenant name fits_name now.keeps i (sym (told name) ∙ found)
