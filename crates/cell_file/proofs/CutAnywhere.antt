-- Parts and end together write what the whole call writes.
-- Assumes nothing.
use mathlib.Core.Path.{◌≡◌, refl, sym, ap, ap₂, subst, ◌∙◌}
use mathlib.Core.Bool.{true, ◌&&◌}
use mathlib.Core.List.{List, [], ◌∷◌, ◌++◌, append_assoc, append-nil}
use Prim.Native.Nat.{ℕ, ◌+◌, ◌*◌, ◌/◌, ◌≤◌}
use native.Mathlib.Omega.{arith}
use borrow.Author.Tests.{le-leb, lt-ltb}
use lib.Dec.{leb}
use lib.ListN.{length}
use lib.Seq.{drop-append-le, take_at}
use Rattle.octets.specs.Numbers.{Below, digits, bytes_of, bytes_number}
use Rattle.octets.proofs.Digits.{digits_value, value_below, take_below, drop_below}
use Rattle.octets.proofs.Every.{and_first}
use Rattle.forms.specs.Identifiers.{is_cell_key}
use Rattle.forms.specs.Output.{Output, text, refusal}
use Rattle.forms.specs.Refusals.{by}
use Rattle.forms.specs.declared.refusals.Refusal.{Refusal}
use Rattle.forms.proofs.Demands.{passed}
use Rattle.cell_file.specs.Enciphering.{most, enciphered, padded_file, file_written, is_carried, PartOutput, blocks, refused, carried_on, part_written, end_written}
use Rattle.cell_file.specs.CutAnywhere.{joined, EachFits, InParts, end, part, CutAnywhere, PartsDone}
use Rattle.cell_file.proofs.WholeBlocks.{carried-length, file_length, padded_cut}

-- a text is no refusal
pub no_refusal : (r : Refusal) (t : List ℕ) → refusal r ≡ text t → ⊥
no_refusal r t e = let z : ◌≡◌ {A = ℕ} 0 1 = cc in omega arith

no_part : (r : Refusal) (t c : List ℕ) → refused r ≡ blocks t c → ⊥
no_part r t c e = let z : ◌≡◌ {A = ℕ} 0 1 = cc in omega arith

-- an end that was done: the key is a cell key, and what was written
end_says : (key x n room : ℕ) (t : List ℕ) → end_written key x n room ≡ text t → (is_cell_key key ≡ true) × (t ≡ enciphered key (padded_file (bytes_of n x)))
unfolding end_written
end_says key x n room t e =
    let first = passed (λ (o : Output). o ≡ text t) (is_cell_key key && is_carried n x) (refusal (by 103)) _ (no_refusal _ t) e in
    let second = passed (λ (o : Output). o ≡ text t) (leb 8 room) (refusal (by 108)) _ (no_refusal _ t) first.1 in
    (and_first _ _ first.0, cc second.1)

-- a part that was done: the same, and what it carried on
part_says : (key x n room : ℕ) (p t c : List ℕ) → part_written key x n p room ≡ blocks t c
    → (is_cell_key key ≡ true) × ((t ≡ enciphered key (bytes_of n x ++ p)) × (c ≡ carried_on (bytes_of n x ++ p)))
unfolding part_written
part_says key x n room p t c e =
    let first = passed (λ (o : PartOutput). o ≡ blocks t c) (is_cell_key key && leb (length p) most && is_carried n x) (refused (by 103)) _ (no_part _ t c) e in
    let second = passed (λ (o : PartOutput). o ≡ blocks t c) (leb (8 * ((n + length p) / 8)) room) (refused (by 108)) _ (no_part _ t c) first.1 in
    (and_first _ _ (and_first _ _ first.0), (cc second.1, cc second.1))

front_below : (s t : List ℕ) → Below 256 (s ++ t) → Below 256 s
front_below s t below = subst (Below 256) (take_at s t (length s) refl) (take_below (length s) (s ++ t) below)

-- what is carried on, with what follows it, consists of bytes where all did
carried_below : (s t : List ℕ) → Below 256 (s ++ t) → Below 256 (carried_on s ++ t)
carried_below s t below =
    subst (Below 256) (drop-append-le (8 * (length s / 8)) s t (omega arith)) (drop_below (8 * (length s / 8)) (s ++ t) below)

-- the bytes of the number of what is carried on are these bytes
carried_again : (s c : List ℕ) → c ≡ carried_on s → Below 256 s → bytes_of (length c) (bytes_number c) ≡ carried_on s
carried_again s c e below =
    ap (λ (l : List ℕ). bytes_of (length l) (bytes_number l)) e ∙ digits_value (carried_on s) (drop_below (8 * (length s / 8)) s below)

-- each part's call, and the end's, write their piece of what is enciphered at once
run : {key x n : ℕ} {parts : List (List ℕ)} {t : List ℕ} → InParts key x n parts t → Below 256 (bytes_of n x ++ joined parts)
    → (is_cell_key key ≡ true) × (t ≡ enciphered key (padded_file (bytes_of n x ++ joined parts)))
unfolding joined
run {key} {x} {n} {t = t} (end room e) below =
    let says = end_says key x n room t e in
    (says.0, says.1 ∙ ap (λ (s : List ℕ). enciphered key (padded_file s)) (sym (append-nil (bytes_of n x))))
run {key} {x} {n} (part {p = p} {t = t} {c = c} {ps = ps} {u = u} room e more) below =
    let says = part_says key x n room p t c e in
    let s = bytes_of n x ++ p in
    let all : bytes_of n x ++ (p ++ joined ps) ≡ s ++ joined ps = sym (append_assoc (bytes_of n x) p (joined ps)) in
    let both : Below 256 (s ++ joined ps) = subst (Below 256) all below in
    let again : bytes_of (length c) (bytes_number c) ≡ carried_on s = carried_again s c says.1.1 (front_below s (joined ps) both) in
    let rest = run more (subst (λ (l : List ℕ). Below 256 (l ++ joined ps)) (sym again) (carried_below s (joined ps) both)) in (
      says.0,
      ap₂ (λ (a b : List ℕ). a ++ b) says.1.0 (rest.1 ∙ ap (λ (l : List ℕ). enciphered key (padded_file (l ++ joined ps))) again)
          ∙ sym (padded_cut s (joined ps) key)
          ∙ ap (λ (l : List ℕ). enciphered key (padded_file l)) (sym all),
    )

-- a file that is not refused
pub file_done : (key : ℕ) (s : List ℕ) (room : ℕ) → is_cell_key key ≡ true → length s ≤ most → 8 * (length s / 8 + 1) ≤ room
    → file_written key s room ≡ text (enciphered key (padded_file s))
unfolding file_written
file_done key s room good fits enough = rw (good, le-leb (length s) most fits, le-leb (8 * (length s / 8 + 1)) room enough)

pub cut_anywhere : CutAnywhere
unfolding digits
cut_anywhere key parts t room below fits done enough =
    let says = run done below in
    file_done key (joined parts) room says.0 fits (omega (arith, file_length key (joined parts), ap length says.1))
    ∙ ap text (sym says.1)

-- an end that is not refused
end_done : (key x n : ℕ) → is_cell_key key ≡ true → is_carried n x ≡ true → end_written key x n 8 ≡ text (enciphered key (padded_file (bytes_of n x)))
unfolding end_written
end_done key x n good carried = rw (good, carried)

-- nor a part
pub part_done_lem : (key x n : ℕ) (p : List ℕ) (room : ℕ) → is_cell_key key ≡ true → is_carried n x ≡ true → length p ≤ most → 8 * ((n + length p) / 8) ≤ room
    → part_written key x n p room ≡ blocks (enciphered key (bytes_of n x ++ p)) (carried_on (bytes_of n x ++ p))
unfolding part_written
part_done_lem key x n p room good carried fits enough = rw (good, carried, le-leb (length p) most fits, le-leb (8 * ((n + length p) / 8)) room enough)

-- what is carried on is a number of so many bytes, at most seven
carried_good : (s : List ℕ) → Below 256 s → is_carried (length (carried_on s)) (bytes_number (carried_on s)) ≡ true
unfolding is_carried
carried_good s below =
    rw (le-leb (length (carried_on s)) 7 (omega (arith, carried-length s)), lt-ltb _ _ (value_below (carried_on s) (drop_below (8 * (length s / 8)) s below)))

done : (key x n : ℕ) (parts : List (List ℕ)) → is_cell_key key ≡ true → is_carried n x ≡ true → Below 256 (bytes_of n x ++ joined parts) → EachFits parts
    → InParts key x n parts (enciphered key (padded_file (bytes_of n x ++ joined parts)))
unfolding joined EachFits
done key x n [] good carried below fits = end 8 (end_done key x n good carried ∙ ap (λ (s : List ℕ). text (enciphered key (padded_file s))) (sym (append-nil (bytes_of n x))))
done key x n (p ∷ ps) good carried below fits =
    let s = bytes_of n x ++ p in
    let all : bytes_of n x ++ (p ++ joined ps) ≡ s ++ joined ps = sym (append_assoc (bytes_of n x) p (joined ps)) in
    let both : Below 256 (s ++ joined ps) = subst (Below 256) all below in
    let bytes = front_below s (joined ps) both in
    let again : bytes_of (length (carried_on s)) (bytes_number (carried_on s)) ≡ carried_on s = carried_again s (carried_on s) refl bytes in
    let rest = done key (bytes_number (carried_on s)) (length (carried_on s)) ps good (carried_good s bytes) (subst (λ (l : List ℕ). Below 256 (l ++ joined ps)) (sym again) (carried_below s (joined ps) both)) fits.1 in
    subst (InParts key x n (p ∷ ps))
    (ap (λ (l : List ℕ). enciphered key s ++ enciphered key (padded_file (l ++ joined ps))) again
    ∙ sym (padded_cut s (joined ps) key)
    ∙ ap (λ (l : List ℕ). enciphered key (padded_file l)) (sym all))
    (part (8 * ((n + length p) / 8)) (part_done_lem key x n p (8 * ((n + length p) / 8)) good carried fits.0 (omega arith)) rest)

pub parts_done : PartsDone
unfolding digits is_carried
parts_done key parts good below fits = done key 0 0 parts good refl below fits
