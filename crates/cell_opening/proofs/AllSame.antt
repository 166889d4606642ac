-- A test of all bytes by the library is that of the definition. Assumes nothing.
use Rattle.std.proofs.Common.{◌≡◌, ℕ, Bool, ◌&&◌, List, [], ◌∷◌, refl, ap}
use Rattle.std.specs.List.{list_all}
use Rattle.octets.specs.Every.{all_of}

pub all_listed : (test : ℕ → Bool) (s : List ℕ) → list_all test s ≡ all_of test s
unfolding all_of
all_listed test [] = refl
all_listed test (c ∷ s) = ap (λ (t : Bool). test c && t) (all_listed test s)
