-- The header's three lines put one after the other into both outputs.
-- Assumes nothing.
use mathlib.Core.Path.{◌≡◌, ap, ap₂, ◌∙◌}
use mathlib.Core.List.{List}
use Prim.Native.Nat.{ℕ}
use native.Mathlib.Nat.{zero-add}
use Rattle.text.specs.Texts.{placed}
use Rattle.mending.specs.Putting.{Takes}
use Rattle.mending.proofs.Puts.{Put, takes_first, takes_second, takes-third, put_three}
use Rattle.mended_lines.specs.Gives.{Gives, header_gives}
use Rattle.mended_lines.specs.Giving.{out_after, list_after}
use Rattle.mending.specs.Putting.{Room}
use Rattle.mended_lines.specs.declared.Places.{Places}
use Rattle.mending.specs.Walking.{first_text, second_text, third_text, places_after, header_of, size_of}
use Rattle.mending.specs.declared.header.Ends.{Ends}

-- places by their parts
abbrev sized : ℕ → ℕ → Places
sized file list = record { file = file; list = list }

-- a line was put at these places
abbrev pub PutAt : Gives → Places → List ℕ → List ℕ → Places → List ℕ → List ℕ → Type 0
PutAt g at out list r out₁ list₁ = (r ≡ places_after g at) × ((out₁ ≡ out_after g at out) × (list₁ ≡ list_after g at list))

module _ (g : Gives) (at : Places) (out list : List ℕ) (r : Places) (out₁ list₁ : List ℕ) (put : PutAt g at out list r out₁ list₁) where
  in_file_lem : Put at.file g.file out r.file out₁
  in_file_lem = (ap (λ (p : Places). p.file) put.0, put.1.0)

  in_list_lem : Put at.list g.list list r.list list₁
  in_list_lem = (ap (λ (p : Places). p.list) put.0, put.1.1)

module _ (file : List ℕ) (e : Ends) (out list : List ℕ) (takes : Takes 0 (header_of file e).file out × Takes 0 (header_of file e).list list) where
  abbrev one : Gives
  one = header_gives 1 (first_text file e)

  abbrev two : Gives
  two = header_gives 2 (second_text file e)

  abbrev three : Gives
  three = header_gives 3 (third_text file e)

  abbrev start : Places
  start = record { file = 0; list = 0 }

  pub room_one : Room one start out list
  unfolding header_of
  room_one = (takes_first 0 one.file _ out takes.0, takes_first 0 one.list _ list takes.1)

  module _ (r₁ : Places) (out₁ list₁ : List ℕ) (first : PutAt one start out list r₁ out₁ list₁) where
    pub room-two : Room two r₁ out₁ list₁
    unfolding header_of
    room-two = (
      takes_second 0 one.file two.file three.file out takes.0 r₁.file out₁ (in_file_lem one start out list r₁ out₁ list₁ first),
      takes_second 0 one.list two.list three.list list takes.1 r₁.list list₁ (in_list_lem one start out list r₁ out₁ list₁ first),
    )

    module _ (r₂ : Places) (out₂ list₂ : List ℕ) (second : PutAt two r₁ out₁ list₁ r₂ out₂ list₂) where
      pub room-three : Room three r₂ out₂ list₂
      unfolding header_of
      room-three = (
        takes-third 0 one.file two.file three.file out takes.0 r₁.file out₁ (in_file_lem one start out list r₁ out₁ list₁ first)
            r₂.file out₂ (in_file_lem two r₁ out₁ list₁ r₂ out₂ list₂ second),
        takes-third 0 one.list two.list three.list list takes.1 r₁.list list₁ (in_list_lem one start out list r₁ out₁ list₁ first)
            r₂.list list₂ (in_list_lem two r₁ out₁ list₁ r₂ out₂ list₂ second),
      )

      pub all-put : (r₃ : Places) (out₃ list₃ : List ℕ) → PutAt three r₂ out₂ list₂ r₃ out₃ list₃
          → (r₃ ≡ size_of (header_of file e)) × ((out₃ ≡ placed 0 (header_of file e).file out) × (list₃ ≡ placed 0 (header_of file e).list list))
      unfolding header_of size_of
      all-put r₃ out₃ list₃ third =
          let files =
          put_three 0 one.file two.file three.file out takes.0 r₁.file out₁ (in_file_lem one start out list r₁ out₁ list₁ first)
          r₂.file out₂ (in_file_lem two r₁ out₁ list₁ r₂ out₂ list₂ second) r₃.file out₃ (in_file_lem three r₂ out₂ list₂ r₃ out₃ list₃ third) in
          let lists =
          put_three 0 one.list two.list three.list list takes.1 r₁.list list₁ (in_list_lem one start out list r₁ out₁ list₁ first)
          r₂.list list₂ (in_list_lem two r₁ out₁ list₁ r₂ out₂ list₂ second) r₃.list list₃ (in_list_lem three r₂ out₂ list₂ r₃ out₃ list₃ third) in (
            ap₂ (λ (a b : ℕ). sized a b) (files.0 ∙ zero-add _) (lists.0 ∙ zero-add _),
            (files.1, lists.1),
          )
