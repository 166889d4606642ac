-- The calls that leave the book as it is, on its bytes: a damaged book is 101, and else the rules decide, by what is the tenant's own.
use Rattle.std.specs.Prelude.{Bool, List, ℕ, Result}
use Rattle.forms.specs.Order.{demand}
use Rattle.forms.specs.Output.{Output, refusal}
use Rattle.forms.specs.Refusals.{by, refused}
use Rattle.forms.specs.declared.refusals.Refusal.{Refusal}
use Rattle.cell_permit.specs.declared.Record.{Record}
use Rattle.tenants.specs.Rules.{asking, asking_producer, issuing, checking}
use Rattle.layout.specs.Layout.{is_book, own_in}

-- ask the edition: what it answers
unfoldable pub edition_in : List ℕ → ℕ → ℕ → Result ℕ Refusal
edition_in s t name = demand (is_book s) (refused (by 101)) (asking t name (own_in s t))

-- ask for a producer
unfoldable pub holding_in : List ℕ → ℕ → ℕ → Result Bool Refusal
holding_in s t producer = demand (is_book s) (refused (by 101)) (asking_producer t producer (own_in s t))

-- issue a line, into an output of so many bytes
unfoldable pub issued_from : List ℕ → List ℕ → ℕ → ℕ → ℕ → ℕ → List ℕ → ℕ → Output
issued_from s register t name expiry level permit room =
    demand (is_book s) (refusal (by 101)) (issuing t register name expiry level permit room (own_in s t))

-- check a line with the tenant's own warning days
unfoldable pub checked_by : List ℕ → ℕ → ℕ → ℕ → List ℕ → Result Record Refusal
checked_by s t hw today line = demand (is_book s) (refused (by 101)) (checking t hw today line (own_in s t))
