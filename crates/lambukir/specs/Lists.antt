-- The answer about a product list in the form that C sees.
use Rattle.std.specs.Prelude.{Result}
use Rattle.forms.specs.declared.refusals.Refusal.{Refusal}
use Rattle.products.specs.Answers.{standing_code, standing_number}
use Rattle.products.specs.declared.standings.Standing.{Standing}
use Rattle.lambukir.specs.declared.lists.ProductStanding.{ProductStanding}

-- a standing: its code and its number
abbrev pub product_standing : Result Standing Refusal → ProductStanding
product_standing answer = record { standing = standing_code answer; number = standing_number answer }
