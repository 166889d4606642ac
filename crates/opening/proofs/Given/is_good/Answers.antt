-- `opening::Given::is_good` meets its contract, test by test. Assumes nothing.
use Rattle.std.proofs.Common.{◌≡◌, sym, ◌∙◌, ap, ◌&&◌, Bool, ℕ, ◌≤◌, ◌<◌, leb, sum, arith}
use borrow.Author.Tests.{le-leb, lt-leb}
use Rattle.text.specs.Characters.{is_name_character}
use Rattle.text.specs.Texts.{all_at}
use Rattle.tenants.specs.Together.{are_principals}
use Rattle.opening.specs.Opening.{first_settings, are_given}
use Rattle.opening.proofs.GivenTests.{by_tests}
use Rattle.opening.proofs.Given.is_good.Goals as goal
use Rattle.opening.proofs.Given.is_good.Goals.{Joined-quota_sum-le512, then-quota_sum-le512, else-quota_sum-le512}

-- the first two tests
first_two : (c : Joined-quota_sum-le512)
    → let given = c.args.self.now in
    c.if-quota_sum-le512.value ≡ (leb (sum given.quotas) 512 && all_at is_name_character 32 given.ids 0)
first_two c =
    let quotas = c.args.self.now.quotas in
    let then_ids : Bool → Bool = λ few. few && all_at is_name_character 32 c.args.self.now.ids 0 in
    elim c.if-quota_sum-le512.branch [
      | then-quota_sum-le512 w ↦
          let few : sum quotas ≤ 512 = rw c.quota_sum.ensures at w.if-quota_sum-le512.true in
          w.value-is ∙ w.all_of.ensures ∙ sym (ap then_ids (le-leb _ 512 few))
      | else-quota_sum-le512 w ↦
          let many : 512 < sum quotas = rw c.quota_sum.ensures at w.if-quota_sum-le512.false in
          w.value-is ∙ ap (λ (n : ℕ). leb n 512) c.quota_sum.ensures ∙ lt-leb _ 512 many ∙ sym (ap then_ids (lt-leb _ 512 many))
    ]

-- all three, where the first two are told
all_three : (c : Joined-quota_sum-le512) (told : Bool)
    → let given = c.args.self.now in
    let settings = first_settings given.quotas given.ids given.principals in
    c.if-quota_sum-le512.value ≡ told → are_given given.quotas given.ids given.principals ≡ (told && are_principals settings 0 settings)
all_three c told is =
    let given = c.args.self.now in
    let settings = first_settings given.quotas given.ids given.principals in
    by_tests given.quotas given.ids given.principals (omega arith, omega arith, omega arith)
    ∙ ap (λ (b : Bool). b && are_principals settings 0 settings) (sym (first_two c) ∙ is)

pub returns-then-all_of : goal.returns-then-all_of
returns-then-all_of c = c.are_principals.ensures ∙ sym (all_three (goal.at.returns-then-all_of c).Joined-quota_sum-le512 _ c.if-all_of.true)

pub returns-else-all_of : goal.returns-else-all_of
returns-else-all_of c = c.if-all_of.false ∙ sym (all_three (goal.at.returns-else-all_of c).Joined-quota_sum-le512 _ c.if-all_of.false)
