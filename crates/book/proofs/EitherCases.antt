-- Issue goes by what a user permit reads as, and check by what a line reads as; neither depends on the case of letters.
-- Assumes nothing.
use Rattle.forms.proofs.HwIds.{same_form}
use Rattle.user_permit.proofs.EitherCases.{permit_either_case}
use Rattle.cell_permit.specs.CellPermit.{ship_words}
use Rattle.cell_permit.proofs.EitherCases.{read_either_case, ship_either_case}
use Rattle.tenants.specs.Rules.{issuing, checking}
use Rattle.layout.specs.Layout.{own_in}
use Rattle.asking.specs.Asking.{issued_from, checked_by}
use Rattle.book.specs.EitherCase.{IssueEitherCase, CheckEitherCase}

pub issue_either_case : IssueEitherCase
unfolding issued_from issuing
issue_either_case s register permit other t name expiry level room same = rw (permit_either_case register permit other same)

pub check_either_case : CheckEitherCase
unfolding checked_by checking
check_either_case s line other t hw k today same alone =
    rw (
      same_form hw k same,
      (ship_either_case hw k same).0,
      read_either_case (ship_words k) today (own_in s t).setting.days line other alone,
    )
