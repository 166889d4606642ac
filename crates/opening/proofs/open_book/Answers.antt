-- `opening::open_book` meets its contract.
-- Assumes nothing.
use Rattle.opening.proofs.GivenTests.{not_sized}
use Rattle.opening.proofs.FirstBook.{wrong_length, not_given, given}
use Rattle.opening.proofs.open_book.Goals as goal

pub returns-then-book-ne-BOOK_SIZE : goal.returns-then-book-ne-BOOK_SIZE
returns-then-book-ne-BOOK_SIZE c = wrong_length _ _ _ _ c.if-book-ne-BOOK_SIZE.true

pub returns-in_default : goal.returns-in_default
returns-in_default c = not_given _ _ _ _ c.if-book-ne-BOOK_SIZE.false (not_sized _ _ _ c.in_default.ensures)

pub returns-then-not-is_good : goal.returns-then-not-is_good
returns-then-not-is_good c =
    let same = c.in-Some.ensures in
    not_given _ _ _ _ c.if-book-ne-BOOK_SIZE.false (cc (same.0, same.1, same.2))

pub returns : goal.returns
returns c =
    let same = c.in-Some.ensures in
    given _ _ _ _ _ c.if-book-ne-BOOK_SIZE.false (cc (same.0, same.1, same.2)) (cc (same.0, same.1, same.2))
