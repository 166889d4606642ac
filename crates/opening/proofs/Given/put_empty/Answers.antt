-- `opening::Given::put_empty` meets its contract: zeros, and the start and the settings on them.
-- Assumes nothing.
use Rattle.opening.proofs.FirstBook.{empty_placed}
use Rattle.opening.proofs.Given.put_empty.Goals as goal

pub returns : goal.returns
returns c =
    empty_placed _ _ _ _ _ _ _ c.requires
    (c.fill.ensures.after (λ y e. e)) c.put_text.ensures c.put_settings.ensures
