-- `user_permit::maker_words` meets its contract. Assumes nothing.
use Rattle.user_permit.proofs.UserPermits.{maker_words_lem}
use Rattle.user_permit.proofs.maker_words.Goals as goal

pub returns : goal.returns
returns c = maker_words_lem _ _ _ _ c.bytes40-bytes.ensures c.key_schedule.ensures.1
