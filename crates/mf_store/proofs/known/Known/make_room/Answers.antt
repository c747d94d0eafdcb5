use Rattle.mf_store.specs.Facts.{account_key, same_key}
use Rattle.mf_store.proofs.KeptLemmas.{accounts_become, forgotten}
use Rattle.mf_store.proofs.known.Known.make_room.Goals as goal

pub returns-then-saturating_add-gt-MOST_ROWS : goal.returns-then-saturating_add-gt-MOST_ROWS
returns-then-saturating_add-gt-MOST_ROWS c = rw (← c.self.view_is) (λ i known. accounts_become _ i _ known
    (λ a x h. forgotten (same_key (account_key a)) c.clear.new.self c.self.inside.accounts.cap x _ c.clear.ensures h))
