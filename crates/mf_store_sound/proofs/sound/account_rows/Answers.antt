use Rattle.std.proofs.Common.{refl}
use Rattle.std.proofs.lemmas.Result.{IfOk-weaker}
use Rattle.mf_store_values.specs.Accounts.{AreAccounts}
use Rattle.mf_store_sound.proofs.TableLemmas.{of_parts}
use Rattle.mf_store_sound.proofs.WholeLemmas.{Told, rows_under_are}
use Rattle.mf_store_sound.proofs.sound.account_rows.Goals as goal

pub returns-clause-under : goal.returns-clause-under
returns-clause-under c =
    IfOk-weaker c.rows_of_accounts.result _ _ (λ rows told schema.
    rows_under_are schema c.args.tables.now rows.0.items rows.1.items
    (
    of_parts (Told (λ none other k ps. AreAccounts k ps rows.0.items rows.1.items)) c.args.tables.now _ c.tables.view_is
    _ _ _ _ _ _ _ _ _ _ _
    refl refl refl refl c.deref.ensures.value c.deref-2.ensures.value c.deref-3.ensures.value c.deref-4.ensures.value
    refl refl refl told
    )) c.rows_of_accounts.ensures.accounts
