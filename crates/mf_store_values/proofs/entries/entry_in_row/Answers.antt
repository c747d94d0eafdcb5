use Rattle.std.proofs.Common.{◌≡◌, ℕ}
use Rattle.std.proofs.lemmas.Result.{IfOk-weaker}
use Rattle.mf_account.specs.declared.entry.Entry.{Entry}
use Rattle.mf_office.specs.Texts.{IsCaller}
use Rattle.mf_store_schema.specs.Rows.{entry_row}
use Rattle.mf_store_values.specs.Flat.{entry_in}
use Rattle.mf_store_values.proofs.entries.entry_in_row.Goals as goal

pub returns-clause-entry : goal.returns-clause-entry
returns-clause-entry c =
    IfOk-weaker c.entry_from.result _ (λ entry. (office loan : ℕ) (e : Entry) → IsCaller e.staff → c.args.row.now
    ≡ entry_row (entry_in office loan e) → entry ≡ e)
    (λ entry h office loan e caller are. h office loan e caller (c.in_ok-found.ensures.row (entry_in office loan e)
    are)) c.entry_from.ensures.entry
