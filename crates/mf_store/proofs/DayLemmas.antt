-- The row of meta that the business day leaves, beside a journal or none.
use Rattle.std.proofs.Common.{◌≡◌, ℕ, [], ◌∷◌, Option, refl, ap}
use Rattle.std.specs.Option.{option_map}
use Rattle.mf_base.specs.DayText.{day_text}
use Rattle.mf_journal.specs.declared.following.Head.{Head}
use Rattle.mf_model.specs.Institution.{Institution}
use Rattle.mf_model.specs.Sound.{IsSound}
use Rattle.mf_model.specs.Store.{after_commit}
use Rattle.mf_model.specs.declared.commit.Commit.TheVariants.{SetDay}
use Rattle.mf_store_schema.specs.Rows.{Lists}
use Rattle.mf_store_schema.specs.declared.meta.MetaRow.{MetaRow}
use Rattle.mf_store_schema.specs.declared.writes.StoreWrite.TheVariants.{PutMeta}
use Rattle.mf_store_commits.proofs.CatalogueLemmas.{day_becomes}
use Rattle.mf_store_noted.specs.Becoming.{BecomesBeside}
use Rattle.mf_store_noted.specs.Kept.{IsBegun, meta_kept, number_kept, rows_kept}
use Rattle.mf_store_values.specs.Flat.{meta_on}

pub day_becomes_beside : (day : ℕ) (i : Institution) (m : MetaRow) → IsSound i
    → IsSound (after_commit (SetDay day) i) → m.one ≡ 1
    → ((journal : Option Head) → IsBegun journal i → m.schema ≡ number_kept journal) → m.day ≡ day_text day
    → BecomesBeside (PutMeta m ∷ []) i (after_commit (SetDay day) i)
day_becomes_beside day i m before sound one schema text journal begun =
    let is : m ≡ meta_kept journal day = λ t. record { one = one t; schema = schema journal begun t; day = text t } in
    let b = day_becomes day i (meta_on day) before sound refl refl refl in
    rw is (record {
      sound = sound;
      same_journal = refl;
      fits = (refl, tt);
      is = ap (option_map (λ (lists : Lists). record lists {
        meta = meta_kept journal day ∷ [];
        journal = rows_kept journal i.journal;
      })) b.is;
    })
