-- What the text that removes the shares of an entry means, and what it does to its table.
use Rattle.std.proofs.Common.{◌≡◌, ℕ, pos, Bool, true, false, not, List, [], ◌∷◌, codes, filter, refl, ◌∙◌, Ok}
use Rattle.sqlite.specs.declared.types.Value.TheVariants.{Int}
use Rattle.sqlite.specs.Command.TheVariants.{Delete}
use Rattle.sqlite.specs.Listing.{understood}
use Rattle.sqlite.specs.State.{State, Executes}
use Rattle.sqlite.specs.Term.{col}
use Rattle.sqlite.proofs.Callers.{IsPlain, command_of}
use Rattle.sqlite_catalog.specs.Listing.{IsSound}
use Rattle.sqlite_tied.specs.Compute.{everything}
use Rattle.mf_store_sql.specs.Columns.{sql_table}
use Rattle.mf_store_sql.specs.Keep.{Keeps}
use Rattle.mf_store_sql.specs.Scan.{eq, scan}
use Rattle.mf_store_sql.proofs.CompareLemmas.{equals_back, and_true, key_step}
use Rattle.mf_store_sql.proofs.KeptLemmas.{Spares, deletes_kept}
use Rattle.mf_store_schema.specs.Tables.{schema_keeping, shares}
use Rattle.mf_store_schema.specs.SharesTexts.{kept}
use Rattle.mf_store_schema.specs.Rows.{by_share, share_row, is_share_in}
use Rattle.mf_store_schema.specs.declared.shares.ShareRow.{ShareRow}
use Rattle.mf_store_schema.proofs.OrderLemmas.{by_share_total}

abbrev pub delete_shares : List ℕ
delete_shares = codes "DELETE FROM shares WHERE office = ?1 AND loan = ?2 AND seq = ?3"

delete_shares_is : (journaled : Bool)
    → command_of (understood (schema_keeping journaled) delete_shares) ≡ Delete 10 (record {
      lets = [];
      body = scan 21 (eq (col 1 1) (col 0 0) ∷ eq (col 1 2) (col 0 1) ∷ eq (col 1 3) (col 0 2) ∷ []) (col 1 0 ∷ []) [];
    })
unfolding understood everything
delete_shares_is false = refl
delete_shares_is true = refl

pub delete_shares_plain : (journaled : Bool) → IsPlain (understood (schema_keeping journaled) delete_shares)
unfolding understood everything
delete_shares_plain false = (refl, refl)
delete_shares_plain true = (refl, refl)

pub removes_shares : (journaled : Bool) (office loan seq : ℕ) (old new : State) (count : ℕ) (items : List ShareRow)
    → old.now.schema ≡ schema_keeping journaled → Keeps share_row by_share (old.now.trees 21) items → Executes
    delete_shares (Int (pos office)
    ∷ Int (pos loan) ∷ Int (pos seq) ∷ []) old new (Ok count)
    → (new.now.schema ≡ schema_keeping journaled) × Keeps share_row by_share (new.now.trees 21)
    (filter (λ x. not (is_share_in office loan seq x)) items) × Spares (schema_keeping journaled) 21 old.now.trees
    new.now.trees × IsSound (schema_keeping journaled) new.now.trees
removes_shares journaled office loan seq old new count items has k h =
    deletes_kept share_row by_share by_share_total (schema_keeping journaled) 10 (sql_table 21 shares)
    (kept journaled).there (kept journaled).quiet refl delete_shares (delete_shares_plain journaled) (eq (col 1 1)
    (col 0 0) ∷ eq (col 1 2) (col 0 1) ∷ eq (col 1 3) (col 0 2) ∷ [])
    (delete_shares_is journaled) _ (is_share_in office loan seq) (λ id y. (key_step _ _ _ _ (equals_back y.office
    office)
    (key_step _ _ _ _ (equals_back y.loan loan) (and_true _ ∙ equals_back y.seq seq)))) (λ t. refl) old new count
    items has k h
