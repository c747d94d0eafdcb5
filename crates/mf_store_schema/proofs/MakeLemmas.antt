-- What the texts that make the tables make together.
use Rattle.std.proofs.Common.{◌≡◌, ◌∙◌, ℕ, List, None, Some, Option, [], map, subst, sym, refl, Ordering}
use Rattle.std.specs.Cmp.{IsTotalOrder}
use Rattle.std.specs.List.{AllByRecursion}
use Rattle.sqlite.specs.Listing.{understood}
use Rattle.sqlite.specs.Order.{Row}
use Rattle.sqlite.specs.State.{State}
use Rattle.sqlite.specs.Tree.{Trees}
use Rattle.sqlite_catalog.specs.Listing.{IsSound}
use Rattle.sqlite_tied.specs.Compute.{everything}
use Rattle.mf_store_sql.specs.Keep.{Keeps}
use Rattle.mf_store_sql.specs.Columns.{Columns}
use Rattle.mf_store_sql.specs.Making.{AreDefined, Makes}
use Rattle.mf_store_sql.specs.Tables.{no_schema}
use Rattle.mf_store_sql.specs.Texts.{create_text}
use Rattle.mf_store_sql.specs.Trees.{AllHold}
use Rattle.mf_store_sql.proofs.KeepLemmas.{keeps_none}
use Rattle.mf_store_schema.specs.Tables.{schema, tables, made}
use Rattle.mf_store_schema.specs.Rows.{Lists, empty_lists, meta_row, office_row, staff_row, client_row, charge_row}
use Rattle.mf_store_schema.specs.Rows.{product_row, loan_row, entry_row, receipt_row, instalment_row, share_row}
use Rattle.mf_store_schema.specs.Rows.{by_meta, by_office, by_staff, by_client, by_charge, by_product, by_loan}
use Rattle.mf_store_schema.specs.Rows.{by_entry, by_receipt, by_instalment, by_share}
use Rattle.mf_store_schema.specs.Writes.{Making, conditions}
use Rattle.mf_store_schema.specs.MetaTexts as Meta
use Rattle.mf_store_schema.specs.OfficesTexts as Offices
use Rattle.mf_store_schema.specs.StaffTexts as Staff
use Rattle.mf_store_schema.specs.ClientsTexts as Clients
use Rattle.mf_store_schema.specs.ChargesTexts as Charges
use Rattle.mf_store_schema.specs.ProductsTexts as Products
use Rattle.mf_store_schema.specs.LoansTexts as Loans
use Rattle.mf_store_schema.specs.EntriesTexts as Entries
use Rattle.mf_store_schema.specs.ReceiptsTexts as Receipts
use Rattle.mf_store_schema.specs.InstalmentsTexts as Instalments
use Rattle.mf_store_schema.specs.SharesTexts as Shares
use Rattle.mf_store_schema.proofs.OrderLemmas.{by_meta_total, by_office_total, by_staff_total, by_client_total}
use Rattle.mf_store_schema.proofs.OrderLemmas.{by_charge_total, by_product_total, by_loan_total, by_entry_total}
use Rattle.mf_store_schema.proofs.OrderLemmas.{by_receipt_total, by_instalment_total, by_share_total}
use Rattle.mf_store_schema.proofs.PutLemmas.{StandsAs}

made_is : made tables ≡ schema
unfolding understood everything
made_is = refl

-- an empty tree keeps no rows
pub kept_none : {X : Type 0} (by : X → X → Ordering) → IsTotalOrder by → (stored : X → Row) {rows : List Row}
    → rows ≡ []
    → Keeps stored by rows []
kept_none by total stored e = subst (λ t. Keeps stored by t []) (sym e) (keeps_none by total stored)

-- trees with no rows keep none
keep_none : (trees : Trees) → AllByRecursion (λ (t : ℕ × Columns). trees t.0 ≡ []) tables
    → AllHold trees (conditions empty_lists)
keep_none trees none = (
  kept_none by_meta by_meta_total meta_row none.0,
  (
    kept_none by_office by_office_total office_row none.1.0,
    (
      kept_none by_staff by_staff_total staff_row none.1.1.0,
      (
        kept_none by_client by_client_total client_row none.1.1.1.0,
        (
          kept_none by_charge by_charge_total charge_row none.1.1.1.1.0,
          (
            kept_none by_product by_product_total product_row none.1.1.1.1.1.0,
            (
              kept_none by_loan by_loan_total loan_row none.1.1.1.1.1.1.0,
              (
                kept_none by_entry by_entry_total entry_row none.1.1.1.1.1.1.1.0,
                (
                  kept_none by_receipt by_receipt_total receipt_row none.1.1.1.1.1.1.1.1.0,
                  (
                    kept_none by_instalment by_instalment_total instalment_row none.1.1.1.1.1.1.1.1.1.0,
                    (
                      kept_none by_share by_share_total share_row none.1.1.1.1.1.1.1.1.1.1.0,
                      tt,
                    ),
                  ),
                ),
              ),
            ),
          ),
        ),
      ),
    ),
  ),
)

-- each table's text makes it after those before it
all_defined : AreDefined no_schema tables
all_defined = (
  Meta.defined,
  (
    Offices.defined,
    (
      Staff.defined,
      (
        Clients.defined,
        (
          Charges.defined,
          (
            Products.defined,
            (
              Loans.defined,
              (
                Entries.defined,
                (
                  Receipts.defined,
                  (Instalments.defined, (Shares.defined, tt)),
                ),
              ),
            ),
          ),
        ),
      ),
    ),
  ),
)

pub making : (old new : State) → Makes (map (λ (t : ℕ × Columns). create_text t.1) tables) old new → Making old new
making old new makes = record { mode = makes.mode; was_open = makes.was_open (λ e. absurd (cc)); turns = turns }
  where
    turns : (lists : Option Lists) → StandsAs old.now lists → lists ≡ None → StandsAs new.now (Some empty_lists)
    turns lists s none =
        let before = subst (StandsAs old.now) none s in
        let made = makes.made no_schema tables refl all_defined before.schema_is before.holds in
        record {
          schema_is = made.schema_is ∙ made_is;
          holds = record {
            sound = subst (λ k. IsSound k new.now.trees) made_is made.sound;
            all = keep_none new.now.trees made.fresh;
          };
        }
