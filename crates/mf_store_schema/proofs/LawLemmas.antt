-- Rows that are put in the order of their key into a list that has none.
use Rattle.std.proofs.Common.{◌≡◌, ◌∙◌, List, [], ◌∷◌, ◌++◌, map, Some, Ordering, Less, Equal, Greater, refl, sym, ap}
use Rattle.std.proofs.Common.{append_assoc, nat_cmp, not, cond, is_eq, is_gt}
use Rattle.std.specs.Cmp.{IsTotalOrder}
use Rattle.std.specs.List.{AllByRecursion}
use Rattle.std.specs.Ordering.{ordering_reverse}
use Rattle.std.proofs.lemmas.List.{append-nil}
use Rattle.std.proofs.lemmas.Cmp.{tied_itself}
use Rattle.sqlite_trees.specs.Tree.{IsAscending}
use Rattle.sqlite_keyed.specs.Lists.{insert_sorted}
use Rattle.mf_store_sql.specs.Keep.{put_item, drop_item}
use Rattle.mf_store_sql.specs.Writes.{AllFit, after_all}
use Rattle.mf_store_schema.specs.Rows.{Lists, by_meta, by_instalment, by_share}
use Rattle.mf_store_schema.specs.declared.instalments.InstalmentRow.{InstalmentRow}
use Rattle.mf_store_schema.specs.declared.meta.MetaRow.{MetaRow}
use Rattle.mf_store_schema.specs.declared.shares.ShareRow.{ShareRow}
use Rattle.mf_store_schema.specs.declared.writes.StoreWrite.TheVariants.{PutInstalment, PutMeta, PutShare}
use Rattle.mf_store_schema.proofs.OrderLemmas.{by_meta_total, by_instalment_total, by_share_total}
use Rattle.mf_store_schema.specs.Upgrade.{Own, FitsUpgrade, after_upgrade, UpgradesFirst}
use Rattle.mf_store_schema.specs.declared.upgrade_writes.UpgradeWrite.{UpgradeWrite}
use Rattle.mf_store_schema.specs.declared.upgrade_writes.UpgradeWrite.TheVariants.{Put}

module _ {R : Type 0} (cmp : R → R → Ordering) (total : IsTotalOrder cmp) where
  abbrev put_each : List R → List R → List R
  put_each [] rows = rows
  put_each (r ∷ rs) rows = put_each rs (put_item cmp r rows)

  -- past rows of smaller keys
  put_last : (r : R) (rows : List R) → AllByRecursion (λ y. cmp y r ≡ Less) rows → put_item cmp r rows ≡ rows ++ r ∷ []
  put_last r [] all = refl
  put_last r (y ∷ rows) all =
      let above : cmp r y ≡ Greater = total.antisymm r y ∙ ap ordering_reverse all.0 in
      (λ t. insert_sorted cmp r (cond (not (is_eq (above t))) (y ∷ drop_item cmp r rows) (drop_item cmp r rows)))
      ∙ (λ t. cond (is_gt (above t)) (y ∷ insert_sorted cmp r (drop_item cmp r rows)) (r ∷ y ∷ drop_item cmp r rows))
      ∙ ap (λ l. y ∷ l) (put_last r rows all.1)

  below_more : (rows : List R) (r q : R) → AllByRecursion (λ y. cmp y q ≡ Less) rows → cmp r q ≡ Less
      → AllByRecursion (λ y. cmp y q ≡ Less) (rows ++ r ∷ [])
  below_more [] r q all one = (one, tt)
  below_more (y ∷ rows) r q all one = (all.0, below_more rows r q all.1 one)

  -- each of the first list comes after each of the second
  abbrev AreAfter : List R → List R → Type 0
  AreAfter rs rows = AllByRecursion (λ q. AllByRecursion (λ y. cmp y q ≡ Less) rows) rs

  after_more : (r : R) (rs rows : List R) → AreAfter rs rows → AllByRecursion (λ q. cmp r q ≡ Less) rs
      → AreAfter rs (rows ++ r ∷ [])
  after_more r [] rows all up = tt
  after_more r (q ∷ rs) rows all up = (below_more rows r q all.0 up.0, after_more r rs rows all.1 up.1)

  put_behind : (rs rows : List R) → AreAfter rs rows → IsAscending (λ a b. cmp a b ≡ Less) rs → put_each rs rows ≡ rows
      ++ rs
  put_behind [] rows all up = sym (append-nil rows)
  put_behind (r ∷ rs) rows all up = ap (put_each rs) (put_last r rows all.0) ∙ put_behind rs (rows ++ r ∷ [])
      (after_more r rs rows all.1 up.0) up.1 ∙ append_assoc rows (r ∷ []) rs

  after_none : (rs : List R) → AreAfter rs []
  after_none [] = tt
  after_none (r ∷ rs) = (tt, after_none rs)

  put_all : (rs : List R) → IsAscending (λ a b. cmp a b ≡ Less) rs → put_each rs [] ≡ rs
  put_all rs up = put_behind rs [] (after_none rs) up

meta_put : (meta old : MetaRow) → meta.one ≡ old.one → put_item by_meta meta (old ∷ []) ≡ meta ∷ []
meta_put meta old same =
    let tied : by_meta meta old ≡ Equal = (λ t. nat_cmp (same t) old.one) ∙ tied_itself by_meta_total old in
    λ t. insert_sorted by_meta meta (cond (not (is_eq (tied t))) (old ∷ []) [])

-- ---- the writes in turn

module _ (rest : List UpgradeWrite) where
  instalments_become : (is : List InstalmentRow) (m : Lists) → after_all after_upgrade (map (λ x. Put
      (PutInstalment x)) is
      ++ rest) (Own (Some m)) ≡ after_all after_upgrade rest
      (Own (Some (record m { instalments = put_each by_instalment by_instalment_total is m.instalments })))
  instalments_become [] m = refl
  instalments_become (x ∷ is) m =
      instalments_become is (record m { instalments = put_item by_instalment x m.instalments })

  instalments_fit : (is : List InstalmentRow) (m : Lists) → ((more : List InstalmentRow)
      → AllFit after_upgrade FitsUpgrade rest (Own (Some (record m { instalments = more }))))
      → AllFit after_upgrade FitsUpgrade (map (λ x. Put (PutInstalment x)) is ++ rest) (Own (Some m))
  instalments_fit [] m fit = fit m.instalments
  instalments_fit (x ∷ is) m fit =
      (refl, instalments_fit is (record m { instalments = put_item by_instalment x m.instalments }) fit)

  shares_become : (ss : List ShareRow) (m : Lists) → after_all after_upgrade (map (λ x. Put (PutShare x)) ss ++ rest)
      (Own (Some m)) ≡ after_all after_upgrade rest
      (Own (Some (record m { shares = put_each by_share by_share_total ss m.shares })))
  shares_become [] m = refl
  shares_become (x ∷ ss) m = shares_become ss (record m { shares = put_item by_share x m.shares })

  shares_fit : (ss : List ShareRow) (m : Lists)
      → ((more : List ShareRow) → AllFit after_upgrade FitsUpgrade rest (Own (Some (record m { shares = more }))))
      → AllFit after_upgrade FitsUpgrade (map (λ x. Put (PutShare x)) ss ++ rest) (Own (Some m))
  shares_fit [] m fit = fit m.shares
  shares_fit (x ∷ ss) m fit = (refl, shares_fit ss (record m { shares = put_item by_share x m.shares }) fit)

pub upgrades_first : UpgradesFirst
upgrades_first meta is ss lists can =
    record {
      fit = (
        refl,
        instalments_fit (map (λ x. Put (PutShare x)) ss ++ (Put (PutMeta meta) ∷ [])) is
            (record lists { instalments = []; shares = []; journal = [] }) (λ more. shares_fit (Put (PutMeta meta) ∷
            []) ss
            (record lists { instalments = more; shares = []; journal = [] }) (λ others. (refl, tt))),
      );
      become =
          instalments_become (map (λ x. Put (PutShare x)) ss ++ (Put (PutMeta meta) ∷ [])) is
          (record lists { instalments = []; shares = []; journal = [] })
          ∙ shares_become (Put (PutMeta meta) ∷ []) ss (record lists {
            instalments = put_each by_instalment
                by_instalment_total is [];
            shares = [];
            journal = [];
          })
          ∙ (λ t. Own (Some (record lists {
            meta = (ap (put_item by_meta meta) can.one
                ∙ meta_put meta can.old can.same_key) t;
            instalments = put_all by_instalment by_instalment_total is
                can.instalments_rise t;
            shares = put_all by_share by_share_total ss can.shares_rise t;
            journal = [];
          })));
    }
