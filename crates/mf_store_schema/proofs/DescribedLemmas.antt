-- A table is the one that words describe where each of its parts is.
use Rattle.std.proofs.Common.{◌≡◌, map, ap}
use Rattle.sqlite.specs.Table.{Table}
use Rattle.mf_store_schema.specs.Described.{HasKeys, HasNoRules, column_in_words, table_in_words}
use Rattle.mf_store_schema.specs.declared.words.TableWords.{TableWords}

module _ (w : TableWords) (found : Table) where
  pub table_is : found.tree ≡ w.tree → found.name ≡ w.name.now → found.columns ≡ map column_in_words w.columns.now
      → HasKeys w found → HasNoRules found → found ≡ table_in_words w
  table_is tree name columns keys rules = λ t. record {
    name = name t;
    tree = tree t;
    columns = columns t;
    key = keys.rowid t;
    primary = keys.primary t;
    uniques = keys.uniques t;
    orders = keys.orders t;
    checks = rules.checks t;
    references = rules.references t;
    computed = rules.computed t;
    stamps = rules.stamps t;
    is_counted = rules.counted t;
  }

  pub keys_are : found ≡ table_in_words w → HasKeys w found
  keys_are is = record {
    rowid = ap (λ (t : Table). t.key) is;
    primary = ap (λ (t : Table). t.primary) is;
    uniques = ap (λ (t : Table). t.uniques) is;
    orders = ap (λ (t : Table). t.orders) is;
  }

  pub rules_are : found ≡ table_in_words w → HasNoRules found
  rules_are is = record {
    checks = ap (λ (t : Table). t.checks) is;
    references = ap (λ (t : Table). t.references) is;
    computed = ap (λ (t : Table). t.computed) is;
    stamps = ap (λ (t : Table). t.stamps) is;
    counted = ap (λ (t : Table). t.is_counted) is;
  }
