-- A worked row: an office with two loans, computed from the definition. Each lends 100000 cents at 12 percent for three
-- months by equal principal from 2024-01-31, so 2000 of interest. Of the first 70000 are repaid, of the second 3000 too
-- much.
use Rattle.std.proofs.Common.{◌≡◌, ℕ, Bool, true, false, List, [], ◌∷◌, refl, Some, None}
use Rattle.std.specs.Prelude.{codes}
use Rattle.mf_base.specs.Calendar.{day_of, date_of}
use Rattle.mf_alloc.specs.declared.row.Portion.TheVariants.{Principal}
use Rattle.mf_account.specs.declared.entry.Entry.{Entry}
use Rattle.mf_account.specs.declared.entry.Kind.TheVariants.{Repay}
use Rattle.mf_model.specs.declared.loan.Stage.TheVariants.{Disbursed}
use Rattle.mf_model.specs.Institution.{Catalogue, Ledger, Office}
use Rattle.mf_model.specs.WorkedAccounts.{january, february, march}
use Rattle.mf_model.specs.WorkedRows.{usual}
use Rattle.mf_store_audit.specs.declared.totals.OfficeSums.{OfficeSums}
use Rattle.mf_store_audit.specs.Sums.{sums_of_office}

abbrev catalogue : Catalogue
catalogue = record { day = march; charges = []; products = record { members = usual None; retired = false } ∷ [] }

abbrev lent : List Entry → Ledger
lent entries = record {
  loan = record {
    client = 1;
    product = 1;
    principal = 100000;
    periods = 3;
    stage = Disbursed january january;
  };
  entries = entries;
}

abbrev repayment : ℕ → ℕ → ℕ → Bool → Entry
repayment seq day amount reversed = record {
  seq = seq;
  kind = Repay;
  day = day;
  amount = amount;
  instalment = 0;
  portion = Principal;
  receipt = None;
  staff = record { office = 1; staff = 1 };
  reversed = reversed;
}

abbrev office : Office
office = record {
  number = 2;
  parent = Some 1;
  name = codes "North";
  rows = record {
    staff = [];
    clients = codes "Amina" ∷ [];
    loans = lent (repayment 1 february 20000 false ∷ repayment 2 march 700 true ∷ repayment 3 march 50000 false ∷ [])
        ∷ lent (repayment 1 february 105000 false ∷ []) ∷ [];
  };
}

abbrev expected : OfficeSums
expected = record {
  office = 2;
  sums = record {
    clients = 1;
    loans = record {
      submitted = 0;
      approved = 0;
      active = 1;
      withdrawn = 0;
      rejected = 0;
      closed = 0;
      written_off = 0;
      overpaid = 1;
    };
    entries = record { standing = 3; reversed = 1 };
    principal = record { disbursed = 200000; paid = 168000; written_off = 0; outstanding = 32000 };
    money = record { repaid = 175000; paid = 172000; overpaid = 3000; refunded = 0 };
  };
}

worked : sums_of_office catalogue office ≡ expected
unfolding day_of date_of
worked = refl
