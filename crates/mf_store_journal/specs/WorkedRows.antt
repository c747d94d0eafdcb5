-- A day's journal worked out, row by row.
use Rattle.std.specs.Prelude.{◌≡◌, ℕ, List, [], ◌∷◌, map, pos, codes, Some, None}
use Rattle.sqlite.specs.declared.types.Value.TheVariants.{Int, Blob}
use Rattle.mf_store_sql.specs.Numbered.{shown_filed}
use Rattle.mf_model.specs.Institution.{JournalLine}
use Rattle.mf_journal.specs.Chain.{link}
use Rattle.mf_journal.specs.declared.following.Head.{Head}
use Rattle.mf_store_journal.specs.Rows.{journal_rows_in}

-- a journal that was archived up to line 40, on day 9,828, with this chain
abbrev pub archived : List ℕ → Head
archived chain = record { number = 40; day = 9828; chain = chain }

-- a client is entered at office 2 by its member of staff 3
abbrev pub client_line : JournalLine
client_line = record {
  day = 9828;
  office = 2;
  staff = 3;
  told = codes "09:12 10.0.0.7";
  method = codes "POST";
  path = codes "/offices/2/clients";
  body = codes "{\"name\":\"Amina\"}";
  named_office = 2;
  named_loan = 0;
}

-- the next day loan 5 of office 2 is approved, and the front told nothing
abbrev pub loan_line : JournalLine
loan_line = record {
  day = 9829;
  office = 2;
  staff = 1;
  told = [];
  method = codes "POST";
  path = codes "/loans/0002-000005/approve";
  body = [];
  named_office = 2;
  named_loan = 5;
}

-- the rows of both, and of where they begin
pub record IsWorked (chain : List ℕ) : Type 0 where
  pub rows : map shown_filed (journal_rows_in (archived chain) (Some (client_line ∷ loan_line ∷ [])))
      ≡ (Int (pos 40) ∷ Int (pos 9828) ∷ Int (pos 0) ∷ Int (pos 0) ∷ Blob [] ∷ Blob [] ∷ Blob [] ∷ Blob []
      ∷ Int (pos 0) ∷ Int (pos 0) ∷ Blob chain ∷ [])
      ∷ (Int (pos 41) ∷ Int (pos 9828) ∷ Int (pos 2) ∷ Int (pos 3) ∷ Blob (codes "09:12 10.0.0.7")
      ∷ Blob (codes "POST") ∷ Blob (codes "/offices/2/clients") ∷ Blob (codes "{\"name\":\"Amina\"}")
      ∷ Int (pos 2) ∷ Int (pos 0) ∷ Blob (link chain client_line) ∷ [])
      ∷ (Int (pos 42) ∷ Int (pos 9829) ∷ Int (pos 2) ∷ Int (pos 1) ∷ Blob [] ∷ Blob (codes "POST")
      ∷ Blob (codes "/loans/0002-000005/approve") ∷ Blob [] ∷ Int (pos 2) ∷ Int (pos 5)
      ∷ Blob (link (link chain client_line) loan_line) ∷ []) ∷ []
  pub none : journal_rows_in (archived chain) None ≡ []
