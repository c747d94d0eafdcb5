-- An institution: what all offices share, and for each office its own rows. Within an office things are numbered by
-- their places, from 1. Texts are lists of bytes, days are numbers of days.
use Rattle.std.specs.Prelude.{ℕ, ◌-◌, Bool, cond, List, [], ◌∷◌, ◌++◌, ◌==◌, nat_lt, slice_get, option_map}
use Rattle.std.specs.Prelude.{Option, Some, None, codes}
use Rattle.mf_catalog.specs.declared.charge.ChargeDef.{ChargeDef}
use Rattle.mf_catalog.specs.declared.charge.ChargeKind.{ChargeKind}
use Rattle.mf_catalog.specs.declared.charge.Calc.{Calc}
use Rattle.mf_catalog.specs.declared.product.Product.{Product}
use Rattle.mf_catalog.specs.declared.product.ProductMembers.{ProductMembers}
use Rattle.mf_office.specs.declared.staff.Role.{Role}
use Rattle.mf_office.specs.declared.staff.Role.TheVariants.{Manager}
use Rattle.mf_office.specs.declared.caller.Caller.{Caller}
use Rattle.mf_account.specs.declared.entry.Entry.{Entry}
use Rattle.mf_model.specs.declared.loan.Loan.{Loan}
use Rattle.mf_model.specs.declared.reply.Names.{Names}
use Rattle.mf_model.specs.Calls.{Received}

-- a charge of the catalogue
pub record ListedCharge : Type 0 where
  pub name : List ℕ
  pub kind : ChargeKind
  pub calc : Calc
  pub value : ℕ

-- a product of the catalogue; a retired one lends no more
pub record ListedProduct : Type 0 where
  pub members : ProductMembers
  pub retired : Bool

-- what all offices share
pub record Catalogue : Type 0 where
  -- the business day
  pub day : ℕ
  pub charges : List ListedCharge
  pub products : List ListedProduct

-- a member of staff of an office
pub record Staff : Type 0 where
  pub name : List ℕ
  pub role : Role

-- a loan, and what was entered of it, in the order of the entries' numbers
pub record Ledger : Type 0 where
  pub loan : Loan
  pub entries : List Entry

-- what belongs to one office: its staff, the names of its clients, and its loans
pub record Rows : Type 0 where
  pub staff : List Staff
  pub clients : List (List ℕ)
  pub loans : List Ledger

-- an office; the head has no parent
pub record Office : Type 0 where
  pub number : ℕ
  pub parent : Option ℕ
  pub name : List ℕ
  pub rows : Rows

-- what is noted of an accepted request: who sent it, its text, and what its reply names
pub record Noted : Type 0 where
  pub caller : Option Caller
  pub received : Received
  pub names : Names

-- a line of the journal: the business day on which a request was accepted, who sent it, its text, and the office and
-- the loan that its reply names (0 where it names none)
pub record JournalLine : Type 0 where
  pub day : ℕ
  pub office : ℕ
  pub staff : ℕ
  pub told : List ℕ
  pub method : List ℕ
  pub path : List ℕ
  pub body : List ℕ
  pub named_office : ℕ
  pub named_loan : ℕ

-- the offices stand by number; where a journal is kept, it has a line for each request that was accepted and changed
-- something, in order
pub record Institution : Type 0 where
  pub catalogue : Catalogue
  pub offices : List Office
  pub journal : Option (List JournalLine)

-- what an accepted write changes: one thing, its target
pub data Change : Type 0 where
  Catalogue_becomes : Catalogue → Change
  Rows_become : ℕ → Rows → Change
  Office_added : ℕ → ℕ → List ℕ → Change

-- the thing of this number, in a list by number from 1
abbrev pub item_numbered : {A : Type 0} → List A → ℕ → Option A
item_numbered xs n = cond (n == 0) None (slice_get xs (n - 1))

-- the list, with the thing of this number changed
abbrev pub with_numbered : {A : Type 0} → ℕ → (A → A) → List A → List A
with_numbered n change [] = []
with_numbered n change (x ∷ xs) = cond (n == 1) (change x ∷ xs) (x ∷ with_numbered (n - 1) change xs)

-- a charge and its number
abbrev pub charge_def : ℕ → ListedCharge → ChargeDef
charge_def n c = record { number = n; name = c.name; kind = c.kind; calc = c.calc; value = c.value }

-- a product and its number
abbrev pub product_of : ℕ → ListedProduct → Product
product_of n p = record { number = n; members = p.members; retired = p.retired }

-- the charge of this number
abbrev pub charge_in : Catalogue → ℕ → Option ChargeDef
charge_in k n = option_map (charge_def n) (item_numbered k.charges n)

-- the product of this number
abbrev pub product_in : Catalogue → ℕ → Option Product
product_in k n = option_map (product_of n) (item_numbered k.products n)

-- the office of this number
abbrev pub office_at : ℕ → List Office → Option Office
office_at x [] = None
office_at x (f ∷ fs) = cond (f.number == x) (Some f) (office_at x fs)

-- a member of staff, in whatever office
abbrev pub staff_member : List Office → Caller → Option Staff
staff_member fs c = elim (office_at c.office fs) [ None ↦ None | Some f ↦ item_numbered f.rows.staff c.staff ]

-- the offices, where office x has these rows
abbrev pub with_rows : ℕ → Rows → List Office → List Office
with_rows x rows [] = []
with_rows x rows (f ∷ fs) = record f { rows = cond (f.number == x) rows f.rows } ∷ with_rows x rows fs

-- one more office, before the first with a greater number
abbrev pub with_office : Office → List Office → List Office
with_office new [] = new ∷ []
with_office new (f ∷ fs) = cond (nat_lt new.number f.number) (new ∷ f ∷ fs) (f ∷ with_office new fs)

-- an office that has nothing yet
abbrev pub no_rows : Rows
no_rows = record { staff = []; clients = []; loans = [] }

-- an office under a parent, which has nothing yet
abbrev pub new_office : ℕ → ℕ → List ℕ → Office
new_office number parent name = record { number = number; parent = Some parent; name = name; rows = no_rows }

-- the institution after a change
abbrev pub after : Change → Institution → Institution
after (Catalogue_becomes catalogue) i = record i { catalogue = catalogue }
after (Rows_become x rows) i = record i { offices = with_rows x rows i.offices }
after (Office_added number parent name) i = record i { offices = with_office (new_office number parent name) i.offices }

-- the same where there may be none
abbrev pub after_maybe : Option Change → Institution → Institution
after_maybe None i = i
after_maybe (Some change) i = after change i

-- who sent a request; nobody is numbered 0
abbrev pub sender_of : Option Caller → Caller
sender_of None = record { office = 0; staff = 0 }
sender_of (Some c) = c

-- the line that notes a request on a business day
abbrev pub noted_line : ℕ → Noted → JournalLine
noted_line day n = record {
  day = day;
  office = (sender_of n.caller).office;
  staff = (sender_of n.caller).staff;
  told = n.received.told;
  method = n.received.method;
  path = n.received.path;
  body = n.received.body;
  named_office = n.names.office;
  named_loan = n.names.loan;
}

-- the journal with a line more, where one is kept
abbrev pub with_line : JournalLine → Option (List JournalLine) → Option (List JournalLine)
with_line line journal = option_map (λ lines. lines ++ line ∷ []) journal

-- the institution after a change that was accepted on its business day, which the journal notes with it
abbrev pub after_noted : Noted → Change → Institution → Institution
after_noted noted change i =
    record (after change i) { journal = with_line (noted_line i.catalogue.day noted) i.journal }

-- the same where there may be none
abbrev pub after_line : Noted → Option Change → Institution → Institution
after_line noted None i = i
after_line noted (Some change) i = after_noted noted change i

-- a new institution on a day: the head office with its manager, and nothing else; it keeps no journal
abbrev pub newly_made : ℕ → Institution
newly_made day = record {
  catalogue = record { day = day; charges = []; products = [] };
  offices = record {
    number = 1;
    parent = None;
    name = codes "Head Office";
    rows = record { staff = record { name = codes "Head Manager"; role = Manager } ∷ []; clients = []; loans = [] };
  } ∷ [];
  journal = None;
}
