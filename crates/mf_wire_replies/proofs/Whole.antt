-- No reply has a fraction in it.
use Rattle.std.proofs.Common.{◌≡◌, ◌||◌, false, List, [], ◌∷◌, map, Some, None, Option, ℕ, refl, ap}
use Rattle.serde_json.specs.View.{items_of}
use Rattle.serde_json.specs.Written.{has_float, items_have_float}
use Rattle.mf_office.specs.declared.account.Account.{Account}
use Rattle.mf_office.specs.declared.office.Office.{Office}
use Rattle.mf_alloc.specs.declared.row.Share.{Share}
use Rattle.mf_arrears.specs.Line.{OfficeLine}
use Rattle.mf_statement.specs.declared.lines.EntryLine.{EntryLine}
use Rattle.mf_statement.specs.declared.lines.InstalmentLine.{InstalmentLine}
use Rattle.mf_model.specs.declared.reply.Reply.{Reply}
use Rattle.mf_model.specs.declared.reply.Reply.TheVariants.{OfficeMade, Offices, StaffMade, ClientMade, ClientShown}
use Rattle.mf_model.specs.declared.reply.Reply.TheVariants.{DayShown, DaySet, ChargeMade, ChargeShown, ProductMade}
use Rattle.mf_model.specs.declared.reply.Reply.TheVariants.{ProductShown, ProductRetired, LoanMade, Loan, LoansShown}
use Rattle.mf_model.specs.declared.reply.Reply.TheVariants.{ArrearsShown}
use Rattle.mf_catalog.specs.declared.product.Product.{Product}
use Rattle.mf_model.specs.declared.loan.LoanLine.{LoanLine}
use Rattle.mf_model.specs.declared.reply.LoanReply.{LoanReply}
use Rattle.mf_model.specs.declared.reply.LoanReply.TheVariants.{Shown, Instalments, Entries, Status, Entered, Repeated}
use Rattle.mf_model.specs.declared.reply.LoanReply.TheVariants.{Reversed}
use Rattle.mf_wire_replies.specs.Catalogue.{product_data}
use Rattle.mf_wire_replies.specs.Json.{whole_or_null, text_or_null}
use Rattle.mf_wire_replies.specs.ArrearsTexts.{arrears_line_data}
use Rattle.mf_wire_replies.specs.AccountTexts.{instalment_data, instalment_for, portion_waived, share_data, entry_data}
use Rattle.mf_wire_replies.specs.LoanTexts.{day_or_null, told_data, loan_line_data}
use Rattle.mf_wire_replies.specs.Shown.{office_data, reply_data}

no_fraction : (n : Option ℕ) → has_float (whole_or_null n) ≡ false
no_fraction None = refl
no_fraction (Some n) = refl

whole_office : (line : Office) → has_float (office_data line) ≡ false
whole_office line = ap (λ b. b || false) (no_fraction line.parent)

whole_offices : (lines : List Office) → items_have_float (items_of (map office_data lines)) ≡ false
whole_offices [] = refl
whole_offices (line ∷ lines) = rw (whole_office line) (whole_offices lines)

whole_product : (product : Product) → has_float (product_data product) ≡ false
whole_product product = rw (
  no_fraction product.members.disbursement_charge,
  no_fraction product.members.instalment_charge,
  no_fraction product.members.overdue_charge,
) refl

no_fraction_in : (t : Option (List ℕ)) → has_float (text_or_null t) ≡ false
no_fraction_in None = refl
no_fraction_in (Some t) = refl

whole_day : (day : Option ℕ) → has_float (day_or_null day) ≡ false
whole_day None = refl
whole_day (Some day) = refl

whole_instalments : (lines : List InstalmentLine) → items_have_float (items_of (map instalment_data lines)) ≡ false
whole_instalments [] = refl
whole_instalments (line ∷ lines) = whole_instalments lines

whole_shares : (shares : List Share) → items_have_float (items_of (map share_data shares)) ≡ false
whole_shares [] = refl
whole_shares (share ∷ shares) = whole_shares shares

whole_entry : (line : EntryLine) → has_float (entry_data line) ≡ false
whole_entry line =
    rw (
      no_fraction (instalment_for line.entry.kind line.entry.instalment),
      no_fraction_in (portion_waived line.entry.kind line.entry.portion),
      no_fraction_in line.entry.receipt,
      whole_shares line.shares,
    ) refl

whole_entries : (lines : List EntryLine) → items_have_float (items_of (map entry_data lines)) ≡ false
whole_entries [] = refl
whole_entries (line ∷ lines) = rw (whole_entry line) (whole_entries lines)

whole_told : (loan : Account) (told : LoanReply) → has_float (told_data loan told) ≡ false
whole_told loan (Shown shown) = rw (whole_day shown.day) refl
whole_told loan (Instalments lines) = ap (λ b. b || false) (whole_instalments lines)
whole_told loan (Entries lines) = ap (λ b. b || false) (whole_entries lines)
whole_told loan (Status status) = refl
whole_told loan (Entered entry) = refl
whole_told loan (Repeated entry) = refl
whole_told loan (Reversed entry) = refl

whole_loans : (lines : List LoanLine) → items_have_float (items_of (map loan_line_data lines)) ≡ false
whole_loans [] = refl
whole_loans (line ∷ lines) = whole_loans lines

whole_arrears : (lines : List OfficeLine) → items_have_float (items_of (map arrears_line_data lines)) ≡ false
whole_arrears [] = refl
whole_arrears (line ∷ lines) = whole_arrears lines

pub whole_reply : (reply : Reply) → has_float (reply_data reply) ≡ false
whole_reply (OfficeMade office) = refl
whole_reply (Offices lines) = ap (λ b. b || false) (whole_offices lines)
whole_reply (StaffMade staff) = refl
whole_reply (ClientMade client) = refl
whole_reply (ClientShown client name) = refl
whole_reply (DayShown day) = refl
whole_reply (DaySet day) = refl
whole_reply (ChargeMade charge) = refl
whole_reply (ChargeShown charge) = refl
whole_reply (ProductMade product) = refl
whole_reply (ProductShown product) = whole_product product
whole_reply (ProductRetired product) = refl
whole_reply (LoanMade loan) = refl
whole_reply (Loan loan told) = whole_told loan told
whole_reply (LoansShown lines) = ap (λ b. b || false) (whole_loans lines)
whole_reply (ArrearsShown lines) = ap (λ b. b || false) (whole_arrears lines)
