-- The office and the loan that a reply names.
use Rattle.mf_office.specs.declared.account.Account.{Account}
use Rattle.mf_model.specs.declared.reply.Names.{Names}
use Rattle.mf_model.specs.declared.reply.Reply.{Reply}
use Rattle.mf_model.specs.declared.reply.Reply.TheVariants.{OfficeMade, StaffMade, ClientMade, LoanMade, Loan}

-- neither an office nor a loan
abbrev pub no_names : Names
no_names = record { office = 0; loan = 0 }

-- a loan, and its office
abbrev pub names_of_loan : Account → Names
names_of_loan loan = record { office = loan.office; loan = loan.number }

-- what the reply to an accepted change names: the office that has what is new or changed, and the loan; 0 where there
-- is none
abbrev pub names_in : Reply → Names
names_in (OfficeMade number) = record { office = number; loan = 0 }
names_in (StaffMade staff) = record { office = staff.office; loan = 0 }
names_in (ClientMade client) = record { office = client.office; loan = 0 }
names_in (LoanMade loan) = names_of_loan loan
names_in (Loan loan told) = names_of_loan loan
names_in _ = no_names
