use Rattle.mf_store.proofs.store.Store.make_commit.Goals as goal

pub returns-in-AddOffice : goal.returns-in-AddOffice
returns-in-AddOffice g c = rw c.in-AddOffice.is c.add_office.ensures

pub returns-in-AddStaff : goal.returns-in-AddStaff
returns-in-AddStaff g c = rw c.in-AddStaff.is c.add_staff.ensures

pub returns-in-AddClient : goal.returns-in-AddClient
returns-in-AddClient g c = rw c.in-AddClient.is c.add_client.ensures

pub returns-in-SetDay : goal.returns-in-SetDay
returns-in-SetDay g c = rw c.in-SetDay.is c.set_day.ensures

pub returns-in-AddCharge : goal.returns-in-AddCharge
returns-in-AddCharge g c = rw c.in-AddCharge.is c.add_charge.ensures

pub returns-in-AddProduct : goal.returns-in-AddProduct
returns-in-AddProduct g c = rw c.in-AddProduct.is c.add_product.ensures

pub returns-in-RetireProduct : goal.returns-in-RetireProduct
returns-in-RetireProduct g c = rw c.in-RetireProduct.is c.retire_product.ensures

pub returns-in-AddLoan : goal.returns-in-AddLoan
returns-in-AddLoan g c = rw c.in-AddLoan.is c.add_loan.ensures

pub returns-in-SetStage : goal.returns-in-SetStage
returns-in-SetStage g c = rw c.in-SetStage.is c.set_stage.ensures

pub returns-in-AddEntry : goal.returns-in-AddEntry
returns-in-AddEntry g c = rw c.in-AddEntry.is c.add_entry.ensures

pub returns-in-ReverseEntry : goal.returns-in-ReverseEntry
returns-in-ReverseEntry g c = rw c.in-ReverseEntry.is c.reverse_entry.ensures
