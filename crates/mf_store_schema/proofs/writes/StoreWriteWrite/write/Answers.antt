use Rattle.std.proofs.Common.{IfErr, subst, sym}
use Rattle.sqlite.specs.Held.{state}
use Rattle.mf_store_schema.specs.Writes.{ByItsText, Failed}
use Rattle.mf_store_schema.proofs.writes.StoreWriteWrite.write.Goals as goal

pub returns-in-AddProduct-clause-failed : goal.returns-in-AddProduct-clause-failed
returns-in-AddProduct-clause-failed g c clean inside =
    let old = state g.S.Store c.args.tx.now.conn.now in
    let new = state g.S.Store c.add_row-in-AddProduct.new.tx.conn.now in
    subst (λ w. IfErr c.add_row-in-AddProduct.result (λ e. ByItsText w (λ sql row. Failed sql row old new e))) (sym
    c.in-AddProduct.is)
    (c.add_row-in-AddProduct.ensures.failed clean inside)

pub returns-in-PutProduct-clause-failed : goal.returns-in-PutProduct-clause-failed
returns-in-PutProduct-clause-failed g c clean inside =
    let old = state g.S.Store c.args.tx.now.conn.now in
    let new = state g.S.Store c.put_row-in-PutProduct.new.tx.conn.now in
    subst (λ w. IfErr c.put_row-in-PutProduct.result (λ e. ByItsText w (λ sql row. Failed sql row old new e))) (sym
    c.in-PutProduct.is)
    (c.put_row-in-PutProduct.ensures.failed clean inside)

pub returns-in-AddEntry-clause-failed : goal.returns-in-AddEntry-clause-failed
returns-in-AddEntry-clause-failed g c clean inside =
    let old = state g.S.Store c.args.tx.now.conn.now in
    let new = state g.S.Store c.add_row-in-AddEntry.new.tx.conn.now in
    subst (λ w. IfErr c.add_row-in-AddEntry.result (λ e. ByItsText w (λ sql row. Failed sql row old new e))) (sym
    c.in-AddEntry.is)
    (c.add_row-in-AddEntry.ensures.failed clean inside)

pub returns-in-ChangeEntry-clause-failed : goal.returns-in-ChangeEntry-clause-failed
returns-in-ChangeEntry-clause-failed g c clean inside =
    let old = state g.S.Store c.args.tx.now.conn.now in
    let new = state g.S.Store c.put_row-in-ChangeEntry.new.tx.conn.now in
    subst (λ w. IfErr c.put_row-in-ChangeEntry.result (λ e. ByItsText w (λ sql row. Failed sql row old new e))) (sym
    c.in-ChangeEntry.is)
    (c.put_row-in-ChangeEntry.ensures.failed clean inside)

pub returns-in-PutInstalment-clause-failed : goal.returns-in-PutInstalment-clause-failed
returns-in-PutInstalment-clause-failed g c clean inside =
    let old = state g.S.Store c.args.tx.now.conn.now in
    let new = state g.S.Store c.put_row-in-PutInstalment.new.tx.conn.now in
    subst (λ w. IfErr c.put_row-in-PutInstalment.result (λ e. ByItsText w (λ sql row. Failed sql row old new e))) (sym
    c.in-PutInstalment.is)
    (c.put_row-in-PutInstalment.ensures.failed clean inside)
