use Rattle.std.proofs.Common.{Some, None}
use Rattle.mf_store_sound.proofs.ProductLemmas.{named_charge}
use Rattle.mf_store_sound.proofs.products.is_of_kind.Goals as goal

pub returns-in-Some-row_numbered-clause-catalogue : goal.returns-in-Some-row_numbered-clause-catalogue
returns-in-Some-row_numbered-clause-catalogue c k e =
    rw (c.number.ensures, c.in-Some.is) (named_charge k c.args.charges.now (Some c.in-Some-row_numbered.charge.now)
    c.in-Some.number c.args.kind e c.in-Some-row_numbered.ensures)

pub returns-in-None-clause-catalogue : goal.returns-in-None-clause-catalogue
returns-in-None-clause-catalogue c k e =
    rw c.in-Some.is (named_charge k c.args.charges.now None c.in-Some.number c.args.kind e c.in-None.ensures)
