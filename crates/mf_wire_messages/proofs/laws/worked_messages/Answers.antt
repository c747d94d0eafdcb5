use Rattle.std.proofs.Common.{refl, ap, arith, cond, codes, length, length-append, [], ◌++◌, Some, None}
use Rattle.std.specs.Fmt.{digits}
use Rattle.httparse.proofs.OnLiterals.{httparse_on_literals}
use Rattle.std.proofs.lemmas.Bool.{le-leb}
use Rattle.mf_wire_messages.specs.Responses.{status_line, fields_and_body}
use Rattle.mf_wire_messages.specs.Worked.{request_body}
use Rattle.mf_wire_messages.proofs.MessageLemmas.{made}
use Rattle.mf_wire_messages.proofs.laws.worked_messages.Goals as goal

pub returns-clause-head : goal.returns-clause-head
unfolding httparse_on_literals
returns-clause-head c = refl

pub returns-clause-asked : goal.returns-clause-asked
unfolding httparse_on_literals
returns-clause-asked c = λ more.
    ap (λ t. cond t (Some (made (Some []) (codes "1/1") (codes "POST") (codes "/clients") request_body)) None)
    (le-leb 27 (length (request_body ++ more)) (omega (arith, length-append request_body more)))

pub returns-clause-cut : goal.returns-clause-cut
unfolding httparse_on_literals
returns-clause-cut c = refl

pub returns-clause-refused : goal.returns-clause-refused
unfolding httparse_on_literals
returns-clause-refused c = (refl, refl, refl, refl, refl, refl)

pub returns-clause-taken : goal.returns-clause-taken
unfolding httparse_on_literals
returns-clause-taken c = (refl, refl)

pub returns-clause-told : goal.returns-clause-told
unfolding httparse_on_literals
returns-clause-told c = (refl, refl, refl)

pub returns-clause-phrases : goal.returns-clause-phrases
returns-clause-phrases c = (refl, refl, refl, refl, refl, refl, refl, refl, refl)

pub returns-clause-responses : goal.returns-clause-responses
unfolding status_line fields_and_body digits
returns-clause-responses c = (refl, refl)
