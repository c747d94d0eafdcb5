use Rattle.mf_model.specs.Institution.{Staff}
use Rattle.mf_model.specs.Sound.{IsName}
use Rattle.mf_store_values.specs.Flat.{staff_in, client_in}
use Rattle.mf_store_values.proofs.AnswerLemmas.{refuses, no_answer}
use Rattle.mf_store_sound.proofs.OfficePartLemmas.{office_part}
use Rattle.mf_store_sound.proofs.StoredLemmas.{values_of, rows_of}
use Rattle.mf_store_sound.proofs.office_parts.is_office_part.Goals as goal

pub returns-then-not-are_numbered : goal.returns-then-not-are_numbered
returns-then-not-are_numbered c k d e =
    no_answer (λ p. refuses c.are_numbered.result c.if-not-are_numbered.true (c.are_numbered.ensures tt) (rows_of
    (staff_in _) (λ (s : Staff). IsName s.name) _ _ _ p.plain.staff_limit p.plain.staff_names p.staff_are))

pub returns-then-not-are_numbered-2 : goal.returns-then-not-are_numbered-2
returns-then-not-are_numbered-2 c k d e =
    no_answer (λ p. refuses c.are_numbered-2.result c.if-not-are_numbered-2.true (c.are_numbered-2.ensures tt)
    (rows_of (client_in _) IsName _ _ _ p.plain.client_limit p.plain.client_names p.clients_are))

pub returns : goal.returns
returns c k d e =
    office_part k _ _ _ _ _ _
    (values_of (staff_in _) (λ (s : Staff). IsName s.name) _ _ ((c.are_numbered.ensures tt).0
    c.if-not-are_numbered.false))
    (values_of (client_in _) IsName _ _ ((c.are_numbered-2.ensures tt).0 c.if-not-are_numbered-2.false))
    (c.are_loans.ensures k d e)
