use Rattle.std.proofs.Common.{Err, inl, inr, refl, rules, sym, ◌∙◌, ◌≡◌}
use Rattle.microloan_words.specs.declared.reading.Wrong.TheVariants.{Count, Day, Existing, File, Journal, Lists}
use Rattle.microloan_words.specs.declared.reading.Wrong.TheVariants.{Patience, Port}
use Rattle.microloan_words.proofs.OptionLemmas.{read, right, unread}
use Rattle.microloan_words.proofs.reading.serve_words.Goals as goal

pub returns-in_err-port-clause-every : goal.returns-in_err-port-clause-every
returns-in_err-port-clause-every c asked h =
    read _ _ c.in_err-port.ensures.variant (c.port_at.ensures.every asked.port h.port)

pub returns-in_err-count-clause-every : goal.returns-in_err-count-clause-every
returns-in_err-count-clause-every c asked h =
    read _ _ c.in_err-count.ensures.variant (c.connections_at.ensures.every asked.count h.count)

pub returns-in_err-patience-clause-every : goal.returns-in_err-patience-clause-every
returns-in_err-patience-clause-every c asked h =
    read _ _ c.in_err-patience.ensures.variant (c.count_at.ensures.every asked.patience h.patience)

pub returns-in_err-file-clause-wrong : goal.returns-in_err-file-clause-wrong
returns-in_err-file-clause-wrong c =
    let e : c.from_residual.result ≡ Err File = search rules in
    rw e (inl (
      refl,
      (λ given. read c.file_at.result given.0 c.in_err-file.ensures.variant (c.file_at.ensures
          ∙ given.1)),
    ))

pub returns-in_err-port-clause-wrong : goal.returns-in_err-port-clause-wrong
returns-in_err-port-clause-wrong c =
    let e : c.from_residual-in_err-port.result ≡ Err Port = search rules in
    rw e (inr (
      (c.in_ok-file.file, sym c.file_at.ensures ∙ c.in_ok-file.ensures.ok_part),
      inl (refl, unread _ c.port_at.result c.in_err-port.ensures.variant c.port_at.ensures.every),
    ))

pub returns-in_err-count-clause-wrong : goal.returns-in_err-count-clause-wrong
returns-in_err-count-clause-wrong c =
    let e : c.from_residual-in_err-count.result ≡ Err Count = search rules in
    rw e (inr (
      (c.in_ok-file.file, sym c.file_at.ensures ∙ c.in_ok-file.ensures.ok_part),
      inr (
        right _ c.port_at.result c.in_ok-port.port c.in_ok-port.ensures.ok_part c.port_at.ensures.read,
        inl (
          refl,
          unread _ c.connections_at.result c.in_err-count.ensures.variant c.connections_at.ensures.every,
        ),
      ),
    ))

pub returns-in_err-patience-clause-wrong : goal.returns-in_err-patience-clause-wrong
returns-in_err-patience-clause-wrong c =
    let e : c.from_residual-in_err-patience.result ≡ Err Patience = search rules in
    rw e (inr (
      (c.in_ok-file.file, sym c.file_at.ensures ∙ c.in_ok-file.ensures.ok_part),
      inr (
        right _ c.port_at.result c.in_ok-port.port c.in_ok-port.ensures.ok_part c.port_at.ensures.read,
        inr (
          right _ c.connections_at.result c.in_ok-count.count c.in_ok-count.ensures.ok_part
              c.connections_at.ensures.read,
          inl (
            refl,
            unread _ c.count_at.result c.in_err-patience.ensures.variant
                c.count_at.ensures.every,
          ),
        ),
      ),
    ))

pub returns-in_err-day-clause-wrong : goal.returns-in_err-day-clause-wrong
returns-in_err-day-clause-wrong c =
    let e : c.from_residual-in_err-day.result ≡ Err Day = search rules in
    rw e (inr (
      (c.in_ok-file.file, sym c.file_at.ensures ∙ c.in_ok-file.ensures.ok_part),
      inr (
        right _ c.port_at.result c.in_ok-port.port c.in_ok-port.ensures.ok_part c.port_at.ensures.read,
        inr (
          right _ c.connections_at.result c.in_ok-count.count c.in_ok-count.ensures.ok_part
              c.connections_at.ensures.read,
          inr (
            right _ c.count_at.result c.in_ok-patience.patience
                c.in_ok-patience.ensures.ok_part c.count_at.ensures.read,
            inl (refl, unread _ c.day_at.result c.in_err-day.ensures.variant c.day_at.ensures.every),
          ),
        ),
      ),
    ))

pub returns-in_err-existing-clause-wrong : goal.returns-in_err-existing-clause-wrong
returns-in_err-existing-clause-wrong c =
    let e : c.from_residual-in_err-existing.result ≡ Err Existing = search rules in
    rw e (inr (
      (c.in_ok-file.file, sym c.file_at.ensures ∙ c.in_ok-file.ensures.ok_part),
      inr (
        right _ c.port_at.result c.in_ok-port.port c.in_ok-port.ensures.ok_part c.port_at.ensures.read,
        inr (
          right _ c.connections_at.result c.in_ok-count.count c.in_ok-count.ensures.ok_part
              c.connections_at.ensures.read,
          inr (
            right _ c.count_at.result c.in_ok-patience.patience
                c.in_ok-patience.ensures.ok_part c.count_at.ensures.read,
            inr (
              right _ c.day_at.result c.in_ok-day.day c.in_ok-day.ensures.ok_part c.day_at.ensures.read,
              inl (refl, unread _ c.flag_at.result c.in_err-existing.ensures.variant c.flag_at.ensures.every),
            ),
          ),
        ),
      ),
    ))

pub returns-in_err-journal-clause-wrong : goal.returns-in_err-journal-clause-wrong
returns-in_err-journal-clause-wrong c =
    let e : c.from_residual-in_err-journal.result ≡ Err Journal = search rules in
    rw e (inr (
      (c.in_ok-file.file, sym c.file_at.ensures ∙ c.in_ok-file.ensures.ok_part),
      inr (
        right _ c.port_at.result c.in_ok-port.port c.in_ok-port.ensures.ok_part c.port_at.ensures.read,
        inr (
          right _ c.connections_at.result c.in_ok-count.count c.in_ok-count.ensures.ok_part
              c.connections_at.ensures.read,
          inr (
            right _ c.count_at.result c.in_ok-patience.patience
                c.in_ok-patience.ensures.ok_part c.count_at.ensures.read,
            inr (
              right _ c.day_at.result c.in_ok-day.day c.in_ok-day.ensures.ok_part c.day_at.ensures.read,
              inr (
                right _ c.flag_at.result c.in_ok-existing.existing c.in_ok-existing.ensures.ok_part
                    c.flag_at.ensures.read,
                inl (refl, unread _ c.flag_at-2.result c.in_err-journal.ensures.variant c.flag_at-2.ensures.every),
              ),
            ),
          ),
        ),
      ),
    ))

pub returns-in_err-lists-clause-wrong : goal.returns-in_err-lists-clause-wrong
returns-in_err-lists-clause-wrong c =
    let e : c.from_residual-in_err-lists.result ≡ Err Lists = search rules in
    rw e (inr (
      (c.in_ok-file.file, sym c.file_at.ensures ∙ c.in_ok-file.ensures.ok_part),
      inr (
        right _ c.port_at.result c.in_ok-port.port c.in_ok-port.ensures.ok_part c.port_at.ensures.read,
        inr (
          right _ c.connections_at.result c.in_ok-count.count c.in_ok-count.ensures.ok_part
              c.connections_at.ensures.read,
          inr (
            right _ c.count_at.result c.in_ok-patience.patience
                c.in_ok-patience.ensures.ok_part c.count_at.ensures.read,
            inr (
              right _ c.day_at.result c.in_ok-day.day c.in_ok-day.ensures.ok_part c.day_at.ensures.read,
              inr (
                right _ c.flag_at.result c.in_ok-existing.existing c.in_ok-existing.ensures.ok_part
                    c.flag_at.ensures.read,
                inr (
                  right _ c.flag_at-2.result c.in_ok-journal.journal c.in_ok-journal.ensures.ok_part
                      c.flag_at-2.ensures.read,
                  inl (refl, unread _ c.flag_at-3.result c.in_err-lists.ensures.variant c.flag_at-3.ensures.every),
                ),
              ),
            ),
          ),
        ),
      ),
    ))
