use Rattle.std.proofs.Common.{Err, List, Some, ap, codes, inl, inr, refl, rules, subst, sym, ◌∙◌, ◌≡◌}
use Rattle.clap.specs.Words.{Row, found_of, rows_of}
use Rattle.mf_catalog.specs.Limits.{longest_step}
use Rattle.microloan_words.specs.Asked.{IsNumberAt}
use Rattle.microloan_words.specs.declared.reading.Wrong.TheVariants.{Day, Every, Frequency, InterestGrace}
use Rattle.microloan_words.specs.declared.reading.Wrong.TheVariants.{Method, Periods, Principal}
use Rattle.microloan_words.specs.declared.reading.Wrong.TheVariants.{PrincipalGrace, Rate}
use Rattle.microloan_words.proofs.OptionLemmas.{read, right, right_every, unread, unread_every}
use Rattle.microloan_words.proofs.reading.schedule_words.Goals as goal

pub returns-in_err-principal-clause-every : goal.returns-in_err-principal-clause-every
returns-in_err-principal-clause-every c asked h =
    read _ _ c.in_err-principal.ensures.variant (c.number_at.ensures.every asked.principal h.principal)

pub returns-in_err-rate-clause-every : goal.returns-in_err-rate-clause-every
returns-in_err-rate-clause-every c asked h =
    read _ _ c.in_err-rate.ensures.variant (c.count_at.ensures.every asked.rate h.rate)

pub returns-in_err-periods-clause-every : goal.returns-in_err-periods-clause-every
returns-in_err-periods-clause-every c asked h =
    read _ _ c.in_err-periods.ensures.variant (c.count_at-2.ensures.every asked.periods h.periods)

pub returns-in_err-every-clause-every : goal.returns-in_err-every-clause-every
returns-in_err-every-clause-every c asked h =
    let there : c.frequency_at.result ≡ Some asked.frequency =
    c.frequency_at.ensures.every asked.frequency h.frequency in
    let was : c.frequency_at.result ≡ Some c.in_ok-frequency.frequency = c.in_ok-frequency.ensures.ok_part in
    let same : asked.frequency ≡ c.in_ok-frequency.frequency = cc in
    let most : longest_step asked.frequency ≡ c.longest_step.result =
    ap longest_step same ∙ sym c.longest_step.ensures in
    let rows : List Row = rows_of (found_of c.args.options.now) in
    let within : IsNumberAt rows (codes "every") 1 c.longest_step.result asked.every =
    subst (λ n. IsNumberAt rows (codes "every") 1 n asked.every) most h.every in
    read _ _ c.in_err-every.ensures.variant (c.count_at-3.ensures.every asked.every within)

pub returns-in_err-principal_grace-clause-every : goal.returns-in_err-principal_grace-clause-every
returns-in_err-principal_grace-clause-every c asked h = read _ _ c.in_err-principal_grace.ensures.variant
    (c.count_at-4.ensures.every asked.principal_grace h.principal_grace)

pub returns-in_err-interest_grace-clause-every : goal.returns-in_err-interest_grace-clause-every
returns-in_err-interest_grace-clause-every c asked h =
    read _ _ c.in_err-interest_grace.ensures.variant (c.count_at-5.ensures.every asked.interest_grace h.interest_grace)

pub returns-in_err-method-clause-wrong : goal.returns-in_err-method-clause-wrong
returns-in_err-method-clause-wrong c =
    let e : c.from_residual.result ≡ Err Method = search rules in
    rw e (inl (refl, unread _ c.method_at.result c.in_err-method.ensures.variant c.method_at.ensures.every))

pub returns-in_err-principal-clause-wrong : goal.returns-in_err-principal-clause-wrong
returns-in_err-principal-clause-wrong c =
    let e : c.from_residual-in_err-principal.result ≡ Err Principal = search rules in
    rw e (inr (
      right _ c.method_at.result c.in_ok-method.method c.in_ok-method.ensures.ok_part c.method_at.ensures.read,
      inl (refl, unread _ c.number_at.result c.in_err-principal.ensures.variant c.number_at.ensures.every),
    ))

pub returns-in_err-rate-clause-wrong : goal.returns-in_err-rate-clause-wrong
returns-in_err-rate-clause-wrong c =
    let e : c.from_residual-in_err-rate.result ≡ Err Rate = search rules in
    rw e (inr (
      right _ c.method_at.result c.in_ok-method.method c.in_ok-method.ensures.ok_part c.method_at.ensures.read,
      inr (
        right _ c.number_at.result c.in_ok-principal.principal c.in_ok-principal.ensures.ok_part
            c.number_at.ensures.read,
        inl (
          refl,
          unread _ c.count_at.result c.in_err-rate.ensures.variant
              c.count_at.ensures.every,
        ),
      ),
    ))

pub returns-in_err-periods-clause-wrong : goal.returns-in_err-periods-clause-wrong
returns-in_err-periods-clause-wrong c =
    let e : c.from_residual-in_err-periods.result ≡ Err Periods = search rules in
    rw e (inr (
      right _ c.method_at.result c.in_ok-method.method c.in_ok-method.ensures.ok_part c.method_at.ensures.read,
      inr (
        right _ c.number_at.result c.in_ok-principal.principal c.in_ok-principal.ensures.ok_part
            c.number_at.ensures.read,
        inr (
          right _ c.count_at.result c.in_ok-rate.rate c.in_ok-rate.ensures.ok_part
              c.count_at.ensures.read,
          inl (
            refl,
            unread _ c.count_at-2.result c.in_err-periods.ensures.variant
                c.count_at-2.ensures.every,
          ),
        ),
      ),
    ))

pub returns-in_err-day-clause-wrong : goal.returns-in_err-day-clause-wrong
returns-in_err-day-clause-wrong c =
    let e : c.from_residual-in_err-day.result ≡ Err Day = search rules in
    rw e (inr (
      right _ c.method_at.result c.in_ok-method.method c.in_ok-method.ensures.ok_part c.method_at.ensures.read,
      inr (
        right _ c.number_at.result c.in_ok-principal.principal c.in_ok-principal.ensures.ok_part
            c.number_at.ensures.read,
        inr (
          right _ c.count_at.result c.in_ok-rate.rate c.in_ok-rate.ensures.ok_part
              c.count_at.ensures.read,
          inr (
            right _ c.count_at-2.result c.in_ok-periods.periods
                c.in_ok-periods.ensures.ok_part c.count_at-2.ensures.read,
            inl (refl, unread _ c.day_at.result c.in_err-day.ensures.variant c.day_at.ensures.every),
          ),
        ),
      ),
    ))

pub returns-in_err-frequency-clause-wrong : goal.returns-in_err-frequency-clause-wrong
returns-in_err-frequency-clause-wrong c =
    let e : c.from_residual-in_err-frequency.result ≡ Err Frequency = search rules in
    rw e (inr (
      right _ c.method_at.result c.in_ok-method.method c.in_ok-method.ensures.ok_part c.method_at.ensures.read,
      inr (
        right _ c.number_at.result c.in_ok-principal.principal c.in_ok-principal.ensures.ok_part
            c.number_at.ensures.read,
        inr (
          right _ c.count_at.result c.in_ok-rate.rate c.in_ok-rate.ensures.ok_part
              c.count_at.ensures.read,
          inr (
            right _ c.count_at-2.result c.in_ok-periods.periods
                c.in_ok-periods.ensures.ok_part c.count_at-2.ensures.read,
            inr (
              right _ c.day_at.result c.in_ok-day.day c.in_ok-day.ensures.ok_part c.day_at.ensures.read,
              inl (
                refl,
                unread _ c.frequency_at.result c.in_err-frequency.ensures.variant c.frequency_at.ensures.every,
              ),
            ),
          ),
        ),
      ),
    ))

pub returns-in_err-every-clause-wrong : goal.returns-in_err-every-clause-wrong
returns-in_err-every-clause-wrong c =
    let e : c.from_residual-in_err-every.result ≡ Err Every = search rules in
    rw e (inr (
      right _ c.method_at.result c.in_ok-method.method c.in_ok-method.ensures.ok_part c.method_at.ensures.read,
      inr (
        right _ c.number_at.result c.in_ok-principal.principal c.in_ok-principal.ensures.ok_part
            c.number_at.ensures.read,
        inr (
          right _ c.count_at.result c.in_ok-rate.rate c.in_ok-rate.ensures.ok_part
              c.count_at.ensures.read,
          inr (
            right _ c.count_at-2.result c.in_ok-periods.periods
                c.in_ok-periods.ensures.ok_part c.count_at-2.ensures.read,
            inr (
              right _ c.day_at.result c.in_ok-day.day c.in_ok-day.ensures.ok_part c.day_at.ensures.read,
              inr (
                right _ c.frequency_at.result c.in_ok-frequency.frequency c.in_ok-frequency.ensures.ok_part
                    c.frequency_at.ensures.read,
                inl (
                  refl,
                  unread_every c.in_ok-frequency.frequency c.longest_step.result _
                      c.frequency_at.result c.count_at-3.result c.longest_step.ensures c.in_ok-frequency.ensures.ok_part
                      c.frequency_at.ensures.every c.in_err-every.ensures.variant c.count_at-3.ensures.every,
                ),
              ),
            ),
          ),
        ),
      ),
    ))

pub returns-in_err-principal_grace-clause-wrong : goal.returns-in_err-principal_grace-clause-wrong
returns-in_err-principal_grace-clause-wrong c =
    let e : c.from_residual-in_err-principal_grace.result ≡ Err PrincipalGrace = search rules in
    rw e (inr (
      right _ c.method_at.result c.in_ok-method.method c.in_ok-method.ensures.ok_part c.method_at.ensures.read,
      inr (
        right _ c.number_at.result c.in_ok-principal.principal c.in_ok-principal.ensures.ok_part
            c.number_at.ensures.read,
        inr (
          right _ c.count_at.result c.in_ok-rate.rate c.in_ok-rate.ensures.ok_part
              c.count_at.ensures.read,
          inr (
            right _ c.count_at-2.result c.in_ok-periods.periods
                c.in_ok-periods.ensures.ok_part c.count_at-2.ensures.read,
            inr (
              right _ c.day_at.result c.in_ok-day.day c.in_ok-day.ensures.ok_part c.day_at.ensures.read,
              inr (
                right _ c.frequency_at.result c.in_ok-frequency.frequency c.in_ok-frequency.ensures.ok_part
                    c.frequency_at.ensures.read,
                inr (
                  right_every c.in_ok-frequency.frequency c.longest_step.result _
                      c.frequency_at.result c.count_at-3.result c.in_ok-every.every c.longest_step.ensures
                      c.in_ok-frequency.ensures.ok_part c.frequency_at.ensures.read c.in_ok-every.ensures.ok_part
                      c.count_at-3.ensures.read,
                  inl (
                    refl,
                    unread _ c.count_at-4.result c.in_err-principal_grace.ensures.variant
                        c.count_at-4.ensures.every,
                  ),
                ),
              ),
            ),
          ),
        ),
      ),
    ))

pub returns-in_err-interest_grace-clause-wrong : goal.returns-in_err-interest_grace-clause-wrong
returns-in_err-interest_grace-clause-wrong c =
    let e : c.from_residual-in_err-interest_grace.result ≡ Err InterestGrace = search rules in
    rw e (inr (
      right _ c.method_at.result c.in_ok-method.method c.in_ok-method.ensures.ok_part c.method_at.ensures.read,
      inr (
        right _ c.number_at.result c.in_ok-principal.principal c.in_ok-principal.ensures.ok_part
            c.number_at.ensures.read,
        inr (
          right _ c.count_at.result c.in_ok-rate.rate c.in_ok-rate.ensures.ok_part
              c.count_at.ensures.read,
          inr (
            right _ c.count_at-2.result c.in_ok-periods.periods
                c.in_ok-periods.ensures.ok_part c.count_at-2.ensures.read,
            inr (
              right _ c.day_at.result c.in_ok-day.day c.in_ok-day.ensures.ok_part c.day_at.ensures.read,
              inr (
                right _ c.frequency_at.result c.in_ok-frequency.frequency c.in_ok-frequency.ensures.ok_part
                    c.frequency_at.ensures.read,
                inr (
                  right_every c.in_ok-frequency.frequency c.longest_step.result _
                      c.frequency_at.result c.count_at-3.result c.in_ok-every.every c.longest_step.ensures
                      c.in_ok-frequency.ensures.ok_part c.frequency_at.ensures.read c.in_ok-every.ensures.ok_part
                      c.count_at-3.ensures.read,
                  inr (
                    right _ c.count_at-4.result c.in_ok-principal_grace.principal_grace
                        c.in_ok-principal_grace.ensures.ok_part c.count_at-4.ensures.read,
                    inl (
                      refl,
                      unread _ c.count_at-5.result c.in_err-interest_grace.ensures.variant c.count_at-5.ensures.every,
                    ),
                  ),
                ),
              ),
            ),
          ),
        ),
      ),
    ))
