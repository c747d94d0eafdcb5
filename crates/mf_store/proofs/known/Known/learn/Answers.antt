use Rattle.std.proofs.Common.{nat_eq, refl, sym, ap, subst, ◌∙◌}
use Rattle.mf_store_journal.specs.Index.{index_of}
use Rattle.mf_store.specs.Learning.{Tells}
use Rattle.mf_store.proofs.KeptLemmas.{account_still, counts_learnt, forgotten}
use Rattle.mf_store.proofs.CatalogueLemmas.{some_is}
use Rattle.mf_store.proofs.known.Known.learn.Goals as goal

pub returns-in-OfficeCounts : goal.returns-in-OfficeCounts
returns-in-OfficeCounts c =
    rw (← c.self.view_is) (λ i j known told. let t = subst (λ n. Tells n i j) c.in-OfficeCounts.is told in record {
      counts = counts_learnt c.self.inside.counts c.put-kept.new.self c.in-OfficeCounts.office c.in-OfficeCounts.counts
          c.put-kept.result i j c.put-kept.ensures.entries c.put-kept.ensures.err c.put-kept.ensures.succeeds
          known.counts
          t.counts;
      catalogue = λ k h. known.catalogue k h ∙ sym t.catalogue;
      day = λ d h. known.day d h ∙ sym t.day;
      roles = λ m r h. t.roles m r (known.roles m r h);
      keys = λ x k h. t.keys x k (known.keys x k h);
      products = λ n p h. t.products refl n p (known.products n p h);
      accounts = λ a x h. t.accounts a x refl (known.accounts a x h);
      index = (known.index.0, ap index_of t.journal ∙ known.index.1);
    })

pub returns-in-Catalogue : goal.returns-in-Catalogue
returns-in-Catalogue c =
    rw (← c.self-in-Catalogue.view_is) (λ i j known told.
    let t = subst (λ n. Tells n i j) c.in-Catalogue.is told in record {
      counts = λ x k h. known.counts x k h ∙ sym (t.counts x);
      catalogue = λ k h. some_is h ∙ sym t.catalogue;
      day = λ d h. known.day d h ∙ sym t.day;
      roles = λ m r h. t.roles m r (known.roles m r h);
      keys = λ x k h. t.keys x k (known.keys x k h);
      products = λ n p h. t.products refl n p (known.products n p h);
      accounts = λ a x h. t.accounts a x refl (known.accounts a x h);
      index = (known.index.0, ap index_of t.journal ∙ known.index.1);
    })

pub returns-in-BusinessDay : goal.returns-in-BusinessDay
returns-in-BusinessDay c =
    rw (← c.self-in-BusinessDay.view_is) (λ i j known told.
    let t = subst (λ n. Tells n i j) c.in-BusinessDay.is told in record {
      counts = λ x k h. known.counts x k h ∙ sym (t.counts x);
      catalogue = λ k h. known.catalogue k h ∙ sym t.catalogue;
      day = λ d h. some_is h ∙ sym t.day;
      roles = λ m r h. t.roles m r (known.roles m r h);
      keys = λ x k h. t.keys x k (known.keys x k h);
      products = λ n p h. t.products refl n p (known.products n p h);
      accounts = λ a x h. t.accounts a x refl (known.accounts a x h);
      index = (known.index.0, ap index_of t.journal ∙ known.index.1);
    })

pub returns-in-Retirement : goal.returns-in-Retirement
returns-in-Retirement c =
    rw (← c.self-in-Retirement.view_is) (λ i j known told.
    let t = subst (λ n. Tells n i j) c.in-Retirement.is told in record {
      counts = λ x k h. known.counts x k h ∙ sym (t.counts x);
      catalogue = λ k h. known.catalogue k h ∙ sym t.catalogue;
      day = λ d h. known.day d h ∙ sym t.day;
      roles = λ m r h. t.roles m r (known.roles m r h);
      keys = λ x k h. t.keys x k (known.keys x k h);
      products = λ n p h. forgotten (nat_eq n) c.clear.new.self c.self-in-Retirement.inside.products.cap p _
          c.clear.ensures h;
      accounts = λ a x h. t.accounts a x refl (known.accounts a x h);
      index = (known.index.0, ap index_of t.journal ∙ known.index.1);
    })

pub returns-in-Account : goal.returns-in-Account
returns-in-Account c i j known told = account_still c.in-Account.loan c.take_account-was.new.self i j
    c.take_account-was.ensures.gone (c.take_account-was.ensures.same i known) (subst (λ n. Tells n i j) c.in-Account.is
    told)
