use Rattle.std.proofs.Common.{◌≡◌, Some, nat_eq, sym, ap, ◌∙◌}
use Rattle.std.specs.Cmp.{nat_eq_equiv}
use Rattle.mf_model.specs.Institution.{product_in}
use Rattle.mf_store.proofs.KeptLemmas.{put_true, nat_exact}
use Rattle.mf_store.proofs.known.Known.learn_product.Goals as goal

pub returns : goal.returns
returns c = rw (← c.self.view_is) (λ i known so. record {
  counts = known.counts;
  catalogue = known.catalogue;
  day = known.day;
  roles = known.roles;
  keys = known.keys;
  products = put_true nat_eq nat_exact nat_eq_equiv (λ n p. product_in i.catalogue n ≡ Some p)
      c.self.inside.products c.put-kept.new.self c.args.number c.in-Some.copy c.put-kept.result
      c.put-kept.ensures.entries c.put-kept.ensures.err (so ∙ ap Some (sym c.in-Some.ensures)) (λ n p other.
      known.products n p);
  accounts = known.accounts;
  index = known.index;
})
