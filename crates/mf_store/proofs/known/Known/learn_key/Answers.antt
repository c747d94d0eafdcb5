use Rattle.std.proofs.Common.{◌≡◌, Some, nat_eq, sym, ap, ◌∙◌}
use Rattle.std.specs.Cmp.{nat_eq_equiv}
use Rattle.mf_store_values.specs.Flat.{key_at}
use Rattle.mf_store.proofs.KeptLemmas.{put_true, nat_exact}
use Rattle.mf_store.proofs.known.Known.learn_key.Goals as goal

pub returns : goal.returns
returns c = rw (← c.self.view_is) (λ i known so. record {
  counts = known.counts;
  catalogue = known.catalogue;
  day = known.day;
  roles = known.roles;
  keys = put_true nat_eq nat_exact nat_eq_equiv (λ y w. key_at y i ≡ Some w) c.self.inside.keys c.put-kept.new.self
      c.args.office c.in-Some.copy c.put-kept.result c.put-kept.ensures.entries c.put-kept.ensures.err
      (so ∙ ap Some (sym c.in-Some.ensures)) (λ y w other. known.keys y w);
  products = known.products;
  accounts = known.accounts;
  index = known.index;
})
