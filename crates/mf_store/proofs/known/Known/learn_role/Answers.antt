use Rattle.std.proofs.Common.{◌≡◌, Some}
use Rattle.mf_model.specs.Store.{role_of}
use Rattle.mf_store.specs.Facts.{caller_key, same_key}
use Rattle.mf_store.proofs.KeptLemmas.{put_true, key_exact, key_laws}
use Rattle.mf_store.proofs.known.Known.learn_role.Goals as goal

pub returns : goal.returns
returns c = rw (← c.self.view_is) (λ i known so. record {
  counts = known.counts;
  catalogue = known.catalogue;
  day = known.day;
  roles = λ m. put_true same_key key_exact key_laws (λ k w. role_of (record { office = k.0; staff = k.1 }) i ≡ Some w)
      c.self.inside.roles c.put-kept.new.self (caller_key c.args.caller) c.args.role c.put-kept.result
      (rw c.key_of.ensures at c.put-kept.ensures.entries) c.put-kept.ensures.err so
      (λ k w other. known.roles (record { office = k.0; staff = k.1 }) w) (caller_key m);
  keys = known.keys;
  products = known.products;
  accounts = known.accounts;
  index = known.index;
})
