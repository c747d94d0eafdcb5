use Rattle.std.proofs.lemmas.Result.{on_ok_weaker}
use Rattle.mf_store_noted.proofs.upgrading.put_all.Goals as goal

pub returns-clause-takes_in : goal.returns-clause-takes_in
returns-clause-takes_in g c =
    let all = c.put_tables.ensures.takes_in in
    record {
      kept = all.kept;
      gives_up = all.gives_up;
      is_open = all.is_open;
      takes_in = all.takes_in;
      fits = λ clean. on_ok_weaker c.put_tables.result (λ fit lists keeping. let f = fit lists keeping in record {
        meta = f.0;
        offices = f.1.0;
        staff = f.1.1.0;
        clients = f.1.1.1.0;
        charges = f.1.1.1.1.0;
        products = f.1.1.1.1.1.0;
        loans = f.1.1.1.1.1.1.0;
        entries = f.1.1.1.1.1.1.1.0;
        receipts = f.1.1.1.1.1.1.1.1.0;
        instalments = f.1.1.1.1.1.1.1.1.1.0;
        shares = f.1.1.1.1.1.1.1.1.1.1;
      }) (all.fits clean);
    }
