-- Two runs that an office can't tell apart.
use Rattle.std.specs.Prelude.{◌≡◌, ℕ}
use Rattle.mf_office.specs.declared.caller.Caller.{Caller}
use Rattle.mf_office.specs.Texts.{IsCaller}
use Rattle.mf_model.specs.Tree.{view}
use Rattle.mf_model.specs.Run.{last, from_office, given_up}
use Rattle.mf_wire.specs.Senders.{NoTextIsF20}
use Rattle.mf_wire.specs.Runs.{WireRun, texts_of_office, texts_of_caller}

-- Two runs end with the same view of office o. Where none of the texts for its callers is F20's, these are the same in
-- both, and so are those for one of them; and so they are where the same of their lines were given up.
pub record Agree (o : ℕ) (one other : WireRun) : Type 0 where
  pub views : view o (last one.run one.institution) ≡ view o (last other.run other.institution)
  pub office_texts : NoTextIsF20 (texts_of_office o one) → NoTextIsF20 (texts_of_office o other) → texts_of_office o one
      ≡ texts_of_office o other
  pub own_texts : (c : Caller) → IsCaller c → c.office ≡ o
      → NoTextIsF20 (texts_of_caller c one) → NoTextIsF20 (texts_of_caller c other) → texts_of_caller c one
      ≡ texts_of_caller c other
  pub texts_but_given_up : given_up (from_office o) one.run ≡ given_up (from_office o) other.run → texts_of_office o one
      ≡ texts_of_office o other
