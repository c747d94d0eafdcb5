-- From a decision of the desk to what came of a line.
use Rattle.std.proofs.Common.{◌≡◌, ◌≢◌, Option, Some, Ok, Err, refl, sym, ap, ◌∙◌, subst}
use Rattle.std.specs.Prelude.{option_map}
use Rattle.mf_desk.specs.Answers.{Decides, decision_outcome}
use Rattle.mf_desk.specs.declared.decision.Decision.{Decision}
use Rattle.mf_desk.proofs.AnswerLemmas.{KeepsSound, noted_with, changes_made}
use Rattle.mf_model.specs.Calls.{Call}
use Rattle.mf_model.specs.Desk.{outcome, reply, reply_in, change_in}
use Rattle.mf_model.specs.Institution.{Institution, Change, JournalLine, Noted, after_line, after_noted}
use Rattle.mf_model.specs.Names.{names_in}
use Rattle.mf_model.specs.Run.{named_by, noted_of}
use Rattle.mf_model.specs.Sound.{IsSound, IsInRange}
use Rattle.mf_model.specs.Store.{Commits, change_of}
use Rattle.mf_model.specs.declared.commit.Commit.{Commit}
use Rattle.mf_model.specs.declared.store.InstitutionStore.{Ghosts}
use Rattle.mf_play.specs.Play.{names_told}
use Rattle.mf_play.specs.Playing.{PlaysCall}
use Rattle.mf_play.specs.declared.stop.Stop.TheVariants.{NamesOther}

-- the change of what was decided
its_change : (call : Call) (d : Decision) (commit : Commit) (i : Institution) → d.commit ≡ Some commit
    → outcome call i ≡ decision_outcome d i → change_in (outcome call i) ≡ Some (change_of commit i)
its_change call d commit i e is = ap change_in is ∙ ap (option_map (λ (c : Commit). change_of c i)) e

-- what the reply names
its_names : (call : Call) (d : Decision) (i : Institution) → outcome call i ≡ decision_outcome d i
    → named_by (reply call i) ≡ names_in d.reply
its_names call d i is = ap (λ o. named_by (reply_in o)) is

module _ {S : Type 0} (store : Ghosts S) where
  -- the reply names something else
  pub named_other : (l : JournalLine) (call : Call) (d : Decision) (commit : Commit) (old new : S)
      → d.commit ≡ Some commit → names_told l ≢ names_in d.reply → Decides store (outcome call) old new (Ok d)
      → PlaysCall store l call old new (Ok (Err NamesOther))
  named_other l call d commit old new e other decides = record {
    premise = decides.premise;
    came = λ k i s today. let is = decides.decides k i s in (
      (
        call,
        today,
        change_of commit i,
        its_change call d commit i e is,
        λ same. other (same ∙ its_names call d i is),
      ),
      decides.same k i s,
    );
  }

  -- the change was made and noted
  pub line_made : (l : JournalLine) (call : Call) (d : Decision) (commit : Commit) (noted : Noted) (old mid new : S)
      → KeepsSound → ((s : S) (i : Institution) → store.stands s i → IsSound i) → IsInRange call.request
      → d.commit ≡ Some commit → names_told l ≡ names_in d.reply → Decides store (outcome call) old mid (Ok d)
      → Commits store.stands store.clean store.leaves commit noted mid new (Ok tt)
      → noted ≡ noted_with call (names_in d.reply) → PlaysCall store l call old new (Ok (Ok tt))
  line_made l call d commit noted old mid new keeps sound r e names decides commits note =
      let made =
      changes_made store {T = Unit {0}} call d commit noted old mid new tt keeps sound r e decides commits note in
      record {
        premise = made.premise;
        came = λ k i s today.
            let is = decides.decides (commits.premise k) i s in
            let change = its_change call d commit i e is in (
              after_noted (noted_of call i) (change_of commit i) i,
              record {
                call = call;
                told = today.0;
                day = today.1;
                change = change_of commit i;
                accepted = change;
                names = names ∙ sym (its_names call d i is);
                follows = refl;
              },
              subst (λ (c : Option Change). store.stands new (after_line (noted_of call i) c i)) change
                  (made.made k i s),
            );
      }
